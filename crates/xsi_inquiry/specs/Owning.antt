-- Where a plan writes, and in which order.
-- docs/STEPS.md, "Locks", "What a call writes".
use Rattle.std.specs.Prelude.{◌≡◌, ℕ, ◌<◌, ◌==◌, ◌⊎◌, List, [], ◌∷◌, ⊤, if◌then◌else◌}
use Rattle.std.specs.List.{All, Contains}
use Rattle.type_chains.specs.bucket_page.declared.record_key.RecordKey.{RecordKey}
use Rattle.type_chains.specs.page_locks.declared.lock.LockName.{LockName}
use Rattle.type_chains.specs.queue_records.declared.layout.TheConstants.{KEY, QUEUE, TYPE, MESSAGE}
use Rattle.type_chains.specs.queue_records.declared.record.Record.{Record}
use Rattle.type_chains.specs.queue_records.Keys.{guard_of}
use Rattle.type_chains.specs.queue_records.Spelling.{key_of}
use Rattle.xsi_inquiry.specs.declared.write.Write.{Write}
use Rattle.xsi_inquiry.specs.declared.write.Write.TheVariants.{Replace, Relink, Delete}
use Rattle.xsi_inquiry.specs.Writing.{Plan, key_written, writes_of}

-- each record that the plan writes is under one of these names
pub record IsUnder (names : List LockName) (p : Plan) : Type 0 where
  pub trials : All (λ (r : Record). Contains names (guard_of (key_of r))) p.trials
  pub writes : All (λ (w : Write). Contains names (guard_of (key_written w))) (writes_of p)

-- ---- order

-- what comes first of what a plan inserts: a Message before a Type, a Queue before a Key
abbrev pub trial_rank : RecordKey → ℕ
trial_rank key = if key.kind == MESSAGE then 0 else if key.kind == QUEUE then 0 else 1

-- what comes first of what it changes; the Counter last
abbrev pub kind_rank : ℕ → ℕ
kind_rank kind = if kind == QUEUE then 0 else if kind == MESSAGE then 1 else if kind == TYPE then 2 else 8

abbrev pub deletion_rank : ℕ → ℕ
deletion_rank kind =
    if kind == MESSAGE then 3 else if kind == TYPE then 4 else if kind == KEY then 5 else 6

abbrev pub write_rank : Write → ℕ
write_rank (Replace r) = kind_rank (key_of r).kind
write_rank (Relink key links) = kind_rank key.kind
write_rank (Delete key) = deletion_rank key.kind

-- by rank, and at one rank by number: Messages by serial, Types by type
abbrev pub IsBefore : Write → Write → Type 0
IsBefore v w = (write_rank v < write_rank w)
    ⊎ ((write_rank v ≡ write_rank w) × ((key_written v).number < (key_written w).number))

abbrev pub Ascend : List Write → Type 0
Ascend [] = ⊤
Ascend (w ∷ ws) = All (IsBefore w) ws × Ascend ws

abbrev pub AscendOnTrial : List Record → Type 0
AscendOnTrial [] = ⊤
AscendOnTrial (r ∷ rs) = All (λ (x : Record). trial_rank (key_of r) < trial_rank (key_of x)) rs × AscendOnTrial rs

pub record IsOrdered (p : Plan) : Type 0 where
  pub trials : AscendOnTrial p.trials
  pub writes : Ascend (writes_of p)
