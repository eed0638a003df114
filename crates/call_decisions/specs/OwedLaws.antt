-- Laws of what calls owe. Each is the contract of a function of owed_laws.rt.
use Rattle.std.specs.Prelude.{◌≡◌, ◌≢◌, ℕ, ◌<◌, true, false, List, [], ◌∷◌, ◌++◌, length, Some, None, slice_index_or, slice_set}
use Rattle.std.specs.List.{Contains}
use Rattle.bucket_page.specs.declared.record_key.RecordKey.{RecordKey}
use Rattle.page_locks.specs.declared.lock.LockName.{LockName}
use Rattle.page_locks.specs.declared.lock.LockName.TheVariants as names
use Rattle.queue_model.specs.declared.call.Call.{Call}
use Rattle.queue_model.specs.declared.caller.Caller.{Caller}
use Rattle.queue_model.specs.State.{State}
use Rattle.queue_records.specs.declared.record.Record.{Record}
use Rattle.queue_records.specs.Keys.{guard_of}
use Rattle.queue_records.specs.Spelling.{key_of}
use Rattle.xsi_inquiry.specs.type_chains.RecordOf.{record_of}
use Rattle.xsi_inquiry.specs.declared.decision.Sweep.{Sweep}
use Rattle.xsi_inquiry.specs.declared.verdict.Verdict.{Verdict}
use Rattle.xsi_inquiry.specs.declared.write.Write.{Write}
use Rattle.xsi_inquiry.specs.Deciding.{IsAnswered, IsSwept}
use Rattle.xsi_inquiry.specs.Writing.{Plan, Records, inserted, with_at, writes_of, written_by}
use Rattle.call_decisions.specs.Owing.{Owes, OwesUnder, Sweeps, Writes, is_swept, overlaid, overlaid_by, owes_at, undoing}

-- ---- how it is paid

-- a record that was inserted on trial where none stood will be gone again
abbrev pub OwesTrialsBack : Type 0
OwesTrialsBack = (trials : List Record) (r : Record) (records : Records) (key : RecordKey) →
    records (key_of r) ≡ None →
    overlaid (Writes (undoing (trials ++ r ∷ []))) (with_at (key_of r) (Some r) records) key
    ≡ overlaid (Writes (undoing trials)) records key

-- the write that is due pays for itself
abbrev pub PaysByWriting : Type 0
PaysByWriting = (w : Write) (ws : List Write) (records : Records) (key : RecordKey) →
    overlaid (Writes ws) (written_by w records) key ≡ overlaid (Writes (w ∷ ws)) records key

-- in a sweep each deletion of a Message or a Type does, in whatever order
abbrev pub PaysBySweeping : Type 0
PaysBySweeping = (id : ℕ) (ws : List Write) (swept : RecordKey) (records : Records) (key : RecordKey) →
    is_swept id swept ≡ true →
    overlaid (Sweeps id ws) (with_at swept None records) key ≡ overlaid (Sweeps id ws) records key

-- and after the last the writes are left
abbrev pub EndsSweep : Type 0
EndsSweep = (id : ℕ) (ws : List Write) (records : Records) (key : RecordKey) →
    ((k : RecordKey) → is_swept id k ≡ true → records k ≡ None) →
    overlaid (Sweeps id ws) records key ≡ overlaid (Writes ws) records key

-- ---- what a decision owes

-- with its trials made, what a call owes after its Decide leads from the records of the system before to those of the
-- system after
pub record OwesAfter (held : List LockName) (trials : List Record) (o : Owes) (s after : State) : Type 0 where
  pub leads : (key : RecordKey) → overlaid o (inserted trials (record_of s)) key ≡ record_of after key
  -- it owes records under its names alone
  pub own : OwesUnder held o
  -- and all other records stand
  pub rest : (key : RecordKey) → (Contains held (guard_of key) → ⊥) → record_of after key ≡ record_of s key

abbrev pub AnswersOwe : Type 0
AnswersOwe = (c : Caller) (call : Call) (held : List LockName) (bytes : List ℕ) (s : State) (verdict : Verdict)
    (p : Plan) (answered : IsAnswered c call held bytes s verdict p) →
    OwesAfter held p.trials (Writes (writes_of p)) s answered.after

-- a Remove that is Done holds the name of its queue
abbrev pub SweepsOwe : Type 0
SweepsOwe = (c : Caller) (call : Call) (held : List LockName) (s : State) (sweep : Sweep) (p : Plan)
    (swept : IsSwept c call held s sweep p) → Contains held (names.Queue sweep.id) →
    OwesAfter held [] (Sweeps sweep.id (writes_of p)) s swept.after

-- ---- several seats

-- what is owed at a key depends on the record there alone
abbrev pub IsLocal : Type 0
IsLocal = (os : List Owes) (records others : Records) (key : RecordKey) → records key ≡ others key →
    overlaid_by os records key ≡ overlaid_by os others key

-- a key at which nothing is owed keeps its record
abbrev pub LeavesTheRest : Type 0
LeavesTheRest = (o : Owes) (records : Records) (key : RecordKey) → owes_at o key ≡ false →
    overlaid o records key ≡ records key

-- where one seat alone owes a record, it decides what will stand there
abbrev pub OwesAlone : Type 0
OwesAlone = (os : List Owes) (seat : ℕ) (records : Records) (key : RecordKey) → seat < length os →
    ((other : ℕ) → other ≢ seat → owes_at (slice_index_or os other (Writes [])) key ≡ false) →
    overlaid_by os records key ≡ overlaid (slice_index_or os seat (Writes [])) records key

-- whatever one seat comes to owe and write elsewhere, a key stays as the others will leave it
abbrev pub LeavesTheOthers : Type 0
LeavesTheOthers = (os : List Owes) (seat : ℕ) (o : Owes) (records after : Records) (key : RecordKey) →
    owes_at (slice_index_or os seat (Writes [])) key ≡ false → owes_at o key ≡ false →
    after key ≡ records key →
    overlaid_by (slice_set os seat o) after key ≡ overlaid_by os records key
