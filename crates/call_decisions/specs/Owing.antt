-- What a call owes the file: the writes that it has not made yet. docs/STEPS.md, "What a call writes", "Remove".
use Rattle.std.specs.Prelude.{ℕ, ◌==◌, ◌&&◌, ◌||◌, Bool, true, ◌≡◌, List, [], ◌∷◌, ◌++◌, None, if◌then◌else◌}
use Rattle.std.specs.List.{Contains, list_any}
use Rattle.bucket_page.specs.declared.record_key.RecordKey.{RecordKey}
use Rattle.bucket_page.specs.Keys.{is_same}
use Rattle.page_locks.specs.declared.lock.LockName.{LockName}
use Rattle.queue_records.specs.declared.layout.TheConstants.{TYPE, MESSAGE}
use Rattle.queue_records.specs.declared.record.Record.{Record}
use Rattle.queue_records.specs.Keys.{guard_of}
use Rattle.queue_records.specs.Spelling.{key_of}
use Rattle.xsi_inquiry.specs.declared.write.Write.{Write}
use Rattle.xsi_inquiry.specs.declared.write.Write.TheVariants.{Delete}
use Rattle.xsi_inquiry.specs.Writing.{Records, key_written, written}

-- these writes, in this order; of a Remove whose sweep is under way, before them the deletion of each Message and Type
-- of its queue that still stands
pub data Owes : Type 0 where
  Writes : List Write → Owes
  Sweeps : (id : ℕ) → List Write → Owes

-- records inserted on trial are deleted again, the last first
abbrev pub undoing : List Record → List Write
undoing [] = []
undoing (r ∷ rs) = undoing rs ++ Delete (key_of r) ∷ []

-- ---- once nothing is owed

-- a Message or a Type of the queue of this id
abbrev pub is_swept : ℕ → RecordKey → Bool
is_swept id key = key.queue == id && (key.kind == TYPE || key.kind == MESSAGE)

abbrev pub without_swept : ℕ → Records → Records
without_swept id records key = if is_swept id key then None else records key

-- the records as they will be once all that is owed is written
abbrev pub overlaid : Owes → Records → Records
overlaid (Writes ws) records = written ws records
overlaid (Sweeps id ws) records = written ws (without_swept id records)

-- the same of several seats
abbrev pub overlaid_by : List Owes → Records → Records
overlaid_by [] records = records
overlaid_by (o ∷ os) records = overlaid_by os (overlaid o records)

-- ---- where

abbrev pub is_written : List Write → RecordKey → Bool
is_written ws key = list_any (λ (w : Write). is_same key (key_written w)) ws

-- whether a record is owed at this key
abbrev pub owes_at : Owes → RecordKey → Bool
owes_at (Writes ws) key = is_written ws key
owes_at (Sweeps id ws) key = is_swept id key || is_written ws key

-- records are owed under these names alone
abbrev pub OwesUnder : List LockName → Owes → Type 0
OwesUnder names o = (key : RecordKey) → owes_at o key ≡ true → Contains names (guard_of key)
