-- What a question reads, and what answers it. docs/STEPS.md, "What a call reads".
use Rattle.std.specs.Prelude.{ℕ, ◌≡◌, ◌⊎◌, nat_lt, List, Option, Some}
use Rattle.std.specs.List.{Contains}
use Rattle.page_locks.specs.declared.lock.LockName.TheVariants as names
use Rattle.queue_records.specs.declared.record.Record.TheVariants as records
use Rattle.xsi_calls.specs.QuestionWords.{RecordKey, Record, LockName, State, Counter, guard_of, counter_key, record_of, Wanted, At, Given}

-- the key that is read: whether an id was given out the Counter tells
abbrev pub key_asked : Wanted → RecordKey
key_asked (At key) = key
key_asked (Given id) = counter_key

-- the name under which it is asked is held
abbrev pub IsAskedUnder : List LockName → Wanted → Type 0
IsAskedUnder held (At key) = Contains held (guard_of key)
IsAskedUnder held (Given id) = Contains held (names.Queue id)

-- a key may be read under its name; the Counter's always
abbrev pub MayRead : List LockName → RecordKey → Type 0
MayRead held key = Contains held (guard_of key) ⊎ (key ≡ counter_key)

-- a Counter was found, which tells of an id what the system does
pub record CountsFor (id : ℕ) (found : Option Record) (s : State) : Type 0 where
  pub counter : Counter
  pub is : found ≡ Some (records.Counter counter)
  pub tells : nat_lt id counter.next_id ≡ nat_lt id s.next_id

-- what was found at the key answers the question as the system does
abbrev pub Answers : Wanted → Option Record → State → Type 0
Answers (At key) found s = found ≡ record_of s key
Answers (Given id) found s = CountsFor id found s
