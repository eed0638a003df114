-- A file that agrees with a system as far as a call can read it. docs/STEPS.md, "What a call reads".
use Rattle.std.specs.Prelude.{ℕ, ◌≡◌, nat_lt, List, Some, None}
use Rattle.std.specs.List.{Contains, find}
use Rattle.page_locks.specs.declared.lock.LockName.TheVariants as names
use Rattle.queue_model.specs.Rules.{has_id}
use Rattle.queue_records.specs.declared.record.Record.TheVariants as records
use Rattle.xsi_calls.specs.QuestionWords.{RecordKey, Store, LockName, State, Counter, guard_of, counter_key, record_of, StandsAt, IsFiled}

-- as far as a call that holds these names, in whatever kind
pub record Agrees (held : List LockName) (store : Store) (s : State) : Type 0 where
  pub filed : IsFiled s
  -- at a key whose name it holds stands the record that the system has there
  pub stands : (key : RecordKey) → Contains held (guard_of key) → StandsAt store key (record_of s key)
  -- the file has a Counter
  pub counter : Counter
  pub counts : StandsAt store counter_key (Some (records.Counter counter))
  -- of an id whose name it holds, and which no queue has, that tells whether it was given out
  pub given : (id : ℕ) → Contains held (names.Queue id) → find (has_id id) s.queues ≡ None →
      nat_lt id counter.next_id ≡ nat_lt id s.next_id
