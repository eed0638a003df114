-- The queues that a call leaves, and the keys at which it leaves the records.
-- docs/QUEUES.md, "Calls".
use Rattle.std.specs.Prelude.{◌≡◌, ◌≢◌, ℕ, ◌==◌, not, List, Some}
use Rattle.std.specs.List.{All, filter}
use Rattle.queue_records.specs.bucket_page.declared.record_key.RecordKey.{RecordKey}
use Rattle.queue_model.specs.declared.answer.Answer.{Answer}
use Rattle.queue_model.specs.declared.call.Call.{Call}
use Rattle.queue_model.specs.declared.call.Call.TheVariants.{Get, Send, Receive, Stat, Set, Remove}
use Rattle.queue_model.specs.declared.caller.Caller.{Caller}
use Rattle.queue_model.specs.declared.queue.Queue.{Queue}
use Rattle.queue_model.specs.Rules.{outcome}
use Rattle.queue_model.specs.State.{State}
use Rattle.queue_records.specs.declared.layout.TheConstants.{COUNTER, KEY}
use Rattle.type_chains.specs.RecordOf.{record_of}

-- the queues of a system but that of an id
abbrev pub others : ℕ → State → List Queue
others id s = filter (λ (q : Queue). not (q.id == id)) s.queues

-- the queue of an id does not have the key
abbrev pub IsNoKeyOf : ℕ → ℕ → State → Type 0
IsNoKeyOf id key s = All (λ (q : Queue). q.id ≡ id → q.key ≢ Some key) s.queues

-- a record key that is not of the queue of an id, neither in s nor in t, and not the Counter's
pub record IsElsewhere (id : ℕ) (s t : State) (key : RecordKey) : Type 0 where
  pub no_counter : key.kind ≢ COUNTER
  -- the queue's key is another, before and after
  pub key_before : key.kind ≡ KEY → IsNoKeyOf id key.number s
  pub key_after : key.kind ≡ KEY → IsNoKeyOf id key.number t
  -- the other records with that id in their key are the queue's
  pub other_id : key.kind ≢ KEY → key.queue ≢ id

-- systems that differ in one queue agree at every key that is not that queue's, its key's or the Counter's
abbrev pub IsLocal : Type 0
IsLocal = (id : ℕ) (s t : State) → others id s ≡ others id t →
    (key : RecordKey) → IsElsewhere id s t key → record_of s key ≡ record_of t key

-- the id of the one queue that a call can change, make or remove
abbrev pub queue_of : Call → State → ℕ
queue_of (Get a) s = s.next_id
queue_of (Send a) s = a.id
queue_of (Receive a) s = a.id
queue_of (Stat id) s = id
queue_of (Set a) s = a.id
queue_of (Remove id) s = id

-- a call that is answered leaves the other queues
abbrev pub ChangesOneQueue : Type 0
ChangesOneQueue = (c : Caller) (call : Call) (a : Answer) (s t : State) →
    outcome c call s ≡ Some (a, t) → others (queue_of call s) s ≡ others (queue_of call s) t
