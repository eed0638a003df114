-- What the records that a Remove was told say of the system.
-- docs/STEPS.md, "What a call reads", "Remove".
use Rattle.std.specs.Prelude.{◌≡◌, ℕ, ◌-◌, Option, Some, None, IsSome}
use Rattle.std.specs.List.{find}
use Rattle.queue_model.specs.declared.answer.Answer.TheVariants as answers
use Rattle.queue_model.specs.declared.call.Call.TheVariants as calls
use Rattle.queue_model.specs.declared.caller.Caller.{Caller}
use Rattle.queue_model.specs.declared.queue.Queue.{Queue}
use Rattle.queue_model.specs.Rules.{has_id, outcome, refuse, without_queue}
use Rattle.queue_model.specs.State.{State}
use Rattle.queue_records.specs.declared.counter.Counter.{Counter}
use Rattle.queue_records.specs.declared.queue_entry.QueueEntry.{QueueEntry}
use Rattle.xsi_inquiry.specs.type_chains.Entries.{counter_of}
use Rattle.xsi_inquiry.specs.type_chains.Lists.{serials}
use Rattle.xsi_inquiry.specs.type_chains.Neighbours.{first_of}
use Rattle.xsi_inquiry.specs.Seeking.{IsEntryOf, IsKeyed, Tells, sought_next}
use Rattle.xsi_control.specs.declared.removal.Removal.{Removal}
use Rattle.xsi_control.specs.declared.stage.Stage.{Stage}
use Rattle.xsi_control.specs.declared.stage.Stage.TheVariants.{Seeking, Refused, Keyed, Counting, Removing}

-- the queue of an id, as its Queue was read again: it has gone, or this is its entry
abbrev pub IsReadAgain : ℕ → Option QueueEntry → State → Type 0
IsReadAgain id None s = find (has_id id) s.queues ≡ None
IsReadAgain id (Some e) s = IsEntryOf id e s

-- the queue of an id was given out with this key, and its Queue was read again
pub record KnowsQueue (id : ℕ) (key : Option ℕ) (queue : Option QueueEntry) (s : State) : Type 0 where
  pub keyed : IsKeyed id key s
  pub again : IsReadAgain id queue s

-- the Counter with one queue less
abbrev pub one_less : Counter → Counter
one_less n = record { next_id = n.next_id; queues_alive = n.queues_alive - 1 }

-- the queue is the caller's to remove
pub record KnowsRemoval (c : Caller) (id : ℕ) (r : Removal) (s : State) : Type 0 where
  pub queue : Queue
  pub alive : find (has_id id) s.queues ≡ Some queue
  pub outcome : outcome c (calls.Remove id) s ≡ Some (answers.Done, without_queue id s)
  pub key : r.key ≡ queue.key
  pub first : r.first ≡ first_of (serials queue.messages)
  pub counter : r.counter ≡ one_less (counter_of s)

-- what it was told says this of s
abbrev pub KnowsAt : Caller → ℕ → Stage → State → Type 0
KnowsAt c id (Seeking sought) s = Tells id sought s × IsSome (sought_next id sought)
KnowsAt c id (Refused errno) s = outcome c (calls.Remove id) s ≡ refuse errno s
KnowsAt c id (Keyed key) s = IsKeyed id key s
KnowsAt c id (Counting key queue) s = KnowsQueue id key queue s
KnowsAt c id (Removing r) s = KnowsRemoval c id r s
