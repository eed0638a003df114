-- Laws of a call beside an answer of which the rules and the records tell, and of ids that are still to be counted.
-- Each is the contract of a function of seat_laws.rt. docs/STEPS.md, "What a call reads", "Locks".
use Rattle.std.specs.Prelude.{ℕ, ◌≡◌, ◌≢◌, ◌⊎◌, ◌+◌, List, None, Some}
use Rattle.std.specs.List.{find}
use Rattle.queue_model.specs.Rules.{has_id}
use Rattle.queue_records.specs.declared.record.Record.TheVariants as records
use Rattle.interleavings.specs.SeatWords.{AreAlike, Answer, Call, Caller, Counter, IsFiled, LockName, QuestionsView, StandsAt, State, Store, counter_key, names_in, outcome, record_of}
use Rattle.interleavings.specs.Apart.{IsAsGood, IsKeptApart}
use Rattle.interleavings.specs.Beside.{CountsUnder}

-- a call goes over to each system that an answer to another leads to, where the records under its names are the same
abbrev pub OthersLeadAlike : Type 0
OthersLeadAlike = (call other : Call) (q : QuestionsView) (c : Caller) (answer : Answer) (s after : State) →
    IsFiled s → IsFiled after → IsKeptApart call q → outcome c other s ≡ Some (answer, after) →
    AreAlike (names_in q.names) (record_of after) (record_of s) → IsAsGood call q s after

-- ---- ids that are still to be counted

-- the id that was given out last is this one, and is still to be counted
pub record IsUncounted (n : ℕ) (s : State) : Type 0 where
  pub next : s.next_id ≡ n + 1
  -- its queue is there
  pub alive : find (has_id n) s.queues ≢ None

-- as long as its queue is there, the file counts for each call
abbrev pub CountsWhileAlive : Type 0
CountsWhileAlive = (names : List LockName) (store : Store) (s : State) (counter : Counter) →
    StandsAt store counter_key (Some (records.Counter counter)) →
    (s.next_id ≡ counter.next_id) ⊎ IsUncounted counter.next_id s → CountsUnder names store s

-- an answer that leaves the Counter leaves the next id, and each queue there
abbrev pub KeepsAliveUnderCounter : Type 0
KeepsAliveUnderCounter = (c : Caller) (call : Call) (answer : Answer) (s after : State) →
    outcome c call s ≡ Some (answer, after) → record_of after counter_key ≡ record_of s counter_key →
    (after.next_id ≡ s.next_id) ×
    ((id : ℕ) → find (has_id id) s.queues ≢ None → find (has_id id) after.queues ≢ None)

-- an answer leaves the next id, or gives it out
abbrev pub GivesOutNext : Type 0
GivesOutNext = (c : Caller) (call : Call) (answer : Answer) (s after : State) → IsFiled s →
    outcome c call s ≡ Some (answer, after) → (after.next_id ≡ s.next_id) ⊎ IsUncounted s.next_id after
