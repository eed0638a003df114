-- How a sweep begins and ends. Each is the contract of a function of laws.rt. docs/STEPS.md, "Remove".
use Rattle.std.specs.Prelude.{ℕ, ◌≡◌, true, Some, None}
use Rattle.std.specs.List.{find}
use Rattle.queue_model.specs.Rules.{has_id}
use Rattle.type_chains.specs.Lists.{serials}
use Rattle.type_chains.specs.Neighbours.{first_of}
use Rattle.type_chains.specs.RecordOf.{record_of}
use Rattle.xsi_remove.specs.Sweeps.{IsSweeping, begun_sweep}
use Rattle.xsi_remove.specs.Words.{RecordKey, Store, StandsAt, Queue, State, is_swept, IsFiled, Sweep}

-- from the first message of a queue that is alive, over a file that has its Messages and Types
abbrev pub BeginsRight : Type 0
BeginsRight = (hash : RecordKey → ℕ) (sweep : Sweep) (q : Queue) (s : State) (file : Store) → IsFiled s →
    find (has_id sweep.id) s.queues ≡ Some q → sweep.first ≡ first_of (serials q.messages) →
    ((key : RecordKey) → is_swept sweep.id key ≡ true → StandsAt file key (record_of s key)) →
    IsSweeping hash sweep.id 0 q s (begun_sweep hash sweep) file

-- where it is over no Message and no Type of the queue stands
abbrev pub EndsSwept : Type 0
EndsSwept = (hash : RecordKey → ℕ) (id count : ℕ) (q : Queue) (s : State) (file : Store) →
    IsSweeping hash id count q s None file → (key : RecordKey) → is_swept id key ≡ true → StandsAt file key None
