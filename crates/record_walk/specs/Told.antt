-- What a walk tells of honest records: that the machine lacked something, or why they have no system.
-- That a record has changed is never told.
use Rattle.std.specs.Prelude.{◌≡◌, ◌≢◌, ℕ, ◌<◌, ⊤, List, length, Option, None, slice_index, ◌⊎◌}
use Rattle.record_walk.specs.Words.{RecordKey, Queue, WalkFault, key_of_queue}
use Rattle.record_walk.specs.declared.fault.WalkFault.TheVariants as faults
use Rattle.record_walk.specs.Fault.{IsOfMachine}
use Rattle.record_walk.specs.Systems.{HasNoSystem, IsNoQueueOf, IsNoWalkOf, IsQueueOf}

-- of the messages of a queue, and of a queue: there is none
abbrev pub IsToldOfWalk : (RecordKey → Option (List ℕ)) → ℕ → Option ℕ → WalkFault → Type 0
IsToldOfWalk held id first fault = IsOfMachine fault ⊎ ((fault ≡ faults.WrongQueue id) × IsNoWalkOf held id first)

abbrev pub IsToldOfQueue : (RecordKey → Option (List ℕ)) → ℕ → WalkFault → Type 0
IsToldOfQueue held id fault = IsOfMachine fault ⊎ ((fault ≡ faults.WrongQueue id) × IsNoQueueOf held id)

-- the first of these ids that has no queue, and the fault names it
pub record LacksQueue (held : RecordKey → Option (List ℕ)) (ids : List ℕ) (fault : WalkFault) : Type 0 where
  pub place : ℕ
  pub within : place < length ids
  pub before : (i : ℕ) → i < place → (q : Queue) × IsQueueOf held (slice_index ids i) q
  pub none : IsNoQueueOf held (slice_index ids place)
  pub named : fault ≡ faults.WrongQueue (slice_index ids place)

abbrev pub IsToldOfQueues : (RecordKey → Option (List ℕ)) → List ℕ → WalkFault → Type 0
IsToldOfQueues held ids fault = IsOfMachine fault ⊎ LacksQueue held ids fault

-- the lowest id of which there is a Queue and no queue
pub record IsFirstWrongQueue (held : RecordKey → Option (List ℕ)) (id : ℕ) : Type 0 where
  pub stands : held (key_of_queue id) ≢ None
  pub none : IsNoQueueOf held id
  pub before : (lower : ℕ) → lower < id → held (key_of_queue lower) ≢ None → (q : Queue) × IsQueueOf held lower q

-- of all records
abbrev pub IsToldOfSystem : (RecordKey → Option (List ℕ)) → WalkFault → Type 0
IsToldOfSystem held faults.Device = ⊤
IsToldOfSystem held (faults.Changed page) = ⊥
IsToldOfSystem held faults.NoMemory = ⊤
IsToldOfSystem held faults.WrongCounter = HasNoSystem held
IsToldOfSystem held (faults.WrongQueue queue) = IsFirstWrongQueue held queue
