-- A seat pays what its call owes, in a sound world, under the names of the call. docs/STEPS.md, "Locks", "Remove".
use Rattle.std.specs.Prelude.{ℕ, ◌≡◌, ◌<◌, List, Option, IsSome}
use Rattle.xsi_remove.specs.SweepSteps.{IsOver, turns_of}
use Rattle.xsi_remove.specs.Words.{MAX_MESSAGES}
use Rattle.call_writes.specs.PaymentStages.{Stage}
use Rattle.call_writes.specs.PaymentStages as stages
use Rattle.call_writes.specs.PaymentWords.{RecordKey, PoolState, Table, Lock, Change, store_of, StandsAt, kind_of, Queue, State, guard_of, IsSmall, Plan, Records, without_swept, Writing, CallWrites, IsCarrying, OwnsPlan, CanGoOn, decided_at, Work, Faces}

-- the same stands in both at each key whose name is held
abbrev pub AreSameUnder : List Lock → (records others : Records) → Type 0
AreSameUnder names records others =
    (key : RecordKey) → IsSome (kind_of names (guard_of key)) → records key ≡ others key

-- the queue of a Remove is swept, and after that the plan can be written
pub record IsPayingSweep (hash : RecordKey → ℕ) (seat : ℕ) (names : List Lock) (p : Plan) (v : Option Work)
    (records : Records) (pool : PoolState) (locks : Table) (change : Change) : Type 0 where
  -- so many messages of the queue of an id were swept
  pub id : ℕ
  pub count : ℕ
  pub queue : Queue
  pub system : State
  pub faces : Faces hash seat names id count queue system v pool locks change
  -- and a deed is under way
  pub goes_on : IsOver v → ⊥
  -- behind its turn there follow fewer than a queue has messages at most
  pub few : turns_of v < MAX_MESSAGES
  pub small : IsSmall p
  pub own : OwnsPlan names p
  -- under the names there stand these records
  pub stands : (key : RecordKey) → IsSome (kind_of names (guard_of key)) →
      StandsAt (store_of pool.images) key (records key)
  -- over which the writes can be made once the queue's Messages and Types are gone
  pub behind : (others : Records) → AreSameUnder names others (without_swept id records) →
      CanGoOn p (Writing 0) others

-- the plan is written, or its trials go again: the call has decided
pub record IsPayingWrites (hash : RecordKey → ℕ) (seat : ℕ) (names : List Lock) (p : Plan) (w : CallWrites)
    (records : Records) (pool : PoolState) (locks : Table) (change : Change) : Type 0 where
  pub carries : IsCarrying hash seat names p w records pool locks change
  pub decided : decided_at w.due ≡ w.due

-- a seat that holds these names pays what its call owes over these records
abbrev pub IsPaying : (RecordKey → ℕ) → ℕ → List Lock → Plan → Stage → Records → PoolState → Table → Change → Type 0
IsPaying hash seat names p (stages.Sweeping v) records pool locks change =
    IsPayingSweep hash seat names p v records pool locks change
IsPaying hash seat names p (stages.Writing w) records pool locks change =
    IsPayingWrites hash seat names p w records pool locks change
