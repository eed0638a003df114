-- Where the queue of an id stands, and that a call on it goes on there.
-- docs/QUEUES.md, "Calls".
use Rattle.std.specs.Prelude.{◌≡◌, ℕ, ◌<◌, length, List, Option, Some, None, position, slice_index_or}
use Rattle.std.specs.List.{find, position_or_len}
use Rattle.queue_model.specs.declared.errno.Errno.{Errno}
use Rattle.queue_model.specs.declared.queue.Queue.{Queue}
use Rattle.queue_model.specs.Rules.{Outcome, refuse, on_queue, has_id, has_key}
use Rattle.queue_model.specs.State.{State}

-- the queue of an id stands at a place, and a call on it goes on there
pub record IsPlaceOf (id : ℕ) (s : State) (place : ℕ) : Type 0 where
  pub within : place < length s.queues
  pub first : position_or_len (has_id id) s.queues ≡ place
  pub is_its : (d : Queue) → (slice_index_or s.queues place d).id ≡ id
  pub goes_on : (act : Queue → Outcome) (d : Queue) → on_queue id s act ≡ act (slice_index_or s.queues place d)

-- a call on an id that has no queue is refused
abbrev pub IsNoId : ℕ → State → Errno → Type 0
IsNoId id s e = (act : Queue → Outcome) → on_queue id s act ≡ refuse e s

-- no queue has this key
abbrev pub IsFreshKey : Option ℕ → State → Type 0
IsFreshKey key s = (k : ℕ) → key ≡ Some k → find (has_key k) s.queues ≡ None

-- the queue at a place is the first that has its key, where it has one
abbrev pub IsFirstOfItsKey : List Queue → ℕ → Type 0
IsFirstOfItsKey qs place = (q : Queue) (k : ℕ) → slice_index_or qs place q ≡ q → q.key ≡ Some k →
    position (has_key k) qs ≡ Some place
