-- Where the queue of an id or of a key stands.
use Rattle.std.proofs.Common.{◌≡◌, ℕ, false, List, Option, Some, None, arith, ap}
use Rattle.std.specs.Prelude.{◌==◌, ◌||◌, nat_le, position, IfOk, IfErr, IfSome, IfNone}
use Rattle.std.specs.Option.{ok_or}
use Rattle.std.specs.List.{find}
use Rattle.std.proofs.lemmas.List.Quantifiers.{position-Some}
use Rattle.queue_model.specs.declared.errno.Errno.TheVariants.{EIDRM}
use Rattle.queue_model.specs.declared.queue.Queue.{Queue}
use Rattle.queue_model.specs.Found.{IsFoundAt}
use Rattle.queue_model.specs.Places.{IsPlaceOf, IsNoId}
use Rattle.queue_model.specs.Rules.{on_found, has_id, has_key}
use Rattle.queue_model.specs.State.{State}
use Rattle.queue_model.proofs.ListLemmas.{IsFoundAt-position, find-None}

module _ (id : ℕ) (s : State) (given : (id == 0 || nat_le s.next_id id) ≡ false) where
  -- the queue of an id stands where `position` says, and calls on it go on there
  pub IsPlaceOf-position : (i : ℕ) → position (has_id id) s.queues ≡ Some i → IsPlaceOf id s i
  IsPlaceOf-position i at =
      let found = IsFoundAt-position (has_id id) s.queues i at in
      record {
        within = found.within;
        first = found.first;
        is_its = λ d. let it = position-Some (has_id id) s.queues i d at in grind (arith, it.1);
        goes_on = λ act d. rw given (ap (λ q. on_found q s act) (found.found d));
      }

  -- where no queue has the id, each call on it is answered EIDRM
  pub IsNoId-position : position (has_id id) s.queues ≡ None → IsNoId id s EIDRM
  IsNoId-position none act = rw given (ap (λ q. on_found q s act) (find-None (has_id id) s.queues none))

  pub place_found : (p : Option ℕ) → position (has_id id) s.queues ≡ p → IfOk (ok_or p EIDRM) (IsPlaceOf id s)
  place_found None none = tt
  place_found (Some i) at = IsPlaceOf-position i at

  pub place_refused : (p : Option ℕ) → position (has_id id) s.queues ≡ p → IfErr (ok_or p EIDRM) (IsNoId id s)
  place_refused None none = IsNoId-position none
  place_refused (Some i) at = tt

-- the first queue with a key, where there is one
pub key_found : (k : ℕ) (qs : List Queue) (p : Option ℕ) → position (has_key k) qs ≡ p →
    IfSome p (IsFoundAt (has_key k) qs)
key_found k qs None none = tt
key_found k qs (Some i) at = IsFoundAt-position (has_key k) qs i at

pub key_not_found : (k : ℕ) (qs : List Queue) (p : Option ℕ) → position (has_key k) qs ≡ p →
    IfNone p (find (has_key k) qs ≡ None)
key_not_found k qs None none = find-None (has_key k) qs none
key_not_found k qs (Some i) at = tt
