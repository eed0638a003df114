-- The message that a receive selects stands at a place, and is the first of its type.
use Rattle.queue_model.proofs.ListLemmas.{find-Some}
use Rattle.queue_model.specs.Selection.{has_type, lowest_type, selected, selects}
use Rattle.queue_model.specs.declared.message.Message.{Message}
use Rattle.std.proofs.Common.{Bool, List, None, Option, Some, ap, false, get_or, negsuc, pos, refl, suc, sym, true, zero, ℕ, ℤ, ◌<◌, ◌∙◌, ◌∷◌, ◌≡◌}
use Rattle.std.proofs.lemmas.Bool.Decides.{Decides-int_eq}
use Rattle.std.proofs.lemmas.List.Folds.{find_at}
use Rattle.std.proofs.lemmas.List.Sums.{fails_before_first}
use Rattle.std.specs.List.{position_or_len, remove}
use Rattle.std.specs.Ordering.{int_eq}
use Rattle.std.specs.Prelude.{slice_get, ◌≢◌}
use Rattle.type_chains.proofs.Without.{filter_first, filter_without}
use Rattle.type_chains.specs.Lists.{is_of_type, serials, serials_of_type}

-- a receive of a type tells messages apart by their types alone
selects_by_type : (t : ℤ) (ms : List Message) (m n : Message) → n.mtype ≡ m.mtype → selects t ms n ≡ selects t ms m
selects_by_type (pos zero) ms m n same = refl
selects_by_type (pos (suc k)) ms m n same = rw same refl
selects_by_type (negsuc k) ms m n same = by_found (lowest_type (pos (suc k)) ms)
  where
    by_found : (o : Option ℤ) → has_type o n ≡ has_type o m
    by_found None = refl
    by_found (Some u) = rw same refl

pub its_type : (t : ℤ) → int_eq t t ≡ true
its_type t = (Decides-int_eq t t).1 refl

pub other_type : (t u : ℤ) → t ≢ u → int_eq t u ≡ false
other_type t u apart = by (int_eq t u) refl
  where
    by : (b : Bool) → int_eq t u ≡ b → int_eq t u ≡ false
    by true e = absurd (apart ((Decides-int_eq t u).0 e))
    by false e = e

-- the message at a place, which is the first of its type
pub record IsTakenAt (m : Message) (ms : List Message) (i : ℕ) : Type 0 where
  pub at : slice_get ms i ≡ Some m
  pub first : (k : ℕ) (d : Message) → k < i → is_of_type m.mtype (get_or ms k d) ≡ false

pub taken_at : (t : ℤ) (ms : List Message) (m : Message) → selected t ms ≡ Some m →
    IsTakenAt m ms (position_or_len (selects t ms) ms)
taken_at t ms m is = record {
  at = sym (find_at (selects t ms) ms) ∙ is;
  first = λ k d below. other_type (get_or ms k d).mtype m.mtype (λ same.
      let fails = fails_before_first (selects t ms) ms k d below in
      let passes = find-Some (selects t ms) ms m is in
      let clash : ◌≡◌ {A = Bool} true false = sym passes.0
      ∙ sym (selects_by_type t ms m (get_or ms k d) same) ∙ fails in
      absurd cc);
}

module _ (ms : List Message) (i : ℕ) (m : Message) (taken : IsTakenAt m ms i) where
  -- its serial is the first of its type, and the others stay
  pub serials_of_its_type : serials_of_type m.mtype ms ≡ m.serial ∷ serials_of_type m.mtype (remove ms i)
  serials_of_its_type = ap serials
      (filter_first (is_of_type m.mtype) ms i m taken.at (its_type m.mtype) taken.first)

  -- those of another type stay
  pub serials_of_other_type : (t : ℤ) → m.mtype ≢ t → serials_of_type t (remove ms i) ≡ serials_of_type t ms
  serials_of_other_type t apart = ap serials
      (filter_without (is_of_type t) ms i m taken.at (other_type m.mtype t apart))
