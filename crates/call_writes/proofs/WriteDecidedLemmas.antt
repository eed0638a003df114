-- What is owed and can be carried out where a plan is begun, and after the decision.
use Rattle.std.proofs.Common.{◌≡◌, refl, sym, ap, ◌∙◌, ℕ, zero, suc, ◌+◌, List, [], ◌∷◌, ◌++◌, take, Option, Some, None, arith}
use Rattle.std.specs.Prelude.{slice_get, option_map}
use Rattle.std.proofs.lemmas.List.Elements.{All-nil}
use Rattle.xsi_inquiry.specs.Writing.{Leads, inserted}
use Rattle.call_writes.proofs.DueLemmas.{take_next}
use Rattle.call_writes.specs.declared.deed.Deed.TheVariants as deeds
use Rattle.call_writes.specs.WriteWords.{Record, HasRange, key_of, Plan, Records, with_at, Deed, Trying, Full, Undoing, Writing}
use Rattle.call_writes.specs.Dues.{CanGoOn, after_deed, next_deed}

pub can_try : (p : Plan) (old new : Records) → Leads p old new → CanGoOn p (Trying 0) old
can_try p old new leads = record {
  owed = tt;
  in_range = All-nil HasRange;
  may = record { absent = leads.absent; in_range = leads.trials_in_range };
}

pub can_write : (p : Plan) (old new : Records) → Leads p old new → CanGoOn p (Writing 0) (inserted p.trials old)
can_write p old new leads = record { owed = leads.can; in_range = leads.in_range; may = tt }

pub can_undo : (p : Plan) (standing : ℕ) (records : Records) → CanGoOn p (Full standing) records →
    CanGoOn p (Undoing standing) records
can_undo p standing records can = record { owed = can.owed; in_range = can.in_range; may = can.may }

-- ---- trials in their order

inserted_push : (rs : List Record) (r : Record) (old : Records) →
    inserted (rs ++ r ∷ []) old ≡ with_at (key_of r) (Some r) (inserted rs old)
inserted_push [] r old = refl
inserted_push (x ∷ rs) r old = inserted_push rs r (with_at (key_of x) (Some x) old)

pub one_more_stands : (p : Plan) (place : ℕ) (d : Deed) (old : Records) → next_deed p (Trying place) ≡ Some d →
    after_deed d (inserted (take place p.trials) old) ≡ inserted (take (place + 1) p.trials) old
one_more_stands p place d old next = by (slice_get p.trials place) refl next
  where
    by : (found : Option Record) → slice_get p.trials place ≡ found → option_map deeds.Trial found ≡ Some d →
        after_deed d (inserted (take place p.trials) old) ≡ inserted (take (place + 1) p.trials) old
    by None at next = absurd cc
    by (Some r) at next =
        let same : deeds.Trial r ≡ d = cc in
        let more : place + 1 ≡ suc place = omega arith in
        ap (λ (x : Deed). after_deed x (inserted (take place p.trials) old)) (sym same)
        ∙ sym (inserted_push (take place p.trials) r old)
        ∙ ap (λ (rs : List Record). inserted rs old) (sym (take_next p.trials place r at))
        ∙ ap (λ (n : ℕ). inserted (take n p.trials) old) (sym more)

pub all_stand : (rs : List Record) (place : ℕ) → option_map deeds.Trial (slice_get rs place) ≡ None →
    take place rs ≡ rs
all_stand [] zero none = refl
all_stand [] (suc place) none = refl
all_stand (r ∷ rs) zero none = absurd cc
all_stand (r ∷ rs) (suc place) none = ap (λ (xs : List Record). r ∷ xs) (all_stand rs place none)
