-- The trials that stand after a step, one after the other.
use Rattle.std.proofs.Common.{◌≡◌, refl, sym, ap, ◌∙◌, subst, ℕ, suc, ◌+◌, Bool, true, false, List, ◌∷◌, take, Option, Some, None, IsSome, if◌then◌else◌, arith}
use Rattle.std.proofs.lemmas.Bool.Decides.{nat_tests}
use Rattle.std.proofs.lemmas.Option.{slice_get_within}
use Rattle.std.specs.Prelude.{nat_lt, option_map, slice_get}
use Rattle.xsi_inquiry.specs.declared.write.TheConstants.{MAX_TRIALS}
use Rattle.call_writes.specs.declared.deed.Deed.TheVariants as deeds
use Rattle.call_writes.specs.CarrySteps.{AsMade, AsTheyWere, FindsNoRoom, IsPaid, Stays}
use Rattle.call_writes.specs.declared.due.Due.TheVariants.{Undoing, Writing}
use Rattle.call_writes.specs.WriteWords.{Replace, Relink, Delete}
use Rattle.xsi_calls.proofs.UndecidedNames.{Advances, AreAbsent, CanAllBe, CanGoOn, Deed, IsSmall, Leaves, Owns, OwnsPlan, Write, after_deed, all_stand, deed_key, drop_next, is_same, key_of, next_deed, one_more_stands, own_deed, same_keys, undoing, undoing_next, with_at}
use Rattle.xsi_calls.specs.UndecidedWords.{AreAlike, Due, Exclusive, Full, Lock, LockName, Plan, Progress, Record, RecordKey, Records, Trying, guard_of, inserted, kind_of}
use Rattle.xsi_calls.specs.Knowing.{IsOnTrial, standing}
use Rattle.xsi_calls.proofs.HeldLemmas.{past_end}

-- ---- a deed changes its key alone

at_other : (k key : RecordKey) (found : Option Record) (records : Records) → is_same key k ≡ false →
    with_at k found records key ≡ records key
at_other k key found records other = rw other refl

deed_elsewhere : (d : Deed) (key : RecordKey) (records : Records) → is_same key (deed_key d) ≡ false →
    after_deed d records key ≡ records key
deed_elsewhere (deeds.Trial r) key records other = at_other (key_of r) key (Some r) records other
deed_elsewhere (deeds.Write (Replace r)) key records other = at_other (key_of r) key _ records other
deed_elsewhere (deeds.Write (Relink k links)) key records other = at_other k key _ records other
deed_elsewhere (deeds.Write (Delete k)) key records other = at_other k key _ records other

pub elsewhere_of : {names : List Lock} (p : Plan) (due due' : Due) (records after : Records) → OwnsPlan names p →
    Leaves p due due' records after → (key : RecordKey) → (kind_of names (guard_of key) ≡ Some Exclusive → ⊥) →
    after key ≡ records key
elsewhere_of p due due' records after own (AsTheyWere same) key free = ap (λ (rs : Records). rs key) same
elsewhere_of {names} p due due' records after own (AsMade d next made behind) key free =
    ap (λ (rs : Records). rs key) made ∙ by (is_same key (deed_key d)) refl
  where
    by : (b : Bool) → is_same key (deed_key d) ≡ b → after_deed d records key ≡ records key
    by true same = absurd (free (subst (λ (k : RecordKey). Owns names k) (sym (same_keys key (deed_key d) same))
        (own_deed (Owns names) p own.trials own.writes due d next)))
    by false other = deed_elsewhere d key records other

-- ---- it has not decided after the step either

behind_on : (place : ℕ) (due' : Due) (b : Bool) → due' ≡ (if b then Trying (place + 1) else Trying place) →
    IsOnTrial due'
behind_on place due' true is = subst IsOnTrial (sym is) tt
behind_on place due' false is = subst IsOnTrial (sym is) tt

pub stays_on : {F : Type 0} (p : Plan) (did : Progress F) (due due' : Due) → Advances p did due due' →
    IsOnTrial due → IsOnTrial due'
stays_on p did due due' (Stays same) on = subst IsOnTrial (sym same) on
stays_on p did due due' (FindsNoRoom n was is) on = subst IsOnTrial (sym is) tt
stays_on p did (Trying place) due' (IsPaid wrote behind) on = behind_on place due' (nat_lt place MAX_TRIALS) behind
stays_on p did (Full n) due' (IsPaid wrote behind) on = subst IsOnTrial (sym behind) tt
stays_on p did (Undoing n) due' (IsPaid wrote behind) on = absurd on
stays_on p did (Writing from) due' (IsPaid wrote behind) on = absurd on

-- ---- what stands

a_trial : (p : Plan) (place : ℕ) (d : Deed) → next_deed p (Trying place) ≡ Some d →
    (r : Record) × (slice_get p.trials place ≡ Some r) × (d ≡ deeds.Trial r)
a_trial p place d next = by (slice_get p.trials place) refl next
  where
    by : (found : Option Record) → slice_get p.trials place ≡ found → option_map deeds.Trial found ≡ Some d →
        (r : Record) × (slice_get p.trials place ≡ Some r) × (d ≡ deeds.Trial r)
    by None at is = absurd cc
    by (Some r) at is = (r, at, (let same : deeds.Trial r ≡ d = cc in sym same))

none_there : (found : Option Record) → found ≡ None → IsSome found → ⊥
none_there None none some = cc
none_there (Some r) none some = cc

put_alike : (held : List LockName) (k : RecordKey) (found : Option Record) (a b : Records) → AreAlike held a b →
    AreAlike held (with_at k found a) (with_at k found b)
put_alike held k found a b alike key under = by (is_same key k)
  where
    by : (c : Bool) → (if c then found else a key) ≡ (if c then found else b key)
    by true = refl
    by false = alike key under

module _ (p : Plan) (small : IsSmall p) (held : List LockName) (base records after : Records) where
  -- with so many trials
  abbrev with_trials : ℕ → Records
  with_trials n = inserted (take n p.trials) base

  abbrev Stands : Due → Type 0
  Stands due = AreAlike held after (with_trials (standing due))

  -- where nothing was put at its key no trial is paid
  paid_not : (place : ℕ) (r : Record) → slice_get p.trials place ≡ Some r → CanGoOn p (Trying place) records →
      CanGoOn p (Trying (place + 1)) records → ⊥
  paid_not place r at can can' =
      let none : records (key_of r) ≡ None =
      (subst (λ (rs : List Record). AreAbsent rs records) (drop_next p.trials place r at) can.may.absent).0 in
      let more : place + 1 ≡ suc place = omega arith in
      let owed : undoing (take (place + 1) p.trials) ≡ Delete (key_of r) ∷ undoing (take place p.trials) =
      ap (λ (n : ℕ). undoing (take n p.trials)) more ∙ undoing_next p.trials place r at in
      let some : IsSome (records (key_of r)) =
      (subst (λ (ws : List Write). CanAllBe ws records) owed can'.owed).0 in
      none_there (records (key_of r)) none some

  -- where none is left the next place has as many
  as_many : (place : ℕ) → slice_get p.trials place ≡ None → with_trials place ≡ with_trials (place + 1)
  as_many place none =
      let more : place + 1 ≡ suc place = omega arith in
      ap (λ (rs : List Record). inserted rs base)
      (all_stand p.trials place (ap (option_map deeds.Trial) none)
      ∙ sym (all_stand p.trials (suc place) (ap (option_map deeds.Trial) (past_end p.trials place none)))
      ∙ ap (λ (n : ℕ). take n p.trials) (sym more))

  module _ (place : ℕ) (can : CanGoOn p (Trying place) records)
      (alike : AreAlike held records (with_trials place)) where
    kept : after ≡ records → AreAlike held after (with_trials place)
    kept same = subst (λ (rs : Records). AreAlike held rs (with_trials place)) (sym same) alike

    at_due : (due due' : Due) → due' ≡ due → Stands due → Stands due'
    at_due due due' is stands = subst Stands (sym is) stands

    -- a record was written of which none stood there
    made_so : (d : Deed) → next_deed p (Trying place) ≡ Some d → after ≡ after_deed d records →
        Stands (Trying (place + 1))
    made_so d next made =
        let (r, at, is) = a_trial p place d next in
        let put : AreAlike held (after_deed d records) (after_deed d (with_trials place)) =
        subst (λ (x : Deed). AreAlike held (after_deed x records) (after_deed x (with_trials place))) (sym is)
        (put_alike held (key_of r) (Some r) records (with_trials place) alike) in
        subst (λ (rs : Records). AreAlike held rs (with_trials (place + 1))) (sym made)
        (subst (AreAlike held (after_deed d records)) (one_more_stands p place d base next) put)

    no_place : (d : Deed) → next_deed p (Trying place) ≡ Some d → nat_lt place MAX_TRIALS ≡ false → ⊥
    no_place d next far =
        let (r, at, is) = a_trial p place d next in
        let within = slice_get_within p.trials place r at in
        let few = small.trials in
        grind (arith, nat_tests, within, few, far)

    paid_so : after ≡ records → CanGoOn p (Trying (place + 1)) after → (found : Option Record) →
        slice_get p.trials place ≡ found → Stands (Trying (place + 1))
    paid_so same can' None none =
        subst (AreAlike held after) (as_many place none) (kept same)
    paid_so same can' (Some r) at =
        absurd (paid_not place r at can (subst (CanGoOn p (Trying (place + 1))) same can'))

    tried_by : {F : Type 0} (did : Progress F) (due' : Due) → CanGoOn p due' after →
        Advances p did (Trying place) due' → Leaves p (Trying place) due' records after → Stands due'
    tried_by did due' can' advances (AsMade d next made behind) = by (nat_lt place MAX_TRIALS) refl behind
      where
        by : (b : Bool) → nat_lt place MAX_TRIALS ≡ b → due' ≡ (if b then Trying (place + 1) else Trying place) →
            Stands due'
        by true near is = at_due (Trying (place + 1)) due' is (made_so d next made)
        by false far is = absurd (no_place d next far)
    tried_by did due' can' (Stays is) (AsTheyWere same) = at_due (Trying place) due' is (kept same)
    tried_by did due' can' (FindsNoRoom n was is) (AsTheyWere same) =
        let here : place ≡ n = cc in
        at_due (Full n) due' is (subst (λ (x : ℕ). Stands (Full x)) here (kept same))
    tried_by did due' can' (IsPaid wrote behind) (AsTheyWere same) = by (nat_lt place MAX_TRIALS) behind
      where
        by : (b : Bool) → due' ≡ (if b then Trying (place + 1) else Trying place) → Stands due'
        by true is = at_due (Trying (place + 1)) due' is
            (paid_so same (subst (λ (x : Due). CanGoOn p x after) is can') (slice_get p.trials place) refl)
        by false is = at_due (Trying place) due' is (kept same)

  full_by : {F : Type 0} (did : Progress F) (n : ℕ) (due' : Due) → Advances p did (Full n) due' →
      Leaves p (Full n) due' records after → AreAlike held records (with_trials n) → Stands due'
  full_by did n due' advances (AsMade d next made behind) alike = absurd cc
  full_by did n due' (Stays is) (AsTheyWere same) alike =
      subst Stands (sym is) (subst (λ (rs : Records). AreAlike held rs (with_trials n)) (sym same) alike)
  full_by did n due' (FindsNoRoom m was is) (AsTheyWere same) alike = absurd cc
  full_by did n due' (IsPaid wrote behind) (AsTheyWere same) alike =
      subst Stands (sym behind) (subst (λ (rs : Records). AreAlike held rs (with_trials n)) (sym same) alike)

  -- the trials that stand are those of what is due
  pub stand_on : {F : Type 0} (did : Progress F) (due due' : Due) → IsOnTrial due → CanGoOn p due records →
      CanGoOn p due' after → Advances p did due due' → Leaves p due due' records after →
      AreAlike held records (with_trials (standing due)) → Stands due'
  stand_on did (Trying place) due' on can can' advances leaves alike =
      tried_by place can alike did due' can' advances leaves
  stand_on did (Full n) due' on can can' advances leaves alike = full_by did n due' advances leaves alike
  stand_on did (Undoing n) due' on can can' advances leaves alike = absurd on
  stand_on did (Writing from) due' on can can' advances leaves alike = absurd on
