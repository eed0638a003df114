-- What is owed, and can be carried out, after a deed.
use Rattle.std.proofs.Common.{◌≡◌, refl, sym, ap, ◌∙◌, subst, ℕ, zero, suc, ◌+◌, ◌-◌, Bool, true, false, List, [], ◌∷◌, ◌++◌, length, take, drop, Option, Some, None, IsSome, arith, eq-eqb}
use Rattle.std.specs.Prelude.{nat_lt, slice_get, option_map, if◌then◌else◌}
use Rattle.std.specs.List.{All}
use Rattle.std.proofs.lemmas.Bool.Decides.{nat_tests}
use Rattle.std.proofs.lemmas.List.Elements.{All-append, All-cons, All-head, All-nil, All-tail}
use Rattle.std.proofs.lemmas.Option.{slice_get_within}
use Rattle.call_decisions.proofs.OverlayLemmas.{trial_owed}
use Rattle.xsi_inquiry.proofs.LeadLemmas.{same_keys}
use Rattle.xsi_inquiry.specs.Writing.{somes}
use Rattle.xsi_inquiry.specs.declared.write.TheConstants.{MAX_TRIALS}
use Rattle.call_writes.specs.declared.deed.Deed.TheVariants as deeds
use Rattle.call_writes.specs.WriteWords.{RecordKey, is_same, Record, IsInRange, key_of, Write, Delete, writes_left, AreAbsent, CanAllBe, HasRange, IsSmall, Plan, Records, with_at, writes_of, written_by, key_written, overlaid, Writes, undoing, Deed, Due, Trying, Full, Undoing, Writing}
use Rattle.call_writes.specs.Dues.{CanGoOn, CanTry, IsBehind, after_deed, deed_key, deeds_left, next_deed, owes, undone}

-- ---- records at keys

pub same_self : (key : RecordKey) → is_same key key ≡ true
same_self key =
    rw (eq-eqb key.kind key.kind refl, eq-eqb key.queue key.queue refl, eq-eqb key.number key.number refl) refl

pub at_its_key : (key : RecordKey) (found : Option Record) (records : Records) →
    with_at key found records key ≡ found
at_its_key key found records = rw (same_self key) refl

-- what was put where nothing stood, and is deleted
gone_again : (k : RecordKey) (x : Record) (r : Records) → r k ≡ None →
    with_at k None (with_at k (Some x) r) ≡ r
gone_again k x r none = λ i key. at key (is_same key k) refl i
  where
    at : (key : RecordKey) (b : Bool) → is_same key k ≡ b → with_at k None (with_at k (Some x) r) key ≡ r key
    at key true is = rw is (sym none ∙ ap r (sym (same_keys key k is)))
    at key false other = rw other refl

-- what is put where it stands changes nothing
pub as_it_was : (k : RecordKey) (found : Option Record) (r : Records) → found ≡ r k → with_at k found r ≡ r
as_it_was k found r stands = λ i key. at key (is_same key k) refl i
  where
    at : (key : RecordKey) (b : Bool) → is_same key k ≡ b → with_at k found r key ≡ r key
    at key true is = rw is (stands ∙ ap r (sym (same_keys key k is)))
    at key false other = rw other refl

-- ---- the trial at a place

pub take_next : (xs : List Record) (n : ℕ) (r : Record) → slice_get xs n ≡ Some r →
    take (suc n) xs ≡ take n xs ++ r ∷ []
take_next [] n r is = absurd cc
take_next (x ∷ xs) zero r is = let same : x ≡ r = cc in ap (λ (y : Record). y ∷ []) same
take_next (x ∷ xs) (suc n) r is = ap (λ (ys : List Record). x ∷ ys) (take_next xs n r is)

pub drop_next : (xs : List Record) (n : ℕ) (r : Record) → slice_get xs n ≡ Some r →
    drop n xs ≡ r ∷ drop (suc n) xs
drop_next [] n r is = absurd cc
drop_next (x ∷ xs) zero r is = let same : x ≡ r = cc in ap (λ (y : Record). y ∷ xs) same
drop_next (x ∷ xs) (suc n) r is = drop_next xs n r is

undoing_push : (trials : List Record) (x : Record) → undoing (trials ++ x ∷ []) ≡ Delete (key_of x) ∷ undoing trials
undoing_push [] x = refl
undoing_push (r ∷ rs) x = ap (λ (ws : List Write). ws ++ Delete (key_of r) ∷ []) (undoing_push rs x)

pub undoing_next : (xs : List Record) (n : ℕ) (r : Record) → slice_get xs n ≡ Some r →
    undoing (take (suc n) xs) ≡ Delete (key_of r) ∷ undoing (take n xs)
undoing_next xs n r is = ap undoing (take_next xs n r is) ∙ undoing_push (take n xs) r

pub undoing_in_range : (xs : List Record) → All HasRange (undoing xs)
undoing_in_range [] = All-nil HasRange
undoing_in_range (r ∷ rs) = All-append HasRange (undoing rs) (Delete (key_of r) ∷ []) (undoing_in_range rs)
    (All-cons HasRange (Delete (key_of r)) [] tt (All-nil HasRange))

-- ---- the write that comes first

pub first_of : (ws : List Write) (w : Write) → slice_get ws zero ≡ Some w → ws ≡ w ∷ drop 1 ws
first_of [] w is = absurd cc
first_of (v ∷ ws) w is = let same : v ≡ w = cc in ap (λ (x : Write). x ∷ ws) same

one_more : (n : ℕ) → n + 1 ≡ suc n
one_more n = omega arith

one_less : (n : ℕ) → suc n - 1 ≡ n
one_less n = omega arith

-- ---- a deed that is paid

pub record IsPaidFor (p : Plan) (due due' : Due) (d : Deed) (records : Records) : Type 0 where
  pub can : CanGoOn p due' (after_deed d records)
  pub owed : (key : RecordKey) →
      overlaid (owes p due') (after_deed d records) key ≡ overlaid (owes p due) records key
  pub fewer : deeds_left p due ≡ suc (deeds_left p due')

module _ (p : Plan) (records : Records) where
  abbrev Paid : Due → Due → Deed → Type 0
  Paid due due' d = IsPaidFor p due due' d records

  -- ---- a write

  can_behind : (ws ws' : List Write) (w : Write) → ws ≡ w ∷ ws' → CanAllBe ws records →
      CanAllBe ws' (written_by w records)
  can_behind ws ws' w is can = (subst (λ (xs : List Write). CanAllBe xs records) is can).1

  range_behind : (ws ws' : List Write) (w : Write) → ws ≡ w ∷ ws' → All HasRange ws → All HasRange ws'
  range_behind ws ws' w is all = All-tail HasRange w ws' (subst (All HasRange) is all)

  write_owed : (ws ws' : List Write) (w : Write) (key : RecordKey) → ws ≡ w ∷ ws' →
      overlaid (Writes ws') (written_by w records) key ≡ overlaid (Writes ws) records key
  write_owed ws ws' w key is = sym (ap (λ (xs : List Write). overlaid (Writes xs) records key) is)

  paid_slot : (from slot : ℕ) (w : Write) → slice_get (writes_left p from) zero ≡ Some w →
      writes_left p slot ≡ drop 1 (writes_left p from) → CanGoOn p (Writing from) records →
      Paid (Writing from) (Writing slot) (deeds.Write w)
  paid_slot from slot w next rest can =
      let is : writes_left p from ≡ w ∷ writes_left p slot =
      first_of (writes_left p from) w next ∙ ap (λ (ws : List Write). w ∷ ws) (sym rest) in
      record {
        can = record {
          owed = can_behind (writes_left p from) (writes_left p slot) w is can.owed;
          in_range = range_behind (writes_left p from) (writes_left p slot) w is can.in_range;
          may = tt;
        };
        owed = λ key. write_owed (writes_left p from) (writes_left p slot) w key is;
        fewer = ap (λ (ws : List Write). length ws) is;
      }

  paid_undone : (place : ℕ) (r : Record) → slice_get p.trials place ≡ Some r →
      CanGoOn p (Undoing (suc place)) records → Paid (Undoing (suc place)) (Undoing place) (undone r)
  paid_undone place r next can =
      let is : undoing (take (suc place) p.trials) ≡ Delete (key_of r) ∷ undoing (take place p.trials) =
      undoing_next p.trials place r next in
      let fits = can.may in
      record {
        can = record {
          owed = can_behind (undoing (take (suc place) p.trials)) (undoing (take place p.trials)) (Delete (key_of r))
              is can.owed;
          in_range = undoing_in_range (take place p.trials);
          may = omega (arith, fits);
        };
        owed = λ key. write_owed (undoing (take (suc place) p.trials)) (undoing (take place p.trials))
            (Delete (key_of r)) key is;
        fewer = refl;
      }

  -- ---- a trial

  pub absent_first : (rs rs' : List Record) (r : Record) → rs ≡ r ∷ rs' → CanTry rs records →
      (records (key_of r) ≡ None) × CanTry rs' (with_at (key_of r) (Some r) records)
  absent_first rs rs' r is can =
      let both : AreAbsent (r ∷ rs') records = subst (λ (xs : List Record). AreAbsent xs records) is can.absent in
      (both.0, record { absent = both.1; in_range = All-tail IsInRange r rs' (subst (All IsInRange) is can.in_range) })

  paid_trial : (place : ℕ) (r : Record) → slice_get p.trials place ≡ Some r → CanGoOn p (Trying place) records →
      Paid (Trying place) (Trying (suc place)) (deeds.Trial r)
  paid_trial place r next can =
      let (none, left) = absent_first (drop place p.trials) (drop (suc place) p.trials) r
      (drop_next p.trials place r next) can.may in
      let put : Records = with_at (key_of r) (Some r) records in
      let is : undoing (take (suc place) p.trials) ≡ Delete (key_of r) ∷ undoing (take place p.trials) =
      undoing_next p.trials place r next in
      let there : IsSome (put (key_of r)) =
      subst IsSome (sym (at_its_key (key_of r) (Some r) records)) refl in
      let undo : CanAllBe (undoing (take place p.trials)) (with_at (key_of r) None put) =
      subst (CanAllBe (undoing (take place p.trials))) (sym (gone_again (key_of r) r records none)) can.owed in
      record {
        can = record {
          owed = subst (λ (ws : List Write). CanAllBe ws put) (sym is) (there, undo);
          in_range = undoing_in_range (take (suc place) p.trials);
          may = left;
        };
        owed = λ key. ap (λ (rs : List Record). overlaid (Writes (undoing rs)) put key)
            (take_next p.trials place r next)
            ∙ trial_owed (take place p.trials) r records key none;
        fewer = ap (λ (rs : List Record). length rs) (drop_next p.trials place r next);
      }

  -- ---- whichever

  few_places : (place : ℕ) (r : Record) → IsSmall p → slice_get p.trials place ≡ Some r →
      (if nat_lt place MAX_TRIALS then Trying (place + 1) else Trying place) ≡ Trying (place + 1)
  few_places place r small next =
      let within = slice_get_within p.trials place r next in
      let few = small.trials in
      let yes' : nat_lt place MAX_TRIALS ≡ true = grind (arith, nat_tests, within, few) in
      rw yes' refl

  tried : (place : ℕ) (due' : Due) (d : Deed) (found : Option Record) → slice_get p.trials place ≡ found →
      option_map deeds.Trial found ≡ Some d → IsSmall p → IsBehind p (Trying place) due' →
      CanGoOn p (Trying place) records → Paid (Trying place) due' d
  tried place due' d None at next small behind can = absurd cc
  tried place due' d (Some r) at next small behind can =
      let same : deeds.Trial r ≡ d = cc in
      subst (λ (x : Deed). Paid (Trying place) due' x) same
      (subst (λ (x : Due). Paid (Trying place) x (deeds.Trial r))
      (sym (behind ∙ few_places place r small at ∙ ap Trying (one_more place))) (paid_trial place r at can))

  gone : (place : ℕ) (due' : Due) (d : Deed) (found : Option Record) → slice_get p.trials place ≡ found →
      option_map undone found ≡ Some d → IsBehind p (Undoing (suc place)) due' →
      CanGoOn p (Undoing (suc place)) records → Paid (Undoing (suc place)) due' d
  gone place due' d None at next behind can = absurd cc
  gone place due' d (Some r) at next behind can =
      let same : undone r ≡ d = cc in
      subst (λ (x : Deed). Paid (Undoing (suc place)) due' x) same
      (subst (λ (x : Due). Paid (Undoing (suc place)) x (undone r))
      (sym (behind ∙ ap Undoing (one_less place))) (paid_undone place r at can))

  made_next : (from : ℕ) (due' : Due) (d : Deed) (found : Option Write) →
      slice_get (writes_left p from) zero ≡ found → option_map deeds.Write found ≡ Some d →
      IsBehind p (Writing from) due' → CanGoOn p (Writing from) records → Paid (Writing from) due' d
  made_next from due' d None at next behind can = absurd cc
  made_next from due' d (Some w) at next (slot, is, rest) can =
      let same : deeds.Write w ≡ d = cc in
      subst (λ (x : Deed). Paid (Writing from) due' x) same
      (subst (λ (x : Due). Paid (Writing from) x (deeds.Write w)) (sym is) (paid_slot from slot w at rest can))

  pub paid_for : (due due' : Due) (d : Deed) → next_deed p due ≡ Some d → IsSmall p → IsBehind p due due' →
      CanGoOn p due records → IsPaidFor p due due' d records
  paid_for (Trying place) due' d next small behind can =
      tried place due' d (slice_get p.trials place) refl next small behind can
  paid_for (Full standing) due' d next small behind can = absurd cc
  paid_for (Undoing zero) due' d next small behind can = absurd cc
  paid_for (Undoing (suc place)) due' d next small behind can =
      gone place due' d (slice_get p.trials place) refl next behind can
  paid_for (Writing from) due' d next small behind can =
      made_next from due' d (slice_get (writes_left p from) zero) refl next behind can

-- ---- whose name is held

module _ (P : RecordKey → Type 0) (p : Plan) where
  all_at : (rs : List Record) (place : ℕ) (r : Record) → All (λ (x : Record). P (key_of x)) rs →
      slice_get rs place ≡ Some r → P (key_of r)
  all_at [] place r all is = absurd cc
  all_at (x ∷ rs) zero r all is =
      let same : x ≡ r = cc in
      subst (λ (y : Record). P (key_of y)) same (All-head (λ (y : Record). P (key_of y)) x rs all)
  all_at (x ∷ rs) (suc place) r all is = all_at rs place r (All-tail (λ (y : Record). P (key_of y)) x rs all) is

  all_left : (os : List (Option Write)) (from : ℕ) → All (λ (w : Write). P (key_written w)) (somes os) →
      All (λ (w : Write). P (key_written w)) (somes (drop from os))
  all_left os zero all = all
  all_left [] (suc from) all = all
  all_left (None ∷ os) (suc from) all = all_left os from all
  all_left (Some w ∷ os) (suc from) all =
      all_left os from (All-tail (λ (y : Write). P (key_written y)) w (somes os) all)

  all_first : (ws : List Write) (w : Write) → All (λ (x : Write). P (key_written x)) ws →
      slice_get ws zero ≡ Some w → P (key_written w)
  all_first [] w all is = absurd cc
  all_first (v ∷ ws) w all is =
      let same : v ≡ w = cc in
      subst (λ (y : Write). P (key_written y)) same (All-head (λ (y : Write). P (key_written y)) v ws all)

  module _ (trials : All (λ (x : Record). P (key_of x)) p.trials)
      (writes : All (λ (w : Write). P (key_written w)) (writes_of p)) where
    trial_own : (place : ℕ) (d : Deed) (found : Option Record) → slice_get p.trials place ≡ found →
        option_map deeds.Trial found ≡ Some d → P (deed_key d)
    trial_own place d None at next = absurd cc
    trial_own place d (Some r) at next =
        let same : deeds.Trial r ≡ d = cc in
        subst (λ (x : Deed). P (deed_key x)) same (all_at p.trials place r trials at)

    undone_own : (place : ℕ) (d : Deed) (found : Option Record) → slice_get p.trials place ≡ found →
        option_map undone found ≡ Some d → P (deed_key d)
    undone_own place d None at next = absurd cc
    undone_own place d (Some r) at next =
        let same : undone r ≡ d = cc in
        subst (λ (x : Deed). P (deed_key x)) same (all_at p.trials place r trials at)

    write_own : (from : ℕ) (d : Deed) (found : Option Write) → slice_get (writes_left p from) zero ≡ found →
        option_map deeds.Write found ≡ Some d → P (deed_key d)
    write_own from d None at next = absurd cc
    write_own from d (Some w) at next =
        let same : deeds.Write w ≡ d = cc in
        subst (λ (x : Deed). P (deed_key x)) same
        (all_first (writes_left p from) w (all_left p.slots from writes) at)

    pub own_deed : (due : Due) (d : Deed) → next_deed p due ≡ Some d → P (deed_key d)
    own_deed (Trying place) d next = trial_own place d (slice_get p.trials place) refl next
    own_deed (Full standing) d next = absurd cc
    own_deed (Undoing zero) d next = absurd cc
    own_deed (Undoing (suc place)) d next = undone_own place d (slice_get p.trials place) refl next
    own_deed (Writing from) d next = write_own from d (slice_get (writes_left p from) zero) refl next
