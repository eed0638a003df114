-- The deed that comes next can be begun, and one more is left.
use Rattle.std.proofs.Common.{◌≡◌, refl, ap, subst, ℕ, zero, suc, List, length, drop, Option, Some, None}
use Rattle.std.specs.Prelude.{slice_get, option_map}
use Rattle.std.specs.List.{All}
use Rattle.std.proofs.lemmas.List.Elements.{All-head}
use Rattle.record_file.specs.Purposes.{CanBegin}
use Rattle.call_writes.proofs.DueLemmas.{absent_first, drop_next, first_of}
use Rattle.call_writes.specs.declared.deed.Deed.TheVariants as deeds
use Rattle.call_writes.specs.WriteWords.{Record, IsInRange, Write, Replace, Relink, Delete, writes_left, CanAllBe, CanBe, HasRange, Plan, Records, key_written, Deed, Due, Trying, Full, Undoing, Writing}
use Rattle.call_writes.specs.Dues.{CanGoOn, IsDeedInRange, deed_key, deeds_left, next_deed, purpose_of, undone}
use Rattle.call_writes.proofs.DueLemmas.{undoing_next}

-- it keeps the limits, can be begun, and so many are left behind it
pub record IsNext (p : Plan) (due : Due) (records : Records) (d : Deed) : Type 0 where
  pub in_range : IsDeedInRange d
  pub can : CanBegin (purpose_of d) (records (deed_key d))
  pub left : ℕ
  pub more : deeds_left p due ≡ suc left

can_begin : (w : Write) (records : Records) → CanBe w records → CanBegin (purpose_of (deeds.Write w))
    (records (key_written w))
can_begin (Replace r) records can = can
can_begin (Relink key links) records can = can
can_begin (Delete key) records can = can

module _ (p : Plan) (records : Records) where
  tried : (place : ℕ) (d : Deed) (found : Option Record) → slice_get p.trials place ≡ found →
      option_map deeds.Trial found ≡ Some d → CanGoOn p (Trying place) records → IsNext p (Trying place) records d
  tried place d None at next can = absurd cc
  tried place d (Some r) at next can =
      let same : deeds.Trial r ≡ d = cc in
      let is = drop_next p.trials place r at in
      subst (λ (x : Deed). IsNext p (Trying place) records x) same (record {
        in_range = All-head IsInRange r (drop (suc place) p.trials) (subst (All IsInRange) is can.may.in_range);
        can = (absent_first p records (drop place p.trials) (drop (suc place) p.trials) r is can.may).0;
        left = length (drop (suc place) p.trials);
        more = ap (λ (rs : List Record). length rs) is;
      })

  gone : (place : ℕ) (d : Deed) (found : Option Record) → slice_get p.trials place ≡ found →
      option_map undone found ≡ Some d → CanGoOn p (Undoing (suc place)) records →
      IsNext p (Undoing (suc place)) records d
  gone place d None at next can = absurd cc
  gone place d (Some r) at next can =
      let same : undone r ≡ d = cc in
      let is = undoing_next p.trials place r at in
      subst (λ (x : Deed). IsNext p (Undoing (suc place)) records x) same (record {
        in_range = tt;
        can = (subst (λ (ws : List Write). CanAllBe ws records) is can.owed).0;
        left = place;
        more = refl;
      })

  made_next : (from : ℕ) (d : Deed) (found : Option Write) → slice_get (writes_left p from) zero ≡ found →
      option_map deeds.Write found ≡ Some d → CanGoOn p (Writing from) records → IsNext p (Writing from) records d
  made_next from d None at next can = absurd cc
  made_next from d (Some w) at next can =
      let same : deeds.Write w ≡ d = cc in
      let is = first_of (writes_left p from) w at in
      subst (λ (x : Deed). IsNext p (Writing from) records x) same (record {
        in_range = All-head HasRange w (drop 1 (writes_left p from)) (subst (All HasRange) is can.in_range);
        can = can_begin w records (subst (λ (ws : List Write). CanAllBe ws records) is can.owed).0;
        left = length (drop 1 (writes_left p from));
        more = ap (λ (ws : List Write). length ws) is;
      })

  pub is_next : (due : Due) (d : Deed) → next_deed p due ≡ Some d → CanGoOn p due records → IsNext p due records d
  is_next (Trying place) d next can = tried place d (slice_get p.trials place) refl next can
  is_next (Full standing) d next can = absurd cc
  is_next (Undoing zero) d next can = absurd cc
  is_next (Undoing (suc place)) d next can = gone place d (slice_get p.trials place) refl next can
  is_next (Writing from) d next can = made_next from d (slice_get (writes_left p from) zero) refl next can
