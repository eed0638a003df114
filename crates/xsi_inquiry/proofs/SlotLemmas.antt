-- Writes in slots.
use Rattle.std.specs.Prelude.{◌≡◌, ℕ, ◌<◌, ◌==◌, nat_le, nat_lt, Bool, true, false, ◌&&◌, List, [], ◌∷◌, Option, Some, None, option_map, ⊤}
use Rattle.std.proofs.Common.{inl, inr, refl, subst, sym, ◌∙◌, arith}
use Rattle.std.proofs.lemmas.Bool.{eqb-true}
use Rattle.std.proofs.lemmas.Bool.Decides.{nat_tests}
use Rattle.std.specs.List.{All}
use Rattle.std.proofs.lemmas.List.Elements.{All-nil, All-cons, All-head, All-tail}
use Rattle.xsi_inquiry.specs.declared.write.Write.{Write}
use Rattle.xsi_inquiry.specs.Owning.{Ascend, IsBefore, write_rank}
use Rattle.xsi_inquiry.specs.Writing.{key_written, somes}

module _ {X : Type 0} (P : X → Type 0) where
  abbrev pub InSlot : Option X → Type 0
  InSlot None = ⊤
  InSlot (Some x) = P x

  -- what is made of what may be there is so
  pub slot_all : {Y : Type 0} (f : Y → X) (o : Option Y) → ((y : Y) → o ≡ Some y → P (f y)) → InSlot (option_map f o)
  slot_all f None each = tt
  slot_all f (Some y) each = each y refl

  -- what is so in each slot is so of what stands in them
  pub somes_all : (os : List (Option X)) → All InSlot os → All P (somes os)
  somes_all [] all = All-nil P
  somes_all (None ∷ os) all = somes_all os (All-tail InSlot None os all)
  somes_all (Some x ∷ os) all = All-cons P x (somes os) (All-head InSlot (Some x) os all)
      (somes_all os (All-tail InSlot (Some x) os all))

  -- and the other way round
  pub somes_each : (os : List (Option X)) → All P (somes os) → All InSlot os
  somes_each [] all = All-nil InSlot
  somes_each (None ∷ os) all = All-cons InSlot None os tt (somes_each os all)
  somes_each (Some x ∷ os) all = All-cons InSlot (Some x) os (All-head P x (somes os) all)
      (somes_each os (All-tail P x (somes os) all))

  -- slots told one by one
  abbrev pub Each : List (Option X) → Type 0
  Each [] = ⊤
  Each (o ∷ os) = InSlot o × Each os

  pub each_all : (os : List (Option X)) → Each os → All P (somes os)
  each_all [] each = All-nil P
  each_all (None ∷ os) each = each_all os each.1
  each_all (Some x ∷ os) each = All-cons P x (somes os) each.0 (each_all os each.1)

  pub all_each : (os : List (Option X)) → All P (somes os) → Each os
  all_each [] all = tt
  all_each (None ∷ os) all = (tt, all_each os all)
  all_each (Some x ∷ os) all = (All-head P x (somes os) all, all_each os (All-tail P x (somes os) all))

-- slots ascend where each stands before each behind it
abbrev pub SlotsAscend : List (Option Write) → Type 0
SlotsAscend [] = ⊤
SlotsAscend (o ∷ os) = InSlot (λ (w : Write). All (InSlot (IsBefore w)) os) o × SlotsAscend os

pub somes_ascend : (os : List (Option Write)) → SlotsAscend os → Ascend (somes os)
somes_ascend [] all = tt
somes_ascend (None ∷ os) all = somes_ascend os all.1
somes_ascend (Some w ∷ os) all = (somes_all (IsBefore w) os all.0, somes_ascend os all.1)

-- ---- slots of which the ranks are known

abbrev pub HasRank : ℕ → Option Write → Type 0
HasRank rank o = InSlot (λ (w : Write). write_rank w ≡ rank) o

-- those of one rank ascend by number
abbrev pub Climb : Option Write → Option Write → Type 0
Climb o p = InSlot (λ (w : Write). InSlot (λ (v : Write). (key_written w).number < (key_written v).number) p) o

abbrev Where : Bool → Type 0 → Type 0
Where true holds = holds
Where false holds = ⊤

abbrev Follows : ℕ → Option Write → List ℕ → List (Option Write) → Type 0
Follows r o [] os = ⊤
Follows r o (s ∷ rs) [] = ⊤
Follows r o (s ∷ rs) (p ∷ os) = Where (r == s) (Climb o p)

-- each slot has its rank, and where the next has the same the numbers ascend
abbrev pub AreRanked : List ℕ → List (Option Write) → Type 0
AreRanked [] [] = ⊤
AreRanked [] (o ∷ os) = ⊥
AreRanked (r ∷ rs) [] = ⊥
AreRanked (r ∷ rs) (o ∷ os) = HasRank r o × Follows r o rs os × AreRanked rs os

abbrev is_below : ℕ → List ℕ → Bool
is_below r [] = true
is_below r (s ∷ rs) = nat_lt r s && is_below r rs

-- the ranks ascend, of which two that follow one another may be the same
abbrev pub do_rise : List ℕ → Bool
do_rise [] = true
do_rise (r ∷ []) = true
do_rise (r ∷ s ∷ rs) = nat_le r s && is_below r rs && do_rise (s ∷ rs)

first_holds : (a b : Bool) → (a && b) ≡ true → a ≡ true
first_holds true b both = refl
first_holds false b both = absurd cc

second_holds : (a b : Bool) → (a && b) ≡ true → b ≡ true
second_holds true b both = both
second_holds false b both = absurd cc

-- a lower rank comes first
before : (w : Write) (r s : ℕ) (o : Option Write) → write_rank w ≡ r → HasRank s o → r < s → InSlot (IsBefore w) o
before w r s None is has less = tt
before w r s (Some v) is has less = inl (omega (arith, is, has, less))

-- so does a lower number at one rank
climbs : (w : Write) (r : ℕ) (o : Option Write) → write_rank w ≡ r → HasRank r o →
    InSlot (λ (v : Write). (key_written w).number < (key_written v).number) o → InSlot (IsBefore w) o
climbs w r None is has less = tt
climbs w r (Some v) is has less = inr (is ∙ sym has, less)

rest_after : (w : Write) (r : ℕ) (rs : List ℕ) (os : List (Option Write)) → write_rank w ≡ r →
    is_below r rs ≡ true → AreRanked rs os → All (InSlot (IsBefore w)) os
rest_after w r [] [] is below ranked = All-nil _
rest_after w r [] (o ∷ os) is below ranked = absurd ranked
rest_after w r (s ∷ rs) [] is below ranked = absurd ranked
rest_after w r (s ∷ rs) (o ∷ os) is below ranked =
    let test = first_holds (nat_lt r s) (is_below r rs) below in
    All-cons (InSlot (IsBefore w)) o os (before w r s o is ranked.0 (grind (arith, nat_tests, test)))
    (rest_after w r rs os is (second_holds (nat_lt r s) (is_below r rs) below) ranked.2)

next_after : (w : Write) (r s : ℕ) (o p : Option Write) (b : Bool) → (r == s) ≡ b → o ≡ Some w → write_rank w ≡ r →
    HasRank s p → nat_le r s ≡ true → Where b (Climb o p) → InSlot (IsBefore w) p
next_after w r s o p true same here is has less climb =
    let equal = eqb-true r s same in
    climbs w s p (is ∙ equal) has
    (subst (λ (x : Option Write). Climb x p) here climb)
next_after w r s o p false apart here is has less climb = before w r s p is has (grind (arith, nat_tests, apart, less))

each_slot : (P : Write → Type 0) (o : Option Write) → ((w : Write) → o ≡ Some w → P w) → InSlot P o
each_slot P None is = tt
each_slot P (Some w) is = is w refl

rank_of : (o : Option Write) (r : ℕ) (w : Write) → HasRank r o → o ≡ Some w → write_rank w ≡ r
rank_of o r w has is = subst (HasRank r) is has

ranked_slots : (rs : List ℕ) (os : List (Option Write)) → do_rise rs ≡ true → AreRanked rs os → SlotsAscend os
ranked_slots [] [] rise ranked = tt
ranked_slots [] (o ∷ os) rise ranked = absurd ranked
ranked_slots (r ∷ rs) [] rise ranked = absurd ranked
ranked_slots (r ∷ []) (o ∷ []) rise ranked =
    (each_slot (λ (w : Write). All (InSlot (IsBefore w)) []) o (λ w is. All-nil _), tt)
ranked_slots (r ∷ []) (o ∷ p ∷ os) rise ranked = absurd ranked.2
ranked_slots (r ∷ s ∷ rs) (o ∷ []) rise ranked = absurd ranked.2
ranked_slots (r ∷ s ∷ rs) (o ∷ p ∷ os) rise ranked =
    let both = first_holds (nat_le r s && is_below r rs) (do_rise (s ∷ rs)) rise in
    let less = first_holds (nat_le r s) (is_below r rs) both in
    let below = second_holds (nat_le r s) (is_below r rs) both in
    let later = ranked.2 in (
      each_slot (λ (w : Write). All (InSlot (IsBefore w)) (p ∷ os)) o (λ w is.
          let rank = rank_of o r w ranked.0 is in
          All-cons (InSlot (IsBefore w)) p os
          (next_after w r s o p (r == s) refl is rank later.0 less ranked.1)
          (rest_after w r rs os rank below later.2)),
      ranked_slots (s ∷ rs) (p ∷ os) (second_holds (nat_le r s && is_below r rs) (do_rise (s ∷ rs)) rise)
          later,
    )

-- their writes stand in order
pub ranked_ascend : (rs : List ℕ) (os : List (Option Write)) → do_rise rs ≡ true → AreRanked rs os → Ascend (somes os)
ranked_ascend rs os rise ranked = somes_ascend os (ranked_slots rs os rise ranked)
