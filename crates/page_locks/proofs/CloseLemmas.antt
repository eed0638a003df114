-- How names move back over a hole, slot after slot.
use Rattle.std.proofs.Common.{arith, ◌≡◌, ◌≢◌, ℕ, ◌+◌, ◌<◌, ◌≤◌, true, false, List, set, subst, refl, sym, ap, ◌∙◌, inl, inr}
use Rattle.std.proofs.lemmas.Bool.{cases_eq, both_ways, not_from_true, not_from_false}
use Rattle.page_locks.specs.declared.lock.LockName.{LockName}
use Rattle.page_locks.specs.declared.slot.Slot.{Slot}
use Rattle.page_locks.specs.declared.slot.TheConstants.{SLOTS}
use Rattle.page_locks.specs.Holding.{is_nobody}
use Rattle.page_locks.specs.Probing.{home, after, gap, way, free_slot, slot_at, is_taken, holders_of}
use Rattle.page_locks.specs.Probing.{HasFreeBut, IsProbed, IsOpened}
use Rattle.page_locks.proofs.CircleLemmas.{after-lt, after-gap, after-none, gap-after}
use Rattle.page_locks.proofs.ProbeLemmas.{taken_by, IsMoved, IsMoved-set, IsOpened-moved, holders_of-moved, StayBehind, IsProbed-closed}

-- so far the hole has come `hole` steps from the start, and `steps` were looked at
pub record Closes (before slots : List Slot) (start hole steps : ℕ) : Type 0 where
  pub start_lt : start < SLOTS
  pub opened : IsOpened slots (after start hole)
  pub below : hole < steps
  pub behind : StayBehind slots start hole steps
  -- a free slot is still to come
  pub free : ℕ
  pub free_lt : free < SLOTS
  pub is_free : is_taken slots free ≡ false
  pub ahead : steps ≤ gap start free
  pub same : (name : LockName) → holders_of slots name ≡ holders_of before name

-- the hole is where it opened, and the next slot is to be looked at
pub Closes-begun : (slots : List Slot) (start : ℕ) → IsOpened slots start → HasFreeBut start slots →
    Closes slots slots start 0 1
Closes-begun slots start opened (free, lt, is, other) =
    let apart : gap start free ≢ 0 =
    λ none. other (sym (after-gap start free opened.inside lt) ∙ ap (after start) none ∙ after-none start opened.inside)
    in
    record {
      start_lt = opened.inside;
      opened = subst (IsOpened slots) (sym (after-none start opened.inside)) opened;
      below = omega arith;
      behind = λ u above under. absurd (omega (arith, above, under));
      free = free;
      free_lt = lt;
      is_free = is;
      ahead = omega (arith, apart);
      same = λ name. refl;
    }

module _ (before slots : List Slot) (start hole steps : ℕ) (closes : Closes before slots start hole steps)
    (steps_lt : steps < SLOTS) where
  pub Closes-last : is_taken slots (after start steps) ≡ false → IsProbed slots
  Closes-last free =
      IsProbed-closed slots start hole steps closes.start_lt closes.opened closes.below steps_lt closes.behind free

  -- the free slot is not one that is taken
  further : is_taken slots (after start steps) ≡ true → steps + 1 ≤ gap start closes.free
  further taken = elim (cases_eq (gap start closes.free) steps) [
    | inl at ↦
        let there : after start steps ≡ closes.free =
        ap (after start) (sym at) ∙ after-gap start closes.free closes.start_lt closes.free_lt
        in
        absurd (both_ways (is_taken slots closes.free) closes.is_free (ap (is_taken slots) (sym there) ∙ taken))
    | inr not ↦ omega (arith, not, closes.ahead)
  ]

  -- a name whose home comes after the hole stays
  pub Closes-stay : is_taken slots (after start steps) ≡ true → way slots (after start steps) + hole < steps →
      Closes before slots start hole (steps + 1)
  Closes-stay taken near = record {
    start_lt = closes.start_lt;
    opened = closes.opened;
    below = omega (arith, closes.below);
    behind = λ u above under. elim (cases_eq u steps) [
      | inl at ↦
          subst (λ (x : ℕ). (is_taken slots (after start x) ≡ true) × (way slots (after start x) + hole < x)) (sym at)
          (taken, near)
      | inr not ↦ closes.behind u above (omega (arith, under, not))
    ];
    free = closes.free;
    free_lt = closes.free_lt;
    is_free = closes.is_free;
    ahead = further taken;
    same = closes.same;
  }

  -- another moves to the hole, and leaves one
  pub Closes-move : (new : List Slot) → is_taken slots (after start steps) ≡ true →
      steps ≤ way slots (after start steps) + hole → IsMoved slots new (after start hole) (after start steps) →
      Closes before new start steps (steps + 1)
  Closes-move new taken far moved =
      let not_hole : closes.free ≢ after start hole =
      λ at.
      let gap_is : gap start closes.free ≡ hole =
      ap (gap start) at ∙ gap-after start hole closes.start_lt (omega (arith, closes.below))
      in
      omega (arith, gap_is, closes.ahead, closes.below)
      in
      let not_place : closes.free ≢ after start steps =
      λ at. both_ways (is_taken slots closes.free) closes.is_free (ap (is_taken slots) at ∙ taken)
      in
      record {
        start_lt = closes.start_lt;
        opened = IsOpened-moved slots new (after start hole) (after start steps) moved closes.opened taken start hole
            steps closes.start_lt refl refl closes.below steps_lt far;
        below = omega arith;
        behind = λ u above under. absurd (omega (arith, above, under));
        free = closes.free;
        free_lt = closes.free_lt;
        is_free = ap taken_by (moved.others closes.free not_hole not_place) ∙ closes.is_free;
        ahead = further taken;
        same = λ name.
            holders_of-moved slots new (after start hole) (after start steps) moved closes.opened taken name ∙
            closes.same name;
      }

-- the same steps, of the slot that code reads
module _ (before slots : List Slot) (start hole steps : ℕ) (closes : Closes before slots start hole steps)
    (steps_lt : steps < SLOTS) (slot : Slot) (read : slot ≡ slot_at slots (after start steps)) where
  pub Closes-empty : is_nobody slot.holders ≡ true → IsProbed slots
  Closes-empty free =
      Closes-last before slots start hole steps closes steps_lt
      (ap taken_by (sym read) ∙ not_from_true (is_nobody slot.holders) free)

  there : is_nobody slot.holders ≡ false → is_taken slots (after start steps) ≡ true
  there some = ap taken_by (sym read) ∙ not_from_false (is_nobody slot.holders) some

  way_is : gap (home slot.name) (after start steps) ≡ way slots (after start steps)
  way_is = ap (λ (s : Slot). gap (home s.name) (after start steps)) read

  pub Closes-passed : is_nobody slot.holders ≡ false → gap (home slot.name) (after start steps) + hole < steps →
      Closes before slots start hole (steps + 1)
  Closes-passed some near =
      Closes-stay before slots start hole steps closes steps_lt (there some) (omega (arith, near, way_is))

  pub Closes-moved : is_nobody slot.holders ≡ false → steps ≤ gap (home slot.name) (after start steps) + hole →
      Closes before (set (set slots (after start hole) slot) (after start steps) free_slot) start steps (steps + 1)
  Closes-moved some far =
      let many = closes.opened.as_many in
      let apart : after start hole ≢ after start steps =
      λ same.
      let one : hole ≡ steps =
      sym (gap-after start hole closes.start_lt (omega (arith, closes.below, steps_lt))) ∙ ap (gap start) same ∙
      gap-after start steps closes.start_lt steps_lt
      in
      omega (arith, one, closes.below)
      in
      Closes-move before slots start hole steps closes steps_lt
      (set (set slots (after start hole) slot) (after start steps) free_slot) (there some) (omega (arith, far, way_is))
      (IsMoved-set slots (after start hole) (after start steps) slot (omega (arith, after-lt start hole, many))
      (omega (arith, after-lt start steps, many)) apart read)
