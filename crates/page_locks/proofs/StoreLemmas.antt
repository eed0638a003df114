-- What a table of slots is once a name was given holders.
use Rattle.std.proofs.Common.{arith, ◌≡◌, ◌≢◌, ℕ, ◌<◌, true, false, List, ◌++◌, length, get_or, set, take, drop}
use Rattle.std.proofs.Common.{refl, sym, ap, ◌∙◌}
use Rattle.std.proofs.lemmas.Bool.{both_ways, not_from_false}
use Rattle.std.proofs.lemmas.List.{length-set}
use Rattle.page_locks.specs.declared.holders.Holders.{Holders}
use Rattle.page_locks.specs.declared.lock.LockName.{LockName}
use Rattle.page_locks.specs.declared.slot.Slot.{Slot}
use Rattle.page_locks.specs.Holding.{is_nobody}
use Rattle.page_locks.specs.Probing.{free_slot, slot_at, is_taken, holders_of}
use Rattle.page_locks.specs.Probing.{IsProbed, IsOpened, IsSpot, HasFewNames, HasFreeBut, ChangesName}
use Rattle.page_locks.proofs.HolderLemmas.{nobody-is}
use Rattle.page_locks.proofs.ProbeLemmas.{taken_by, IsWritten-set, IsOpened-emptied, ChangesName-emptied}
use Rattle.page_locks.proofs.SlotLemmas.{slot-read, written_back}
use Rattle.page_locks.proofs.SpotLemmas.{spot-holders, IsProbed-put, ChangesName-put, HasFree-few}

module _ (slots : List Slot) (name : LockName) (place : ℕ) (probed : IsProbed slots)
    (spot : IsSpot slots name place) where
  inside : place < length slots
  inside = omega (arith, spot.within, probed.as_many)

  -- some seats hold the name
  module _ (holders : Holders) (some : is_nobody holders ≡ false) where
    abbrev its : Slot
    its = record { name = name; holders = holders }

    pub IsProbed-stored : IsProbed (set slots place its)
    IsProbed-stored =
        IsProbed-put slots name place probed spot (set slots place its) its (IsWritten-set slots place its inside) refl
        (not_from_false (is_nobody holders) some)

    pub ChangesName-stored : ChangesName name holders slots (set slots place its)
    ChangesName-stored =
        ChangesName-put slots name place probed spot (set slots place its) its (IsWritten-set slots place its inside)
        refl (not_from_false (is_nobody holders) some)

  pub IsOpened-freed : IsOpened (set slots place free_slot) place
  IsOpened-freed =
      IsOpened-emptied slots (set slots place free_slot) place (IsWritten-set slots place free_slot inside) probed
      spot.within

  module _ (holders : Holders) (none : is_nobody holders ≡ true) (slot : Slot)
      (read : slot ≡ get_or slots place slot) where
    slot_is : slot ≡ slot_at slots place
    slot_is = slot-read slots place slot slot inside read

    -- nobody held it, and nobody does
    pub ChangesName-nothing : is_nobody slot.holders ≡ true → ChangesName name holders slots slots
    ChangesName-nothing free = record {
      own = sym (spot-holders slots name place probed spot) ∙ ap (λ (s : Slot). s.holders) (sym slot_is) ∙
          nobody-is slot.holders free ∙ sym (nobody-is holders none);
      others = λ other apart. refl;
    }

    taken_here : is_nobody slot.holders ≡ false → is_taken slots place ≡ true
    taken_here some = ap taken_by (sym slot_is) ∙ not_from_false (is_nobody slot.holders) some

    -- the last seat gave it back
    pub ChangesName-freed : is_nobody slot.holders ≡ false → (new : List Slot) → IsProbed new →
        ((n : LockName) → holders_of new n ≡ holders_of (set slots place free_slot) n) →
        (many : ℕ) → many ≡ length slots →
        ChangesName name holders slots (take many (new ++ drop (length new) (set slots place free_slot)))
    ChangesName-freed some new in_order same many many_is =
        let back : take many (new ++ drop (length new) (set slots place free_slot)) ≡ new =
        written_back new (set slots place free_slot) many (omega (arith, in_order.as_many, probed.as_many, many_is))
        (omega (arith, length-set slots place free_slot, many_is))
        in
        let freed =
        ChangesName-emptied slots (set slots place free_slot) place (IsWritten-set slots place free_slot inside) probed
        (taken_here some)
        in
        let named = spot.its (taken_here some) in
        rw back record {
          own = same name ∙ ap (holders_of (set slots place free_slot)) (sym named) ∙ freed.own ∙
              sym (nobody-is holders none);
          others = λ other apart. same other ∙ freed.others other (λ e. apart (e ∙ named));
        }

  -- a free slot is still left
  pub HasFreeBut-freed : HasFewNames slots → (slot : Slot) → slot ≡ get_or slots place slot →
      is_nobody slot.holders ≡ false → HasFreeBut place (set slots place free_slot)
  HasFreeBut-freed few slot read some =
      let free = HasFree-few slots probed few in
      let taken : is_taken slots place ≡ true =
      ap taken_by (sym (slot-read slots place slot slot inside read)) ∙ not_from_false (is_nobody slot.holders) some
      in
      let apart : free.0 ≢ place =
      λ same. both_ways (is_taken slots place) (ap (is_taken slots) (sym same) ∙ free.2) taken
      in
      let written = IsWritten-set slots place free_slot inside in
      (free.0, free.1, ap taken_by (written.others free.0 apart) ∙ free.2, apart)
