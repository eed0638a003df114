-- The entries of the upper half are copied, one after the other.
use Rattle.std.proofs.Common.{◌≡◌, ℕ, ◌+◌, ◌*◌, ◌-◌, ◌^◌, ◌<◌, ◌≤◌, ◌≢◌, Bool, true, false, List, if◌then◌else◌, min, refl, sym, ap, ◌∙◌, arith, ◌⊎◌, inl, inr, le-leb, le-ltb, lt-ltb}
use Rattle.std.proofs.lemmas.Bool.{and_from, and_left, and_right, cases_lt, lt-leb}
use Rattle.std.proofs.Math.Nat.{mod-lt}
use Rattle.directory.specs.declared.layout.TheConstants.{FIRST_DIRECTORY_PAGE, PAGE_ENTRIES}
use Rattle.directory.specs.Entries.{copied, entry_in, is_upper, page_of, slot_at, slot_of}
use Rattle.directory.specs.Pages.{IsDirectoryPage}
use Rattle.directory.proofs.EntryLaws.{IsDoneTo, place_of}

-- the slots of a page from that of entry `first` on, where the directory doubles
abbrev pub doubled : ℕ → ℕ → List ℕ → List ℕ → ℕ → ℕ
doubled depth first lower old slot =
    if is_upper depth (first + slot) then entry_in lower (first + slot - 2 ^ depth) else slot_at slot old

stays : (depth first slot : ℕ) (lower old : List ℕ) → is_upper depth (first + slot) ≡ false
    → doubled depth first lower old slot ≡ slot_at slot old
stays depth first slot lower old lower_half =
    ap (λ (b : Bool). if b then entry_in lower (first + slot - 2 ^ depth) else slot_at slot old) lower_half

before_stays : (depth first slot : ℕ) (lower old : List ℕ) → first + slot < 2 ^ depth
    → doubled depth first lower old slot ≡ slot_at slot old
before_stays depth first slot lower old below = stays depth first slot lower old (and_left _ _ (lt-leb _ _ below))

after_stays : (depth first slot : ℕ) (lower old : List ℕ) → 2 * 2 ^ depth ≤ first + slot
    → doubled depth first lower old slot ≡ slot_at slot old
after_stays depth first slot lower old above = stays depth first slot lower old (and_right _ _ (le-ltb _ _ above))

-- it begins with the first slot of the upper half
pub begun_above : (depth first slot : ℕ) (lower old : List ℕ) → IsDirectoryPage old → 2 ^ depth - first ≡ slot
    → IsDoneTo (doubled depth first lower old) slot old old
begun_above depth first slot lower old page is = record {
  done = λ other before. sym (before_stays depth first other lower old (omega (arith, before, is)));
  left = λ other from. refl;
  page = page;
}

-- and goes on by one
pub one_copied : (depth first slot : ℕ) (lower old now new : List ℕ) → 2 ^ depth ≤ first + slot
    → first + slot < 2 * 2 ^ depth
    → IsDoneTo (doubled depth first lower old) slot old now
    → slot_at slot new ≡ entry_in lower (first + slot - 2 ^ depth)
    → ((other : ℕ) → other ≢ slot → slot_at other new ≡ slot_at other now) → IsDirectoryPage new
    → IsDoneTo (doubled depth first lower old) (slot + 1) old new
one_copied depth first slot lower old now new from to so put others page = record {
  done = λ other before. by other before (cases_lt other slot);
  left = λ other past. others other (λ same. omega (arith, past, same)) ∙ so.left other (omega (arith, past));
  page = page;
}
  where
    upper : is_upper depth (first + slot) ≡ true
    upper = and_from _ _ (le-leb _ _ from) (lt-ltb _ _ to)

    there : doubled depth first lower old slot ≡ entry_in lower (first + slot - 2 ^ depth)
    there = ap (λ (b : Bool). if b then entry_in lower (first + slot - 2 ^ depth) else slot_at slot old) upper

    by : (other : ℕ) → other < slot + 1 → (other < slot) ⊎ (slot ≤ other)
        → slot_at other new ≡ doubled depth first lower old other
    by other before (inl low) = others other (λ same. omega (arith, low, same)) ∙ so.done other low
    by other before (inr high) =
        let same : slot ≡ other = omega (arith, before, high) in
        rw (← same) (put ∙ sym there)

-- at the end of the page or of the upper half each entry of the page is as it shall be
pub all_copied : (i page depth slot end : ℕ) (lower old new : List ℕ) → page_of i ≡ page
    → IsDoneTo (doubled depth (PAGE_ENTRIES * (page - FIRST_DIRECTORY_PAGE)) lower old) slot old new → end ≤ slot
    → min (2 * 2 ^ depth - PAGE_ENTRIES * (page - FIRST_DIRECTORY_PAGE)) PAGE_ENTRIES ≡ end
    → entry_in new i ≡ copied depth lower old i
all_copied i page depth slot end lower old new on so past is = by (cases_lt (slot_of i) slot)
  where
    first : ℕ
    first = PAGE_ENTRIES * (page - FIRST_DIRECTORY_PAGE)

    place : first + slot_of i ≡ i
    place = place_of i page on

    low : slot_of i < 512
    low = mod-lt i (omega arith)

    is_so : doubled depth first lower old (slot_of i) ≡ copied depth lower old i
    is_so = ap (λ (k : ℕ). if is_upper depth k then entry_in lower (k - 2 ^ depth) else entry_in old i) place

    by : (slot_of i < slot) ⊎ (slot ≤ slot_of i) → entry_in new i ≡ copied depth lower old i
    by (inl before) = so.done (slot_of i) before ∙ is_so
    by (inr from) =
        let beyond : 2 * 2 ^ depth ≤ first + slot_of i = omega (arith, from, past, is, low) in
        so.left (slot_of i) from ∙ sym (after_stays depth first (slot_of i) lower old beyond) ∙ is_so
