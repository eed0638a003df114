-- Numbers that leave one rest by a divisor stand that divisor apart.
use Rattle.std.proofs.Common.{◌≡◌, ℕ, ◌+◌, ◌*◌, ◌-◌, ◌/◌, ◌%◌, ◌^◌, ◌<◌, ◌≤◌, ◌≢◌, ◌==◌, Bool, false, List, if◌then◌else◌, min, suc, sym, ap, ◌∙◌, arith, ◌⊎◌, inl, inr, eqb-true, eq-eqb, lt-ltb, le-ltb, pow_pos, refl}
use Rattle.std.proofs.lemmas.Bool.{and_from, and_left, and_right, cases_lt, false_from_ne_true}
use Rattle.std.proofs.Math.Nat.{add-mod_right, add-mul-mod_self_left, div-add-mod, mod-eq_of_lt, mod-lt, mul-le-mul_left, pow-le-pow_right}
use Rattle.directory.specs.declared.range.Range.{Range}
use Rattle.directory.specs.declared.layout.TheConstants.{FIRST_DIRECTORY_PAGE, PAGE_ENTRIES}
use Rattle.directory.specs.Entries.{entry_in, is_in_range, page_of, retargeted, slot_at, slot_of}
use Rattle.directory.specs.Pages.{IsDirectoryPage}
use Rattle.directory.proofs.EntryLaws.{IsDoneTo, place_of}

-- so far behind a number, the rest is this one
pub ahead_above : (n rest m : ℕ) → rest < m → (n + (rest + m - n % m)) % m ≡ rest
ahead_above n rest m below =
    let some : 0 < m = omega (arith, below) in
    let under : n % m < m = mod-lt n some in
    let parts : m * (n / m) + n % m ≡ n = div-add-mod n m in
    let moved : n + (rest + m - n % m) ≡ rest + m + m * (n / m) = omega (arith, parts, under) in
    ap (λ (k : ℕ). k % m) moved ∙ add-mul-mod_self_left (rest + m) m (n / m) ∙ add-mod_right rest m
    ∙ mod-eq_of_lt below

-- a number less than the divisor further has another rest
pub rests_apart : (n more m : ℕ) → 0 < more → more < m → (n + more) % m ≡ n % m → ⊥
rests_apart n more m some less same = by (cases_lt (n / m) ((n + more) / m))
  where
    here : m * (n / m) + n % m ≡ n
    here = div-add-mod n m

    there : m * ((n + more) / m) + (n + more) % m ≡ n + more
    there = div-add-mod (n + more) m

    by : (n / m < (n + more) / m) ⊎ ((n + more) / m ≤ n / m) → ⊥
    by (inl above) =
        let wide : m * suc (n / m) ≤ m * ((n + more) / m) = mul-le-mul_left m above in
        let step : m * suc (n / m) ≡ m * (n / m) + m = omega arith in
        omega (arith, wide, step, here, there, same, less)
    by (inr below) =
        let wide : m * ((n + more) / m) ≤ m * (n / m) = mul-le-mul_left m below in
        omega (arith, wide, here, there, same, some)

-- the divisor of a local depth is a number of 32 bits
pub stride_fits : (depth : ℕ) → depth ≤ 17 → 2 ^ depth ≤ 131072
stride_fits depth low = pow-le-pow_right (omega arith) low

-- the slots of a page from that of entry `first` on, where a bucket gets the entries of a range that stand before a
-- slot
abbrev pub named : ℕ → Range → ℕ → ℕ → List ℕ → ℕ → ℕ
named depth range bucket first old slot =
    if is_in_range depth range (first + slot) then bucket else slot_at slot old

pub record IsRetargetedTo (depth : ℕ) (range : Range) (bucket first slot : ℕ) (old new : List ℕ) : Type 0 where
  -- the slots before this one name what they shall
  pub so_far : IsDoneTo (named depth range bucket first old) slot old new
  -- this one's entry is in the range, as far as its low bits tell
  pub next : (first + slot) % 2 ^ range.depth ≡ range.pattern

-- an entry that leaves another rest stays
pub other_stays : (depth : ℕ) (range : Range) (bucket first slot : ℕ) (old : List ℕ) →
    ((first + slot) % 2 ^ range.depth ≡ range.pattern → ⊥) → named depth range bucket first old slot ≡ slot_at slot old
other_stays depth range bucket first slot old out =
    let no : ((first + slot) % 2 ^ range.depth == range.pattern) ≡ false =
    false_from_ne_true _ (λ yes. out (eqb-true _ _ yes)) in
    ap (λ (b : Bool). if b then bucket else slot_at slot old) (and_right _ _ no)

-- so does one past the directory's last
pub past_stays : (depth : ℕ) (range : Range) (bucket first slot : ℕ) (old : List ℕ) →
    2 ^ depth ≤ first + slot → named depth range bucket first old slot ≡ slot_at slot old
past_stays depth range bucket first slot old past =
    ap (λ (b : Bool). if b then bucket else slot_at slot old) (and_left _ _ (le-ltb _ _ past))

-- one of the directory's with that rest names the bucket
pub chosen : (depth : ℕ) (range : Range) (bucket first slot : ℕ) (old : List ℕ) →
    first + slot < 2 ^ depth → (first + slot) % 2 ^ range.depth ≡ range.pattern →
    named depth range bucket first old slot ≡ bucket
chosen depth range bucket first slot old within there =
    ap (λ (b : Bool). if b then bucket else slot_at slot old) (and_from _ _ (lt-ltb _ _ within) (eq-eqb _ _ there))

-- it begins with the first slot whose entry has that rest
pub begun : (depth : ℕ) (range : Range) (bucket first slot : ℕ) (old : List ℕ) → IsDirectoryPage old →
    slot < 2 ^ range.depth → (first + slot) % 2 ^ range.depth ≡ range.pattern →
    IsRetargetedTo depth range bucket first slot old old
begun depth range bucket first slot old page low there = record {
  so_far = record {
    done = λ other before. sym (other_stays depth range bucket first other old (λ same.
        rests_apart (first + other) (slot - other) (2 ^ range.depth) (omega (arith, before))
        (omega (arith, before, low))
        (ap (λ (k : ℕ). k % 2 ^ range.depth) (omega (arith, before)) ∙ there ∙ sym same)));
    left = λ other from. refl;
    page = page;
  };
  next = there;
}

-- and goes on by the divisor
pub one_more : (depth : ℕ) (range : Range) (bucket first slot : ℕ) (old now new : List ℕ) → first + slot < 2 ^ depth →
    IsRetargetedTo depth range bucket first slot old now → slot_at slot new ≡ bucket →
    ((other : ℕ) → other ≢ slot → slot_at other new ≡ slot_at other now) → IsDirectoryPage new →
    IsRetargetedTo depth range bucket first (slot + 2 ^ range.depth) old new
one_more depth range bucket first slot old now new within so put others page = record {
  so_far = record {
    done = λ other before. by other before (cases_lt other slot);
    left = λ other from. others other (λ same. omega (arith, from, same, some))
        ∙ so.so_far.left other (omega (arith, from));
    page = page;
  };
  next = ap (λ (k : ℕ). k % 2 ^ range.depth) (omega arith) ∙ add-mod_right (first + slot) (2 ^ range.depth) ∙ so.next;
}
  where
    some : 0 < 2 ^ range.depth
    some = pow_pos range.depth

    here : (other : ℕ) → other < slot + 2 ^ range.depth → (slot < other) ⊎ (other ≤ slot) → slot ≤ other
        → slot_at other new ≡ named depth range bucket first old other
    here other before (inl above) from =
        others other (λ same. omega (arith, above, same)) ∙ so.so_far.left other from
        ∙ sym (other_stays depth range bucket first other old (λ same.
        rests_apart (first + slot) (other - slot) (2 ^ range.depth) (omega (arith, above))
        (omega (arith, above, before))
        (ap (λ (k : ℕ). k % 2 ^ range.depth) (omega (arith, above)) ∙ same ∙ sym so.next)))
    here other before (inr below) from =
        let same : slot ≡ other = omega (arith, below, from) in
        rw (← same) (put ∙ sym (chosen depth range bucket first slot old within so.next))

    by : (other : ℕ) → other < slot + 2 ^ range.depth → (other < slot) ⊎ (slot ≤ other)
        → slot_at other new ≡ named depth range bucket first old other
    by other before (inl low) = others other (λ same. omega (arith, low, same)) ∙ so.so_far.done other low
    by other before (inr from) = here other before (cases_lt slot other) from

-- where it has come to the end of the page or of the directory, each entry of the page is as it shall be
pub ended : (i page depth : ℕ) (range : Range) (bucket slot end : ℕ) (old new : List ℕ) → page_of i ≡ page
    → IsRetargetedTo depth range bucket (PAGE_ENTRIES * (page - FIRST_DIRECTORY_PAGE)) slot old new → end ≤ slot
    → min (2 ^ depth - PAGE_ENTRIES * (page - FIRST_DIRECTORY_PAGE)) PAGE_ENTRIES ≡ end
    → entry_in new i ≡ retargeted depth range bucket old i
ended i page depth range bucket slot end old new on so past is = by (cases_lt (slot_of i) slot)
  where
    first : ℕ
    first = PAGE_ENTRIES * (page - FIRST_DIRECTORY_PAGE)

    place : first + slot_of i ≡ i
    place = place_of i page on

    low : slot_of i < 512
    low = mod-lt i (omega arith)

    is_so : named depth range bucket first old (slot_of i) ≡ retargeted depth range bucket old i
    is_so = ap (λ (k : ℕ). if is_in_range depth range k then bucket else entry_in old i) place

    by : (slot_of i < slot) ⊎ (slot ≤ slot_of i) → entry_in new i ≡ retargeted depth range bucket old i
    by (inl before) = so.so_far.done (slot_of i) before ∙ is_so
    by (inr from) =
        let beyond : 2 ^ depth ≤ first + slot_of i = omega (arith, from, past, is, low) in
        so.so_far.left (slot_of i) from ∙ sym (past_stays depth range bucket first (slot_of i) old beyond) ∙ is_so
