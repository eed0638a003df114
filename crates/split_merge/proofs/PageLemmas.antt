-- The pages of the directory that a doubling and a split go through: each has an entry, and none is passed over.
use Rattle.std.proofs.Common.{◌≡◌, ◌⊎◌, refl, sym, ap, subst, ◌∙◌, ℕ, suc, ◌+◌, ◌-◌, ◌*◌, ◌/◌, ◌%◌, ◌^◌, ◌<◌, ◌≤◌, Bool, true, false, nat_lt, if◌then◌else◌, inl, inr, arith}
use Rattle.std.proofs.lemmas.Bool.{cases_lt, lt-ltb, le-ltb}
use Rattle.std.proofs.lemmas.Nat.{pow-add}
use Rattle.std.proofs.Math.Nat.{div-add-mod, mod-lt, mod-eq_of_lt, mod-le, mul-le-mul_left, mul-suc, pow-le-pow_right, two-pow-succ}
use Rattle.directory.proofs.RangeLaws.{mod_above, upper_half_valid}
use Rattle.step_rules.specs.Words.{Store}
use Rattle.step_rules.specs.Structure.{IsCopiedBefore, IsRetargetedBefore, HasUpperEntry}
use Rattle.hash_file.specs.Laws.{IsCopied, IsRetargeted}
use Rattle.split_merge.specs.Words.{DIRECTORY_PAGES, ROOT_PAGE, GREATEST_DEPTH, page_of, Range, IsRange, Covers, upper_half_of, SplitPlace, Retarget, SetCounts}
use Rattle.split_merge.specs.Order.{IsPlaced, after_retarget}
use Rattle.split_merge.specs.Splits.{left_at}
use Rattle.split_merge.specs.Entries.{first_upper, last_upper, stride}

-- an entry stands in its slot of its page
record IsPlace (i : ℕ) : Type 0 where
  pub is : 512 * (i / 512) + i % 512 ≡ i
  pub slot : i % 512 < 512

place : (i : ℕ) → IsPlace i
place i = record { is = div-add-mod i 512; slot = mod-lt i (omega arith) }

pub page_mono : (i j : ℕ) → i ≤ j → page_of i ≤ page_of j
page_mono i j le =
    let p = place i in
    let q = place j in
    omega (arith, le, p.is, p.slot, q.is, q.slot)

pub page_last : (i d : ℕ) → i < 2 ^ d → d ≤ GREATEST_DEPTH → page_of i ≤ DIRECTORY_PAGES
page_last i d low shallow =
    let p = place i in
    let most : 2 ^ d ≤ 2 ^ 17 = pow-le-pow_right (omega arith) shallow in
    omega (arith, low, most, p.is, p.slot)

-- a page on comes the next one
pub next_page : (i : ℕ) → page_of (i + 512) ≡ suc (page_of i)
next_page i =
    let p = place i in
    let q = place (i + 512) in
    omega (arith, p.is, p.slot, q.is, q.slot)

pub below_rest : (x y m : ℕ) → x < y % m → x < y
below_rest x y m less = omega (arith, less, mod-le y m)

-- ---- the upper half of a directory that doubles

record IsOnPage (depth page : ℕ) : Type 0 where
  pub entry : ℕ
  pub below : entry < 2 ^ depth
  pub there : page_of (entry + 2 ^ depth) ≡ page

on_page : (depth page : ℕ) → first_upper depth ≤ page → page ≤ last_upper depth → IsOnPage depth page
on_page depth page first last = elim (cases_lt (2 ^ depth) (512 * (page - 1))) [
  | inl behind ↦
      let m : ℕ = 512 * (page - 1) in
      let p = place m in
      let q = place (2 ^ suc depth - 1) in
      let is : (m - 2 ^ depth) + 2 ^ depth ≡ m = omega (arith, behind) in
      let here : page_of m ≡ page = omega (arith, p.is, p.slot, first) in
      record {
        entry = m - 2 ^ depth;
        below = omega (arith, behind, last, q.is, q.slot, two-pow-succ depth);
        there = ap page_of is ∙ here;
      }
  | inr within ↦
      let p = place (2 ^ depth) in
      let here : page_of (2 ^ depth) ≡ page = omega (arith, within, first, p.is, p.slot) in
      record {
        entry = 0;
        below = one_up depth;
        there = ap page_of (let none : 0 + 2 ^ depth ≡ 2 ^ depth = omega arith in none) ∙ here;
      }
]
  where
    one_up : (d : ℕ) → 0 < 2 ^ d
    one_up d = omega (arith, pow-le-pow_right {n = 2} (omega arith) {i = 0} {j = d} (omega arith))

pub upper_on : (s : Store) (page : ℕ) → first_upper s.header.depth ≤ page → page ≤ last_upper s.header.depth →
    HasUpperEntry s page
upper_on s page first last =
    let on = on_page s.header.depth page first last in
    record { entry = on.entry; below = on.below; there = on.there }

-- no upper entry stands before the first page
pub copied_begin : (s : Store) → IsCopiedBefore s (first_upper s.header.depth)
copied_begin s i low there =
    absurd (omega (arith, there, page_mono (2 ^ s.header.depth) (i + 2 ^ s.header.depth) (omega arith)))

-- and none behind the last
pub copied_end : (s : Store) (page : ℕ) → last_upper s.header.depth ≤ page → IsCopiedBefore s (suc page) →
    IsCopiedBefore s ROOT_PAGE
copied_end s page last before i low there =
    let d : ℕ = s.header.depth in
    before i low (omega (arith, last, page_mono (i + 2 ^ d) (2 ^ suc d - 1) (omega (arith, low, two-pow-succ d))))

pub copied_all : (s : Store) → s.header.depth < GREATEST_DEPTH → IsCopiedBefore s ROOT_PAGE → IsCopied s
copied_all s shallow before i low =
    let d : ℕ = s.header.depth in
    before i low (omega (arith, page_last (i + 2 ^ d) (suc d) (omega (arith, low, two-pow-succ d)) shallow))

-- ---- the entries of a range

-- of two numbers that leave the same the greater one is further on by what they were divided by
ahead : (m i e : ℕ) → 0 < m → i % m ≡ e % m → e < i → e + m ≤ i
ahead m i e some same less =
    let p = div-add-mod i m in
    let q = div-add-mod e m in
    by (cases_lt (e / m) (i / m)) p q
  where
    by : ((e / m) < (i / m)) ⊎ ((i / m) ≤ (e / m)) → m * (i / m) + i % m ≡ i → m * (e / m) + e % m ≡ e → e + m ≤ i
    by (inl on) p q =
        let more : m * suc (e / m) ≤ m * (i / m) = mul-le-mul_left m on in
        let step = mul-suc m (e / m) in
        omega (arith, more, step, p, q, same)
    by (inr back) p q =
        let more : m * (i / m) ≤ m * (e / m) = mul-le-mul_left m back in
        absurd (omega (arith, more, p, q, same, less))

-- the stride by its two cases
pub record IsDense (depth : ℕ) : Type 0 where
  pub deep : depth ≤ 9
  pub is : stride depth ≡ 512

pub record IsSparse (depth : ℕ) : Type 0 where
  pub long : 512 ≤ 2 ^ depth
  pub is : stride depth ≡ 2 ^ depth

pub dense_or_sparse : (depth : ℕ) → IsDense depth ⊎ IsSparse depth
dense_or_sparse depth = elim (cases_lt (2 ^ depth) 512) [
  | inl dense ↦ inl (record { deep = few (cases_lt 9 depth) dense; is = rw (lt-ltb (2 ^ depth) 512 dense) refl })
  | inr sparse ↦ inr (record { long = sparse; is = rw (le-ltb (2 ^ depth) 512 sparse) refl })
]
  where
    few : (9 < depth) ⊎ (depth ≤ 9) → 2 ^ depth < 512 → depth ≤ 9
    few (inr less) dense = less
    few (inl more) dense =
        let most : 2 ^ 9 ≤ 2 ^ depth =
        pow-le-pow_right {n = 2} (omega arith) {i = 9} {j = depth} (omega (arith, more)) in
        absurd (omega (arith, most, dense))

pub stride_long : (depth : ℕ) → 512 ≤ stride depth
stride_long depth = elim (dense_or_sparse depth) [
  | inl dense ↦ omega (arith, dense.is)
  | inr sparse ↦ omega (arith, sparse.is, sparse.long)
]

-- a stride on comes a later page
pub later_page : (depth entry : ℕ) → page_of entry < page_of (entry + stride depth)
later_page depth entry =
    omega (arith, next_page entry, page_mono (entry + 512) (entry + stride depth) (omega (arith, stride_long depth)))

-- and the range has that entry too
pub covers_next : (r : Range) (entry : ℕ) → Covers r entry → Covers r (entry + stride r.depth)
covers_next r entry covers = elim (dense_or_sparse r.depth) [
  | inl dense ↦ ap (λ (n : ℕ). (entry + n) % 2 ^ r.depth) dense.is ∙ mod_above r.depth 9 entry dense.deep ∙ covers
  | inr sparse ↦ ap (λ (n : ℕ). (entry + n) % 2 ^ r.depth) sparse.is ∙ mod_above r.depth r.depth entry (omega arith)
      ∙ covers
]

pub first_covered : (r : Range) → r.pattern < 2 ^ r.depth → Covers r r.pattern
first_covered r below = mod-eq_of_lt below

-- no entry of the range stands before that of its pattern
pub retargeted_begin : (s : Store) (r : Range) (n : ℕ) → IsRetargetedBefore s r n (page_of r.pattern)
retargeted_begin s r n i low covers there =
    let least : r.pattern ≤ i = omega (arith, covers, mod-le i (2 ^ r.depth)) in
    absurd (omega (arith, there, page_mono r.pattern i least))

-- an entry of the range on a later page stands a stride on, or on the next page
far : (r : Range) (entry i : ℕ) → Covers r entry → Covers r i → page_of entry < page_of i → 512 ≤ 2 ^ r.depth →
    entry + 2 ^ r.depth ≤ i
far r entry i here covers later long = elim (cases_lt entry i) [
  | inl less ↦ ahead (2 ^ r.depth) i entry (omega (arith, long)) (covers ∙ sym here) less
  | inr back ↦ absurd (omega (arith, later, page_mono i entry back))
]

pub retargeted_next : (s : Store) (r : Range) (n entry : ℕ) → Covers r entry →
    IsRetargetedBefore s r n (suc (page_of entry)) → IsRetargetedBefore s r n (page_of (entry + stride r.depth))
retargeted_next s r n entry here before i low covers there = elim (cases_lt (page_of entry) (page_of i)) [
  | inr back ↦ before i low covers (omega (arith, back))
  | inl later ↦ absurd (elim (dense_or_sparse r.depth) [
    | inl dense ↦ omega (arith, there, later, next_page entry, ap (λ (k : ℕ). page_of (entry + k)) dense.is)
    | inr sparse ↦
        let on = far r entry i here covers later sparse.long in
        omega (arith, there, page_mono (entry + 2 ^ r.depth) i on, ap (λ (k : ℕ). page_of (entry + k)) sparse.is)
  ])
]

-- behind the last page with an entry of the range there is none
pub retargeted_end : (s : Store) (r : Range) (n entry : ℕ) → Covers r entry →
    2 ^ s.header.depth ≤ entry + stride r.depth → IsRetargetedBefore s r n (suc (page_of entry)) →
    IsRetargetedBefore s r n ROOT_PAGE
retargeted_end s r n entry here last before i low covers there = elim (cases_lt (page_of entry) (page_of i)) [
  | inr back ↦ before i low covers (omega (arith, back))
  | inl later ↦ absurd (elim (dense_or_sparse r.depth) [
    | inl dense ↦ whole_pages s.header.depth (cases_lt s.header.depth 9) low later (omega (arith, last, dense.is))
    | inr sparse ↦ omega (arith, low, last, sparse.is, far r entry i here covers later sparse.long)
  ])
]
  where
    whole_pages : (d : ℕ) → (d < 9) ⊎ (9 ≤ d) → i < 2 ^ d → page_of entry < page_of i → 2 ^ d ≤ entry + 512 → ⊥
    whole_pages d (inl few) low later last =
        let p = place i in
        let most : 2 ^ d ≤ 2 ^ 9 = pow-le-pow_right {n = 2} (omega arith) {i = d} {j = 9} (omega (arith, few)) in
        omega (arith, low, most, later, p.is, p.slot)
    whole_pages d (inr many) low later last =
        let p = place i in
        let q = place entry in
        let split : 9 + (d - 9) ≡ d = omega (arith, many) in
        let pages : 2 ^ d ≡ 512 * 2 ^ (d - 9) = ap (λ (k : ℕ). 2 ^ k) (sym split) ∙ pow-add 2 9 (d - 9) in
        omega (arith, low, later, last, pages, p.is, p.slot, q.is, q.slot)

pub retargeted_all : (s : Store) (r : Range) (n : ℕ) → s.header.depth ≤ GREATEST_DEPTH →
    IsRetargetedBefore s r n ROOT_PAGE → IsRetargeted r n s
retargeted_all s r n shallow before i low covers =
    before i low covers (omega (arith, page_last i s.header.depth low shallow))

-- ---- the steps that are left

-- the first entry of the new range
pub placed_first : (whole : Range) (depth new : ℕ) → IsRange whole → whole.depth < GREATEST_DEPTH →
    whole.depth < depth → IsPlaced whole depth (Retarget new (upper_half_of whole).pattern)
placed_first whole depth new valid shallow deep =
    let half = upper_half_valid whole valid (omega (arith, shallow)) in
    let most : 2 ^ suc whole.depth ≤ 2 ^ depth =
    pow-le-pow_right {n = 2} (omega arith) {i = suc whole.depth} {j = depth} deep in
    (deep, omega (arith, half.below, most), first_covered (upper_half_of whole) half.below)

pub retargets_fall : (whole : Range) (depth new entry : ℕ) (next : SplitPlace) → depth ≤ GREATEST_DEPTH →
    IsPlaced whole depth (Retarget new entry) → next ≡ after_retarget whole depth new entry →
    left_at next < left_at (Retarget new entry)
retargets_fall whole depth new entry next shallow placed is =
    subst (λ (x : SplitPlace). left_at x < left_at (Retarget new entry)) (sym is)
    (by (nat_lt (entry + stride (suc whole.depth)) (2 ^ depth)))
  where
    last : page_of entry ≤ DIRECTORY_PAGES
    last = page_last entry depth placed.1 shallow

    by : (b : Bool) → left_at (if b then Retarget new (entry + stride (suc whole.depth)) else SetCounts new)
        < left_at (Retarget new entry)
    by true = omega (arith, last, later_page (suc whole.depth) entry)
    by false = omega (arith, last)
