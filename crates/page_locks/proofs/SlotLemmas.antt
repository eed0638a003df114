-- Which slot a name stands in, and who holds it.
use Rattle.std.proofs.Common.{arith, ◌≡◌, ◌⊎◌, ℕ, zero, suc, ◌<◌, Bool, true, false, not}
use Rattle.std.proofs.Common.{List, [], ◌∷◌, ◌++◌, length, get_or, take, drop, replicate, Some, None, refl, sym, ap, ◌∙◌, inl, inr}
use Rattle.std.specs.List.{find}
use Rattle.std.proofs.lemmas.Bool.{cases_Bool, cases_lt, and_parts, and_from, both_ways}
use Rattle.std.proofs.lemmas.List.{append-nil, get_or_default, get_or_past}
use Rattle.std.proofs.Math.ListN.{drop_of_length-le}
use Rattle.std.proofs.Math.Seq.{take-length}
use Rattle.page_locks.specs.declared.lock.LockName.{LockName}
use Rattle.page_locks.specs.declared.slot.Slot.{Slot}
use Rattle.page_locks.specs.Holding.{nobody, is_nobody}
use Rattle.page_locks.specs.Locks.{is_same}
use Rattle.page_locks.specs.Probing.{slot_at, name_at, is_taken, free_slot, has_name, holders_of, holders_found}
use Rattle.page_locks.proofs.NameLemmas.{is_same-itself, is_same-true}

-- an element that passes, or none does
pub passes : {X : Type 0} (p : X → Bool) (xs : List X) (d : X) →
    ((k : ℕ) × (k < length xs) × (p (get_or xs k d) ≡ true)) ⊎ ((k : ℕ) → k < length xs → p (get_or xs k d) ≡ false)
passes p [] d = inr (λ k lt. absurd (omega (arith, lt)))
passes p (x ∷ xs) d = elim (cases_Bool (p x)) [
  | inl on ↦ inl (0, omega arith, on)
  | inr off ↦ elim (passes p xs d) [
    | inl there ↦ inl (suc there.0, omega (arith, there.1), there.2)
    | inr none ↦ inr (first off none)
  ]
]
  where
    first : p x ≡ false → ((k : ℕ) → k < length xs → p (get_or xs k d) ≡ false) →
        (k : ℕ) → k < length (x ∷ xs) → p (get_or (x ∷ xs) k d) ≡ false
    first off none zero lt = off
    first off none (suc k) lt = none k (omega (arith, lt))

-- what `find` finds passes
found : {X : Type 0} (p : X → Bool) (xs : List X) (d : X) (i : ℕ) → i < length xs → p (get_or xs i d) ≡ true →
    (k : ℕ) × (p (get_or xs k d) ≡ true) × (find p xs ≡ Some (get_or xs k d))
found p [] d i lt is = absurd (omega (arith, lt))
found p (x ∷ xs) d zero lt is = (0, is, rw is refl)
found p (x ∷ xs) d (suc i) lt is = elim (cases_Bool (p x)) [
  | inl on ↦ (0, on, rw on refl)
  | inr off ↦
      let rest = found p xs d i (omega (arith, lt)) is in
      (suc rest.0, rest.1, rw off rest.2)
]

nothing_found : {X : Type 0} (p : X → Bool) (xs : List X) (d : X) →
    ((k : ℕ) → k < length xs → p (get_or xs k d) ≡ false) → find p xs ≡ None
nothing_found p [] d none = refl
nothing_found p (x ∷ xs) d none =
    let off : p x ≡ false = none 0 (omega arith) in
    rw off (nothing_found p xs d (λ k lt. none (suc k) (omega (arith, lt))))

-- a slot past the end has no name
pub within : (slots : List Slot) (place : ℕ) → is_taken slots place ≡ true → place < length slots
within slots place taken = elim (cases_lt place (length slots)) [
  | inl lt ↦ lt
  | inr past ↦
      let free = ap (λ (slot : Slot). not (is_nobody slot.holders)) (get_or_past slots place free_slot past) in
      absurd (both_ways (is_taken slots place) free taken)
]

-- a name stands in a slot that is taken and has it
pub stands : (slots : List Slot) (name : LockName) (place : ℕ) → is_taken slots place ≡ true →
    name_at slots place ≡ name → has_name name (slot_at slots place) ≡ true
stands slots name place taken same =
    and_from (is_taken slots place) (is_same (name_at slots place) name) taken
    (ap (λ (n : LockName). is_same n name) same ∙ is_same-itself name)

pub stands-parts : (slots : List Slot) (name : LockName) (place : ℕ) → has_name name (slot_at slots place) ≡ true →
    (is_taken slots place ≡ true) × (name_at slots place ≡ name)
stands-parts slots name place has =
    let parts = and_parts (is_taken slots place) (is_same (name_at slots place) name) has in
    (parts.0, is_same-true (name_at slots place) name parts.1)

-- no name stands twice
abbrev pub HasNamesOnce : List Slot → Type 0
HasNamesOnce slots =
    (i j : ℕ) → is_taken slots i ≡ true → is_taken slots j ≡ true → name_at slots i ≡ name_at slots j → i ≡ j

-- the holders of a name are those of its slot
pub holders_of-at : (slots : List Slot) (name : LockName) (place : ℕ) → HasNamesOnce slots →
    has_name name (slot_at slots place) ≡ true → holders_of slots name ≡ (slot_at slots place).holders
holders_of-at slots name place once has =
    let mine = stands-parts slots name place has in
    let first = found (has_name name) slots free_slot place (within slots place mine.0) has in
    let theirs = stands-parts slots name first.0 first.1 in
    let same : first.0 ≡ place = once first.0 place theirs.0 mine.0 (theirs.1 ∙ sym mine.1) in
    ap holders_found first.2 ∙ ap (λ (k : ℕ). (slot_at slots k).holders) same

-- and nobody's, where the name stands nowhere
pub holders_of-none : (slots : List Slot) (name : LockName) →
    ((k : ℕ) → has_name name (slot_at slots k) ≡ false) → holders_of slots name ≡ nobody
holders_of-none slots name none = ap holders_found (nothing_found (has_name name) slots free_slot (λ k lt. none k))

-- a name stands somewhere, or nowhere
pub stands_or_not : (slots : List Slot) (name : LockName) →
    ((k : ℕ) × (has_name name (slot_at slots k) ≡ true)) ⊎ ((k : ℕ) → has_name name (slot_at slots k) ≡ false)
stands_or_not slots name = elim (passes (has_name name) slots free_slot) [
  | inl there ↦ inl (there.0, there.2)
  | inr none ↦ inr (λ k. elim (cases_lt k (length slots)) [
    | inl lt ↦ none k lt
    | inr past ↦ ap (has_name name) (get_or_past slots k free_slot past)
  ])
]

-- every slot of one table that has the name has its like in another
abbrev pub Finds : LockName → List Slot → List Slot → Type 0
Finds name these those =
    (k : ℕ) → has_name name (slot_at these k) ≡ true → (j : ℕ) × (slot_at those j ≡ slot_at these k)

-- a name is held by the same in two tables, where it stands in like slots
pub holders_of-alike : (old new : List Slot) (name : LockName) → HasNamesOnce old → HasNamesOnce new →
    Finds name old new → Finds name new old → holders_of new name ≡ holders_of old name
holders_of-alike old new name once_old once_new to from = elim (stands_or_not old name) [
  | inl there ↦
      let like = to there.0 there.1 in
      holders_of-at new name like.0 once_new (ap (has_name name) like.1 ∙ there.1) ∙
      ap (λ (slot : Slot). slot.holders) like.1 ∙ sym (holders_of-at old name there.0 once_old there.1)
  | inr none ↦
      holders_of-none new name (λ k. elim (cases_Bool (has_name name (slot_at new k))) [
        | inl has ↦
            let like = from k has in
            absurd (both_ways (has_name name (slot_at old like.0)) (none like.0) (ap (has_name name) like.1 ∙ has))
        | inr has_not ↦ has_not
      ]) ∙ sym (holders_of-none old name none)
]

-- a slot as code reads it
pub slot-read : (slots : List Slot) (place : ℕ) (d slot : Slot) → place < length slots → slot ≡ get_or slots place d →
    slot ≡ slot_at slots place
slot-read slots place d slot lt is = is ∙ get_or_default slots place d free_slot lt

-- in a table of free slots no name stands
pub holders_of-empty : (many : ℕ) (name : LockName) → holders_of (replicate many free_slot) name ≡ nobody
holders_of-empty zero name = refl
holders_of-empty (suc many) name = holders_of-empty many name

-- what a slice of the whole table became
pub written_back : (new old : List Slot) (many : ℕ) → length new ≡ many → length old ≡ many →
    take many (new ++ drop (length new) old) ≡ new
written_back new old many n o =
    ap (λ (rest : List Slot). take many (new ++ rest)) (drop_of_length-le old (omega (arith, n, o))) ∙
    ap (take many) (append-nil new) ∙ ap (λ (k : ℕ). take k new) (sym n) ∙ take-length new
