-- Lists from a place on, and the next serial of a type.
use Rattle.std.proofs.Common.{◌≡◌, ℕ, zero, suc, ◌<◌, ℤ, pos, negsuc, ◌≤ℤ◌, Bool, true, false, cond, List, [], ◌∷◌, drop, Some, None, refl, sym, ap, ◌∙◌, subst, arith}
use Rattle.std.specs.Prelude.{◌==◌, ◌||◌, slice_get}
use Rattle.xsi_control.specs.RemoveWords.{All, AllPairs, Contains, filter, list_any, position_or_len, Message, type_number, serials, contains_tail, pairs_head, pairs_tail}
use Rattle.std.specs.Ordering.{int_eq}
use Rattle.std.proofs.lemmas.Bool.{eqb-true}
use Rattle.std.proofs.lemmas.Bool.Decides.{Decides-eqb, Decides-int_eq, nat_tests}
use Rattle.std.proofs.lemmas.List.Elements.{All-contains, All-head, All-tail}
use Rattle.std.proofs.lemmas.Int.{ints}
use Rattle.xsi_inquiry.specs.type_chains.Entries.{is_number}
use Rattle.xsi_inquiry.specs.type_chains.Neighbours.{behind, first_of}
use Rattle.xsi_control.proofs.FindLemmas.{not_true, place_here, place_later}

-- ---- from a place on

pub drop_at : {X : Type 0} (xs : List X) (i : ℕ) (x : X) → slice_get xs i ≡ Some x → drop i xs ≡ x ∷ drop (suc i) xs
drop_at [] i x at = absurd cc
drop_at {X} (y ∷ ys) zero x at =
    let is : y ≡ x = cc in
    ap (λ (z : X). z ∷ ys) is
drop_at (y ∷ ys) (suc i) x at = drop_at ys i x at

pub at_place : {X : Type 0} (xs : List X) (i : ℕ) (x : X) → slice_get xs i ≡ Some x → Contains xs x
at_place [] i x at = absurd cc
at_place (y ∷ ys) zero x at =
    let is : y ≡ x = cc in
    (zero, omega arith, is)
at_place (y ∷ ys) (suc i) x at = contains_tail y x ys (at_place ys i x at)

-- what a list's elements have to those behind them, one has to all behind it
pub pairs_behind : {X : Type 0} (R : X → X → Type 0) (xs : List X) (i : ℕ) (x : X) → AllPairs R xs →
    slice_get xs i ≡ Some x → All (R x) (drop (suc i) xs)
pairs_behind R [] i x pairs at = absurd cc
pairs_behind R (y ∷ ys) zero x pairs at =
    let is : y ≡ x = cc in
    subst (λ z. All (R z) ys) is (pairs_head R y ys pairs)
pairs_behind R (y ∷ ys) (suc i) x pairs at = pairs_behind R ys i x (pairs_tail R y ys pairs) at

pub any_alike : {X : Type 0} (p r : X → Bool) (xs : List X) → All (λ (x : X). p x ≡ r x) xs →
    list_any p xs ≡ list_any r xs
any_alike p r [] all = refl
any_alike {X} p r (x ∷ xs) all =
    rw (All-head (λ (x : X). p x ≡ r x) x xs all, any_alike p r xs (All-tail (λ (x : X). p x ≡ r x) x xs all)) refl

-- serials ascend, so each is at one place
pub place_of_serial : (ms : List Message) (i : ℕ) (m : Message) → AllPairs (λ (m n : Message). m.serial < n.serial) ms →
    slice_get ms i ≡ Some m → position_or_len (is_number m.serial) (serials ms) ≡ i
place_of_serial [] i m ascend at = absurd cc
place_of_serial (n ∷ ns) zero m ascend at =
    let is : n ≡ m = cc in
    let same : n.serial ≡ m.serial = ap (λ (x : Message). x.serial) is in
    place_here (is_number m.serial) n.serial (serials ns) (grind (arith, nat_tests, same))
place_of_serial (n ∷ ns) (suc i) m ascend at =
    let less : n.serial < m.serial = All-contains (λ (x : Message). n.serial < x.serial) ns m
    (pairs_head (λ (m n : Message). m.serial < n.serial) n ns ascend) (at_place ns i m at) in
    place_later (is_number m.serial) n.serial (serials ns) (grind (arith, nat_tests, less))
    ∙ ap suc (place_of_serial ns i m (pairs_tail (λ (m n : Message). m.serial < n.serial) n ns ascend) at)

-- ---- the next that passes

-- nothing passes exactly where nothing is left of what passes
none_kept : (p : Message → Bool) (ms : List Message) → first_of (serials (filter p ms)) ≡ None → list_any p ms ≡ false
none_kept p [] none = refl
none_kept p (n ∷ ns) none = by (p n) refl none (λ rest. none_kept p ns rest)
  where
    by : (b : Bool) → p n ≡ b → first_of (serials (cond b (n ∷ filter p ns) (filter p ns))) ≡ None →
        (first_of (serials (filter p ns)) ≡ None → list_any p ns ≡ false) → (p n || list_any p ns) ≡ false
    by true e none later = absurd cc
    by false e none later = rw e (later none)

some_kept : (p : Message → Bool) (ms : List Message) (serial : ℕ) → first_of (serials (filter p ms)) ≡ Some serial →
    list_any p ms ≡ true
some_kept p [] serial some = absurd cc
some_kept p (n ∷ ns) serial some = by (p n) refl some (λ rest. some_kept p ns serial rest)
  where
    by : (b : Bool) → p n ≡ b → first_of (serials (cond b (n ∷ filter p ns) (filter p ns))) ≡ Some serial →
        (first_of (serials (filter p ns)) ≡ Some serial → list_any p ns ≡ true) → (p n || list_any p ns) ≡ true
    by true e some later = rw e refl
    by false e some later = rw e (later some)

-- behind the serial of one that passes stands that of the next that passes
next_kept : (p : Message → Bool) (ms : List Message) (i : ℕ) (m : Message) →
    AllPairs (λ (m n : Message). m.serial < n.serial) ms → slice_get ms i ≡ Some m → p m ≡ true →
    behind (is_number m.serial) (serials (filter p ms)) ≡ first_of (serials (filter p (drop (suc i) ms)))
next_kept p [] i m ascend at passes = absurd cc
next_kept p (n ∷ ns) zero m ascend at passes =
    let is : n ≡ m = cc in
    let same : n.serial ≡ m.serial = ap (λ (x : Message). x.serial) is in
    let first : p n ≡ true = ap p is ∙ passes in
    rw first (ap (λ (k : ℕ). slice_get (n.serial ∷ serials (filter p ns)) (suc k))
    (place_here (is_number m.serial) n.serial (serials (filter p ns)) (grind (arith, nat_tests, same))))
next_kept p (n ∷ ns) (suc i) m ascend at passes =
    by (p n) refl
    (next_kept p ns i m (pairs_tail (λ (m n : Message). m.serial < n.serial) n ns ascend) at passes)
    (All-contains (λ (x : Message). n.serial < x.serial) ns m
    (pairs_head (λ (m n : Message). m.serial < n.serial) n ns ascend) (at_place ns i m at))
  where
    by : (b : Bool) → p n ≡ b →
        behind (is_number m.serial) (serials (filter p ns)) ≡ first_of (serials (filter p (drop (suc i) ns))) →
        n.serial < m.serial →
        behind (is_number m.serial) (serials (filter p (n ∷ ns))) ≡ first_of (serials (filter p (drop (suc i) ns)))
    by true e later less =
        rw e (ap (λ (k : ℕ). slice_get (n.serial ∷ serials (filter p ns)) (suc k))
        (place_later (is_number m.serial) n.serial (serials (filter p ns)) (grind (arith, nat_tests, less))) ∙ later)
    by false e later less = rw e later

-- so one has no next exactly where none behind it passes
pub none_behind : (p : Message → Bool) (ms : List Message) (i : ℕ) (m : Message) →
    AllPairs (λ (m n : Message). m.serial < n.serial) ms → slice_get ms i ≡ Some m → p m ≡ true →
    behind (is_number m.serial) (serials (filter p ms)) ≡ None → list_any p (drop (suc i) ms) ≡ false
none_behind p ms i m ascend at passes none =
    none_kept p (drop (suc i) ms) (sym (next_kept p ms i m ascend at passes) ∙ none)

pub some_behind : (p : Message → Bool) (ms : List Message) (i : ℕ) (m : Message) (serial : ℕ) →
    AllPairs (λ (m n : Message). m.serial < n.serial) ms → slice_get ms i ≡ Some m → p m ≡ true →
    behind (is_number m.serial) (serials (filter p ms)) ≡ Some serial → list_any p (drop (suc i) ms) ≡ true
some_behind p ms i m serial ascend at passes some =
    some_kept p (drop (suc i) ms) serial (sym (next_kept p ms i m ascend at passes) ∙ some)

-- ---- the first that is left

pub first_left : (ms : List Message) (i serial : ℕ) → first_of (serials (drop i ms)) ≡ Some serial →
    (m : Message) × (slice_get ms i ≡ Some m) × (m.serial ≡ serial)
first_left [] zero serial at = absurd cc
first_left [] (suc i) serial at = absurd cc
first_left (m ∷ ms) zero serial at =
    let same : m.serial ≡ serial = cc in
    (m, refl, same)
first_left (m ∷ ms) (suc i) serial at = first_left ms i serial at

pub left_at : (ms : List Message) (i : ℕ) → slice_get (serials ms) i ≡ first_of (serials (drop i ms))
left_at [] zero = refl
left_at [] (suc i) = refl
left_at (m ∷ ms) zero = refl
left_at (m ∷ ms) (suc i) = left_at ms i

-- ---- types by their numbers

-- types from 1 on are the same exactly where their numbers are
injective : (a b : ℤ) → pos 1 ≤ℤ a → pos 1 ≤ℤ b → type_number a ≡ type_number b → a ≡ b
injective (negsuc m) b first second same = absurd (omega (arith, ints, first))
injective (pos m) (negsuc k) first second same = absurd (omega (arith, ints, second))
injective (pos m) (pos k) first second same =
    let one : m ≡ k = omega (arith, same) in
    ap pos one

pub same_number : (a b : ℤ) → pos 1 ≤ℤ a → pos 1 ≤ℤ b → (type_number a == type_number b) ≡ int_eq a b
same_number a b first second = by (int_eq a b) refl
  where
    by : (t : Bool) → int_eq a b ≡ t → (type_number a == type_number b) ≡ int_eq a b
    by true e =
        let same : a ≡ b = (Decides-int_eq a b).0 e in
        (Decides-eqb (type_number a) (type_number b)).1 (ap type_number same) ∙ sym e
    by false e = not_true (type_number a == type_number b) (λ numbers.
        let same : a ≡ b = injective a b first second (eqb-true (type_number a) (type_number b) numbers) in
        let clash : true ≡ false = sym ((Decides-int_eq a b).1 same) ∙ e in
        absurd cc) ∙ sym e
