-- Where no two elements pass a test, the one that passes is found; and which lists have no two such elements.
use Rattle.std.proofs.Common.{◌≡◌, ℕ, zero, suc, ℤ, pos, negsuc, ◌<ℤ◌, ◌≤ℤ◌, Bool, true, false, cond, List, [], ◌∷◌, map, Option, Some, None, refl, ap, ◌∙◌, subst, get_or, arith}
use Rattle.std.specs.Prelude.{◌≢◌, int_lt}
use Rattle.std.specs.List.{All, AllPairs, Contains, find, fold}
use Rattle.std.specs.Ordering.{int_eq}
use Rattle.std.proofs.lemmas.Bool.{eqb-true}
use Rattle.std.proofs.lemmas.Bool.Decides.{Decides-int_eq, not_from_Decides}
use Rattle.std.proofs.lemmas.Int.{ints}
use Rattle.std.proofs.lemmas.List.{get_or-map, length-map}
use Rattle.std.proofs.lemmas.List.Elements.{All-nil, All-cons, All-weaker}
use Rattle.std.proofs.lemmas.List.Kept.{AllPairs-cons}
use Rattle.queue_model.specs.declared.message.Message.{Message}
use Rattle.queue_model.specs.Rules.{is_key}
use Rattle.queue_records.specs.Fields.{type_number}
use Rattle.type_chains.specs.Lists.{with_type, types}
use Rattle.type_chains.proofs.Elements.{All-with_type}

-- no two elements pass
abbrev pub PassesOnce : {X : Type 0} → (X → Bool) → List X → Type 0
PassesOnce {X} p xs = AllPairs (λ (a b : X). p a ≡ true → p b ≡ true → ⊥) xs

not_true : (b : Bool) → (b ≡ true → ⊥) → b ≡ false
not_true true never = absurd (never refl)
not_true false never = refl

pub pairs_tail : {X : Type 0} (R : X → X → Type 0) (x : X) (xs : List X) → AllPairs R (x ∷ xs) → AllPairs R xs
pairs_tail R x xs pairs i j d before within = pairs (suc i) (suc j) d (omega (arith, before)) (omega (arith, within))

pub pairs_head : {X : Type 0} (R : X → X → Type 0) (x : X) (xs : List X) → AllPairs R (x ∷ xs) → All (R x) xs
pairs_head R x xs pairs k d within = pairs 0 (suc k) d (omega arith) (omega (arith, within))

pub pairs_nil : {X : Type 0} (R : X → X → Type 0) → AllPairs R []
pairs_nil R i j d before within = absurd (omega (arith, within))

-- what pairs of images have
pub pairs_unmap : {X Y : Type 0} (f : X → Y) (R : Y → Y → Type 0) (xs : List X) → AllPairs R (map f xs) →
    AllPairs (λ (a b : X). R (f a) (f b)) xs
pairs_unmap f R xs pairs i j d before within =
    let long = length-map xs f in
    let one = get_or-map f xs i d (f d) (omega (arith, before, within)) in
    let two = get_or-map f xs j d (f d) within in
    subst (λ y. R (f (get_or xs i d)) y) two
    (subst (λ y. R y (get_or (map f xs) j (f d))) one (pairs i j (f d) before (omega (arith, within, long))))

-- the one element that passes is found
pub find_one : {X : Type 0} (p : X → Bool) (xs : List X) (x : X) → Contains xs x → p x ≡ true → PassesOnce p xs →
    find p xs ≡ Some x
find_one p [] x (k, within, at) passes once = absurd (omega (arith, within))
find_one p (y ∷ ys) x (zero, within, at) passes once =
    let here : p y ≡ true = ap p at ∙ passes in
    rw here (ap Some at)
find_one {X} p (y ∷ ys) x (suc k, within, at) passes once =
    let over : p y ≡ false = not_true (p y)
    (λ first. once zero (suc k) x (omega arith) within first (ap p at ∙ passes)) in
    rw over (find_one p ys x (k, omega (arith, within), at) passes
    (pairs_tail (λ (a b : X). p a ≡ true → p b ≡ true → ⊥) y ys once))

-- a queue found by a key has it
pub key_has : (k : ℕ) (has : Option ℕ) → is_key k has ≡ true → has ≡ Some k
key_has k None it = absurd cc
key_has k (Some j) it = ap Some (eqb-true j k it)

-- ---- types ascend

pub cond_with : {X : Type 0} (P : X → Type 0) (b : Bool) (x y : X) → (b ≡ true → P x) → (b ≡ false → P y)
    → P (cond b x y)
cond_with P true x y first second = first refl
cond_with P false x y first second = second refl

above : (t u : ℤ) → int_lt t u ≡ false → int_eq t u ≡ false → u <ℤ t
above t u no_less no_same =
    let least : u ≤ℤ t = grind (arith, ints, no_less) in
    let apart : t ≢ u = not_from_Decides (int_eq t u) (Decides-int_eq t u) no_same in
    grind (arith, ints, least, apart)

ascend_with : (ts : List ℤ) (t : ℤ) → AllPairs (λ (a b : ℤ). a <ℤ b) ts
    → AllPairs (λ (a b : ℤ). a <ℤ b) (with_type ts t)
ascend_with [] t ascend = AllPairs-cons (λ (a b : ℤ). a <ℤ b) t [] (All-nil (λ (b : ℤ). t <ℤ b)) ascend
ascend_with (u ∷ us) t ascend =
    let higher = pairs_head (λ (a b : ℤ). a <ℤ b) u us ascend in
    let rest = ascend_with us t (pairs_tail (λ (a b : ℤ). a <ℤ b) u us ascend) in
    cond_with (λ (ts : List ℤ). AllPairs (λ (a b : ℤ). a <ℤ b) ts) (int_lt t u) (t ∷ u ∷ us) _
    (λ less. let below : t <ℤ u = grind (arith, ints, less) in
    AllPairs-cons (λ (a b : ℤ). a <ℤ b) t (u ∷ us)
    (All-cons (λ (b : ℤ). t <ℤ b) u us below
    (All-weaker (λ (b : ℤ). u <ℤ b) (λ (b : ℤ). t <ℤ b) (λ b h. omega (arith, ints, below, h)) us higher))
    ascend)
    (λ no_less. cond_with (λ (ts : List ℤ). AllPairs (λ (a b : ℤ). a <ℤ b) ts) (int_eq t u) (u ∷ us)
    (u ∷ with_type us t)
    (λ same. ascend)
    (λ no_same. AllPairs-cons (λ (a b : ℤ). a <ℤ b) u (with_type us t)
    (All-with_type (λ (b : ℤ). u <ℤ b) us t higher (above t u no_less no_same)) rest))

ascend_all : (ts : List ℤ) (ms : List Message) → AllPairs (λ (a b : ℤ). a <ℤ b) ts →
    AllPairs (λ (a b : ℤ). a <ℤ b) (fold (λ (ts : List ℤ) (m : Message). with_type ts m.mtype) ts ms)
ascend_all ts [] ascend = ascend
ascend_all ts (m ∷ ms) ascend = ascend_all (with_type ts m.mtype) ms (ascend_with ts m.mtype ascend)

pub types_ascend : (ms : List Message) → AllPairs (λ (a b : ℤ). a <ℤ b) (types ms)
types_ascend ms = ascend_all [] ms (pairs_nil (λ (a b : ℤ). a <ℤ b))

-- types from 1 on are told apart by their numbers
pub numbers_apart : (a b : ℤ) (n : ℕ) → pos 1 ≤ℤ a → pos 1 ≤ℤ b → a <ℤ b → type_number a ≡ n → type_number b ≡ n → ⊥
numbers_apart (negsuc m) b n first second less one two = absurd (omega (arith, ints, first))
numbers_apart (pos m) (negsuc k) n first second less one two = absurd (omega (arith, ints, second))
numbers_apart (pos m) (pos k) n first second less one two = omega (arith, ints, less, one, two)
