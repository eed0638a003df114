-- What the elements of a list have, those have that a search, a filter or a place gives; and the ascending types.
use Rattle.std.proofs.Common.{◌≡◌, ℕ, zero, suc, ◌≤◌, ℤ, Bool, true, false, cond, List, [], ◌∷◌, length, map, refl, ap, ◌∙◌, subst, arith}
use Rattle.std.specs.Prelude.{IfSome, int_lt, slice_get}
use Rattle.std.specs.List.{All, Contains, filter, fold}
use Rattle.std.specs.Ordering.{int_eq}
use Rattle.std.proofs.lemmas.List.Elements.{All-head, All-tail, All-cons}
use Rattle.queue_model.specs.declared.message.Message.{Message}
use Rattle.type_chains.specs.Lists.{with_type}
use Rattle.type_chains.specs.Neighbours.{before_place}

-- what all have, the one at a place has, where there is one
pub IfSome-slice_get : {X : Type 0} (P : X → Type 0) (xs : List X) (i : ℕ) → All P xs → IfSome (slice_get xs i) P
IfSome-slice_get P [] i all = tt
IfSome-slice_get P (x ∷ xs) zero all = All-head P x xs all
IfSome-slice_get P (x ∷ xs) (suc i) all = IfSome-slice_get P xs i (All-tail P x xs all)

pub IfSome-before_place : {X : Type 0} (P : X → Type 0) (xs : List X) (place : ℕ) → All P xs →
    IfSome (before_place xs place) P
IfSome-before_place P xs zero all = tt
IfSome-before_place P xs (suc place) all = IfSome-slice_get P xs place all

-- what the images of all have, that of one on the list has
pub image_has : {X : Type 0} (f : X → ℕ) (P : ℕ → Type 0) (xs : List X) (x : X) → All P (map f xs) → Contains xs x
    → P (f x)
image_has f P [] x all (k, within, at) = absurd (omega (arith, within))
image_has f P (y ∷ ys) x all (zero, within, at) = subst (λ z. P (f z)) at (All-head P (f y) (map f ys) all)
image_has f P (y ∷ ys) x all (suc k, within, at) =
    image_has f P ys x (All-tail P (f y) (map f ys) all) (k, omega (arith, within), at)

-- a filter keeps an element that passes, so it is not empty
pub filter_holds : {X : Type 0} (p : X → Bool) (xs : List X) (x : X) → Contains xs x → p x ≡ true →
    1 ≤ length (filter p xs)
filter_holds p [] x (k, within, at) passes = absurd (omega (arith, within))
filter_holds p (y ∷ ys) x (zero, within, at) passes =
    let kept : p y ≡ true = ap p at ∙ passes in
    rw kept (omega arith)
filter_holds p (y ∷ ys) x (suc k, within, at) passes =
    by (p y) refl (filter_holds p ys x (k, omega (arith, within), at) passes)
  where
    by : (b : Bool) → p y ≡ b → 1 ≤ length (filter p ys) → 1 ≤ length (filter p (y ∷ ys))
    by true e later = rw e (omega arith)
    by false e later = rw e later

pub All-cond : {X : Type 0} (P : X → Type 0) (b : Bool) (xs ys : List X) → All P xs → All P ys → All P (cond b xs ys)
All-cond P true xs ys first second = first
All-cond P false xs ys first second = second

-- what ascending types and one more have, they have together
pub All-with_type : (P : ℤ → Type 0) (ts : List ℤ) (t : ℤ) → All P ts → P t → All P (with_type ts t)
All-with_type P [] t all p = All-cons P t [] p all
All-with_type P (u ∷ us) t all p =
    All-cond P (int_lt t u) (t ∷ u ∷ us) _ (All-cons P t (u ∷ us) p all)
    (All-cond P (int_eq t u) (u ∷ us) (u ∷ with_type us t) all
    (All-cons P u (with_type us t) (All-head P u us all) (All-with_type P us t (All-tail P u us all) p)))

-- what the types of all messages have, each of the list of types has
pub All-types : (P : ℤ → Type 0) (ts : List ℤ) (ms : List Message) → All P ts → All (λ (m : Message). P m.mtype) ms →
    All P (fold (λ (ts : List ℤ) (m : Message). with_type ts m.mtype) ts ms)
All-types P ts [] begun all = begun
All-types P ts (m ∷ ms) begun all =
    All-types P (with_type ts m.mtype) ms
    (All-with_type P ts m.mtype begun (All-head (λ (m : Message). P m.mtype) m ms all))
    (All-tail (λ (m : Message). P m.mtype) m ms all)
