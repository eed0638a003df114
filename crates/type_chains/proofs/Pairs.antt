-- Pairs of elements of joined and made lists.
use Rattle.std.proofs.Common.{List, [], ◌∷◌, ◌++◌, map, get_or}
use Rattle.std.specs.List.{All, AllPairs, Contains, flat_map}
use Rattle.std.proofs.lemmas.List.Elements.{All-nil, All-head, All-tail, All-append, All-map, All-weaker, All-contains_itself}
use Rattle.std.proofs.lemmas.List.Kept.{AllPairs-cons}
use Rattle.type_chains.proofs.Unique.{pairs_head, pairs_tail, pairs_nil}

-- what each element on a list has, all have
pub all_of : {X : Type 0} (P : X → Type 0) (xs : List X) → ((x : X) → Contains xs x → P x) → All P xs
all_of P xs each = All-weaker (Contains xs) P each xs (All-contains_itself xs)

-- each element of one list has R to each of another
abbrev pub AllAcross : {X : Type 0} → (X → X → Type 0) → List X → List X → Type 0
AllAcross {X} R xs ys = All (λ (x : X). All (R x) ys) xs

pub pairs_append : {X : Type 0} (R : X → X → Type 0) (xs ys : List X) → AllPairs R xs → AllPairs R ys →
    AllAcross R xs ys → AllPairs R (xs ++ ys)
pairs_append R [] ys first second across = second
pairs_append R (x ∷ xs) ys first second across =
    AllPairs-cons R x (xs ++ ys)
    (All-append (R x) xs ys (pairs_head R x xs first) (All-head (λ x. All (R x) ys) x xs across))
    (pairs_append R xs ys (pairs_tail R x xs first) second (All-tail (λ x. All (R x) ys) x xs across))

pub pairs_map : {X Y : Type 0} (f : X → Y) (R : Y → Y → Type 0) (xs : List X) →
    AllPairs (λ (a b : X). R (f a) (f b)) xs → AllPairs R (map f xs)
pairs_map f R [] pairs = pairs_nil R
pairs_map f R (x ∷ xs) pairs =
    AllPairs-cons R (f x) (map f xs)
    (All-map (R (f x)) f xs (pairs_head (λ a b. R (f a) (f b)) x xs pairs))
    (pairs_map f R xs (pairs_tail (λ a b. R (f a) (f b)) x xs pairs))

pub All-flat_map : {X Y : Type 0} (P : Y → Type 0) (f : X → List Y) (xs : List X) → All (λ (x : X). All P (f x)) xs →
    All P (flat_map f xs)
All-flat_map P f [] all = All-nil P
All-flat_map P f (x ∷ xs) all =
    All-append P (f x) (flat_map f xs) (All-head (λ x. All P (f x)) x xs all)
    (All-flat_map P f xs (All-tail (λ x. All P (f x)) x xs all))

pub pairs_flat_map : {X Y : Type 0} (R : Y → Y → Type 0) (f : X → List Y) (xs : List X) →
    All (λ (x : X). AllPairs R (f x)) xs → AllPairs (λ (a b : X). AllAcross R (f a) (f b)) xs →
    AllPairs R (flat_map f xs)
pairs_flat_map R f [] each across = pairs_nil R
pairs_flat_map R f (x ∷ xs) each across =
    let heads = pairs_head (λ a b. AllAcross R (f a) (f b)) x xs across in
    pairs_append R (f x) (flat_map f xs) (All-head (λ x. AllPairs R (f x)) x xs each)
    (pairs_flat_map R f xs (All-tail (λ x. AllPairs R (f x)) x xs each)
    (pairs_tail (λ a b. AllAcross R (f a) (f b)) x xs across))
    (λ k d within. All-flat_map (R (get_or (f x) k d)) f xs
    (λ j e there. heads j e there k d within))
