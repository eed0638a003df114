-- What tests and searches say.
use Rattle.std.proofs.Common.{◌≡◌, ℕ, Bool, true, false, cond, List, [], ◌∷◌, Option, Some, None, ◌⊎◌, inl, inr, refl}
use Rattle.std.specs.Prelude.{option_map, option_and_then}
use Rattle.std.specs.List.{All, find, filter}
use Rattle.std.proofs.lemmas.Option.{same_Some}
use Rattle.std.proofs.lemmas.List.Elements.{All-head, All-tail}
use Rattle.queue_records.specs.bucket_page.declared.record_key.RecordKey.{RecordKey}

-- a test was true or false
pub by_test : {X : Type 0} (b : Bool) (x y o : X) → cond b x y ≡ o →
    ((b ≡ true) × (x ≡ o)) ⊎ ((b ≡ false) × (y ≡ o))
by_test true x y o e = inl (refl, e)
by_test false x y o e = inr (refl, e)

-- what stands on a test was let through by it
pub by_guard : {X : Type 0} (b : Bool) (o : Option X) (y : X) → cond b o None ≡ Some y → (b ≡ true) × (o ≡ Some y)
by_guard true o y e = (refl, e)
by_guard false o y e = absurd cc

-- what was made comes from something
pub mapped : {X Y : Type 0} (f : X → Y) (o : Option X) (y : Y) → option_map f o ≡ Some y →
    (x : X) × (o ≡ Some x) × (f x ≡ y)
mapped f None y e = absurd cc
mapped f (Some x) y e = (x, refl, same_Some (f x) y e)

pub chained : {X Y : Type 0} (f : X → Option Y) (o : Option X) (y : Y) → option_and_then f o ≡ Some y →
    (x : X) × (o ≡ Some x) × (f x ≡ Some y)
chained f None y e = absurd cc
chained f (Some x) y e = (x, refl, e)

-- a key is known by its parts
pub key_is : (key : RecordKey) (kind queue number : ℕ) → kind ≡ key.kind → queue ≡ key.queue → number ≡ key.number →
    record { kind = kind; queue = queue; number = number } ≡ key
key_is key kind queue number first second third =
    λ i. record { kind = first i; queue = second i; number = third i }

-- a search finds the same where only elements are left out that it passes over
pub find_filter : {X : Type 0} (p keep : X → Bool) (xs : List X) → All (λ (x : X). keep x ≡ false → p x ≡ false) xs →
    find p (filter keep xs) ≡ find p xs
find_filter p keep [] passes = refl
find_filter p keep (x ∷ xs) passes =
    at_head (keep x) refl (find_filter p keep xs (All-tail (λ y. keep y ≡ false → p y ≡ false) x xs passes))
  where
    at_head : (b : Bool) → keep x ≡ b → find p (filter keep xs) ≡ find p xs →
        find p (filter keep (x ∷ xs)) ≡ find p (x ∷ xs)
    at_head true kept rest = rw (kept, rest) refl
    at_head false kept rest =
        let over : p x ≡ false = All-head (λ y. keep y ≡ false → p y ≡ false) x xs passes kept in
        rw (kept, over) rest
