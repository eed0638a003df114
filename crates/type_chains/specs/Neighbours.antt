-- What stands first, last, and beside a place of a list.
-- docs/FORMAT.md, "Records".
use Rattle.std.specs.Prelude.{ℕ, zero, suc, ◌-◌, Bool, List, length, Option, None, slice_get}
use Rattle.std.specs.List.{position_or_len}

-- the first element; none of an empty list
abbrev pub first_of : {X : Type 0} → List X → Option X
first_of xs = slice_get xs 0

-- the last element; none of an empty list
abbrev pub last_of : {X : Type 0} → List X → Option X
last_of xs = slice_get xs (length xs - 1)

-- the element before a place; none before the first
abbrev pub before_place : {X : Type 0} → List X → ℕ → Option X
before_place xs zero = None
before_place xs (suc place) = slice_get xs place

-- the element before the first that passes
abbrev pub before : {X : Type 0} → (X → Bool) → List X → Option X
before test xs = before_place xs (position_or_len test xs)

-- the element behind the first that passes; none behind the last
abbrev pub behind : {X : Type 0} → (X → Bool) → List X → Option X
behind test xs = slice_get xs (suc (position_or_len test xs))
