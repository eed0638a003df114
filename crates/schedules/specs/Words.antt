-- The words of a line. docs/SCRIPTS.md, "Lines and words".
use Rattle.std.specs.Prelude.{ℕ, Bool, not, ◌||◌, ◌==◌, List, length, map}
use Rattle.std.specs.Borrow.{Bor}
use Rattle.std.specs.List.{filter, slice_split}

-- a space or a tab
abbrev pub is_blank : ℕ → Bool
is_blank byte = byte == 32 || byte == 9

-- the parts that are not empty
abbrev pub filled : List (List ℕ) → List (List ℕ)
filled parts = filter (λ part. not (length part == 0)) parts

-- what stands between blanks
abbrev pub words_of : List ℕ → List (List ℕ)
words_of text = filled (slice_split is_blank text)

-- the bytes behind references
abbrev pub texts : List (Bor (List ℕ)) → List (List ℕ)
texts words = map (λ word. word.now) words
