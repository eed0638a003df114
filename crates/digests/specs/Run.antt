-- Pages that follow one another, and are tested together.
use Rattle.std.specs.Prelude.{ℕ, ◌+◌, ◌<◌, List, [], length, slice_index_or}
use Rattle.page_device.specs.Sealed.{IsSealed}

-- each of the pages is sealed; they are numbered from first on
abbrev pub AreSealed : ℕ → List (List ℕ) → Type 0
AreSealed first pages = (i : ℕ) → i < length pages → IsSealed (first + i) (slice_index_or pages i [])
