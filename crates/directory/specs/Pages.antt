-- Pages of the directory as bytes: the one spelling of their entries, and which payloads have it.
use Rattle.std.specs.Prelude.{◌≡◌, ℕ, ◌-◌, ◌<◌, ◌^◌, Bool, ◌&&◌, List, ◌∷◌, ◌++◌, length, take, drop, Option, Some, None, if◌then◌else◌}
use Rattle.std.specs.List.{AllByRecursion}
use Rattle.page_device.specs.declared.page.TheConstants.{PAYLOAD_BYTES}
use Rattle.numbers.specs.Numbers.{is_zero, numbers_bytes, numbers_of, zeros}
use Rattle.directory.specs.declared.layout.TheConstants.{DIRECTORY, ENTRIES_BYTES, HEAD_BYTES, PAGE_ENTRIES}

-- entries that have a spelling
pub record IsDirectory (es : List ℕ) : Type 0 where
  pub number : length es ≡ PAGE_ENTRIES
  pub entries : AllByRecursion (λ e. e < 2 ^ 32) es

-- the payload that spells them
abbrev pub directory_bytes : List ℕ → List ℕ
directory_bytes es =
    DIRECTORY ∷ (zeros (HEAD_BYTES - 1) ++ (numbers_bytes es ++ zeros (PAYLOAD_BYTES - HEAD_BYTES - ENTRIES_BYTES)))

pub record SpellsDirectory (es payload : List ℕ) : Type 0 where
  pub in_range : IsDirectory es
  pub spelled : payload ≡ directory_bytes es

-- the bytes of the entries, and those after them
abbrev pub entries_area : List ℕ → List ℕ
entries_area bytes = take ENTRIES_BYTES (drop HEAD_BYTES bytes)

abbrev pub after_entries : List ℕ → List ℕ
after_entries bytes = drop ENTRIES_BYTES (drop HEAD_BYTES bytes)

-- the entries in so many bytes; unfoldable, so that no proof counts them out
unfoldable pub entries_of : List ℕ → List ℕ
entries_of bytes = numbers_of PAGE_ENTRIES bytes

abbrev pub entries_at : List ℕ → List ℕ
entries_at bytes = entries_of (entries_area bytes)

-- the payload is a directory page's
abbrev pub IsDirectoryPage : List ℕ → Type 0
IsDirectoryPage payload = SpellsDirectory (entries_at payload) payload

-- each byte that is neither a directory page's kind nor its entries is zero
abbrev pub has_entries_padding : List ℕ → Bool
has_entries_padding bytes = is_zero (take (HEAD_BYTES - 1) (drop 1 bytes)) && is_zero (after_entries bytes)

-- what is read of a payload of the right kind
abbrev pub entries_read : List ℕ → Option (List ℕ)
entries_read bytes = if has_entries_padding bytes then Some (entries_at bytes) else None
