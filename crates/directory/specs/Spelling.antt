-- The one spelling of each header, and which headers have one.
use Rattle.std.specs.Prelude.{◌≡◌, ℕ, ◌-◌, ◌≤◌, ◌<◌, ◌^◌, List, ◌∷◌, ◌++◌, length, slice_index}
use Rattle.std.specs.List.{AllByRecursion}
use Rattle.page_device.specs.declared.page.TheConstants.{MAX_PAGES, PAYLOAD_BYTES}
use Rattle.directory.specs.declared.layout.Layout.{Layout}
use Rattle.directory.specs.declared.layout.TheConstants.{HEADER, HEADER_BYTES, LAYOUT, LOCAL_DEPTHS, MAGIC}
use Rattle.directory.specs.declared.header.Header.{Header}
use Rattle.directory.specs.Layouts.{least_pages}
use Rattle.numbers.specs.Numbers.{four, numbers_bytes, zeros}

-- the payload that spells a header in a layout; the counts that a shorter layout lacks are zero, as its padding is
abbrev pub bytes_in : Layout → Header → List ℕ
bytes_in l h =
    HEADER ∷ l.version ∷ h.depth ∷ 0
    ∷ (MAGIC
    ++ (four h.pages
    ++ (four h.first_free ++ (numbers_bytes h.counts ++ zeros (PAYLOAD_BYTES - HEADER_BYTES)))))

-- numbers of four bytes, and a count for each local depth
pub record FitsBytes (h : Header) : Type 0 where
  pub pages : h.pages < 2 ^ 32
  pub first_free : h.first_free < 2 ^ 32
  pub local_depths : length h.counts ≡ LOCAL_DEPTHS
  pub counts : AllByRecursion (λ n. n < 2 ^ 32) h.counts

-- a header that has a spelling in a layout
pub record IsHeaderIn (l : Layout) (h : Header) : Type 0 where
  pub depth : h.depth ≤ l.greatest_depth
  pub least : least_pages l ≤ h.pages
  pub most : h.pages ≤ MAX_PAGES
  pub numbers : FitsBytes h
  -- no bucket has a local depth that the layout lacks
  pub lacks : (depth : ℕ) → l.local_depths ≤ depth → depth < LOCAL_DEPTHS → slice_index h.counts depth ≡ 0

-- the payload is the spelling of this header in a layout
pub record SpellsIn (l : Layout) (h : Header) (payload : List ℕ) : Type 0 where
  pub in_range : IsHeaderIn l h
  pub spelled : payload ≡ bytes_in l h

-- ---- today's layout

abbrev pub header_bytes : Header → List ℕ
header_bytes = bytes_in LAYOUT

abbrev pub IsHeader : Header → Type 0
IsHeader = IsHeaderIn LAYOUT

abbrev pub SpellsHeader : Header → List ℕ → Type 0
SpellsHeader = SpellsIn LAYOUT
