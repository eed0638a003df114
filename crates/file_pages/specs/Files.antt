-- The pages of a pool as a hash file.
use Rattle.std.specs.Prelude.{ℕ, zero, suc, ◌^◌, ◌<◌, ◌≤◌, nat_lt, List, [], ◌∷◌, ◌++◌, length, slice_index_or, if◌then◌else◌}
use Rattle.page_device.specs.Sealed.{IsSealed}
use Rattle.buffer_pool.specs.Pool.{PoolState, IsAtRest}
use Rattle.bucket_page.specs.declared.page.PageKind.{PageKind}
use Rattle.bucket_page.specs.declared.page.PageKind.TheVariants as kinds
use Rattle.bucket_page.specs.Reading.{page_in}
use Rattle.bucket_page.specs.Spelling.{Spells}
use Rattle.directory.specs.declared.layout.TheConstants.{DIRECTORY_PAGES, FIRST_DIRECTORY_PAGE, GREATEST_DEPTH, ROOT_PAGE}
use Rattle.directory.specs.Entries.{page_of, entry_in}
use Rattle.directory.specs.Pages.{IsDirectoryPage}
use Rattle.directory.specs.Reading.{header_at}
use Rattle.buffer_pool.specs.Forms.{IsHeaderPage}
use Rattle.hash_file.specs.Store.{Store}

-- what stands at each place below n
abbrev pub listed : {X : Type 0} → ℕ → (ℕ → X) → List X
listed zero at = []
listed (suc n) at = listed n at ++ at n ∷ []

abbrev pub image : List (List ℕ) → ℕ → List ℕ
image images n = slice_index_or images n []

-- pages below the root are of the directory: as pages of the file they are one constant
abbrev pub kind_on : List (List ℕ) → ℕ → PageKind
kind_on images n = if nat_lt n ROOT_PAGE then kinds.Free 0 else page_in (image images n)

abbrev pub entry_on : List (List ℕ) → ℕ → ℕ
entry_on images i = entry_in (image images (page_of i)) i

unfoldable pub entries_of : List (List ℕ) → List ℕ
entries_of images = listed (2 ^ GREATEST_DEPTH) (entry_on images)

-- the file that these images spell; unfoldable, so that crates above see a store
unfoldable pub store_of : List (List ℕ) → Store
store_of images = record {
  layout = record { root = ROOT_PAGE; greatest = GREATEST_DEPTH };
  header = header_at (image images 0);
  entries = entries_of images;
  pages = listed (length images) (kind_on images);
}

-- the images spell a file
pub record SpellsFile (images : List (List ℕ)) : Type 0 where
  pub least : ROOT_PAGE < length images
  pub header : IsHeaderPage (image images 0)
  pub directory : (n : ℕ) → FIRST_DIRECTORY_PAGE ≤ n → n ≤ DIRECTORY_PAGES → IsDirectoryPage (image images n)
  pub spelled : (n : ℕ) → ROOT_PAGE ≤ n → n < length images → Spells (page_in (image images n)) (image images n)

-- the pool of an honest device, of which each page is sealed, and which spells a file
pub record IsFilePool (s : PoolState) : Type 0 where
  pub file : SpellsFile s.images
  pub sealed : (n : ℕ) → n < length s.images → IsSealed n (slice_index_or s.stored n [])

-- the most pages that a step pins
abbrev pub MOST_PINS : ℕ
MOST_PINS = 4

-- no page is pinned, and there are frames enough for a step
pub record IsReady (s : PoolState) : Type 0 where
  pub rest : IsAtRest s
  pub frames : MOST_PINS ≤ s.frames
