-- Which pages of the directory may be written.
use Rattle.std.specs.Prelude.{◌≡◌, ℕ, ◌-◌, ◌<◌, ◌≤◌, ◌^◌, true, List}
use Rattle.directory.specs.declared.range.Range.{Range}
use Rattle.directory.specs.declared.layout.TheConstants.{DIRECTORY_PAGES, FIRST_DIRECTORY_PAGE, GREATEST_DEPTH}
use Rattle.directory.specs.Entries.{is_upper, page_of}
use Rattle.hash_file.specs.Store.{Store}
use Rattle.file_pages.specs.Files.{image, store_of}

-- the page is one of the directory, which may grow
pub record MayCopy (page : ℕ) (s : Store) : Type 0 where
  pub first : FIRST_DIRECTORY_PAGE ≤ page
  pub last : page ≤ DIRECTORY_PAGES
  pub shallow : s.header.depth < GREATEST_DEPTH

-- the page is one of the directory, and a bucket may have the range
pub record MayRetarget (page : ℕ) (range : Range) : Type 0 where
  pub first : FIRST_DIRECTORY_PAGE ≤ page
  pub last : page ≤ DIRECTORY_PAGES
  pub shallow : range.depth ≤ GREATEST_DEPTH

-- the directory has this depth, and this page has the entries of the lower half that are copied onto a page
pub record IsLowerHalf (page depth : ℕ) (lower : List ℕ) (images : List (List ℕ)) : Type 0 where
  pub is_depth : depth ≡ (store_of images).header.depth
  pub stands : (i : ℕ) → page_of i ≡ page → is_upper depth i ≡ true → image images (page_of (i - 2 ^ depth)) ≡ lower
