-- A file without its records, as it is kept while it is walked.
use Rattle.std.specs.Prelude.{◌≡◌, ℕ, ◌<◌, ◌≤◌, ◌^◌, true, List, [], length, map, take, replicate}
use Rattle.page_device.specs.declared.page.TheConstants.{MAX_PAGES}
use Rattle.directory.specs.declared.layout.Layout.{Layout}
use Rattle.directory.specs.declared.layout.TheConstants.{GREATEST_DEPTH, LOCAL_DEPTHS}
use Rattle.directory.specs.Layouts.{IsLayout, least_pages}
use Rattle.directory.specs.declared.header.Header.{Header}
use Rattle.bucket_page.specs.declared.page.PageKind.{PageKind}
use Rattle.bucket_page.specs.declared.page.PageKind.TheVariants as kinds
use Rattle.bucket_page.specs.Bucket.{Bucket, bucket}
use Rattle.hash_file.specs.Store.{Store, range_of, page_at, has_bucket, bucket_at, next_at, IsFreePage}
use Rattle.hash_file.specs.declared.page.Shape.{Shape}
use Rattle.file_walk.specs.declared.form.Form.{Form}
use Rattle.file_walk.specs.declared.form.Form.TheVariants as forms
use Rattle.file_walk.specs.Files.{layout_in}

-- a bucket without its records
abbrev pub shape_of_bucket : Bucket → Shape
shape_of_bucket b = record { range = range_of b; next = b.next }

-- the page that a form shows
abbrev pub shown : Form → PageKind
shown (forms.Bucket shape) = kinds.Bucket (bucket shape.range.depth shape.range.pattern shape.next [])
shown (forms.Free next) = kinds.Free next
shown (forms.Tombstone left) = kinds.Tombstone left
shown forms.Other = kinds.Directory []

-- a page without its records; of a directory page nothing is kept
abbrev pub bare : PageKind → PageKind
bare (kinds.Bucket b) = kinds.Bucket (record b { records = [] })
bare (kinds.Free next) = kinds.Free next
bare (kinds.Directory es) = kinds.Directory []
bare (kinds.Tombstone link) = kinds.Tombstone link

-- a file without records, and without entries at or above 2^depth, which nothing reads
abbrev pub outlined : Store → Store
outlined s = record s { entries = take (2 ^ s.header.depth) s.entries; pages = map bare s.pages }

-- the file that is shown by what is kept of it
abbrev pub shown_in : Layout → Header → List ℕ → List Form → Store
shown_in l header entries fs =
    record { layout = layout_in l; header = header; entries = entries; pages = map shown fs }

-- what is kept is of one file
pub record IsOutlineIn (l : Layout) (header : Header) (entries : List ℕ) (fs : List Form) : Type 0 where
  pub layout : IsLayout l
  pub depth : header.depth ≤ l.greatest_depth
  pub counts : length header.counts ≡ LOCAL_DEPTHS
  pub least : least_pages l ≤ header.pages
  pub most : header.pages ≤ MAX_PAGES
  pub below : length entries ≡ 2 ^ header.depth
  pub pages : length fs ≡ header.pages
  -- no bucket stands below the root
  pub low : take l.root_page fs ≡ replicate l.root_page forms.Other

-- what each outline shows
pub record IsOutlined (s : Store) : Type 0 where
  pub greatest : s.layout.greatest ≤ GREATEST_DEPTH
  pub depth : s.header.depth ≤ s.layout.greatest
  pub counts : length s.header.counts ≡ LOCAL_DEPTHS
  pub entries : length s.entries ≡ 2 ^ s.header.depth
  pub pages : length s.pages ≡ s.header.pages
  pub least : s.layout.root < s.header.pages
  pub most : s.header.pages ≤ MAX_PAGES
  -- nothing is kept of the pages below the root
  pub low : (n : ℕ) → n < s.layout.root → page_at s n ≡ kinds.Directory []

-- ---- what is read of it

-- this is kept of page n
pub record IsKeptAt (s : Store) (n : ℕ) (form : Form) : Type 0 where
  pub within : n < length s.pages
  pub kept : page_at s n ≡ shown form

-- page n is a bucket of this shape
pub record IsBucketAt (s : Store) (n : ℕ) (shape : Shape) : Type 0 where
  pub within : n < length s.pages
  pub live : has_bucket s n ≡ true
  pub shaped : shape ≡ shape_of_bucket (bucket_at s n)

-- page n of the file is free, and this is the next
pub record IsFreeAt (s : Store) (n next : ℕ) : Type 0 where
  pub within : n < length s.pages
  pub free : IsFreePage s n
  pub next_is : next ≡ next_at s n
