-- Payloads that spell a page of a file, and those of each kind (docs/FORMAT.md, "Pages").
use Rattle.std.specs.Prelude.{ℕ, ◌⊎◌, List}
use Rattle.bucket_page.specs.numbers.Numbers.{four_at}
use Rattle.bucket_page.specs.declared.page.PageKind.TheVariants as kinds
use Rattle.bucket_page.specs.Reading.{page_in}
use Rattle.bucket_page.specs.Spelling.{Spells, bytes_of}
use Rattle.bucket_page.specs.directory.Reading.{header_at}
use Rattle.bucket_page.specs.directory.Spelling.{SpellsHeader}

-- the payload is a header's
abbrev pub IsHeaderPage : List ℕ → Type 0
IsHeaderPage bytes = SpellsHeader (header_at bytes) bytes

-- a tombstone's
abbrev pub IsTombstonePage : List ℕ → Type 0
IsTombstonePage bytes = Spells (kinds.Tombstone (four_at 4 bytes)) bytes

-- a free page's
abbrev pub IsFreePage : List ℕ → Type 0
IsFreePage bytes = Spells (kinds.Free (four_at 4 bytes)) bytes

-- the payload spells a page, whatever the page's number is
abbrev pub IsWell : List ℕ → Type 0
IsWell bytes = Spells (page_in bytes) bytes ⊎ IsHeaderPage bytes

-- a free page behind which there is none
abbrev pub blank_page : List ℕ
blank_page = bytes_of (kinds.Free 0)
