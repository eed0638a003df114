-- What can be read of a file, and what is told of its pages (docs/SCRIPTS.md, "What is salvaged").
use Rattle.std.specs.Prelude.{◌≡◌, ℕ, zero, suc, ◌<◌, List, length, ⊤}
use Rattle.bucket_page.specs.declared.page.PageKind.{PageKind}
use Rattle.bucket_page.specs.Spelling.{Spells}
use Rattle.directory.specs.declared.header.Header.{Header}
use Rattle.directory.specs.declared.layout.TheConstants.{LAYOUT}
use Rattle.directory.specs.declared.read.HeaderFault.TheVariants as headers
use Rattle.directory.specs.Spelling.{SpellsHeader}
use Rattle.file_walk.specs.Files.{page_on, payload_on}
use Rattle.file_walk.specs.Order.{IsRefusedIn}
use Rattle.page_device.specs.Sealed.{IsSealed}
use Rattle.migration.specs.declared.salvage_fault.SalvageFault.{SalvageFault}
use Rattle.migration.specs.declared.salvage_fault.SalvageFault.TheVariants as faults

-- a payload is the header on page 0, and a bucket, a page of the directory, a tombstone or a free page on another
abbrev pub IsPageAt : ℕ → List ℕ → Type 0
IsPageAt zero payload = (header : Header) × SpellsHeader header payload
IsPageAt (suc n) payload = (page : PageKind) × Spells page payload

-- a page has its digest, and is one of such a file
pub record IsReadable (content : List (List ℕ)) (n : ℕ) : Type 0 where
  pub within : n < length content
  pub sealed : IsSealed n (page_on content n)
  pub spelled : IsPageAt n (payload_on content n)

-- what is told of the pages is so, but for those of which a transfer failed
abbrev pub IsToldOfPages : List (List ℕ) → (Failed Wrong : Type 0) → SalvageFault → Type 0
IsToldOfPages content Failed Wrong faults.NoPage = length content ≡ 0
IsToldOfPages content Failed Wrong faults.Unread = (n : ℕ) → IsReadable content n → Failed
IsToldOfPages content Failed Wrong faults.BadVersion = IsRefusedIn LAYOUT content headers.BadVersion
IsToldOfPages content Failed Wrong faults.Unlawful = Wrong
IsToldOfPages content Failed Wrong fault = ⊤
