-- The order in which the structure of a file is tested. The first test that fails names the fault.
use Rattle.std.specs.Prelude.{◌≡◌, ◌⊎◌, ℕ, ◌<◌, ◌≤◌, nat_lt, Bool, true, false, List, length, Option, Some, None, Result, Ok, Err, IsErrOf, if◌then◌else◌, ⊤}
use Rattle.page_device.specs.Device.{HasRisen}
use Rattle.page_device.specs.Sealed.{IsSealed}
use Rattle.directory.specs.declared.layout.Layout.{Layout}
use Rattle.directory.specs.declared.layout.TheConstants.{FIRST_DIRECTORY_PAGE, LAYOUT}
use Rattle.directory.specs.declared.read.HeaderFault.{HeaderFault}
use Rattle.directory.specs.declared.read.HeaderFault.TheVariants as headers
use Rattle.directory.specs.Reading as header
use Rattle.directory.specs.Spelling.{IsHeaderIn, bytes_in}
use Rattle.bucket_page.specs.declared.page.Malformed.{Malformed}
use Rattle.bucket_page.specs.declared.page.Malformed.TheVariants as reasons
use Rattle.bucket_page.specs.declared.page.PageKind.{PageKind}
use Rattle.bucket_page.specs.declared.page.PageKind.TheVariants as kinds
use Rattle.bucket_page.specs.Reading.{fault_of}
use Rattle.bucket_page.specs.Spelling.{Spells}
use Rattle.file_walk.specs.declared.fault.StructureFault.{StructureFault}
use Rattle.file_walk.specs.declared.fault.StructureFault.TheVariants as faults
use Rattle.file_walk.specs.Files.{page_on, payload_on, said_on, header_on}

-- what reading page n tells: there is none, or it is not sealed
abbrev pub IsUnread : List (List ℕ) → ℕ → StructureFault → Type 0
IsUnread content n fault =
    ((fault ≡ faults.PastEnd) × (length content ≤ n))
    ⊎ ((fault ≡ faults.BadDigest n) × (n < length content) × (IsSealed n (page_on content n) → ⊥))

-- ---- 1: page 0

-- page 0 is the header of a file of so many pages
pub record HasHeaderIn (l : Layout) (content : List (List ℕ)) : Type 0 where
  pub sealed : IsSealed 0 (page_on content 0)
  pub read : header.reading_in l (payload_on content 0) ≡ Ok (header_on content)
  pub in_range : IsHeaderIn l (header_on content)
  pub spelled : payload_on content 0 ≡ bytes_in l (header_on content)
  pub as_many : (header_on content).pages ≡ length content

-- the header tells of more pages than there are
pub record IsCutIn (l : Layout) (content : List (List ℕ)) : Type 0 where
  pub sealed : IsSealed 0 (page_on content 0)
  pub read : header.reading_in l (payload_on content 0) ≡ Ok (header_on content)
  pub more : length content < (header_on content).pages

-- the header tells of fewer pages than there are
pub record IsTooLongIn (l : Layout) (content : List (List ℕ)) : Type 0 where
  pub sealed : IsSealed 0 (page_on content 0)
  pub read : header.reading_in l (payload_on content 0) ≡ Ok (header_on content)
  pub fewer : (header_on content).pages < length content

-- page 0 is sealed, and reading it answers this
pub record IsRefusedIn (l : Layout) (content : List (List ℕ)) (fault : HeaderFault) : Type 0 where
  pub sealed : IsSealed 0 (page_on content 0)
  pub read : header.reading_in l (payload_on content 0) ≡ Err fault

-- what is wrong with page 0, or with the number of pages
abbrev pub IsHeaderFaultIn : Layout → List (List ℕ) → StructureFault → Type 0
IsHeaderFaultIn l content (faults.BadDigest page) =
    (page ≡ 0) × (0 < length content) × (IsSealed 0 (page_on content 0) → ⊥)
IsHeaderFaultIn l content faults.PastEnd = (length content ≡ 0) ⊎ IsCutIn l content
IsHeaderFaultIn l content faults.BadHeader = IsRefusedIn l content headers.BadHeader ⊎ IsTooLongIn l content
IsHeaderFaultIn l content faults.BadVersion = IsRefusedIn l content headers.BadVersion
IsHeaderFaultIn l content fault = ⊥

-- ---- 2: the other pages

abbrev pub is_directory : PageKind → Bool
is_directory (kinds.Directory es) = true
is_directory page = false

-- whether a page of this kind may have this number: those of the directory stand below the root bucket
abbrev pub may_stand_in : Layout → ℕ → PageKind → Bool
may_stand_in l n page = if nat_lt n l.root_page then is_directory page else (if is_directory page then false else true)

-- what is wrong with the payload of page n
abbrev pub after_reading : Option Malformed → Bool → Option Malformed
after_reading (Some reason) stands = Some reason
after_reading None stands = if stands then None else Some reasons.Kind

abbrev pub standing_in : Layout → List (List ℕ) → ℕ → Option Malformed
standing_in l content n = after_reading (fault_of (payload_on content n)) (may_stand_in l n (said_on content n))

-- the local depth of a bucket
abbrev pub depth_of : PageKind → ℕ
depth_of (kinds.Bucket b) = b.depth
depth_of page = 0

-- last, its bucket is deeper than those of the layout
abbrev pub after_standing : Option Malformed → Bool → Option Malformed
after_standing (Some reason) deeper = Some reason
after_standing None deeper = if deeper then Some reasons.Depth else None

abbrev pub malformed_in : Layout → List (List ℕ) → ℕ → Option Malformed
malformed_in l content n =
    after_standing (standing_in l content n) (nat_lt l.greatest_depth (depth_of (said_on content n)))

-- page n is sealed, and its payload spells a page that may stand there
pub record IsRightPageIn (l : Layout) (content : List (List ℕ)) (n : ℕ) : Type 0 where
  pub sealed : IsSealed n (page_on content n)
  pub formed : standing_in l content n ≡ None
  pub shallow : depth_of (said_on content n) ≤ l.greatest_depth
  pub spelled : Spells (said_on content n) (payload_on content n)

abbrev pub AreRightIn : Layout → List (List ℕ) → ℕ → ℕ → Type 0
AreRightIn l content from to = (n : ℕ) → from ≤ n → n < to → IsRightPageIn l content n

-- what is wrong with page n
abbrev pub IsFaultIn : Layout → List (List ℕ) → ℕ → StructureFault → Type 0
IsFaultIn l content n (faults.BadDigest page) = (page ≡ n) × (IsSealed n (page_on content n) → ⊥)
IsFaultIn l content n (faults.Malformed page reason) =
    (page ≡ n) × IsSealed n (page_on content n) × (malformed_in l content n ≡ Some reason)
IsFaultIn l content n fault = ⊥

-- the first page from here on that is not right, and what is wrong with it
pub record IsFirstWrongIn (l : Layout) (content : List (List ℕ)) (from : ℕ) (fault : StructureFault) : Type 0 where
  pub page : ℕ
  pub behind : from ≤ page
  pub within : page < length content
  pub before : AreRightIn l content from page
  pub wrong : IsFaultIn l content page fault

-- ---- what the machine lacks

-- a transfer failed, or a growth was refused: nothing is said of the file
abbrev pub IsOfMachine : StructureFault → Type 0
IsOfMachine faults.Device = ⊤
IsOfMachine faults.NoMemory = ⊤
IsOfMachine fault = ⊥

-- a growth was refused
abbrev pub LacksMemory : StructureFault → Type 0
LacksMemory faults.NoMemory = ⊤
LacksMemory fault = ⊥

-- the count of failed transfers never falls, and `Device` comes only where it rose or can't rise
pub record HasReadCause {T : Type 0} (old new : ℕ) (result : Result T StructureFault) : Type 0 where
  pub later : old ≤ new
  pub failed : IsErrOf result faults.Device → HasRisen old new

-- what reading the pages may find
abbrev pub IsReadingFaultIn : Layout → List (List ℕ) → StructureFault → Type 0
IsReadingFaultIn l content fault =
    IsOfMachine fault ⊎ (IsHeaderFaultIn l content fault ⊎
    (HasHeaderIn l content × IsFirstWrongIn l content FIRST_DIRECTORY_PAGE fault))

-- ---- today's layout

abbrev pub HasHeader : List (List ℕ) → Type 0
HasHeader = HasHeaderIn LAYOUT

abbrev pub may_stand : ℕ → PageKind → Bool
may_stand = may_stand_in LAYOUT

abbrev pub IsRightPage : List (List ℕ) → ℕ → Type 0
IsRightPage = IsRightPageIn LAYOUT

abbrev pub AreRight : List (List ℕ) → ℕ → ℕ → Type 0
AreRight = AreRightIn LAYOUT
