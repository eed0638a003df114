-- Lemmas that other crates name, in today's layout.
use Rattle.std.proofs.Common.{ℕ, ◌≡◌, ◌<◌, ◌≤◌, Bool, true, List, length, get_or, None, Err, arith}
use Rattle.std.specs.List.{Contains}
use Rattle.directory.proofs.HeaderLaws.{is_today}
use Rattle.directory.specs.declared.layout.TheConstants.{GREATEST_DEPTH, LAYOUT, ROOT_PAGE}
use Rattle.bucket_page.specs.declared.page.Malformed.{Malformed}
use Rattle.bucket_page.specs.declared.page.PageKind.{PageKind}
use Rattle.bucket_page.specs.declared.record_key.RecordKey.{RecordKey}
use Rattle.bucket_page.specs.declared.page.PageKind.TheVariants as kinds
use Rattle.bucket_page.specs.Reading.{reading}
use Rattle.bucket_page.specs.Spelling.{Spells}
use Rattle.hash_file.specs.Chain.{IsPlaced}
use Rattle.hash_file.specs.Store.{bucket_at}
use Rattle.file_walk.specs.declared.fault.StructureFault.{StructureFault}
use Rattle.file_walk.specs.declared.fault.StructureFault.TheVariants as faults
use Rattle.file_walk.specs.Files.{file_of, pages_on, said_on}
use Rattle.file_walk.specs.Laws.{IsQuietFile}
use Rattle.file_walk.specs.Order.{IsFaultIn, IsRightPage, depth_of, is_directory, malformed_in, may_stand}
use Rattle.file_walk.specs.Readings.{IsPayloadOf}
use Rattle.file_walk.specs.Structure.{IsFirstWrongThing, IsRightStructure}
use Rattle.file_walk.proofs.FaultLemmas as of_faults
use Rattle.file_walk.proofs.PageLemmas as of_page
use Rattle.file_walk.proofs.PagesLemmas as of_pages
use Rattle.file_walk.proofs.SoundLemmas as of_sound

pub pages_length : (content : List (List ℕ)) → ROOT_PAGE ≤ length content → length (pages_on content) ≡ length content
pages_length = of_pages.pages_length LAYOUT is_today

pub pages_at : (content : List (List ℕ)) (n : ℕ) (d : PageKind) → ROOT_PAGE ≤ n → n < length content →
    get_or (pages_on content) n d ≡ said_on content n
pages_at = of_pages.pages_at LAYOUT is_today

pub may_below : (n : ℕ) (page : PageKind) (b : Bool) → n < ROOT_PAGE → is_directory page ≡ b → may_stand n page ≡ b
may_below = of_page.may_below LAYOUT is_today

pub is_malformed : (content : List (List ℕ)) (n : ℕ) (payload : List ℕ) → IsPayloadOf content n payload
    → (reason : Malformed) → Err reason ≡ reading payload → IsFaultIn LAYOUT content n (faults.Malformed n reason)
is_malformed = of_page.is_malformed LAYOUT is_today

-- nothing is malformed of a right page
pub right_formed : (content : List (List ℕ)) (n : ℕ) → IsRightPage content n → malformed_in LAYOUT content n ≡ None
right_formed = of_page.right_formed LAYOUT is_today

-- no bucket that has a spelling is too deep for it
pub spelled_shallow : (page : PageKind) (payload : List ℕ) → Spells page payload → depth_of page ≤ GREATEST_DEPTH
spelled_shallow (kinds.Bucket b) payload it = it.in_range.depth
spelled_shallow (kinds.Directory es) payload it = omega arith
spelled_shallow (kinds.Tombstone link) payload it = omega arith
spelled_shallow (kinds.Free next) payload it = omega arith

pub right_directory : (content : List (List ℕ)) (n : ℕ) → n < ROOT_PAGE → IsRightPage content n →
    is_directory (said_on content n) ≡ true
right_directory = of_sound.right_directory LAYOUT is_today

pub structure_sound : (hash : RecordKey → ℕ) (content : List (List ℕ)) (ns : List ℕ) → IsRightStructure content ns →
    ((n : ℕ) → Contains ns n → IsPlaced hash (bucket_at (file_of content) n)) → IsQuietFile hash (file_of content) ns
structure_sound = of_sound.structure_sound LAYOUT is_today

pub right_has_no_fault : (content : List (List ℕ)) (ns : List ℕ) (fault : StructureFault) →
    IsRightStructure content ns → IsFirstWrongThing content fault → ⊥
right_has_no_fault = of_faults.right_has_no_fault LAYOUT is_today
