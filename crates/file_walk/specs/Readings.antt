-- What is known once pages have been read. `honest` tells whether the device gives back what was written.
use Rattle.std.specs.Prelude.{◌≡◌, ℕ, ◌+◌, ◌^◌, Bool, List, ◌++◌, IsTrue, length, map, min, take, replicate}
use Rattle.page_device.specs.Sealed.{IsSealed}
use Rattle.directory.specs.declared.layout.Layout.{Layout}
use Rattle.directory.specs.declared.layout.TheConstants.{FIRST_DIRECTORY_PAGE, PAGE_ENTRIES}
use Rattle.directory.specs.declared.header.Header.{Header}
use Rattle.directory.specs.Spelling.{IsHeaderIn}
use Rattle.hash_file.specs.Store.{Store}
use Rattle.file_walk.specs.declared.form.Form.{Form}
use Rattle.file_walk.specs.declared.form.Form.TheVariants as forms
use Rattle.file_walk.specs.Files.{page_on, payload_on, header_on, said_on, directory_entries, entries_in, pages_in, file_in}
use Rattle.file_walk.specs.Outlines.{shown, bare, outlined}
use Rattle.file_walk.specs.Order.{HasHeaderIn, IsRightPageIn, AreRightIn}

-- page n is sealed, and this is its payload
pub record IsPayloadOf (content : List (List ℕ)) (n : ℕ) (payload : List ℕ) : Type 0 where
  pub sealed : IsSealed n (page_on content n)
  pub value : payload ≡ payload_on content n

-- page 0 is the header of a file of so many pages, and says this
pub record IsHeaderOf (l : Layout) (honest : Bool) (content : List (List ℕ)) (header : Header) : Type 0 where
  pub in_range : IsHeaderIn l header
  pub as_many : header.pages ≡ length content
  pub right : IsTrue honest → HasHeaderIn l content
  pub value : IsTrue honest → header ≡ header_on content

-- page n is right, and this is what is kept of it
pub record IsFormOf (l : Layout) (content : List (List ℕ)) (n : ℕ) (form : Form) : Type 0 where
  pub right : IsRightPageIn l content n
  pub value : shown form ≡ bare (said_on content n)

-- so many entries of page n are kept behind those that were
pub record TakesEntries (l : Layout) (honest : Bool) (content : List (List ℕ)) (n most : ℕ)
    (old new : List ℕ) : Type 0 where
  pub number : length new ≡ min most (length old + PAGE_ENTRIES)
  pub right : IsTrue honest → IsRightPageIn l content n
  pub value : IsTrue honest → new ≡ take most (old ++ directory_entries (said_on content n))

-- these are the entries of a directory of this depth
pub record AreEntriesOf (l : Layout) (honest : Bool) (content : List (List ℕ)) (depth : ℕ) (es : List ℕ) : Type 0 where
  pub number : length es ≡ 2 ^ depth
  pub right : IsTrue honest → AreRightIn l content FIRST_DIRECTORY_PAGE l.root_page
  pub value : IsTrue honest → es ≡ take (2 ^ depth) (entries_in l content)

-- this is what is kept of the pages
pub record AreFormsOf (l : Layout) (honest : Bool) (content : List (List ℕ)) (fs : List Form) : Type 0 where
  pub number : length fs ≡ length content
  -- nothing is kept of the pages below the root
  pub low : take l.root_page fs ≡ replicate l.root_page forms.Other
  pub right : IsTrue honest → AreRightIn l content l.root_page (length content)
  pub value : IsTrue honest → map shown fs ≡ map bare (pages_in l content)

-- page 0 is a header, all other pages are right, and this is the file without its records
pub record IsOutlineOf (l : Layout) (content : List (List ℕ)) (outline : Store) : Type 0 where
  pub header : HasHeaderIn l content
  pub pages : AreRightIn l content FIRST_DIRECTORY_PAGE (length content)
  pub value : outline ≡ outlined (file_in l content)
