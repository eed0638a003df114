-- The structure of a file, and the first thing that is wrong with it, in the order of the tests: page 0, the other
-- pages, the chain, the free pages, the directory.
use Rattle.std.specs.Prelude.{◌≡◌, ◌⊎◌, ℕ, List, length}
use Rattle.directory.specs.declared.layout.Layout.{Layout}
use Rattle.directory.specs.declared.layout.TheConstants.{FIRST_DIRECTORY_PAGE, LAYOUT}
use Rattle.hash_file.specs.Store.{Store}
use Rattle.file_walk.specs.declared.fault.StructureFault.{StructureFault}
use Rattle.file_walk.specs.Files.{file_in}
use Rattle.file_walk.specs.Outlines.{outlined}
use Rattle.file_walk.specs.Order.{HasHeaderIn, AreRightIn, IsHeaderFaultIn, IsFirstWrongIn, IsOfMachine}
use Rattle.file_walk.specs.Walks.{IsRightChain, HasRightSpares, IsRightDirectory, IsChainFault, IsSparesFault, IsDirectoryFault}

-- page 0 and all other pages are right
pub record HasPagesIn (l : Layout) (content : List (List ℕ)) : Type 0 where
  pub header : HasHeaderIn l content
  pub pages : AreRightIn l content FIRST_DIRECTORY_PAGE (length content)

-- these pages are the chain, and all of the structure is right
pub record IsRightStructureIn (l : Layout) (content : List (List ℕ)) (ns : List ℕ) : Type 0 where
  pub pages : HasPagesIn l content
  pub chain : IsRightChain (file_in l content) ns
  pub spares : HasRightSpares (file_in l content) ns
  pub index : IsRightDirectory (file_in l content) ns

-- a right structure, and what is kept of it
pub record IsStructureIn (l : Layout) (content : List (List ℕ)) (outline : Store) (ns : List ℕ) : Type 0 where
  pub right : IsRightStructureIn l content ns
  pub outline_is : outline ≡ outlined (file_in l content)

-- ---- the first thing that is wrong: what is tested before it is right

-- with the chain: the pages are right
pub record IsWrongChain (l : Layout) (content : List (List ℕ)) (fault : StructureFault) : Type 0 where
  pub pages : HasPagesIn l content
  pub wrong : IsChainFault (file_in l content) fault

-- with the free pages: the chain is right too
pub record AreWrongSpares (l : Layout) (content : List (List ℕ)) (fault : StructureFault) : Type 0 where
  pub pages : HasPagesIn l content
  pub chain : List ℕ
  pub chain_is : IsRightChain (file_in l content) chain
  pub wrong : IsSparesFault (file_in l content) chain fault

-- with the directory: the free pages are right too
pub record IsWrongDirectory (l : Layout) (content : List (List ℕ)) (fault : StructureFault) : Type 0 where
  pub pages : HasPagesIn l content
  pub chain : List ℕ
  pub chain_is : IsRightChain (file_in l content) chain
  pub spares : HasRightSpares (file_in l content) chain
  pub wrong : IsDirectoryFault (file_in l content) chain fault

-- with page 0, the other pages, the chain, the free pages or the directory
abbrev pub IsFirstWrongThingIn : Layout → List (List ℕ) → StructureFault → Type 0
IsFirstWrongThingIn l content fault =
    IsHeaderFaultIn l content fault
    ⊎ ((HasHeaderIn l content × IsFirstWrongIn l content FIRST_DIRECTORY_PAGE fault)
    ⊎ (IsWrongChain l content fault
    ⊎ (AreWrongSpares l content fault ⊎ IsWrongDirectory l content fault)))

-- what is answered: it is that, unless the machine lacked something
abbrev pub IsFirstFaultIn : Layout → List (List ℕ) → StructureFault → Type 0
IsFirstFaultIn l content fault = IsOfMachine fault ⊎ IsFirstWrongThingIn l content fault

-- ---- today's layout

abbrev pub HasPages : List (List ℕ) → Type 0
HasPages = HasPagesIn LAYOUT

abbrev pub IsRightStructure : List (List ℕ) → List ℕ → Type 0
IsRightStructure = IsRightStructureIn LAYOUT

abbrev pub IsStructureOf : List (List ℕ) → Store → List ℕ → Type 0
IsStructureOf = IsStructureIn LAYOUT

abbrev pub IsFirstWrongThing : List (List ℕ) → StructureFault → Type 0
IsFirstWrongThing = IsFirstWrongThingIn LAYOUT

abbrev pub IsFirstFault : List (List ℕ) → StructureFault → Type 0
IsFirstFault = IsFirstFaultIn LAYOUT
