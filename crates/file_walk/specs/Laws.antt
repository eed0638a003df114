-- What a right structure is, and that the order of the tests leaves no choice.
use Rattle.std.specs.Prelude.{◌≡◌, ℕ, List}
use Rattle.std.specs.List.{Contains}
use Rattle.directory.specs.declared.layout.Layout.{Layout}
use Rattle.directory.specs.Layouts.{IsLayout}
use Rattle.bucket_page.specs.declared.record_key.RecordKey.{RecordKey}
use Rattle.hash_file.specs.Store.{Store, bucket_at}
use Rattle.hash_file.specs.Chain.{chain, IsPlaced}
use Rattle.hash_file.specs.Change.{Quiet}
use Rattle.hash_file.specs.Sound.{IsSoundFile, IsExact}
use Rattle.file_walk.specs.declared.fault.StructureFault.{StructureFault}
use Rattle.file_walk.specs.Files.{file_in}
use Rattle.file_walk.specs.Structure.{IsFirstWrongThingIn, IsRightStructureIn}

-- the file is sound and quiet, its directory is exact, and this is its chain
pub record IsQuietFile (hash : RecordKey → ℕ) (s : Store) (ns : List ℕ) : Type 0 where
  pub chained : chain s ≡ ns
  pub sound : IsSoundFile hash s Quiet
  pub exact : IsExact s

-- where each record stands where it is looked for, a right structure is a sound file
abbrev pub StructureIsSound : Type 0
StructureIsSound = (l : Layout) → IsLayout l → (hash : RecordKey → ℕ) (content : List (List ℕ)) (ns : List ℕ)
    → IsRightStructureIn l content ns
    → ((n : ℕ) → Contains ns n → IsPlaced hash (bucket_at (file_in l content) n))
    → IsQuietFile hash (file_in l content) ns

-- nothing is wrong with a right structure
abbrev pub RightHasNoFault : Type 0
RightHasNoFault = (l : Layout) → IsLayout l → (content : List (List ℕ)) (ns : List ℕ) (fault : StructureFault)
    → IsRightStructureIn l content ns → IsFirstWrongThingIn l content fault → ⊥
