-- What is read of the page that answered, and what an access takes of it.
use Rattle.std.specs.Prelude.{ℕ, ◌≡◌, ◌≤◌, false, List, length, Option, Some, None, IfErr, IfSome, IsSome, IsTrue, IsOk, Result, Ok, Err, is_ok, ⊤}
use Rattle.std.specs.Option.{option_map}
use Rattle.bucket_page.specs.Records.{lookup}
use Rattle.file_pages.specs.Fault.{FileHasCause, IsDevicesFault}
use Rattle.file_pages.specs.declared.fault.FileFault.{FileFault}
use Rattle.file_pages.specs.Files.{IsFilePool}
use Rattle.file_pages.specs.Reads.{OnlyReads}
use Rattle.file_pages.specs.Writes.{IsBucketThere}
use Rattle.hash_file.specs.Store.{records_at}
use Rattle.record_file.specs.declared.operation.RecordOperation.TheVariants as operations
use Rattle.record_file.specs.AccessWords.{RecordKey, RecordOperation, PoolState, store_of, operation_found, HasSuch, Links, Record, SpellsRecord, linked_bytes, value_of, Replace, Relink, Delete}
use Rattle.record_file.specs.Purposes.{CanBeOn, Purpose, ToFind, ToInsert, ToWrite}
use Rattle.record_file.specs.Accesses.{AccessView, AllowsInsert, FitsWrite, HasFound, IsFrontOf, Serves, access_key}
use Rattle.record_file.specs.AccessSteps.{SuitsFound}

-- what the bucket on a page has of a key
abbrev pub value_on : PoolState → ℕ → RecordKey → Option (List ℕ)
value_on pool page key = lookup key (records_at (store_of pool.images) page)

-- the value spells this record of the key; or there is neither
abbrev pub IsSpelledBy : Option Record → RecordKey → (value : Option (List ℕ)) → Type 0
IsSpelledBy None key None = ⊤
IsSpelledBy (Some r) key (Some bytes) = SpellsRecord r key bytes
IsSpelledBy found key value = ⊥

-- a record that a value spells, and the only one; or there is neither
pub record IsReadAhead (found : Option Record) (key : RecordKey) (value : Option (List ℕ)) : Type 0 where
  pub spelled : IsSpelledBy found key value
  pub only : (other : Option Record) → IsSpelledBy other key value → found ≡ other

-- the device is honest and has a file, of which the page is a bucket
pub record SeesBucket (page : ℕ) (pool : PoolState) : Type 0 where
  pub honest : IsTrue pool.honest
  pub file : IsFilePool pool
  pub there : IsBucketThere page (store_of pool.images)

-- the page that answered has this record at the key, or none, and this was told of its length
pub record IsShown (page : ℕ) (len : Option ℕ) (pool : PoolState) (key : RecordKey) (found : Option Record) : Type 0
  where
    pub sees : SeesBucket page pool
    pub holds : value_on pool page key ≡ option_map value_of found
    pub length_is : len ≡ option_map length (value_on pool page key)
    pub spelled : IfSome found (λ (r : Record). SpellsRecord r key (value_of r))

-- the front of this value, with the links set in it
pub record HasFrontSet (value : List ℕ) (links : Links) (bytes : List ℕ) : Type 0 where
  pub long : linked_bytes links ≤ length value
  pub whole : length bytes ≡ linked_bytes links
  pub set : (r : Record) → HasSuch links (Some r) → value ≡ value_of r → IsFrontOf links bytes r

-- the front of the value that the page has, of this length, with the links set in it
pub record HasFrontOn (page len : ℕ) (key : RecordKey) (pool : PoolState) (links : Links) (bytes : List ℕ) : Type 0
  where
    pub within : linked_bytes links ≤ len
    pub whole : length bytes ≡ linked_bytes links
    pub set : (r : Record) → HasSuch links (Some r) → value_on pool page key ≡ Some (value_of r) →
        IsFrontOf links bytes r

abbrev pub IsReplace : RecordOperation → Type 0
IsReplace (operations.Replace r) = ⊤
IsReplace o = ⊥

-- what was allowed before a page answered; none answers an insert
abbrev pub WasAllowed : Purpose → AccessView → Option Record → Type 0
WasAllowed (ToFind key) a found = ⊤
WasAllowed (ToInsert r) a found = ⊤
WasAllowed (ToWrite (Replace r)) a found = CanBeOn (Replace r) found
WasAllowed (ToWrite (Relink key links)) a found = HasSuch links found
WasAllowed (ToWrite (Delete key)) a found = a.written ≡ false → IsSome found

-- what was taken up suits what stands there
abbrev pub SuitsRecord : Purpose → AccessView → Option Record → Type 0
SuitsRecord (ToFind key) a found = ⊤
SuitsRecord (ToInsert r) a found = AllowsInsert r a found
SuitsRecord (ToWrite write) a found = FitsWrite write a found

-- what a find is told
abbrev pub IsTold : Purpose → AccessView → Option Record → Type 0
IsTold (ToFind key) a found = HasFound a found
IsTold p a found = ⊤

-- who reads the page
abbrev pub IsReader : Purpose → Type 0
IsReader (ToFind key) = ⊤
IsReader (ToWrite (Relink key links)) = ⊤
IsReader p = ⊥

-- the record is taken up, or the device has failed
abbrev pub TakesWell : {X : Type 0} → Result X FileFault → Purpose → Option Record → (pool pool' : PoolState) →
    AccessView → Type 0
TakesWell (Ok x) p found pool pool' a = SuitsRecord p a found × IsTold p a found
TakesWell (Err fault) p found pool pool' a = IsReader p × IsDevicesFault pool pool' fault

-- an access takes what it is for from the page that answered
pub record Takes {X : Type 0} (result : Result X FileFault) (pool pool' : PoolState) (old new : AccessView) : Type 0
  where
    pub reads : OnlyReads (is_ok result) pool pool'
    pub cause : IfErr result (FileHasCause pool pool')
    pub operation : new.operation ≡ old.operation
    pub written : new.written ≡ old.written
    pub serves : (p : Purpose) → Serves p old → Serves p new
    pub rests : operation_found old.operation ≡ None → IsOk result × (new ≡ old)
    pub suits : IsOk result → SuitsFound (operation_found new.operation) new
    pub tells : (p : Purpose) (found : Option Record) (page : ℕ) (len : Option ℕ) →
        operation_found old.operation ≡ Some (page, len) → Serves p old →
        IsShown page len pool (access_key old) found → WasAllowed p old found →
        TakesWell result p found pool pool' new
