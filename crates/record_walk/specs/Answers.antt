-- What a page has of a key.
use Rattle.std.specs.Prelude.{◌≡◌, ◌↔◌, ℕ, ◌%◌, ◌^◌, List, Option, Some, Ok}
use Rattle.bucket_page.specs.declared.page.PageKind.TheVariants as kinds
use Rattle.page_device.specs.Sealed.{payload_of}
use Rattle.record_walk.specs.Versions.{found_in}
use Rattle.record_walk.specs.LookupWords.{RecordKey, Bucket, Holds, Layout, Record, SpellsRecord, Store, entry_at, key_of, lookup, reading}

-- the page that the directory names for a pseudokey
abbrev pub entry_for : Store → ℕ → ℕ
entry_for s k = entry_at s (k % 2 ^ s.header.depth)

-- the page is a bucket's that has of this key what is held there, and that is a record's
pub record AnswersFor (l : Layout) (held : RecordKey → Option (List ℕ)) (key : RecordKey) (page : List ℕ) : Type 0 where
  pub bucket : Bucket
  pub read : reading (payload_of page) ≡ Ok (kinds.Bucket bucket)
  pub value : found_in l key (lookup key bucket.records) ≡ held key
  pub spelled : (value : List ℕ) → held key ≡ Some value → (r : Record) × SpellsRecord r key value

-- of the records of this key, this one stands, or none
abbrev pub IsRecordAt : (RecordKey → Option (List ℕ)) → RecordKey → Option Record → Type 0
IsRecordAt held key found = (r : Record) → key_of r ≡ key → (found ≡ Some r) ↔ Holds held r

-- the record has this key, and stands there
pub record StandsAt (held : RecordKey → Option (List ℕ)) (key : RecordKey) (r : Record) : Type 0 where
  pub keyed : key_of r ≡ key
  pub stands : Holds held r
