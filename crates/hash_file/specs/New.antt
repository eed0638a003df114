-- A file as it is made.
use Rattle.std.specs.Prelude.{ℕ, suc, ◌≡◌, ◌<◌, ◌≤◌, ◌==◌, nat_lt, length, if◌then◌else◌}
use Rattle.bucket_page.specs.declared.record_key.RecordKey.{RecordKey}
use Rattle.bucket_page.specs.declared.page.PageKind.TheVariants as kinds
use Rattle.bucket_page.specs.Bucket.{bucket}
use Rattle.bucket_page.specs.Records.{lookup}
use Rattle.hash_file.specs.Store.{Store, page_at, entry_at, count_at, bucket_at, records_at}
use Rattle.hash_file.specs.Chain.{contents, IsPlaced}
use Rattle.hash_file.specs.Change.{Quiet}
use Rattle.hash_file.specs.Sound.{HasLayout, IsSoundFile}

-- the page of the next number, 0 behind the last
abbrev pub follower : Store → ℕ → ℕ
follower s n = if nat_lt (suc n) (length s.pages) then suc n else 0

-- one bucket has all pseudokeys, and all pages behind it are free, in ascending order
pub record IsNew (hash : RecordKey → ℕ) (s : Store) : Type 0 where
  pub layout : HasLayout s
  pub within : s.layout.root < length s.pages
  pub root : page_at s s.layout.root ≡ kinds.Bucket (bucket 0 0 0 (records_at s s.layout.root))
  pub placed : IsPlaced hash (bucket_at s s.layout.root)
  pub depth : s.header.depth ≡ 0
  pub entry : entry_at s 0 ≡ s.layout.root
  pub first_free : s.header.first_free ≡ follower s s.layout.root
  pub free : (n : ℕ) → s.layout.root < n → n < length s.pages → page_at s n ≡ kinds.Free (follower s n)
  pub counts : (depth : ℕ) → depth ≤ s.layout.greatest → count_at s depth ≡ (if 0 == depth then 1 else 0)

-- such a file is sound, and holds the records of its bucket
pub record IsSoundWithRecords (hash : RecordKey → ℕ) (s : Store) : Type 0 where
  pub sound : IsSoundFile hash s Quiet
  pub contents : (key : RecordKey) → contents s key ≡ lookup key (records_at s s.layout.root)

abbrev pub NewFilesAreSound : Type 0
NewFilesAreSound = (hash : RecordKey → ℕ) (s : Store) → IsNew hash s → IsSoundWithRecords hash s
