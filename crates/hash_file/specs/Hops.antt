-- How changes lengthen the ways of searches: by one hop at most where a bucket joins the chain or a page becomes a
-- tombstone, and not at all else.
use Rattle.std.specs.Prelude.{ℕ, ◌≡◌, ◌<◌, List}
use Rattle.std.specs.List.{Contains}
use Rattle.directory.specs.declared.range.Range.{Range}
use Rattle.directory.specs.Ranges.{AreHalvesOf}
use Rattle.bucket_page.specs.declared.record_key.RecordKey.{RecordKey}
use Rattle.bucket_page.specs.directory.declared.header.Header.{Header}
use Rattle.hash_file.specs.Store.{Store, bucket_at, range_at, records_at}
use Rattle.hash_file.specs.Chain.{chain, IsBucketOf}
use Rattle.hash_file.specs.Change.{Change, Quiet, Taken, Filled, Absorbed, Drained, busy}
use Rattle.hash_file.specs.Search.{distance}
use Rattle.hash_file.specs.Sound.{IsSoundFile}
use Rattle.hash_file.specs.Changes.{RecordWrite, MayWrite, key_of, write_record, write_new, write_old, write_left, write_tombstone, write_free}
use Rattle.hash_file.specs.Kept.{LengthensWays, KeepsWaysBut}

pub record OneHopAtMost : Type 0 where
  pub write_old : (hash : RecordKey → ℕ) (s : Store) (old new : ℕ) → IsSoundFile hash s (Filled old new) →
      LengthensWays 1 s (Filled old new) (write_old hash old new s)
  pub write_tombstone : (hash : RecordKey → ℕ) (s : Store) (left right : ℕ) (whole : Range) →
      IsSoundFile hash s (Absorbed left right whole) →
      LengthensWays 1 s (Absorbed left right whole) (write_tombstone left right s)

pub record NoHopMore : Type 0 where
  pub write_record : (hash : RecordKey → ℕ) (s : Store) (c : Change) (n : ℕ) (w : RecordWrite) → IsSoundFile hash s c →
      IsBucketOf s (hash (key_of w)) n → (Contains (busy c) n → ⊥) → MayWrite w (records_at s n) →
      LengthensWays 0 s c (write_record n w s)
  -- each change of the header or the directory
  pub headed : (s : Store) (head : Header) (entries : List ℕ) (n k : ℕ) →
      distance (record s { header = head; entries = entries }) n k ≡ distance s n k
  pub write_new : (hash : RecordKey → ℕ) (s : Store) (old new : ℕ) → IsSoundFile hash s (Taken new) →
      Contains (chain s) old → (bucket_at s old).depth < s.header.depth →
      LengthensWays 0 s (Taken new) (write_new hash old new s)
  pub write_left : (hash : RecordKey → ℕ) (s : Store) (left right : ℕ) (whole : Range) → IsSoundFile hash s Quiet →
      Contains (chain s) left → Contains (chain s) right → AreHalvesOf whole (range_at s left) (range_at s right) →
      LengthensWays 0 s Quiet (write_left left right s)
  pub write_free : (hash : RecordKey → ℕ) (s : Store) (left right : ℕ) → IsSoundFile hash s (Drained left right) →
      KeepsWaysBut right s (Drained left right) (write_free right s)
