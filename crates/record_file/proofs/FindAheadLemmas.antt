-- A find that goes straight to a page makes all its steps, and has found what was read ahead of that page.
use Rattle.std.proofs.Common.{◌≡◌, refl, ℕ, ◌+◌, ◌≤◌, List, [], length, Option, Some, None}
use Rattle.std.specs.Option.{option_map}
use Rattle.page_locks.specs.declared.row.TheConstants.{MAX_LOCKS}
use Rattle.record_file.specs.AccessRuns.{AreRead, FindsAtOnce, access_done}
use Rattle.record_file.specs.AccessWords.{HasNoFileLock, IsReady, IsSeat, PoolState, Record, RecordKey, Table, row_of}
use Rattle.record_file.specs.Accesses.{AccessView, HasFound, IsRecordOf, begun}
use Rattle.record_file.specs.BucketAccesses.{begun_access}
use Rattle.record_file.specs.BucketRuns.{FindsStraight}
use Rattle.record_file.specs.Purposes.{ToFind}
use Rattle.record_file.specs.Readings.{IsReadAhead, IsSpelledBy, value_on}
use Rattle.record_file.specs.declared.bucket_access.Deed.TheVariants as deeds
use Rattle.record_file.proofs.AccessAheadLemmas.{finds_at_once}
use Rattle.record_file.proofs.OperationAheadLemmas.{finds_straight}

-- the bytes that it reads
abbrev bytes_in : (value : Option (List ℕ)) → List ℕ
bytes_in None = []
bytes_in (Some bytes) = bytes

are_read : (value : Option (List ℕ)) → AreRead (option_map length value) value [] (bytes_in value)
are_read None = (refl, refl)
are_read (Some bytes) = (refl, refl)

module _ (seat : ℕ) (pool : PoolState) (locks : Table) (key : RecordKey) (k page : ℕ) where
  -- it, behind its steps
  abbrev pub found_there : AccessView
  found_there = access_done page (option_map length (value_on pool page key)) (bytes_in (value_on pool page key))
      (begun (ToFind key) k)

  pub finds_ahead : IsReady pool → IsSeat locks seat → HasNoFileLock (row_of locks seat) →
      length (row_of locks seat) + 3 ≤ MAX_LOCKS →
      FindsStraight seat page (begun_access deeds.Find key k) pool locks →
      FindsAtOnce seat (begun (ToFind key) k) found_there pool locks
  finds_ahead ready seated bare room straight =
      let long : Option ℕ = option_map length (value_on pool page key) in
      finds_at_once seat pool ready locks seated (begun (ToFind key) k) found_there tt (λ before. refl)
      (record { before = row_of locks seat; bare = bare; room = room; is = refl }) page long refl
      (are_read (value_on pool page key))
      (finds_straight seat pool locks (begun_access deeds.Find key k) page long (straight long refl))

  -- what it has found is what was read ahead
  pub same_ahead : (found : Option Record) → IsReadAhead found key (value_on pool page key) → (f : Option Record) →
      HasFound found_there f → found ≡ f
  same_ahead found read f has = read.only f (spelled (value_on pool page key) f has)
    where
      spelled : (value : Option (List ℕ)) (f : Option Record) →
          IsRecordOf (option_map length value) key (bytes_in value) f → IsSpelledBy f key value
      spelled None None has = tt
      spelled None (Some r) has = absurd has
      spelled (Some bytes) None has = absurd has
      spelled (Some bytes) (Some r) has = has
