-- A file that no seat holds anything of, and that holds exactly the records of a system.
-- docs/STEPS.md, "Calls"; docs/FORMAT.md, "Records".
use Rattle.std.specs.Prelude.{ℕ, ◌≡◌, [], IfSome, IsTrue}
use Rattle.std.specs.Option.{option_map}
use Rattle.bucket_page.specs.declared.record_key.RecordKey.{RecordKey}
use Rattle.buffer_pool.specs.Pool.{PoolState}
use Rattle.page_locks.specs.Table.{Table, row_of}
use Rattle.queue_model.specs.State.{State}
use Rattle.queue_records.specs.declared.record.Record.{Record}
use Rattle.queue_records.specs.Records.{SpellsRecord}
use Rattle.queue_records.specs.Spelling.{value_of}
use Rattle.hash_file.specs.Chain.{contents}
use Rattle.hash_file.specs.Change.{Quiet}
use Rattle.hash_file.specs.Sound.{IsExact}
use Rattle.record_file.specs.step_rules.Sound.{IsSoundWorld}
use Rattle.record_file.specs.file_pages.Files.{IsFilePool, store_of}
use Rattle.record_file.specs.stale_search.Steps.{world}
use Rattle.type_chains.specs.RecordOf.{record_of}
use Rattle.xsi_inquiry.specs.Telling.{IsFiled}

pub record IsFileAtRest (hash : RecordKey → ℕ) (s : State) (pool : PoolState) (locks : Table) : Type 0 where
  -- the device is honest, and has a file in pages that are well formed and sealed
  pub honest : IsTrue pool.honest
  pub file : IsFilePool pool
  -- it is sound, no change is under way, and the directory is exact
  pub sound : IsSoundWorld hash (world pool.images locks Quiet)
  pub exact : IsExact (store_of pool.images)
  -- no seat holds a lock
  pub free : (seat : ℕ) → row_of locks seat ≡ []
  -- records can spell the system
  pub filed : IsFiled s
  -- at each key stands the value of exactly the record that the system has there
  pub holds : (key : RecordKey) → contents (store_of pool.images) key ≡ option_map value_of (record_of s key)
  pub spelled : (key : RecordKey) → IfSome (record_of s key) (λ (r : Record). SpellsRecord r key (value_of r))
