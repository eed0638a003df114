-- Files of a system of which all records stand in the root bucket.
-- docs/FORMAT.md, "Pages", "Records".
use Rattle.std.specs.Prelude.{ℕ, false, List, []}
use Rattle.directory.specs.declared.layout.TheConstants.{ROOT_PAGE}
use Rattle.bucket_page.specs.declared.record_key.RecordKey.{RecordKey}
use Rattle.bucket_page.specs.Changes.{SpellsBucket}
use Rattle.bucket_page.specs.Reading.{records_in}
use Rattle.bucket_page.specs.Records.{Pair}
use Rattle.queue_model.specs.State.{State}
use Rattle.file_walk.specs.Files.{payload_on}
use Rattle.file_check.specs.Whole.{IsFileOf}
use Rattle.record_file.specs.Files.{root_bucket}

-- the payload is that of a root bucket with these records: it has the range of all pseudokeys, and none follows it
abbrev pub IsRoot : List Pair → List ℕ → Type 0
IsRoot rs payload = SpellsBucket (root_bucket rs) payload

-- the records that the root page says
abbrev pub root_records : List (List ℕ) → List Pair
root_records content = records_in (payload_on content ROOT_PAGE)

-- the file of a system, whose root page is a root bucket's; so all records stand there
pub record IsOneBucketFile (hash : RecordKey → ℕ) (content : List (List ℕ)) (s : State) : Type 0 where
  pub file : IsFileOf hash content s
  pub root : IsRoot (root_records content) (payload_on content ROOT_PAGE)

-- no queue, and the first id is the next
abbrev pub no_queues : State
no_queues = record { queues = []; next_id = 1; stopped = false }
