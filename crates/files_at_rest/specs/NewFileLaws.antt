-- The law of new files, which is the contract of the function of new_file_laws.rt.
use Rattle.std.specs.Prelude.{ℕ, List}
use Rattle.bucket_page.specs.declared.record_key.RecordKey.{RecordKey}
use Rattle.record_file.specs.Files.{IsNewFile}
use Rattle.files_at_rest.specs.Files.{IsOneBucketFile, no_queues}

-- a new file is one of the system without queues
abbrev pub NewHasNoQueues : Type 0
NewHasNoQueues = (hash : RecordKey → ℕ) (pages : ℕ) (content : List (List ℕ)) → IsNewFile pages content →
    IsOneBucketFile hash content no_queues
