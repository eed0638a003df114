-- A new file is one of the system without queues.
use Rattle.std.proofs.Common.{◌≡◌, List, sym, ap, subst}
use Rattle.file_walk.specs.Files.{payload_on}
use Rattle.record_file.specs.Files.{new_records}
use Rattle.files_at_rest.proofs.Names.{Bucket, Pair, ROOT_PAGE, read_again, root_bucket}
use Rattle.files_at_rest.proofs.EmptyLemmas.{empty_records}
use Rattle.files_at_rest.proofs.NewLemmas.{root_at, root_spelled}
use Rattle.files_at_rest.proofs.NewStructure.{new_structure}
use Rattle.files_at_rest.proofs.SystemLemmas.{is_file}
use Rattle.files_at_rest.specs.Files.{IsRoot, no_queues, root_records}
use Rattle.files_at_rest.specs.NewFileLaws.{NewHasNoQueues}

pub new_has_no_queues : NewHasNoQueues
new_has_no_queues hash pages content it = record {
  file = is_file hash content new_records (new_structure hash pages new_records content it)
      (root_at pages new_records content it) it.bucket.order no_queues empty_records;
  root = subst (λ (ps : List Pair). IsRoot ps (payload_on content ROOT_PAGE)) (sym same) spelled;
}
  where
    spelled : IsRoot new_records (payload_on content ROOT_PAGE)
    spelled = root_spelled pages new_records content it

    -- the records of a root bucket are those that its page says
    same : root_records content ≡ new_records
    same = ap (λ (b : Bucket). b.records) (read_again (root_bucket new_records) (payload_on content ROOT_PAGE) spelled)
