-- What an operation asks for while it searches is what its seat knows.
use Rattle.std.proofs.Common.{ℕ, List}
use Rattle.record_file.proofs.FactLemmas.{insert_aimed}
use Rattle.record_file.proofs.AimLemmas.{bucket_aimed, delete_aimed}
use Rattle.record_file.specs.declared.bucket_access.Deed.TheVariants as deeds
use Rattle.record_file.specs.step_rules.Searching.{IsAimed}
use Rattle.record_file.specs.OperationWords.{RecordOperation, Find, Insert, Replace, Delete, Store}
use Rattle.record_file.specs.Operations.{operation_facts, operation_turn}

pub operation_aimed : (o : RecordOperation) (bytes : List ℕ) (s : Store) →
    IsAimed (operation_turn o bytes s).ask (operation_facts o)
operation_aimed (Find f) bytes s = bucket_aimed deeds.Find f
operation_aimed (Insert i) bytes s = insert_aimed i bytes
operation_aimed (Replace r) bytes s = bucket_aimed deeds.Replace r
operation_aimed (Delete d) bytes s = delete_aimed d
