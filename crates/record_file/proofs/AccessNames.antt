-- Words of the crates below, under one name for the proofs of this one.
pub use Rattle.bucket_page.specs.Keys.{is_same}
pub use Rattle.file_pages.specs.declared.fault.FileFault.{FileFault}
pub use Rattle.hash_file.specs.Changes.{RecordWrite, key_of as key_written_at, value_after}
pub use Rattle.record_file.proofs.CallerLemmas.{holds_still, one_changed}
pub use Rattle.record_file.proofs.OperationCallerLemmas.{keeps_told, operation_aside, tells_written}
pub use Rattle.record_file.proofs.LengthLemmas.{has_few_steps}
pub use Rattle.record_file.specs.OperationCallers.{Stepped}
pub use Rattle.record_file.specs.Operations.{SuitsFile, operation_writes}
pub use Rattle.record_file.specs.OperationSteps.{MakesOperation}
pub use Rattle.record_file.specs.step_rules.Turns.{TurnsAt, WritesAsked}
pub use Rattle.xsi_inquiry.specs.Writing.{value_length}
