-- Words of the crates below, under one name for the proofs of this one.
pub use Rattle.record_file.specs.file_pages.declared.fault.FileFault.{FileFault}
pub use Rattle.record_file.proofs.AccessAimLemmas.{wrote_not, wrote_of}
pub use Rattle.record_file.proofs.OperationLemmas.{ended_free}
pub use Rattle.record_file.proofs.AccessNames.{Stepped, has_few_steps, holds_still, keeps_told, one_changed, operation_aside, tells_written}
pub use Rattle.record_file.specs.AccessSteps.{Faces, TellsOf}
pub use Rattle.record_file.specs.Purposes.{left_by}
pub use Rattle.record_file.specs.AccessWords.{contents}
pub use Rattle.record_file.specs.step_rules.Known.{IsKnown, Told}
pub use Rattle.record_file.specs.step_rules.Turns.{Turn}
