-- Words of the crates below, under one name for the proofs of this one.
pub use Rattle.call_writes.specs.Views.{locks_under}
pub use Rattle.call_decisions.proofs.OverlayLemmas.{written_local}
pub use Rattle.call_writes.specs.WriteWords.{AccessView}
pub use Rattle.xsi_remove.specs.Words.{Blocked, begun_turn}
pub use Rattle.xsi_remove.proofs.FreshLemmas.{nears_next, nears_with, no_more}
pub use Rattle.xsi_remove.proofs.LawLemmas.{begins_right, ends_swept, has_few_steps}
pub use Rattle.xsi_remove.specs.Deeds.{message_of}
pub use Rattle.xsi_remove.specs.Sweeps.{begun_at}
