-- Words of the crates below, under one name for the proofs of this one.
pub use Rattle.split_merge.specs.file_pages.declared.fault.FileFault.{FileFault}
pub use Rattle.hash_file.specs.Changes.{key_of, value_after}
pub use Rattle.hash_file.specs.Kept.{ChangesRecord, KeepsContents}
pub use Rattle.page_locks.proofs.RowLemmas.{first_kind, kind_of-append}
pub use Rattle.page_locks.proofs.TableLemmas.{row_of-same}
pub use Rattle.page_locks.specs.Locks.{is_same}
pub use Rattle.step_rules.specs.queue_records.declared.layout.TheConstants.{COUNTER, KEY}
pub use Rattle.split_merge.specs.stale_search.Searches.{locks_at}
pub use Rattle.split_merge.specs.stale_search.declared.place.SearchPlace.{SearchPlace}
pub use Rattle.split_merge.specs.stale_search.declared.place.SearchPlace.TheVariants.{Found, GrantDirectory, GrantPage, Hop, ReadDepth, ReadEntry, ReleaseDirectory}
pub use Rattle.step_rules.proofs.KindLemmas.{kind_keeps_contents}
pub use Rattle.step_rules.proofs.RecordStepLemmas.{changes_just}
pub use Rattle.step_rules.proofs.TurnLemmas.{is_of_its_kind}
pub use Rattle.step_rules.specs.Turns.{TurnsAt, WritesAsked}
pub use Rattle.step_rules.specs.Words.{Counter, Key, LockName, Queue}
