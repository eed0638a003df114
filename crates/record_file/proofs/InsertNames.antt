-- Words of the crates below that the lemmas on pages use, under one name.
pub use Rattle.directory.specs.declared.layout.TheConstants.{ROOT_PAGE}
pub use Rattle.page_locks.specs.Table.{IsOpposed, Opposes, with_lock}
pub use Rattle.page_locks.specs.Writers.{may_write, IsWriter}
pub use Rattle.split_merge.specs.file_pages.declared.fault.FileFault.{FileFault}
pub use Rattle.split_merge.specs.file_pages.declared.sight.BucketSight.{BucketSight}
pub use Rattle.split_merge.specs.file_pages.Reads.{IsOnWay, IsSight, IsSeen}
pub use Rattle.hash_file.specs.Search.{PageLeads}
pub use Rattle.hash_file.specs.Store.{page_at, is_bucket}
pub use Rattle.step_rules.specs.Does.{KeepsOthers}
pub use Rattle.step_rules.specs.LockSteps.{MovesOn}
pub use Rattle.step_rules.specs.Structure.{IsNear}
pub use Rattle.step_rules.specs.Turns.{DoesTied, HopsJust}
