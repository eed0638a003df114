-- Words of the crates below, under one name for the proofs of this one.
pub use Rattle.bucket_page.proofs.Steps.{length-pair}
pub use Rattle.bucket_page.specs.Dividing.{upper_half}
pub use Rattle.bucket_page.specs.Records.{lookup}
pub use Rattle.stale_search.proofs.of_file_pages.StoreLemmas.{layout_is}
pub use Rattle.stale_search.specs.file_pages.Writes.{OnlyWrites}
pub use Rattle.stale_search.specs.file_pages.declared.fault.FileFault.{FileFault}
pub use Rattle.hash_file.proofs.Frames.{page_other}
pub use Rattle.hash_file.proofs.OffChain.{write_new_keeps}
pub use Rattle.hash_file.proofs.Retargeting.{retarget_keeps_split, set_counts_keeps_split}
pub use Rattle.hash_file.proofs.Roles.{live_not_owned}
pub use Rattle.hash_file.proofs.Searches.{bucket_leads}
pub use Rattle.hash_file.proofs.Splitting.{write_old_keeps, write_old_ways}
pub use Rattle.hash_file.specs.Changes.{copy_directory, raise_depth, retarget, set_counts, split_counts, take_page, write_new, write_old}
pub use Rattle.hash_file.specs.Sound.{IsSoundFile}
pub use Rattle.hash_file.specs.Store.{page_at}
pub use Rattle.page_locks.specs.Locks.{kind_of}
pub use Rattle.page_locks.specs.Table.{IsSeat, Table, held, row_of, without_lock}
pub use Rattle.page_locks.specs.Writers.{may_write}
pub use Rattle.directory.proofs.MemberLaws.{contains_head}
pub use Rattle.stale_search.specs.Searches.{HasNoFileLock}
pub use Rattle.stale_search.specs.Steps.{Sees, Step, world}
pub use Rattle.stale_search.specs.Words.{store_of}
pub use Rattle.std.proofs.lemmas.Bool.{ltb-false}
pub use Rattle.step_rules.proofs.FallLemmas.{copies_on, retargets_on}
pub use Rattle.step_rules.proofs.KindLemmas.{kind_keeps}
pub use Rattle.step_rules.proofs.LockLemmas.{IsHeld-some}
pub use Rattle.step_rules.proofs.LockStepLemmas.{none_busy}
pub use Rattle.step_rules.proofs.TurnLemmas.{turn_keeps}
pub use Rattle.step_rules.specs.Does.{KeepsOthers}
pub use Rattle.step_rules.specs.Known.{AllKnown}
pub use Rattle.step_rules.specs.LockSteps.{Releases}
pub use Rattle.step_rules.specs.PageSteps.{CopiesDirectory, Retargets, SetsCounts, WritesNew, WritesOld}
pub use Rattle.step_rules.specs.Rooms.{HasNoRoom}
pub use Rattle.step_rules.specs.Structure.{IsCopiedBefore, IsRetargetedBefore, target_of}
pub use Rattle.step_rules.specs.Turns.{DoesTied, IsAsDeep, LacksRoom, SplitsFor}
pub use Rattle.step_rules.specs.Words.{IsBucketOf, PageLeads, Store, bucket_at, chain, range_at, records_at}
pub use Rattle.step_rules.specs.World.{gone_on}
pub use Rattle.step_rules.specs.declared.kind.Kind.{Kind}
