-- Words of the crates below, under one name for the proofs of this one.
pub use Rattle.bucket_page.specs.Bucket.{Bucket}
pub use Rattle.bucket_page.specs.Dividing.{ShareNoKey}
pub use Rattle.bucket_page.specs.Records.{Pair, record_bytes}
pub use Rattle.directory.specs.declared.header.Header.{Header}
pub use Rattle.stale_search.proofs.of_file_pages.StoreLemmas.{header_is, layout_is, pages_are}
pub use Rattle.stale_search.specs.file_pages.Buckets.{AreJoinable, IsThere, MayJoin}
pub use Rattle.stale_search.specs.file_pages.Entries.{MayRetarget}
pub use Rattle.stale_search.specs.file_pages.Fault.{FileHasCause, IsDevicesFault}
pub use Rattle.stale_search.specs.file_pages.Files.{IsFilePool, IsReady, SpellsFile}
pub use Rattle.stale_search.specs.file_pages.Headers.{MayMergeCount}
pub use Rattle.stale_search.specs.file_pages.Reads.{IsSeen, OnlyReads}
pub use Rattle.stale_search.specs.file_pages.Writes.{OnlyWrites}
pub use Rattle.stale_search.specs.file_pages.declared.fault.FileFault.{FileFault}
pub use Rattle.stale_search.specs.file_pages.declared.sight.BucketSight.{BucketSight}
pub use Rattle.hash_file.proofs.Chains.{chain_valid}
pub use Rattle.hash_file.proofs.Lookups.{absent_elsewhere}
pub use Rattle.hash_file.proofs.Roles.{numbered}
pub use Rattle.hash_file.proofs.Short.{ways_are_short}
pub use Rattle.hash_file.specs.Chain.{IsBucketOf, IsPlaced, how_many}
unfoldable pub use Rattle.hash_file.specs.Chain.{chain}
pub use Rattle.hash_file.specs.Change.{aside, busy, owned}
pub use Rattle.hash_file.specs.Changes.{Remove, link_free, lower_depth, merge_counts, retarget, set_counts, write_free, write_left, write_tombstone}
pub use Rattle.hash_file.specs.Kept.{KeepsContents}
pub use Rattle.hash_file.specs.Sound.{IsSoundFile}
pub use Rattle.hash_file.specs.Store.{Layout, Store, bucket_at, count_at, entry_at, page_at, range_of}
pub use Rattle.page_device.specs.declared.page.TheConstants.{MAX_PAGES}
pub use Rattle.page_locks.proofs.ChangeLemmas.{with_row-own}
pub use Rattle.page_locks.proofs.TableLemmas.{row_of-same}
pub use Rattle.page_locks.proofs.WriterLemmas.{IsFree-unopposed}
pub use Rattle.page_locks.specs.Locks.{converted, kind_of, lock_of, without}
pub use Rattle.page_locks.specs.Table.{IsOpposed, IsSeat, held, with_lock, without_lock}
pub use Rattle.page_locks.specs.Writers.{may_write}
pub use Rattle.page_locks.specs.declared.row.TheConstants.{MAX_LOCKS}
pub use Rattle.directory.proofs.BuddyLaws.{lower_buddies, parent_valid}
pub use Rattle.directory.proofs.MemberLaws.{contains_head, contains_none}
pub use Rattle.directory.proofs.RangeLaws.{halves_apart}
pub use Rattle.directory.specs.Ranges.{AreHalvesOf}
pub use Rattle.directory.specs.declared.pseudokey.TheConstants.{PSEUDOKEY_BITS}
pub use Rattle.stale_search.specs.Approaches.{approach_facts_at, approach_locks_at}
pub use Rattle.stale_search.specs.declared.place.ApproachPlace.{ApproachPlace}
pub use Rattle.stale_search.specs.declared.place.ApproachPlace.TheVariants.{At}
pub use Rattle.std.proofs.Math.Pow.{pow_mono}
pub use Rattle.std.proofs.lemmas.Bool.{cases_Bool, ltb-false, true≢false}
pub use Rattle.std.proofs.lemmas.List.{length_push}
pub use Rattle.std.proofs.lemmas.List.Elements.{All-head, All-tail}
pub use Rattle.std.specs.List.{All, Contains}
pub use Rattle.std.specs.Prelude.{Err, IfErr, IsTrue, Ok, OnErr, OnOk, Result, is_ok}
pub use Rattle.step_rules.proofs.BuddyLemmas.{buddy_is_other_half}
pub use Rattle.step_rules.proofs.FallLemmas.{retargets_on}
pub use Rattle.step_rules.proofs.KindLemmas.{kind_keeps, kind_keeps_contents}
pub use Rattle.step_rules.proofs.LockLemmas.{IsHeld-some}
pub use Rattle.step_rules.proofs.LockStepLemmas.{KeepsOthers-same, none_busy}
pub use Rattle.step_rules.proofs.MachineLemmas.{AllKnown-relocked, last_rank, page_may}
pub use Rattle.step_rules.proofs.OwnLemmas.{entry_is_bucket}
pub use Rattle.step_rules.proofs.TurnLemmas.{is_of_its_kind, turn_keeps}
pub use Rattle.step_rules.specs.Does.{KeepsOthers}
pub use Rattle.step_rules.specs.Known.{AllAnchored, AllKnown, IsKnown}
pub use Rattle.step_rules.specs.LockSteps.{Converts, IsDone, Releases}
pub use Rattle.step_rules.specs.PageSteps.{LinksFree, LowersDepth, Retargets, SetsCounts, WritesFree, WritesLeft, WritesTombstone}
pub use Rattle.step_rules.specs.Pages.{used_on}
pub use Rattle.step_rules.specs.Rooms.{IsWhole}
pub use Rattle.step_rules.specs.Sound.{IsSoundWorld}
pub use Rattle.step_rules.specs.Structure.{HasShape, IsRetargetedBefore, target_of}
pub use Rattle.step_rules.specs.Turns.{DoesTied, MayBeGranted, StandsInWay}
pub use Rattle.step_rules.specs.World.{IsHeld, IsReached, World}
pub use Rattle.step_rules.specs.declared.kind.Kind.{Kind}
