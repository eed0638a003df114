-- Words of the crates below, under one name for the proofs of this one.
pub use Rattle.record_file.specs.split_merge.Facts.{left_at as merge_left_at, steps_left as merge_left}
pub use Rattle.record_file.specs.split_merge.Places.{MergeView, merge_locks}
pub use Rattle.record_file.specs.split_merge.declared.merge_place.MergePlace.{MergePlace}
pub use Rattle.directory.specs.Reading.{header_at}
pub use Rattle.directory.specs.declared.header.Header.{Header}
pub use Rattle.directory.specs.declared.layout.TheConstants.{ROOT_PAGE}
pub use Rattle.record_file.proofs.of_file_pages.StoreLemmas.{header_is, layout_is}
pub use Rattle.record_file.specs.file_pages.Files.{image}
pub use Rattle.record_file.specs.file_pages.declared.fault.FileFault.{FileFault}
pub use Rattle.hash_file.proofs.Short.{ways_are_short}
pub use Rattle.hash_file.specs.Chain.{chain}
pub use Rattle.hash_file.specs.Search.{distance}
pub use Rattle.hash_file.specs.Store.{Layout, range_at}
pub use Rattle.page_device.specs.declared.page.TheConstants.{MAX_PAGES}
pub use Rattle.directory.proofs.CountLaws.{begun_one}
pub use Rattle.directory.specs.Positions.{position_of}
pub use Rattle.directory.specs.Tiles.{begun}
pub use Rattle.directory.specs.declared.range.Range.{Range}
pub use Rattle.record_file.proofs.of_stale_search.StayLemmas.{Stays-of}
pub use Rattle.record_file.specs.stale_search.Approaches.{ApproachView, approach_left, approach_left_at}
pub use Rattle.record_file.specs.stale_search.Searches.{SearchView, answers_at, left_at as search_left_at, steps_left}
pub use Rattle.record_file.specs.stale_search.declared.place.ApproachPlace.{ApproachPlace}
pub use Rattle.record_file.specs.stale_search.declared.place.SearchPlace.{SearchPlace}
pub use Rattle.record_file.specs.step_rules.Turns.{Turn, TurnsAt, WritesAsked}
pub use Rattle.record_file.specs.step_rules.Ways.{hops_between}
pub use Rattle.record_file.specs.OperationSteps.{MakesOperation}
pub use Rattle.record_file.specs.Operations.{operation_facts, operation_left, operation_locks, operation_turn}
