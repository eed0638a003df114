-- Words of the crates below and of this one, under one name for its proofs.
unfoldable pub use Rattle.directory.specs.Positions.{position_of}
pub use Rattle.directory.specs.Ranges.{AreHalvesOf, Covers, HasPosition, IsRange, lower_half_of, start_of, stop_of, upper_half_of}
pub use Rattle.directory.specs.Tiles.{AreNeighbours, begun}
pub use Rattle.directory.specs.declared.pseudokey.TheConstants.{POSITIONS, PSEUDOKEY_BITS}
pub use Rattle.directory.specs.declared.range.Range.{Range}
pub use Rattle.bucket_page.specs.directory.declared.header.Header.{Header}
pub use Rattle.bucket_page.specs.Bucket.{Bucket}
pub use Rattle.bucket_page.specs.Dividing.{has_bit, joined, lower_half, upper_half}
pub use Rattle.bucket_page.specs.Keys.{is_same}
pub use Rattle.bucket_page.specs.Records.{Pair, lookup}
pub use Rattle.bucket_page.specs.declared.page.PageKind.{PageKind}
pub use Rattle.bucket_page.specs.declared.record_key.RecordKey.{RecordKey}
pub use Rattle.hash_file.specs.Chain.{IsBucketOn, IsChain, IsPlaced, number_on, pairs_on, times}
unfoldable pub use Rattle.hash_file.specs.Chain.{chain}
pub use Rattle.hash_file.specs.Change.{Absorbed, Change, Filled, Linked, Quiet, gained, lost, owned}
pub use Rattle.hash_file.specs.Search.{PageLeadsOn, distance_on, reach}
pub use Rattle.hash_file.specs.Store.{Store, bucket_at, bucket_of, count_at, entry_at, has_bucket, is_bucket, next_at, page_at, range_at, range_of}
