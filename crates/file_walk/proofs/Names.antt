-- Words of the crates below, under one name for the proofs of this one.
pub use Rattle.bucket_page.specs.Bucket.{Bucket}
pub use Rattle.bucket_page.specs.declared.layout.TheConstants.{BUCKET, TOMBSTONE}
pub use Rattle.bucket_page.specs.declared.page.Malformed.{Malformed}
pub use Rattle.bucket_page.specs.declared.page.PageKind.{PageKind}
pub use Rattle.bucket_page.specs.declared.record_key.RecordKey.{RecordKey}
pub use Rattle.directory.specs.Pages.{entries_area, entries_at}
unfoldable pub use Rattle.directory.specs.Pages.{entries_of}
pub use Rattle.directory.specs.declared.layout.TheConstants.{DIRECTORY, DIRECTORY_PAGES, FIRST_DIRECTORY_PAGE, GREATEST_DEPTH, LEAST_PAGES, PAGE_ENTRIES, ROOT_PAGE}
pub use Rattle.numbers.specs.Numbers.{numbers_of}
unfoldable pub use Rattle.numbers.specs.Numbers.{four_at}
pub use Rattle.hash_file.proofs.Chains.{chain_is}
pub use Rattle.hash_file.proofs.Frames.{sound_by}
pub use Rattle.hash_file.proofs.Ties.{quiet_exact}
pub use Rattle.hash_file.specs.Chain.{IsChain, IsPlaced, times}
pub use Rattle.hash_file.specs.Change.{Quiet}
pub use Rattle.hash_file.specs.Sound.{HasLayout, IsSoundFile, IsSoundOn}
pub use Rattle.hash_file.specs.Store.{bucket_at, has_bucket, is_bucket, range_at}
pub use Rattle.page_device.specs.Sealed.{payload_of}
pub use Rattle.directory.proofs.PartitionLaws.{partition_tiles}
pub use Rattle.std.proofs.Math.Nat.{zero-mul}
pub use Rattle.std.proofs.lemmas.Bool.Decides.{nat_tests}
pub use Rattle.std.proofs.lemmas.List.{append-nil, get_or-drop, get_or-replicate, get_or-take, get_or_append_left, length-append, length-drop, length-replicate, length-take-le}
pub use Rattle.std.proofs.lemmas.List.Concat.{flat_map-cons}
pub use Rattle.std.specs.List.{Contains, flat_map}
