-- Words of the crates below, under one name for the proofs of this one.
pub use Rattle.bucket_page.proofs.PageLaws.{bucket_again}
pub use Rattle.bucket_page.specs.Bucket.{Bucket}
pub use Rattle.bucket_page.specs.Changes.{IsBucketPage}
pub use Rattle.bucket_page.specs.Reading.{bucket_in, page_in, records_in}
pub use Rattle.bucket_page.specs.Records.{lookup}
pub use Rattle.bucket_page.specs.Spelling.{Spells}
pub use Rattle.bucket_page.specs.declared.page.PageKind.{PageKind}
pub use Rattle.bucket_page.specs.declared.record_key.RecordKey.{RecordKey}
pub use Rattle.buffer_pool.proofs.ImagesLemmas.{count_none, rest_again}
pub use Rattle.buffer_pool.specs.Pool.{IsCrowded, KeepsSeals, MayNotPin, PoolState, pins_at}
pub use Rattle.buffer_pool.specs.declared.fault.PoolFault.{PoolFault}
pub use Rattle.buffer_pool.specs.declared.fault.PoolFault.TheVariants.{Device, Malformed, NoMemory, TooFewFrames}
pub use Rattle.directory.specs.Pages.{entries_at}
pub use Rattle.directory.specs.declared.layout.TheConstants.{DIRECTORY_PAGES, ROOT_PAGE}
pub use Rattle.hash_file.specs.Store.{bucket_of, is_bucket, page_at}
pub use Rattle.page_device.specs.Device.{HasRisen}
pub use Rattle.buffer_pool.proofs.FormLemmas.{directory_well, page_is}
pub use Rattle.buffer_pool.specs.Forms.{IsWell}
pub use Rattle.std.proofs.lemmas.Bool.{cases_lt}
pub use Rattle.std.proofs.lemmas.Option.{get_or_from_slice_get}
