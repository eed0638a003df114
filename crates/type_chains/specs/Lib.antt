pub mod Entries
pub mod Fits
pub mod Image
pub mod Laws
pub mod Lists
pub mod Neighbours
pub mod Others
pub mod Reading
pub mod RecordOf
pub mod Sending
pub use Rattle.queue_records.specs as queue_records
pub use Rattle.queue_records.specs.bucket_page
pub use Rattle.queue_records.specs.page_locks
