pub mod Fields
pub mod Keys
pub mod Older
pub mod Range
pub mod Reading
pub mod Records
pub mod Relinking
pub mod Spelling
pub use Rattle.bucket_page.specs as bucket_page
pub use Rattle.page_locks.specs as page_locks
