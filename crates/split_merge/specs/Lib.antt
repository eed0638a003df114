pub mod MergeWords
pub mod Places
pub mod Facts
pub mod Steps
pub mod Words
pub mod Entries
pub mod Order
pub mod Splits
pub use Rattle.stale_search.specs as stale_search
pub use Rattle.stale_search.specs.buffer_pool
pub use Rattle.stale_search.specs.file_pages
