pub mod Buckets
pub mod Entries
pub mod Fault
pub mod Files
pub mod Headers
pub mod Pinning
pub mod Reads
pub mod Writes
pub use Rattle.bucket_page.specs as bucket_page
pub use Rattle.buffer_pool.specs as buffer_pool
pub use Rattle.directory.specs as directory
pub use Rattle.hash_file.specs as hash_file
