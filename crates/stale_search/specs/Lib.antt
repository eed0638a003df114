pub mod Words
pub mod Rows
pub mod Steps
pub mod Searches
pub mod Approaches
pub mod Callers
pub mod Walks
pub mod SearchRuns
pub use Rattle.file_pages.specs as file_pages
pub use Rattle.step_rules.specs as step_rules
pub use Rattle.file_pages.specs.buffer_pool
