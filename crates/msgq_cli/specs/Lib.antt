pub mod Answers
pub mod Checks
pub mod Commands
pub mod Lines
pub mod Maps
pub mod Metrics
pub mod Options
pub mod Outputs
pub mod Progress
pub mod Refusals
pub mod Reports
pub mod Runs
pub mod Scripts
pub mod Spelling
pub mod Tasks
pub mod Texts
pub mod Unread
pub use Rattle.file_check.specs as file_check
pub use Rattle.record_file.specs as record_file
pub mod Waiting
