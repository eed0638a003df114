pub mod Files
pub mod NewFileLaws
pub mod Resting
pub mod OpenedLaws
pub mod Spelled
pub mod SpelledLaws
pub use Rattle.file_check.specs as file_check
pub use Rattle.record_file.specs as record_file
