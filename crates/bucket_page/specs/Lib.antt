pub mod Bucket
pub mod Changes
pub mod Dividing
pub mod Keys
pub mod Laws
pub mod Marks
pub mod PseudokeyLaws
pub mod Pseudokeys
pub mod Reading
pub mod Records
pub mod Spelling
pub use Rattle.directory.specs as directory
pub use Rattle.directory.specs.numbers
pub use Rattle.directory.specs.page_device
