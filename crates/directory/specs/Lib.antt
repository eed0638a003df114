pub mod Positions
pub mod Ranges
pub mod Tiles
pub mod Links
pub mod Partition
pub mod Laws
pub mod Entries
pub mod Fault
pub mod Layouts
pub mod Pages
pub mod Reading
pub mod Spelling
pub use Rattle.numbers.specs as numbers
pub use Rattle.page_device.specs as page_device
