pub mod Crash
pub mod Device
pub mod Left
pub mod Memory
pub mod Safe
pub use Rattle.page_device.specs as page_device
