pub mod Deferred
pub mod Crash
pub use Rattle.safe_device.specs as safe_device
