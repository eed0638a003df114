pub mod Acts
pub mod NoteTransfers
pub mod Noting
pub mod Reading
pub mod Recovering
pub mod RecoveryTransfers
pub mod Saving
pub mod Transfers
pub use Rattle.safe_device.specs as safe_device
