pub mod Agreeing
pub mod Deciding
pub mod Owning
pub mod Rooms
pub mod Seeking
pub mod Slots
pub mod Sweeping
pub mod Telling
pub mod Writing
pub use Rattle.type_chains.specs as type_chains
