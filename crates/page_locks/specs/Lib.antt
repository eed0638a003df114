pub mod Grants
pub mod Holding
pub mod Locks
pub mod Probing
pub mod Table
pub mod Ties
pub mod Writers
pub use Rattle.numbers.specs as numbers
