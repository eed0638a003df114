pub mod Access
pub mod Applied
pub mod Errnos
pub mod Found
pub mod Journal
pub mod Lawful
pub mod Laws
pub mod Order
pub mod Places
pub mod Rules
pub mod Selection
pub mod State
pub use Rattle.numbers.specs as numbers
