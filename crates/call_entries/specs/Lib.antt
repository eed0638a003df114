pub mod Entries
pub mod Log
pub mod Reading
pub mod Laws
