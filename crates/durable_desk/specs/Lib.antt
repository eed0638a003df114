pub mod Saved
pub mod Durable
pub mod Opening
pub mod Commit
pub mod Room
pub mod History
