pub mod Words
pub mod Making
pub mod Session
pub mod Writing
