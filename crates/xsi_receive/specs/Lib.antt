pub mod Asked
pub mod Asking
pub mod Heads
pub mod Knowing
pub mod Removing
pub mod Words
