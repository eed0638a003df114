pub mod Run
pub mod Lanes
