pub mod Taking
pub mod Runs
pub mod PlainRuns
pub mod Serves
pub mod Spelled
