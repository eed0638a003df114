pub mod Words
pub mod Fault
pub mod Records
pub mod Right
pub mod Ids
pub mod Strays
pub mod Whole
pub mod Gathered
