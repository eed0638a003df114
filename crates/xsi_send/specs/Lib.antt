pub mod Asked
pub mod Knowing
pub mod Planning
pub mod Places
pub mod Words
