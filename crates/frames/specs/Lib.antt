pub mod Little
pub mod Frames
pub mod Requests
pub mod Records
pub mod Reading
pub mod Answers
pub mod Spelling
