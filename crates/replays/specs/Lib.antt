pub mod Events
pub mod Places
pub mod Rounds
pub mod Journal
pub mod PlainLists
pub mod Replays
pub mod Texts
