pub mod Alone
pub mod OneAccess
