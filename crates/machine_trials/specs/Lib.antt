pub mod Schedule
pub mod WrongTurns
pub mod Seats
