pub mod TwoSeats
pub mod SplitTurns
pub mod MergeTurns
pub mod ScheduleLemmas
pub mod WrongTurnLemmas
mod SeatLemmas
