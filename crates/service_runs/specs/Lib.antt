pub mod Lines
pub mod Desks
pub mod Printing
pub mod Beside
pub mod Spelled
