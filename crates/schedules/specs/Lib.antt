pub mod Numbers
pub mod Reading
pub mod Words
pub mod Events
pub mod Laws
pub mod Schedules
