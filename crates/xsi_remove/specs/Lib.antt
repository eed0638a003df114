pub mod Words
pub mod Deeds
pub mod Sweeps
pub mod UnderWay
pub mod SweepSteps
pub mod Works
pub mod Laws
