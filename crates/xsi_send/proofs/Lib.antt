pub mod Names
pub mod Expected
pub mod Sent
pub mod SentPlans
pub mod SentParts
pub mod Told
pub mod Walked
