pub mod KeepingLemmas
pub mod AloneLemmas
pub mod UnderWayLemmas
