pub mod MomentLemmas
pub mod SavedLemmas
pub mod CommitLemmas
pub mod ServingLemmas
pub mod OpeningLemmas
pub mod HistoryLemmas
