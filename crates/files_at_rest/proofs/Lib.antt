pub mod Names
pub mod PageLemmas
pub mod AloneLemmas
pub mod SystemLemmas
pub mod EmptyLemmas
pub mod NewLemmas
pub mod NewStructure
pub mod NewLaws
pub mod SpelledLemmas
pub mod OpenedSameLemmas
pub mod StoredLemmas
pub mod OpenedOpenLemmas
pub mod CloseLemmas
pub use Rattle.file_check.proofs as of_file_check
