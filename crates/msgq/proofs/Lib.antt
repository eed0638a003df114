pub mod NewLemmas
pub mod SpelledLemmas
pub mod OverLemmas
