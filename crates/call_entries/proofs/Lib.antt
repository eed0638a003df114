pub mod LogLemmas
pub mod EntryLemmas
pub mod ReadLemmas
pub mod RuleLemmas
