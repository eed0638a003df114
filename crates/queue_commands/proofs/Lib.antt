pub mod TableLemmas
mod LineLemmas
mod ReadLemmas
pub mod ObjectLemmas
pub mod ModelWords
pub mod AnswerLemmas
pub mod AskLemmas
pub mod SendLemmas
pub mod ReceiveLemmas
