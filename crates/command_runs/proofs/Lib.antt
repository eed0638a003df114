pub mod AskLemmas
pub mod RunLemmas
pub mod LookLemmas
pub mod CommandLemmas
