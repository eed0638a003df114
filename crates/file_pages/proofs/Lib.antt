pub mod Names
pub mod StoreLemmas
pub mod ReadLemmas
pub mod WriteLemmas
pub mod RecordLemmas
pub mod HeaderLemmas
pub mod PageLemmas
pub mod EntryLemmas
pub use Rattle.hash_file.proofs as of_hash_file
