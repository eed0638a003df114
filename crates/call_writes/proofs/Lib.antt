pub mod WriteBeginLemmas
pub mod BegunLemmas
pub mod CarriesLemmas
pub mod CarryLemmas
pub mod WriteDecidedLemmas
pub mod DoneLemmas
pub mod DueLemmas
pub mod WriteLawLemmas
pub mod WriteNames
pub mod NearLemmas
pub mod NextLemmas
pub mod SortLemmas
pub mod StartLemmas
pub mod WriteStepLemmas
pub mod MakesLemmas
pub mod LastLemmas
pub mod WriteAtOnceLemmas
pub mod PaymentNames
pub mod RecordLemmas
pub mod PaymentBeginLemmas
pub mod PaymentDecidedLemmas
pub mod OwnLemmas
pub use Rattle.call_decisions.proofs as of_call_decisions
pub use Rattle.record_file.proofs as of_record_file
pub use Rattle.xsi_remove.proofs as of_xsi_remove
