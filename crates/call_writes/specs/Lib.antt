pub mod WriteWords
pub mod Dues
pub mod Views
pub mod Carrying
pub mod CarrySteps
pub mod WriteRuns
pub mod MakeSteps
pub mod WriteLaws
pub mod PaymentWords
pub mod PaymentStages
pub mod Payments
pub mod Paying
pub mod PaymentLaws
pub use Rattle.call_decisions.specs as call_decisions
pub use Rattle.record_file.specs as record_file
pub use Rattle.xsi_remove.specs as xsi_remove
