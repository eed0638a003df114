-- Lemmas of what a call asks and pays, for the laws of calls.
pub use Rattle.call_writes.proofs.PaymentDecidedLemmas.{owes_nothing_at_end}
pub use Rattle.call_writes.proofs.of_call_decisions.HeldLemmas.{has_or_not}
pub use Rattle.xsi_calls.proofs.UndecidedNames.{operation_aside, wrote_not, wrote_of}
