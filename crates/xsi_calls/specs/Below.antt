-- Words of what a call asks and pays, for the laws of calls.
pub use Rattle.call_writes.specs.PaymentWords.{Work, sweep_locks}
pub use Rattle.call_writes.specs.call_decisions.Owing.{owes_at}
pub use Rattle.call_writes.specs.PaymentStages.{Sweeping, Writing}
pub use Rattle.xsi_calls.specs.UndecidedBelow.{AccessView, Counter, Question, StandsAt, counter_key, locks_behind, locks_under}
pub use Rattle.xsi_calls.specs.Knowing.{IsUndecidedIn}
pub use Rattle.xsi_calls.specs.Undecided.{facts_in, locks_in, owes_in}
pub use Rattle.xsi_calls.specs.UndecidedWords.{IsFiled}
pub use Rattle.xsi_inquiry.specs.Deciding.{answer_of}
