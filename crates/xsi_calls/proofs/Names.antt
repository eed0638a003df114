-- Words of the crates below, under one name for the proofs of this one.
pub use Rattle.call_writes.specs.call_decisions.Owing.{is_swept}
pub use Rattle.call_writes.specs.call_decisions.Settling.{IsAnswer, IsSweepOf, Means}
pub use Rattle.call_writes.proofs.PaymentBeginLemmas.{undoes_its_trials}
pub use Rattle.call_writes.proofs.PaymentDecidedLemmas.{has_few, owes_nothing_at_end, pays_what_is_decided}
pub use Rattle.call_writes.proofs.PaymentNames.{AccessView, begun_at, nears_with}
pub use Rattle.call_writes.specs.PaymentLaws.{HasTried, HoldsWhereSwept, MOST_PAYMENT_STEPS, WillPay, last_of}
pub use Rattle.call_writes.specs.PaymentWords.{IsFiled, inserted, writes_of, FollowsRow}
pub use Rattle.file_pages.specs.declared.fault.FileFault.{FileFault}
pub use Rattle.call_writes.proofs.of_call_decisions.HeldLemmas.{has_or_not}
pub use Rattle.page_locks.proofs.ChangeLemmas.{with_row-own, with_row-twice}
pub use Rattle.page_locks.proofs.TableLemmas.{row_of-same}
pub use Rattle.queue_model.specs.declared.answer.Answer.{Answer}
pub use Rattle.step_rules.proofs.LockStepLemmas.{KeepsOthers-same}
pub use Rattle.xsi_calls.proofs.UndecidedNames.{Deed, GivesBack, given_back, in_order, MakesNameStep, Question, Writing, changes_by, decided_at, facts_under, is_full_at, locks_behind, locks_under, next_deed, set_out, turn_under, writes_none}
pub use Rattle.xsi_calls.specs.UndecidedBelow.{key_of, undoing}
pub use Rattle.xsi_calls.specs.Deciding.{IsDecidedIn, IsSettled, IsShortOfRoom, MayWrite}
pub use Rattle.xsi_calls.specs.Knowing.{IsAsking, IsTrying, IsUndecidedIn}
pub use Rattle.xsi_calls.specs.Undecided.{CanDecideIn, IsCalmIn, locks_in, owes_in, trials_in, untried, Trials}
pub use Rattle.xsi_calls.specs.UndecidedWords.{Due, Record, Writes, is_full, names_in, owes, questions_facts}
pub use Rattle.xsi_inquiry.specs.Deciding.{answer_of}
pub use Rattle.xsi_inquiry.specs.Writing.{CanAllBe, HasRange}
pub use Rattle.xsi_inquiry.specs.declared.write.Write.{Write}
