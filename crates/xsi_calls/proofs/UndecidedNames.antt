-- Words of the crates below, under one name for the proofs of this one.
pub use Rattle.call_writes.specs.call_decisions.Asked.{few_of}
pub use Rattle.call_writes.proofs.of_call_decisions.SettleLemmas.{settles, tries_rightly}
pub use Rattle.call_writes.specs.call_decisions.Laws.{CanTry}
pub use Rattle.xsi_calls.proofs.QuestionHeldLemmas.{given_back, in_order}
pub use Rattle.xsi_calls.proofs.QuestionNames.{WalksTo, take_in_order, write_under_names}
pub use Rattle.xsi_calls.proofs.LeftLemmas.{few_searches}
pub use Rattle.xsi_calls.proofs.QuestionPlanLemmas.{held_names}
pub use Rattle.xsi_calls.proofs.TurnLemmas.{writes_none}
pub use Rattle.xsi_calls.specs.QuestionLaws.{HoldsNames}
pub use Rattle.xsi_calls.specs.QuestionSteps.{Faces, KeepsQuestions, Learns}
pub use Rattle.xsi_calls.specs.Questions.{changes_by, facts_of, has_asked, locks_behind}
pub use Rattle.call_writes.proofs.WriteDecidedLemmas.{all_stand, one_more_stands}
pub use Rattle.call_writes.proofs.DueLemmas.{drop_next, own_deed, undoing_next}
pub use Rattle.call_writes.proofs.WriteLawLemmas.{times_most}
pub use Rattle.call_writes.proofs.WriteNames.{operation_aside, wrote_not, wrote_of}
pub use Rattle.call_writes.specs.CarrySteps.{Advances, Carries, KeepsPlan, Leaves}
pub use Rattle.call_writes.specs.Carrying.{OwnsPlan}
pub use Rattle.call_writes.specs.Dues.{CanGoOn, after_deed, deed_key, deeds_left, next_deed}
pub use Rattle.call_writes.specs.Dues.{IsBehind as IsBehindDeed}
pub use Rattle.call_writes.specs.WriteWords.{FollowsRow, HasRange, IsInRange, IsSmall, Moved, Owns, StandsAt, Write, AreAbsent, CanAllBe, is_same, key_of, key_written, undoing, with_at, writes_of, written_by}
pub use Rattle.call_writes.specs.declared.deed.Deed.{Deed}
pub use Rattle.file_pages.specs.declared.fault.FileFault.{FileFault}
pub use Rattle.xsi_inquiry.proofs.AgreeLemmas.{agrees_itself}
pub use Rattle.xsi_inquiry.proofs.LeadLemmas.{same_keys}
pub use Rattle.xsi_inquiry.specs.Owning.{IsUnder}
pub use Rattle.xsi_calls.specs.declared.question.Question.{Question}
pub use Rattle.call_writes.specs.Views.{decided_at, facts_under, is_full_at, locks_under, set_out, turn_under}
pub use Rattle.call_writes.specs.declared.due.Due.TheVariants.{Writing}
pub use Rattle.xsi_calls.specs.QuestionWords.{GivesBack, MakesNameStep}
