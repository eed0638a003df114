-- Words of what a call asks and of what it writes, for the laws of calls.
pub use Rattle.xsi_calls.specs.Questions.{asks_more, keeping, locks_behind, questions_facts}
pub use Rattle.xsi_calls.specs.QuestionWords.{AnyInquiry, Counter, Roomful, by_phase, counter_key, exclusively, names_for, queue_for}
pub use Rattle.xsi_calls.specs.declared.question.Question.{Question}
pub use Rattle.call_writes.specs.Carrying.{IsUnderWay}
pub use Rattle.call_writes.specs.Dues.{CanGoOn, MayGoOn, due_writes, purpose_of}
pub use Rattle.call_writes.specs.Views.{locks_under}
pub use Rattle.call_writes.specs.WriteWords.{AccessView, Allows, HasNoFileLock, Known, Owns, Progress, Sees, StandsAt, Step, Turn, access_key, is_same, key_of, made, undoing, world}
pub use Rattle.call_writes.specs.declared.due.Due.{Due}
pub use Rattle.call_writes.specs.declared.due.Due.TheVariants.{Trying, Full, Undoing, Writing}
pub use Rattle.call_writes.specs.declared.writes.CallWrites.{CallWrites}
