-- Words of the crates below, under one name.
pub use Rattle.call_decisions.specs.Others.{DecidesApart, HoldsOwn}
pub use Rattle.call_decisions.specs.Settling.{IsAnswer, writes_owed}
pub use Rattle.call_decisions.specs.Words.{Answer, Caller, Owes, Sweep, Verdict, outcome}
pub use Rattle.xsi_calls.specs.call_writes.Paying.{AreSameUnder, IsPaying}
pub use Rattle.xsi_calls.specs.call_writes.PaymentStages.{Stage}
pub use Rattle.xsi_calls.specs.UndecidedBelow.{AnyInquiry, Counter, HasNoFileLock, Known, Owns, Progress, Roomful, Sees, StandsAt, Step, Turn, counter_key, world}
pub use Rattle.xsi_calls.specs.call_writes.declared.writes.CallWrites.{CallWrites}
pub use Rattle.file_pages.specs.Files.{IsFilePool}
pub use Rattle.file_pages.specs.declared.fault.FileFault.{FileFault}
pub use Rattle.page_locks.specs.Table.{IsLawful, held}
pub use Rattle.page_locks.specs.declared.lock.LockKind.TheVariants.{Exclusive}
pub use Rattle.step_rules.specs.Known.{IsKnown}
pub use Rattle.step_rules.specs.Sound.{IsSoundWorld}
pub use Rattle.xsi_calls.specs.Deciding.{IsSettled}
pub use Rattle.xsi_calls.specs.Knowing.{IsAsking, IsTrying, IsUndecided}
pub use Rattle.xsi_calls.specs.Undecided.{its_plan}
pub use Rattle.xsi_calls.specs.UndecidedSteps.{AsksOn, GoesOn, IsBehind}
pub use Rattle.xsi_calls.specs.UndecidedWords.{AreAlike, Call, Change, HasBegun, HasKey, Holds, IsFiled, KnowsApart, KnowsItsKey, KnowsNear, KnowsOf, Lock, LockName, Plan, PoolState, QuestionsView, Record, RecordKey, Records, State, Store, Table, asked_of, caller_of, guard_of, kind_of, locked_of, names_for, names_in, questions_facts, questions_locks, record_of, row_of, store_of}
pub use Rattle.xsi_calls.specs.Undecided.{Trials}
pub use Rattle.xsi_calls.specs.Undecided.{UndecidedCall}
