-- Words of the crates below, under one name.
pub use Rattle.call_writes.specs.call_decisions.Settling.{AreAlike, IsRight, Means, settled_by}
pub use Rattle.call_writes.specs.call_decisions.declared.settled.Settled.{Settled}
pub use Rattle.xsi_calls.specs.Agreeing.{Agrees}
pub use Rattle.xsi_calls.specs.Counting.{finds_behind}
pub use Rattle.xsi_calls.specs.QuestionRuns.{AsksAtOnce, stops_on}
pub use Rattle.call_writes.specs.WriteRuns.{At, AskStep, Kind, MovesAlong, Promise, SearchesOnce, Way, WritesAtOnce, at, stops_through}
pub use Rattle.xsi_calls.specs.QuestionWords.{AnyInquiry, AreNames, Blocked, MAX_NAMES, Call, Caller, IsFiled, KnowsOf, LockName, NotASystem, Roomful, State, asked_of, caller_of, left_of, names_for, names_in, plan_of, record_of}
pub use Rattle.xsi_calls.specs.Questions.{AreNamesOf, HasBegun, HasKey, Holds, IsBare, KnowsApart, KnowsItsKey, KnowsNear, QuestionsView, is_done, questions_facts, questions_left, questions_locks, questions_turn}
pub use Rattle.xsi_calls.specs.Questions.{IsRight as IsRightSoFar}
pub use Rattle.call_writes.specs.Carrying.{IsCarrying}
pub use Rattle.call_writes.specs.CarrySteps.{TrialLacksRoom}
pub use Rattle.call_writes.specs.Dues.{next_deed, owes}
pub use Rattle.call_writes.specs.Views.{IsOver, is_full, writes_facts, writes_left_in, writes_locks, writes_turn}
pub use Rattle.call_writes.specs.WriteWords.{Change, Known, Lock, MOST_STEPS, NearsOrSpares, OnlyWrites, Owes, Plan, PoolState, Progress, Ended, Fault, Record, RecordKey, Records, IsReady, IsSeat, Step, Store, Table, Turn, World, Writes, guard_of, is_fault, is_write, key_of, kind_of, overlaid, row_of, store_of, world}
pub use Rattle.call_writes.specs.declared.due.Due.{Due}
pub use Rattle.call_writes.specs.declared.due.Due.TheVariants.{Trying, Full}
pub use Rattle.call_writes.specs.call_decisions.Anything.{decided_of, locked_of}
pub use Rattle.page_locks.specs.Table.{with_row}
pub use Rattle.page_locks.specs.declared.lock.LockKind.TheVariants.{Exclusive}
pub use Rattle.xsi_inquiry.specs.Writing.{inserted, nothing}
pub use Rattle.xsi_inquiry.specs.declared.decision.Decision.{Decision}
pub use Rattle.xsi_inquiry.specs.declared.decision.Sweep.{Sweep}
pub use Rattle.xsi_calls.specs.stale_search.Steps.{Sees}
