-- Words of the crates below, under one name.
pub use Rattle.call_writes.specs.record_file.AccessWords.{RecordKey, PoolState, Table, Lock, Change, Store, row_of, store_of, IsReady, OnlyWrites, Progress, Moved, Blocked, Fault, Ended, Look, World, Known, Turn, is_fault, IsSeat, HasNoFileLock, Sees, Step, world, NearsOrSpares, HasEnded, Record}
pub use Rattle.call_writes.specs.record_file.Purposes.{ToFind, StandsAt, is_write}
pub use Rattle.call_writes.specs.record_file.Accesses.{AccessView, HasFound, Serves, access_answer, access_facts, access_key, access_left, access_locks, access_pseudokey, access_turn, begun, has_set_out, searches_under}
pub use Rattle.call_writes.specs.call_decisions.declared.any_inquiry.AnyInquiry.{AnyInquiry}
pub use Rattle.call_writes.specs.call_decisions.Anything.{FollowsOf, KnowsOf, asked_of, caller_of, left_of, plan_of}
pub use Rattle.xsi_calls.specs.call_decisions.NameLaws.{AreNames, names_in}
pub use Rattle.xsi_calls.specs.call_decisions.Names.{by_phase, exclusively, names_for, queue_for}
pub use Rattle.xsi_calls.specs.call_decisions.declared.held.TheConstants.{MAX_NAMES}
pub use Rattle.xsi_calls.specs.HeldLaws.{Begins}
pub use Rattle.xsi_calls.specs.NameSteps.{GivesBack, MakesNameStep}
pub use Rattle.xsi_calls.specs.NameTurns.{name_turn, names_left}
pub use Rattle.xsi_calls.specs.declared.turn.NameTurn.{NameTurn}
pub use Rattle.xsi_calls.specs.declared.turn.NameTurn.TheVariants.{Take, GiveBack, Ready}
pub use Rattle.page_locks.specs.declared.lock.LockName.{LockName}
pub use Rattle.page_locks.specs.Table.{with_row}
pub use Rattle.queue_model.specs.declared.call.Call.{Call}
pub use Rattle.queue_model.specs.declared.caller.Caller.{Caller}
pub use Rattle.queue_model.specs.State.{State}
pub use Rattle.queue_records.specs.declared.counter.Counter.{Counter}
pub use Rattle.queue_records.specs.Keys.{guard_of}
pub use Rattle.queue_records.specs.Spelling.{counter_key}
pub use Rattle.xsi_inquiry.specs.type_chains.RecordOf.{record_of}
pub use Rattle.xsi_inquiry.specs.declared.wanted.Wanted.{Wanted}
pub use Rattle.xsi_inquiry.specs.declared.wanted.Wanted.TheVariants.{At, Given}
pub use Rattle.xsi_inquiry.specs.declared.inquiry.NotASystem.{NotASystem}
pub use Rattle.xsi_inquiry.specs.Agreeing.{IsCovered, IsSoNear}
pub use Rattle.xsi_inquiry.specs.Rooms.{Roomful}
pub use Rattle.xsi_inquiry.specs.Telling.{IsFiled}
