-- Words of the crates below, under one name.
pub use Rattle.call_writes.specs.WriteWords.{RecordKey, PoolState, Table, Lock, Change, Store, Known, Turn, row_of, store_of, IsReady, IsSeat, EndsRow, OnlyWrites, FollowsRow, NearsOrSpares, Progress, Moved, Ended, Fault, is_fault, Step, World, world}
pub use Rattle.call_writes.specs.WriteWords.{StandsAt, is_write}
pub use Rattle.page_locks.specs.declared.lock.LockKind.TheVariants.{Exclusive}
pub use Rattle.page_locks.specs.declared.lock.LockName.{LockName}
pub use Rattle.call_writes.specs.WriteWords.{Owns, kind_of}
pub use Rattle.queue_model.specs.declared.call.Call.{Call}
pub use Rattle.queue_model.specs.declared.caller.Caller.{Caller}
pub use Rattle.queue_model.specs.declared.queue.Queue.{Queue}
pub use Rattle.queue_model.specs.State.{State}
pub use Rattle.queue_records.specs.Keys.{guard_of}
pub use Rattle.xsi_inquiry.specs.type_chains.RecordOf.{record_of}
pub use Rattle.xsi_inquiry.specs.declared.decision.Sweep.{Sweep}
pub use Rattle.xsi_inquiry.specs.Telling.{IsFiled}
pub use Rattle.xsi_inquiry.specs.Writing.{IsSmall, Plan, Records, inserted, writes_of}
pub use Rattle.call_decisions.specs.Owing.{Owes, OwesUnder, overlaid, without_swept}
pub use Rattle.call_decisions.specs.declared.settled.Settled.{Settled}
pub use Rattle.call_decisions.specs.Settling.{AreAlike, Means}
pub use Rattle.call_writes.specs.declared.due.Due.{Due}
pub use Rattle.call_writes.specs.declared.due.Due.TheVariants.{Trying, Full, Writing}
pub use Rattle.call_writes.specs.declared.writes.CallWrites.{CallWrites}
pub use Rattle.call_writes.specs.Carrying.{IsCarrying, OwnsPlan}
pub use Rattle.call_writes.specs.Dues.{CanGoOn, owes}
pub use Rattle.call_writes.specs.Views.{decided_at, writes_facts, writes_left_in, writes_locks, writes_turn}
pub use Rattle.xsi_remove.specs.declared.work.Work.{Work}
pub use Rattle.xsi_remove.specs.Sweeps.{Faces, begun_sweep, sweep_access, sweep_facts, sweep_left, sweep_locks, sweep_turn}
pub use Rattle.xsi_remove.specs.Works.{is_move}
