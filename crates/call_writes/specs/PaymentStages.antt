-- What of a call is paid. docs/STEPS.md, "Calls", "Remove".
use Rattle.std.specs.Prelude.{Option}
use Rattle.xsi_remove.specs.declared.work.Work.{Work}
use Rattle.call_writes.specs.declared.writes.CallWrites.{CallWrites}

pub data Stage : Type 0 where
  -- the messages of the queue are swept
  Sweeping : Option Work → Stage
  -- the plan is written, or its trials are undone
  Writing : CallWrites → Stage
