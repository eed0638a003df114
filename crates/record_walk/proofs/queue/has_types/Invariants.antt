-- The Types so far stand.
use Rattle.std.proofs.Common.{ℤ, IsTrue, take}
use Rattle.std.specs.List.{All}
use Rattle.queue_records.specs.declared.record.Record.TheVariants as records
use Rattle.record_walk.specs.Held.{Holds, IsStill}
use Rattle.record_walk.specs.Words.{type_entry}
use Rattle.record_walk.proofs.queue.has_types.Given as goal

abbrev pub invariant-loop-place : goal.invariant-loop-place
invariant-loop-place g l = record {
  still : IsStill g.F.Records.held g.F.Records.pages g.F.Records.is_honest g.F.Records.fault_count l.fn.file l.file;
  stand : IsTrue (g.F.Records.is_honest l.fn.file) →
      All (λ (t : ℤ). Holds (g.F.Records.held l.fn.file) (records.Type (type_entry l.queue t)))
      (take l.place l.kinds);
}
