use Rattle.std.specs.Prelude.{vec_capacity, vec_len, length}
use Rattle.workers.specs.Told.{IsUnderWay}
use Rattle.workers.proofs.service.Service.call_within.Given as goal

abbrev pub invariant-loop : goal.invariant-loop
invariant-loop g l =
    IsUnderWay l.fn.call (length g.N.Base.origin.callers) l.seat-inside.number (vec_len l.seat-inside.list)
    (vec_capacity l.seat-inside.list) l.seat-inside.list.items l.fn.seat l.seat-inside.pass
