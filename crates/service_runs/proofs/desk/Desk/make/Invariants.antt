-- The lines so far are made.
use Rattle.std.proofs.Common.{take}
use Rattle.service_runs.proofs.MakeLemmas.{IsMaking}
use Rattle.service_runs.proofs.desk.Desk.make.Given as goal

abbrev pub invariant-loop-line : goal.invariant-loop-line
invariant-loop-line g l =
    IsMaking g.N.Base.origin (take l.line-index l.line-items) l.fn.self
    (record { sitter = l.self-inside.seat; lines = l.self-inside.lines })
