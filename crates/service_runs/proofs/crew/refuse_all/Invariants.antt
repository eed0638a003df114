-- Those so far are refused.
use Rattle.service_runs.proofs.WorkLemmas.{IsRefusing}
use Rattle.service_runs.proofs.crew.refuse_all.Given as goal

abbrev pub invariant-loop-place : goal.invariant-loop-place
invariant-loop-place g l = IsRefusing g.N.Base.origin l.fn.desks.items l.desks.items l.place
