-- The access of the deed that comes next begins.
use Rattle.std.proofs.Common.{ap, subst, Some}
use Rattle.call_writes.specs.WriteWords.{AccessView, Serves}
use Rattle.call_writes.specs.Dues.{purpose_of}
use Rattle.call_writes.specs.MakeSteps.{Begins}
use Rattle.call_writes.specs.declared.writes.CallWrites.{CallWrites}
use Rattle.call_writes.proofs.writes.CallWrites.begin_next.Goals as goal

pub returns : goal.returns
returns g c =
    let started : (a : AccessView) → CallWrites =
    λ a. record { due = c.args.self.now.due; access = Some a } in
    Begins c.in-Some.deed c.requires.none c.in-Some.ensures.deed
    (subst (Serves (purpose_of c.in-Some.deed)) c.begin.ensures.value c.begin.ensures.serves)
    (ap started c.begin.ensures.value)
