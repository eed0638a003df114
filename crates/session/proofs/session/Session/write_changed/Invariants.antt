-- The pages before the next are written.
use Rattle.std.proofs.Common.{◌-◌}
use Rattle.session.proofs.ChangedLemmas.{IsWriting}
use Rattle.session.proofs.session.Session.write_changed.Given as goal

abbrev pub invariant-loop-from : goal.invariant-loop-from
invariant-loop-from g l =
    IsWriting g.E.PageDevice.content g.E.PageDevice.is_honest g.E.PageDevice.fault_count l.from l.fn.self l.self
    l.fn.device l.device

abbrev pub decreases-loop-from : goal.decreases-loop-from
decreases-loop-from g l = l.pages - l.from
