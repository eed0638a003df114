-- The next seat is idle, and what it holds once it was granted a lock is what its task says.
use Rattle.std.proofs.Common.{arith, rules, ◌≡◌, ◌∙◌, sym, ◌+◌, ◌<◌, length, Some, None, slice_get}
use Rattle.machine_trials.proofs.SeatLemmas.{Holds-at, IsTrial-set, idle_read}
use Rattle.machine_trials.proofs.trial.Trial.begin.Goals as goal

pub begin-requires-clause-idle : goal.begin-requires-clause-idle
begin-requires-clause-idle g c =
    let within : c.self.inside.begun < length c.self.inside.seats.items = search rules in
    let idle : slice_get c.self.inside.seats.items c.self.inside.begun ≡ Some None =
    idle_read c.self.inside.seats.items c.self.inside.begun c.index.result.now within c.index.ensures
    (sym c.is_some.ensures ∙ c.if-is_some.false)
    in
    Holds-at c.self.inside.pool c.self.inside.locks c.self.inside.seats.items c.self.invariant c.self.inside.begun
    (c.self.inside.begun + 1) None (omega arith) idle

pub invariant_of-self : goal.invariant_of-self
invariant_of-self g c =
    let within : c.self.inside.begun < length c.self.inside.seats.items = search rules in
    IsTrial-set c.self.inside.pool c.self.inside.locks c.self.inside.seats.items c.self.invariant c.self.inside.begun
    (c.self.inside.begun + 1) c.begin.result (omega arith) c.self.inside.pool c.begin.new.locks c.self.invariant.ready
    within c.begin.ensures

pub invariant_of-self-2 : goal.invariant_of-self-2
invariant_of-self-2 g c =
    let within : c.self.inside.begun < length c.self.inside.seats.items = search rules in
    IsTrial-set c.self.inside.pool c.self.inside.locks c.self.inside.seats.items c.self.invariant c.self.inside.begun
    (c.self.inside.begun + 1) c.begin.result (omega arith) c.self.inside.pool c.begin.new.locks c.self.invariant.ready
    within c.begin.ensures
