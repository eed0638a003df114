-- The numbers of each seat's caller fit.
use Rattle.interleaving_core.proofs.BeginLemmas.{each_seat_fits}
use Rattle.interleaving_core.proofs.opening.copied.Goals as goal

pub returns-clause-fitting : goal.returns-clause-fitting
returns-clause-fitting c = each_seat_fits c.loop-caller.copy.items c.loop-caller.invariant.1
