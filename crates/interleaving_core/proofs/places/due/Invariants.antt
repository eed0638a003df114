-- Those for the seats that were reached, of which each has one at most.
use Rattle.std.proofs.Common.{◌≡◌, ◌≤◌, take}
use Rattle.std.specs.Prelude.{sum_by}
use Rattle.interleaving_core.specs.Kernel.{due_at}
use Rattle.interleaving_core.proofs.places.due.Given as goal

abbrev pub invariant-loop-at : goal.invariant-loop-at
invariant-loop-at l = (l.due ≡ sum_by due_at (take l.at-index l.seats)) × (l.due ≤ l.at-index)
