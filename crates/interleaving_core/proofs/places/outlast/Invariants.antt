-- What the loop has passed goes on beside an empty journal, and what is left is as it was.
use Rattle.std.proofs.Common.{◌≡◌, ◌++◌, drop, map, option_map, take}
use Rattle.interleaving_core.specs.Renewing.{outlasting}
use Rattle.interleaving_core.proofs.places.outlast.Given as goal

abbrev pub invariant-loop-at : goal.invariant-loop-at
invariant-loop-at l =
    let before = l.initial.seats in
    l.seats ≡ map (option_map (outlasting l.journal)) (take l.at-index before) ++ drop l.at-index before
