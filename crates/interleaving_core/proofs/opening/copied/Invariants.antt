-- The callers that were reached, whose numbers fit.
use Rattle.std.proofs.Common.{◌≡◌, take}
use Rattle.std.specs.List.{All}
use Rattle.interleaving_core.specs.Words.{HasFittingCaller}
use Rattle.interleaving_core.proofs.opening.copied.Given as goal

abbrev pub invariant-loop-caller : goal.invariant-loop-caller
invariant-loop-caller l = (l.copy.items ≡ take l.caller-index l.callers) × All HasFittingCaller l.copy.items
