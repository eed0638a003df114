-- So far each step has moved.
use Rattle.std.proofs.Common.{◌≤◌, ◌-◌}
use Rattle.interleaving_core.specs.declared.kernel.TheConstants.{MOST_STEPS}
use Rattle.interleaving_core.proofs.DriveLemmas.{HasMoved}
use Rattle.interleaving_core.proofs.kernel.Kernel.drive.Given as goal

abbrev pub invariant-loop-moves : goal.invariant-loop-moves
invariant-loop-moves g l = record {
  few : l.moves ≤ MOST_STEPS;
  moved : HasMoved g.K.PseudoKey.of_key l.seat l.moves l.fn.self l.self;
}

abbrev pub decreases-loop-moves : goal.decreases-loop-moves
decreases-loop-moves g l = MOST_STEPS - l.moves
