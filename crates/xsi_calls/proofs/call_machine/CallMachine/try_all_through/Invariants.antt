-- So far each record was inserted in one go.
use Rattle.std.proofs.Common.{◌≤◌, ◌-◌}
use Rattle.xsi_calls.specs.Words.{at}
use Rattle.xsi_calls.proofs.OneGoLemmas.{HasGone}
use Rattle.xsi_calls.proofs.call_machine.CallMachine.try_all_through.Given as goal

abbrev pub invariant-loop-moves : goal.invariant-loop-moves
invariant-loop-moves g l = record {
  few : l.moves ≤ l.most;
  gone : HasGone (g.K.PseudoKey.of_key l.keys) l.seat l.moves (at l.fn.self l.fn.pool l.locks)
      (at l.self l.pool l.locks);
}

abbrev pub decreases-loop-moves : goal.decreases-loop-moves
decreases-loop-moves g l = l.most - l.moves
