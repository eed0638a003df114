-- A record more was written in one go.
use Rattle.std.proofs.Common.{arith}
use Rattle.xsi_calls.specs.Words.{at}
use Rattle.xsi_calls.proofs.OneGoLemmas.{written_more}
use Rattle.xsi_calls.proofs.call_machine.CallMachine.try_all_through.Goals as goal

pub loop-moves-preserved : goal.loop-moves-preserved
loop-moves-preserved g c =
    let test = c.loop-moves-test.true in
    let few = c.loop-moves.invariant.few in
    record {
      few = omega (arith, test, few);
      gone = written_more (g.K.PseudoKey.of_key c.args.keys.now) c.args.seat (at c.args.self.now c.args.pool.now
          c.args.locks.now) c.loop-moves.moves c.loop-moves.self c.loop-moves.pool c.args.locks.now
          c.loop-moves.invariant.gone c.try_through.new.self c.try_through.new.pool c.in-Made.ensures;
    }
