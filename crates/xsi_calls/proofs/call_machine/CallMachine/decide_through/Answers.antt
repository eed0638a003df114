-- Questions and trials were made in one go, and the Decide behind them.
use Rattle.std.proofs.Common.{◌+◌, arith, refl}
use Rattle.xsi_calls.specs.CallSteps.{MakesCall}
use Rattle.xsi_calls.specs.Machine.{is_searching}
use Rattle.xsi_calls.specs.OneGo.{Decides, RunsAtOnce}
use Rattle.xsi_calls.specs.Words.{at}
use Rattle.xsi_calls.proofs.OneGoLemmas.{goes_so_far, goes_within, joined, one_more}
use Rattle.xsi_calls.proofs.call_machine.CallMachine.decide_through.Given as given
use Rattle.xsi_calls.proofs.call_machine.CallMachine.decide_through.Goals as goal
use Rattle.xsi_calls.proofs.call_machine.CallMachine.decide_through.Goals.{After-try_all_through-tried}

-- so far
so_far : (g : given.Over) (c : After-try_all_through-tried g) →
    RunsAtOnce (MakesCall (g.K.PseudoKey.of_key c.args.keys.now) c.args.seat c.args.stopped) is_searching c.args.seat
    (c.ask_through-asked.result + c.try_all_through-tried.result.moves) 0
    (at c.args.self.now c.args.pool.now c.args.locks.now)
    (at c.try_all_through-tried.new.self c.try_all_through-tried.new.pool c.args.locks.now)
so_far g c =
    joined (MakesCall (g.K.PseudoKey.of_key c.args.keys.now) c.args.seat c.args.stopped) is_searching c.args.seat
    (at c.args.self.now c.args.pool.now c.args.locks.now) c.ask_through-asked.result
    c.try_all_through-tried.result.moves 0 0
    (at c.ask_through-asked.new.self c.ask_through-asked.new.pool c.args.locks.now)
    (at c.try_all_through-tried.new.self c.try_all_through-tried.new.pool c.args.locks.now)
    (c.ask_through-asked.ensures.runs c.args.stopped) (c.try_all_through-tried.ensures.runs c.args.stopped)

pub returns-then-not-tried-clause-goes : goal.returns-then-not-tried-clause-goes
returns-then-not-tried-clause-goes g c =
    let makes = MakesCall (g.K.PseudoKey.of_key c.args.keys.now) c.args.seat c.args.stopped in
    goes_within makes is_searching c.args.seat _ 0 1 _ _ _ (omega arith)
    (goes_so_far makes is_searching c.args.seat _ 0 _ _
    (so_far g (goal.at.returns-then-not-tried-clause-goes g c).After-try_all_through-tried))

pub returns-then-moves-most-clause-goes : goal.returns-then-moves-most-clause-goes
returns-then-moves-most-clause-goes g c =
    let makes = MakesCall (g.K.PseudoKey.of_key c.args.keys.now) c.args.seat c.args.stopped in
    goes_within makes is_searching c.args.seat _ 0 1 _ _ _ (omega arith)
    (goes_so_far makes is_searching c.args.seat _ 0 _ _
    (so_far g (goal.at.returns-then-moves-most-clause-goes g c).After-try_all_through-tried))

pub returns-in-Ok-clause-goes : goal.returns-in-Ok-clause-goes
returns-in-Ok-clause-goes g c =
    let makes = MakesCall (g.K.PseudoKey.of_key c.args.keys.now) c.args.seat c.args.stopped in
    goes_so_far makes is_searching c.args.seat _ 1 _ _
    (one_more makes is_searching c.args.seat (at c.args.self.now c.args.pool.now c.args.locks.now) Decides
    (c.ask_through-asked.result + c.try_all_through-tried.result.moves) 0
    (at c.try_all_through-tried.new.self c.try_all_through-tried.new.pool c.args.locks.now)
    (at c.decide_at_once.new.self c.try_all_through-tried.new.pool c.args.locks.now)
    (so_far g (goal.at.returns-in-Ok-clause-goes g c).After-try_all_through-tried)
    (c.in-Ok.ensures.made refl c.try_all_through-tried.new.pool c.try_all_through-tried.ensures.ready))

pub returns-in-Err-clause-goes : goal.returns-in-Err-clause-goes
returns-in-Err-clause-goes g c = record {
  before = at c.try_all_through-tried.new.self c.try_all_through-tried.new.pool c.args.locks.now;
  runs =
      let gone = so_far g (goal.at.returns-in-Err-clause-goes g c).After-try_all_through-tried in
      record {
        errands = gone.errands;
        many = gone.many;
        few = let few = gone.few in omega (arith, few);
        runs = gone.runs;
      };
  ends = c.in-Err.ensures.failed c.try_all_through-tried.new.pool c.try_all_through-tried.ensures.ready;
}
