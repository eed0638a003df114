-- Each step goes on from those before it, each of which moved; so do those that are made in one go.
use Rattle.std.proofs.Common.{◌≡◌, ◌<◌, ◌+◌, ap, true, None, arith}
use Rattle.interleaving_core.specs.Kernel.{KernelState}
use Rattle.interleaving_core.specs.Owing.{failed, failure_by}
use Rattle.interleaving_core.specs.declared.kernel.TheConstants.{MOST_STEPS}
use Rattle.interleaving_core.proofs.DriveLemmas.{fails_there, goes_on, is_spent, moves_on, none_made, rests_at, runs_there}
use Rattle.interleaving_core.proofs.RunLemmas.{no_move, runs_on}
use Rattle.interleaving_core.proofs.kernel.Kernel.drive.Goals as goal

pub loop-moves-init : goal.loop-moves-init
loop-moves-init g c = record {
  few = omega arith;
  moved = none_made g.K.PseudoKey.of_key c.args.seat c.args.self.now c.is_whole.ensures c.requires;
}

pub go_ahead-gone-requires : goal.go_ahead-gone-requires
go_ahead-gone-requires g c = c.loop-moves.invariant.moved.seated

-- ---- the file has failed

pub returns-in-Some-clause-run : goal.returns-in-Some-clause-run
returns-in-Some-clause-run g c =
    runs_there g.K.PseudoKey.of_key c.args.seat c.loop-moves.moves c.args.self.now c.loop-moves.self
    c.loop-moves.invariant.moved c.go_ahead-gone.result.moves c.go_ahead-gone.result.fault c.go_ahead-gone.new.self
    c.go_ahead-gone.ensures.goes c.in-Some.fault c.in-Some.is

pub returns-in-Some-clause-driven : goal.returns-in-Some-clause-driven
returns-in-Some-clause-driven g c =
    let test = c.loop-moves-test.true in
    let room = c.go_ahead-gone.ensures.few in
    let few : c.loop-moves.moves + c.go_ahead-gone.result.moves < MOST_STEPS = omega (arith, test, room) in
    fails_there g.K.PseudoKey.of_key c.args.seat c.loop-moves.moves c.args.self.now c.loop-moves.self
    c.loop-moves.invariant.moved c.go_ahead-gone.result.moves c.go_ahead-gone.result.fault c.go_ahead-gone.new.self
    c.go_ahead-gone.ensures.goes c.in-Some.fault c.in-Some.is few

-- ---- a step behind it

pub step-requires : goal.step-requires
step-requires g c =
    (goes_on g.K.PseudoKey.of_key c.args.seat c.loop-moves.moves c.args.self.now c.loop-moves.self
    c.loop-moves.invariant.moved c.go_ahead-gone.result.moves c.go_ahead-gone.result.fault c.go_ahead-gone.new.self
    c.go_ahead-gone.ensures.goes c.in_default.is).seated

pub loop-moves-preserved : goal.loop-moves-preserved
loop-moves-preserved g c =
    let moved = goes_on g.K.PseudoKey.of_key c.args.seat c.loop-moves.moves c.args.self.now c.loop-moves.self
    c.loop-moves.invariant.moved c.go_ahead-gone.result.moves c.go_ahead-gone.result.fault c.go_ahead-gone.new.self
    c.go_ahead-gone.ensures.goes c.in_default.is in
    let test = c.loop-moves-test.true in
    let room = c.go_ahead-gone.ensures.few in
    record {
      few = omega (arith, test, room);
      moved = moves_on g.K.PseudoKey.of_key c.args.seat (c.loop-moves.moves + c.go_ahead-gone.result.moves)
          c.args.self.now c.go_ahead-gone.new.self moved c.step.result
          c.step.new.self (record { turn = c.step.ensures.turn; makes = c.step.ensures.makes })
          c.in-Moved.kind c.in-Moved.is;
    }

pub returns-in_default-step : goal.returns-in_default-step
returns-in_default-step g c =
    let rests = no_move c.step.result c.in_default-step.not-Moved in
    let test = c.loop-moves-test.true in
    let room = c.go_ahead-gone.ensures.few in
    let few : c.loop-moves.moves + c.go_ahead-gone.result.moves < MOST_STEPS = omega (arith, test, room) in
    let moved = goes_on g.K.PseudoKey.of_key c.args.seat c.loop-moves.moves c.args.self.now c.loop-moves.self
    c.loop-moves.invariant.moved c.go_ahead-gone.result.moves c.go_ahead-gone.result.fault c.go_ahead-gone.new.self
    c.go_ahead-gone.ensures.goes c.in_default.is in
    record {
      run = runs_on c.args.seat c.step.result c.args.self.now c.go_ahead-gone.new.self c.step.new.self moved.run
          c.step.ensures.turn;
      rests = rests;
      driven = rests_at g.K.PseudoKey.of_key c.args.seat (c.loop-moves.moves + c.go_ahead-gone.result.moves)
          c.args.self.now c.go_ahead-gone.new.self moved c.step.result c.step.new.self
          (record { turn = c.step.ensures.turn; makes = c.step.ensures.makes }) few rests;
    }

pub returns-clause-driven : goal.returns-clause-driven
returns-clause-driven g c =
    let test = c.loop-moves-test.false in
    let few = c.loop-moves.invariant.few in
    let most : c.loop-moves.moves ≡ MOST_STEPS = omega (arith, test, few) in
    is_spent g.K.PseudoKey.of_key c.args.seat c.loop-moves.moves c.args.self.now c.loop-moves.self
    c.loop-moves.invariant.moved _ most
    (ap (λ (s : KernelState g.row.K.Denot). record s {
      failed = true;
      failure = failure_by c.args.seat failed None;
    }) c.self-2.view_is)
