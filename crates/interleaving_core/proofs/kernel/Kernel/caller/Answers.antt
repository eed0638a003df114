-- Each seat has a caller.
use Rattle.std.proofs.Common.{◌≡◌, sym, subst, Some, length, vec_capacity, arith}
use Rattle.std.specs.Option.{is_some}
use Rattle.interleaving_core.specs.Kernel.{KernelState}
use Rattle.interleaving_core.specs.Words.{IsSeat, caller_at}
use Rattle.interleaving_core.proofs.BeginLemmas.{caller_there}
use Rattle.interleaving_core.proofs.KernelLemmas.{seat_there}
use Rattle.interleaving_core.proofs.kernel.Kernel.caller.Goals as goal

pub returns : goal.returns
returns g c =
    let old : KernelState g.row.K.Denot = record {
      keys = c.self.inside.keys;
      pool = c.self.inside.pool;
      locks = c.self.inside.locks;
      callers = c.self.inside.callers.items;
      seats = c.self.inside.seats.items;
      journal = c.self.inside.journal.items;
      room = vec_capacity c.self.inside.journal;
      stopped = c.self.inside.stopped;
      failed = is_some c.self.inside.failure;
      failure = c.self.inside.failure;
      searches = c.self.inside.searches;
    } in
    let is : IsSeat old.locks c.args.seat =
    subst (λ (k : KernelState g.row.K.Denot). IsSeat k.locks c.args.seat) (sym c.self.view_is) c.requires in
    let there = seat_there old c.self.invariant c.args.seat is in
    let as_many : length old.callers ≡ length old.seats = c.self.invariant.callers in
    subst (λ (k : KernelState g.row.K.Denot). caller_at k.callers c.args.seat ≡ Some c.index.result.now) c.self.view_is
    (caller_there old.callers c.args.seat is.0 (omega (arith, there, as_many)) c.index.result.now c.index.ensures)
