-- The seat holds what its call holds.
use Rattle.std.proofs.Common.{sym, subst, Option, vec_capacity}
use Rattle.std.specs.Prelude.{IfSome}
use Rattle.std.specs.Option.{is_some}
use Rattle.xsi_calls.specs.FileLocks.{HoldsOfFile}
use Rattle.interleaving_core.specs.Active.{ActiveView}
use Rattle.interleaving_core.specs.Holding.{HoldsFileLocks}
use Rattle.interleaving_core.specs.Kernel.{KernelState}
use Rattle.interleaving_core.specs.Words.{IsSeat}
use Rattle.interleaving_core.proofs.HoldingLemmas.{holds_locks}
use Rattle.interleaving_core.proofs.KernelLemmas.{seat_there, slot_here}
use Rattle.interleaving_core.proofs.kernel.Kernel.holds_file_locks.Goals as goal

pub returns : goal.returns
returns g c =
    let old : KernelState g.row.K.Denot = record {
      keys = c.self.inside.keys;
      pool = c.self.inside.pool;
      locks = c.self.inside.locks;
      callers = c.self.inside.callers.items;
      seats = c.self.inside.seats.items;
      journal = c.self.inside.journal.items;
      room = vec_capacity c.self.inside.journal;
      stopped = c.self.inside.stopped;
      failed = is_some c.self.inside.failure;
      failure = c.self.inside.failure;
      searches = c.self.inside.searches;
    } in
    let is : IsSeat old.locks c.args.seat =
    subst (λ (k : KernelState g.row.K.Denot). IsSeat k.locks c.args.seat) (sym c.self.view_is) c.requires in
    let there = seat_there old c.self.invariant c.args.seat is in
    subst (λ (k : KernelState g.row.K.Denot). HoldsFileLocks c.args.seat k) c.self.view_is
    (holds_locks c.args.seat old c.self.invariant
    (subst (λ (o : Option ActiveView). IfSome o (λ (a : ActiveView). HoldsOfFile a.machine))
    (slot_here old.seats c.args.seat c.index.result.now is.0 there c.index.ensures) c.holds_of_file.ensures))
