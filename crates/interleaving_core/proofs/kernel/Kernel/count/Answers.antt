-- The searches of each seat are counted.
use Rattle.std.proofs.Common.{sym, subst, vec_capacity}
use Rattle.std.specs.Option.{is_some}
use Rattle.interleaving_core.specs.Kernel.{KernelState}
use Rattle.interleaving_core.specs.Words.{IsSeat}
use Rattle.interleaving_core.proofs.KernelLemmas.{is_counted}
use Rattle.interleaving_core.proofs.kernel.Kernel.count.Goals as goal

pub of-requires : goal.of-requires
of-requires g c =
    let old : KernelState g.row.K.Denot = record {
      keys = c.self.inside.keys;
      pool = c.self.inside.pool;
      locks = c.self.inside.locks;
      callers = c.self.inside.callers.items;
      seats = c.self.inside.seats.items;
      journal = c.self.inside.journal.items;
      room = vec_capacity c.self.inside.journal;
      stopped = c.self.inside.stopped;
      failed = is_some c.self.inside.failure;
      failure = c.self.inside.failure;
      searches = c.self.inside.searches;
    } in
    let is : IsSeat old.locks c.args.seat =
    subst (λ (k : KernelState g.row.K.Denot). IsSeat k.locks c.args.seat) (sym c.self.view_is) c.requires in
    is_counted old c.self.invariant c.args.seat is
