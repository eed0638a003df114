-- An entry of the stop joins what each call keeps of the journal.
use Rattle.std.proofs.Common.{ap, true, List, vec_capacity}
use Rattle.std.specs.Option.{is_some}
use Rattle.interleaving_core.specs.Kernel.{KernelState}
use Rattle.interleaving_core.specs.Words.{Entry}
use Rattle.interleaving_core.proofs.BeginLemmas.{stopped_whole}
use Rattle.interleaving_core.proofs.kernel.Kernel.stop.Goals as goal

pub invariant_of-self : goal.invariant_of-self
invariant_of-self g c =
    let old : KernelState g.row.K.Denot = record {
      keys = c.self.inside.keys;
      pool = c.self.inside.pool;
      locks = c.self.inside.locks;
      callers = c.self.inside.callers.items;
      seats = c.self.inside.seats.items;
      journal = c.self.inside.journal.items;
      room = vec_capacity c.self.inside.journal;
      stopped = c.self.inside.stopped;
      failed = is_some c.self.inside.failure;
      failure = c.self.inside.failure;
      searches = c.self.inside.searches;
    } in
    stopped_whole old _ c.self.invariant c.if-self.false
    (ap (λ (es : List Entry). record old { journal = es; stopped = true; room = vec_capacity c.push.new.self })
    (rw c.unwrap.ensures at c.push.ensures.items)) c.push.ensures.capacity
