-- The calls that wait go on beside an empty journal.
use Rattle.std.proofs.Common.{rules, ◌≡◌, ◌≤◌, ◌∙◌, [], ap, sym, subst, length, vec_capacity}
use Rattle.std.specs.Option.{is_some}
use Rattle.interleaving_core.specs.Kernel.{KernelState}
use Rattle.interleaving_core.specs.Renewing.{IsBetweenCalls}
use Rattle.interleaving_core.proofs.RenewLemmas.{forgotten_by}
use Rattle.interleaving_core.proofs.kernel.Kernel.forget.Goals as goal

pub invariant_of-self : goal.invariant_of-self
invariant_of-self g c =
    let old : KernelState g.row.K.Denot = record {
      keys = c.self.inside.keys;
      pool = c.self.inside.pool;
      locks = c.self.inside.locks;
      callers = c.self.inside.callers.items;
      seats = c.self.inside.seats.items;
      journal = c.self.inside.journal.items;
      room = vec_capacity c.self.inside.journal;
      stopped = c.self.inside.stopped;
      failed = is_some c.self.inside.failure;
      failure = c.self.inside.failure;
      searches = c.self.inside.searches;
    } in
    let rest : IsBetweenCalls old =
    subst (λ (k : KernelState g.row.K.Denot). IsBetweenCalls k) (sym c.self.view_is) c.requires in
    let none : c.clear.new.self.items ≡ [] = search (rules) in
    let memory : vec_capacity c.self.inside.journal ≤ vec_capacity c.clear.new.self = search (rules) in
    forgotten_by old c.as_slice.result.now c.clear.new.self.items c.as_mut_slice.result.now c.outlast.new.seats
    c.self.inside.seats.len (vec_capacity c.clear.new.self) c.self.invariant rest c.as_slice.ensures.value none
    c.as_mut_slice.ensures.value c.outlast.ensures
    (sym c.as_mut_slice.ensures.len ∙ ap length c.as_mut_slice.ensures.value) memory
