-- What its seat gives back.
use Rattle.std.proofs.Common.{◌≡◌, ◌-◌, ◌∙◌, IsSome, None, Some, sym, ap, subst, slice_set, vec_capacity}
use Rattle.std.specs.Option.{is_some}
use Rattle.interleaving_core.specs.Active.{ActiveView}
use Rattle.interleaving_core.specs.Kernel.{KernelState, call_at}
use Rattle.interleaving_core.specs.Renewing.{Withdraws}
use Rattle.interleaving_core.specs.Words.{IsSeat, row_of}
use Rattle.interleaving_core.proofs.RenewLemmas.{back_whole, comes_back, empty_row, holds_some, none_by, waiting_free, withdraws}
use Rattle.interleaving_core.proofs.kernel.Kernel.withdraw.Goals as goal

pub returns-then-is_some-clause-call : goal.returns-then-is_some-clause-call
returns-then-is_some-clause-call g c =
    let old : KernelState g.row.K.Denot = record {
      keys = c.self.inside.keys;
      pool = c.self.inside.pool;
      locks = c.self.inside.locks;
      callers = c.self.inside.callers.items;
      seats = c.self.inside.seats.items;
      journal = c.self.inside.journal.items;
      room = vec_capacity c.self.inside.journal;
      stopped = c.self.inside.stopped;
      failed = is_some c.self.inside.failure;
      failure = c.self.inside.failure;
      searches = c.self.inside.searches;
    } in
    let is : IsSeat old.locks c.args.seat =
    subst (λ (k : KernelState g.row.K.Denot). IsSeat k.locks c.args.seat) (sym c.self.view_is) c.requires in
    subst (λ (k : KernelState g.row.K.Denot). Withdraws c.args.seat None k k) c.self.view_is
    (holds_some c.args.seat old c.self.invariant is
    (ap is_some (sym c.last.ensures) ∙ sym c.is_some.ensures ∙ c.if-is_some.true))

pub returns-then-is_some-clause-waits : goal.returns-then-is_some-clause-waits
returns-then-is_some-clause-waits g c =
    let old : KernelState g.row.K.Denot = record {
      keys = c.self.inside.keys;
      pool = c.self.inside.pool;
      locks = c.self.inside.locks;
      callers = c.self.inside.callers.items;
      seats = c.self.inside.seats.items;
      journal = c.self.inside.journal.items;
      room = vec_capacity c.self.inside.journal;
      stopped = c.self.inside.stopped;
      failed = is_some c.self.inside.failure;
      failure = c.self.inside.failure;
      searches = c.self.inside.searches;
    } in
    let is : IsSeat old.locks c.args.seat =
    subst (λ (k : KernelState g.row.K.Denot). IsSeat k.locks c.args.seat) (sym c.self.view_is) c.requires in
    subst (λ (k : KernelState g.row.K.Denot). (a : ActiveView) → call_at k.seats c.args.seat ≡ Some a → IsSome a.wait →
    None ≡ Some a.machine.call) c.self.view_is
    (λ a there told. absurd ((holds_some c.args.seat old c.self.invariant is
    (ap is_some (sym c.last.ensures) ∙ sym c.is_some.ensures ∙ c.if-is_some.true)).none a there
    (waiting_free c.args.seat old c.self.invariant is c.index.result.now c.index.ensures
    c.is_new_while_waiting.ensures a there told)))

pub returns-clause-call : goal.returns-clause-call
returns-clause-call g c =
    let old : KernelState g.row.K.Denot = record {
      keys = c.self.inside.keys;
      pool = c.self.inside.pool;
      locks = c.self.inside.locks;
      callers = c.self.inside.callers.items;
      seats = c.self.inside.seats.items;
      journal = c.self.inside.journal.items;
      room = vec_capacity c.self.inside.journal;
      stopped = c.self.inside.stopped;
      failed = is_some c.self.inside.failure;
      failure = c.self.inside.failure;
      searches = c.self.inside.searches;
    } in
    let is : IsSeat old.locks c.args.seat =
    subst (λ (k : KernelState g.row.K.Denot). IsSeat k.locks c.args.seat) (sym c.self.view_is) c.requires in
    let free = empty_row (row_of old.locks c.args.seat)
    (sym c.last.ensures ∙ none_by c.last.result (sym c.is_some.ensures ∙ c.if-is_some.false)) in
    subst (λ (k : KernelState g.row.K.Denot). Withdraws c.args.seat c.withdraw.result k
    (record old { seats = slice_set old.seats (c.args.seat - 1) c.withdraw.new.self })) c.self.view_is
    (withdraws c.args.seat old c.self.invariant is free c.index_mut.result.now c.withdraw.new.self
    c.index_mut.ensures.value c.withdraw.result c.withdraw.ensures)

pub returns-clause-waits : goal.returns-clause-waits
returns-clause-waits g c =
    let old : KernelState g.row.K.Denot = record {
      keys = c.self.inside.keys;
      pool = c.self.inside.pool;
      locks = c.self.inside.locks;
      callers = c.self.inside.callers.items;
      seats = c.self.inside.seats.items;
      journal = c.self.inside.journal.items;
      room = vec_capacity c.self.inside.journal;
      stopped = c.self.inside.stopped;
      failed = is_some c.self.inside.failure;
      failure = c.self.inside.failure;
      searches = c.self.inside.searches;
    } in
    let is : IsSeat old.locks c.args.seat =
    subst (λ (k : KernelState g.row.K.Denot). IsSeat k.locks c.args.seat) (sym c.self.view_is) c.requires in
    let free = empty_row (row_of old.locks c.args.seat)
    (sym c.last.ensures ∙ none_by c.last.result (sym c.is_some.ensures ∙ c.if-is_some.false)) in
    subst (λ (k : KernelState g.row.K.Denot). (a : ActiveView) → call_at k.seats c.args.seat ≡ Some a → IsSome a.wait →
    c.withdraw.result ≡ Some a.machine.call) c.self.view_is
    (λ a there told. comes_back c.args.seat c.withdraw.result old
    (record old { seats = slice_set old.seats (c.args.seat - 1) c.withdraw.new.self })
    (withdraws c.args.seat old c.self.invariant is free c.index_mut.result.now c.withdraw.new.self
    c.index_mut.ensures.value c.withdraw.result c.withdraw.ensures) a there
    (waiting_free c.args.seat old c.self.invariant is c.index.result.now c.index.ensures
    c.is_new_while_waiting.ensures a there told))

pub invariant_of-self : goal.invariant_of-self
invariant_of-self g c =
    let old : KernelState g.row.K.Denot = record {
      keys = c.self.inside.keys;
      pool = c.self.inside.pool;
      locks = c.self.inside.locks;
      callers = c.self.inside.callers.items;
      seats = c.self.inside.seats.items;
      journal = c.self.inside.journal.items;
      room = vec_capacity c.self.inside.journal;
      stopped = c.self.inside.stopped;
      failed = is_some c.self.inside.failure;
      failure = c.self.inside.failure;
      searches = c.self.inside.searches;
    } in
    let is : IsSeat old.locks c.args.seat =
    subst (λ (k : KernelState g.row.K.Denot). IsSeat k.locks c.args.seat) (sym c.self.view_is) c.requires in
    let free = empty_row (row_of old.locks c.args.seat)
    (sym c.last.ensures ∙ none_by c.last.result (sym c.is_some.ensures ∙ c.if-is_some.false)) in
    back_whole c.args.seat old c.self.invariant is free c.index_mut.result.now c.withdraw.new.self
    c.index_mut.ensures.value c.withdraw.result c.withdraw.ensures
