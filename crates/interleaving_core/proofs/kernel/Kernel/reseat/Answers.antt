-- A seat without a call gets another caller.
use Rattle.std.proofs.Common.{◌∙◌, refl, sym, subst, true, false, vec_capacity}
use Rattle.std.specs.Option.{is_some}
use Rattle.interleaving_core.specs.Kernel.{KernelState}
use Rattle.interleaving_core.specs.Renewing.{IsBetweenCalls, Reseats}
use Rattle.interleaving_core.specs.Words.{IsSeat}
use Rattle.interleaving_core.proofs.BeginLemmas.{no_call}
use Rattle.interleaving_core.proofs.KernelLemmas.{seat_there, slot_here}
use Rattle.interleaving_core.proofs.ReseatLemmas.{is_busy, not_between, reseated_whole, reseats}
use Rattle.interleaving_core.proofs.kernel.Kernel.reseat.Goals as goal

pub returns-then-not-is_between_calls : goal.returns-then-not-is_between_calls
returns-then-not-is_between_calls g c =
    not_between c.args.seat _ c.if-not-is_between_calls.ensures.1

pub returns-then-has_call : goal.returns-then-has_call
returns-then-has_call g c =
    let old : KernelState g.row.K.Denot = record {
      keys = c.self.inside.keys;
      pool = c.self.inside.pool;
      locks = c.self.inside.locks;
      callers = c.self.inside.callers.items;
      seats = c.self.inside.seats.items;
      journal = c.self.inside.journal.items;
      room = vec_capacity c.self.inside.journal;
      stopped = c.self.inside.stopped;
      failed = is_some c.self.inside.failure;
      failure = c.self.inside.failure;
      searches = c.self.inside.searches;
    } in
    let is : IsSeat old.locks c.args.seat =
    subst (λ (k : KernelState g.row.K.Denot). IsSeat k.locks c.args.seat) (sym c.self.view_is) c.requires in
    let there = seat_there old c.self.invariant c.args.seat is in
    subst (λ (k : KernelState g.row.K.Denot). Reseats c.args.seat c.args.caller false k k) c.self.view_is
    (is_busy c.args.seat old c.index.result.now
    (slot_here old.seats c.args.seat c.index.result.now is.0 there c.index.ensures)
    (sym c.has_call.ensures ∙ c.if-has_call.true))

pub returns : goal.returns
returns g c =
    let old : KernelState g.row.K.Denot = record {
      keys = c.self.inside.keys;
      pool = c.self.inside.pool;
      locks = c.self.inside.locks;
      callers = c.self.inside.callers.items;
      seats = c.self.inside.seats.items;
      journal = c.self.inside.journal.items;
      room = vec_capacity c.self.inside.journal;
      stopped = c.self.inside.stopped;
      failed = is_some c.self.inside.failure;
      failure = c.self.inside.failure;
      searches = c.self.inside.searches;
    } in
    let is : IsSeat old.locks c.args.seat =
    subst (λ (k : KernelState g.row.K.Denot). IsSeat k.locks c.args.seat) (sym c.self.view_is) c.requires in
    let there = seat_there old c.self.invariant c.args.seat is in
    let none = no_call c.index.result.now (sym c.has_call.ensures ∙ c.if-has_call.false) in
    let free = sym (slot_here old.seats c.args.seat c.index.result.now is.0 there c.index.ensures) ∙ none in
    let between : IsBetweenCalls old =
    subst (λ (k : KernelState g.row.K.Denot). IsBetweenCalls k) (sym c.self.view_is)
    (c.if-not-is_between_calls.ensures.0 refl) in
    subst (λ (k : KernelState g.row.K.Denot). Reseats c.args.seat c.args.caller true k c.forget.new.self)
    c.self.view_is
    (reseats c.args.seat c.args.caller old c.self.invariant is free c.a_callers_numbers_fit.ensures between
    c.forget.new.self c.forget.ensures.renewed c.forget.ensures.room)

pub invariant_of-self : goal.invariant_of-self
invariant_of-self g c =
    let old : KernelState g.row.K.Denot = record {
      keys = c.self.inside.keys;
      pool = c.self.inside.pool;
      locks = c.self.inside.locks;
      callers = c.self.inside.callers.items;
      seats = c.self.inside.seats.items;
      journal = c.self.inside.journal.items;
      room = vec_capacity c.self.inside.journal;
      stopped = c.self.inside.stopped;
      failed = is_some c.self.inside.failure;
      failure = c.self.inside.failure;
      searches = c.self.inside.searches;
    } in
    let is : IsSeat old.locks c.args.seat =
    subst (λ (k : KernelState g.row.K.Denot). IsSeat k.locks c.args.seat) (sym c.self.view_is) c.requires in
    let there = seat_there old c.self.invariant c.args.seat is in
    let none = no_call c.index.result.now (sym c.has_call.ensures ∙ c.if-has_call.false) in
    let free = sym (slot_here old.seats c.args.seat c.index.result.now is.0 there c.index.ensures) ∙ none in
    reseated_whole c.args.seat c.args.caller old c.self.invariant is free c.a_callers_numbers_fit.ensures
