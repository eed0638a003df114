-- The call is at its seat, or comes back.
use Rattle.std.proofs.Common.{◌≡◌, ◌∙◌, sym, ap, subst, ℕ, ◌+◌, ◌-◌, ◌≤◌, Some, length, nat_lt, slice_set, vec_capacity, arith}
use Rattle.std.proofs.lemmas.Grind.{common_steps}
use Rattle.std.specs.Option.{is_some}
use Rattle.interleaving_core.specs.Active.{HasBegunAt}
use Rattle.interleaving_core.specs.Beginning.{HasCall, IsRefused, MayBegin}
use Rattle.interleaving_core.specs.Kernel.{KernelState, entries_of, with_call}
use Rattle.interleaving_core.specs.Words.{IsSeat}
use Rattle.interleaving_core.specs.declared.fault.BeginFault.TheVariants.{NoMemory}
use Rattle.interleaving_core.specs.declared.kernel.TheConstants.{MAX_DECIDED}
use Rattle.interleaving_core.proofs.BeginLemmas.{begun_at, caller_there, has_call, made_of, no_call, not_full, same_seats, whole_begun}
use Rattle.interleaving_core.proofs.KernelLemmas.{seat_there, slot_here}
use Rattle.interleaving_core.proofs.PlaceLemmas.{with_place}
use Rattle.interleaving_core.proofs.kernel.Kernel.begin.Goals as goal

pub returns-in-Err-clause-err : goal.returns-in-Err-clause-err
returns-in-Err-clause-err g c =
    let old : KernelState g.row.K.Denot = record {
      keys = c.self.inside.keys;
      pool = c.self.inside.pool;
      locks = c.self.inside.locks;
      callers = c.self.inside.callers.items;
      seats = c.self.inside.seats.items;
      journal = c.self.inside.journal.items;
      room = vec_capacity c.self.inside.journal;
      stopped = c.self.inside.stopped;
      failed = is_some c.self.inside.failure;
      failure = c.self.inside.failure;
      searches = c.self.inside.searches;
    } in
    let new : KernelState g.row.K.Denot = record {
      keys = c.self.inside.keys;
      pool = c.self.inside.pool;
      locks = c.self.inside.locks;
      callers = c.self.inside.callers.items;
      seats = slice_set c.self.inside.seats.items (c.args.seat - 1) c.begin.new.self;
      journal = c.reserve.new.self.items;
      room = vec_capacity c.reserve.new.self;
      stopped = c.self.inside.stopped;
      failed = is_some c.self.inside.failure;
      failure = c.self.inside.failure;
      searches = c.self.inside.searches;
    } in
    let is : IsSeat old.locks c.args.seat =
    subst (λ (k : KernelState g.row.K.Denot). IsSeat k.locks c.args.seat) (sym c.self.view_is) c.requires in
    let there = seat_there old c.self.invariant c.args.seat is in
    let none = no_call c.index.result.now (sym c.has_call.ensures ∙ c.if-has_call.false) in
    let free = sym (slot_here old.seats c.args.seat c.index.result.now is.0 there c.index.ensures) ∙ none in
    let few = not_full (entries_of old) c.is_full.result
    (c.is_full.ensures ∙ ap (λ (k : KernelState g.row.K.Denot). nat_lt MAX_DECIDED (entries_of k)) (sym c.self.view_is))
    c.if-is_full.false in
    let made : new ≡ record old { room = new.room } =
    made_of old new.seats old.seats new.journal new.room
    (same_seats old.seats c.args.seat c.begin.new.self is.0 free c.in-Err.ensures.same) c.in-Ok.ensures.items in
    subst (λ (k : KernelState g.row.K.Denot). IsRefused c.args.seat c.args.call (c.in-Err.call, NoMemory) k new)
    c.self.view_is record {
      back = c.in-Err.ensures.err;
      cause = (sym c.is_some.ensures ∙ c.if-is_some.false, free, λ full. omega (arith, full, few));
      same = made;
    }

pub invariant_of-self-2 : goal.invariant_of-self-2
invariant_of-self-2 g c =
    let old : KernelState g.row.K.Denot = record {
      keys = c.self.inside.keys;
      pool = c.self.inside.pool;
      locks = c.self.inside.locks;
      callers = c.self.inside.callers.items;
      seats = c.self.inside.seats.items;
      journal = c.self.inside.journal.items;
      room = vec_capacity c.self.inside.journal;
      stopped = c.self.inside.stopped;
      failed = is_some c.self.inside.failure;
      failure = c.self.inside.failure;
      searches = c.self.inside.searches;
    } in
    let new : KernelState g.row.K.Denot = record {
      keys = c.self.inside.keys;
      pool = c.self.inside.pool;
      locks = c.self.inside.locks;
      callers = c.self.inside.callers.items;
      seats = slice_set c.self.inside.seats.items (c.args.seat - 1) c.begin.new.self;
      journal = c.reserve.new.self.items;
      room = vec_capacity c.reserve.new.self;
      stopped = c.self.inside.stopped;
      failed = is_some c.self.inside.failure;
      failure = c.self.inside.failure;
      searches = c.self.inside.searches;
    } in
    let is : IsSeat old.locks c.args.seat =
    subst (λ (k : KernelState g.row.K.Denot). IsSeat k.locks c.args.seat) (sym c.self.view_is) c.requires in
    let there = seat_there old c.self.invariant c.args.seat is in
    let none = no_call c.index.result.now (sym c.has_call.ensures ∙ c.if-has_call.false) in
    let free = sym (slot_here old.seats c.args.seat c.index.result.now is.0 there c.index.ensures) ∙ none in
    let few = not_full (entries_of old) c.is_full.result
    (c.is_full.ensures ∙ ap (λ (k : KernelState g.row.K.Denot). nat_lt MAX_DECIDED (entries_of k)) (sym c.self.view_is))
    c.if-is_full.false in
    let caller = c.index-caller.result.now in
    let many : c.len-many.result ≡ length old.journal = grind (arith, common_steps) in
    let (active, is_there, begun) =
    begun_at caller c.args.call (length old.journal) c.begin.new.self
    (subst (λ (n : ℕ). HasBegunAt caller c.args.call n c.begin.new.self) many
    c.in_default-begin.ensures.ok) in
    let made : new ≡ record old {
      seats = with_call old.seats c.args.seat (Some active);
      room = new.room;
    } = made_of old new.seats (with_call old.seats c.args.seat (Some active)) new.journal new.room
    (with_place old.seats c.args.seat c.begin.new.self c.requires.0
    ∙ ap (with_call old.seats c.args.seat) is_there) c.in-Ok.ensures.items in
    let as_many : length old.callers ≡ length old.seats = c.self.invariant.callers in
    let sits = caller_there old.callers c.args.seat is.0 (omega (arith, there, as_many)) caller
    c.index-caller.ensures in
    let memory : length old.journal + (length old.seats + 1) ≤ vec_capacity c.reserve.new.self =
    grind (arith, common_steps) in
    whole_begun c.args.seat caller c.args.call active old new c.self.invariant is free sits begun made memory few

pub returns-clause-ok : goal.returns-clause-ok
returns-clause-ok g c =
    let old : KernelState g.row.K.Denot = record {
      keys = c.self.inside.keys;
      pool = c.self.inside.pool;
      locks = c.self.inside.locks;
      callers = c.self.inside.callers.items;
      seats = c.self.inside.seats.items;
      journal = c.self.inside.journal.items;
      room = vec_capacity c.self.inside.journal;
      stopped = c.self.inside.stopped;
      failed = is_some c.self.inside.failure;
      failure = c.self.inside.failure;
      searches = c.self.inside.searches;
    } in
    let new : KernelState g.row.K.Denot = record {
      keys = c.self.inside.keys;
      pool = c.self.inside.pool;
      locks = c.self.inside.locks;
      callers = c.self.inside.callers.items;
      seats = slice_set c.self.inside.seats.items (c.args.seat - 1) c.begin.new.self;
      journal = c.reserve.new.self.items;
      room = vec_capacity c.reserve.new.self;
      stopped = c.self.inside.stopped;
      failed = is_some c.self.inside.failure;
      failure = c.self.inside.failure;
      searches = c.self.inside.searches;
    } in
    let is : IsSeat old.locks c.args.seat =
    subst (λ (k : KernelState g.row.K.Denot). IsSeat k.locks c.args.seat) (sym c.self.view_is) c.requires in
    let there = seat_there old c.self.invariant c.args.seat is in
    let none = no_call c.index.result.now (sym c.has_call.ensures ∙ c.if-has_call.false) in
    let free = sym (slot_here old.seats c.args.seat c.index.result.now is.0 there c.index.ensures) ∙ none in
    let few = not_full (entries_of old) c.is_full.result
    (c.is_full.ensures ∙ ap (λ (k : KernelState g.row.K.Denot). nat_lt MAX_DECIDED (entries_of k)) (sym c.self.view_is))
    c.if-is_full.false in
    let caller = c.index-caller.result.now in
    let many : c.len-many.result ≡ length old.journal = grind (arith, common_steps) in
    let (active, is_there, begun) =
    begun_at caller c.args.call (length old.journal) c.begin.new.self
    (subst (λ (n : ℕ). HasBegunAt caller c.args.call n c.begin.new.self) many
    c.in_default-begin.ensures.ok) in
    let made : new ≡ record old {
      seats = with_call old.seats c.args.seat (Some active);
      room = new.room;
    } = made_of old new.seats (with_call old.seats c.args.seat (Some active)) new.journal new.room
    (with_place old.seats c.args.seat c.begin.new.self c.requires.0
    ∙ ap (with_call old.seats c.args.seat) is_there) c.in-Ok.ensures.items in
    let as_many : length old.callers ≡ length old.seats = c.self.invariant.callers in
    let sits = caller_there old.callers c.args.seat is.0 (omega (arith, there, as_many)) caller
    c.index-caller.ensures in
    let may : MayBegin c.args.seat old = record {
      sound = sym c.is_some.ensures ∙ c.if-is_some.false;
      free = free;
      few = λ full. omega (arith, full, few);
    } in
    subst (λ (k : KernelState g.row.K.Denot). HasCall c.args.seat c.args.call k new) c.self.view_is
    (has_call c.args.seat caller c.args.call active old new may sits c.a_calls_numbers_fit.ensures begun made)
