-- What its call makes in one go are steps of its seat.
use Rattle.std.proofs.Common.{rules, ◌≡◌, ◌∙◌, refl, sym, true≢false, Some, length, vec_capacity}
use Rattle.std.specs.Option.{is_some}
use Rattle.std.specs.Vec.{vec_len}
use Rattle.interleaving_core.specs.Active.{ActiveView}
use Rattle.interleaving_core.specs.Kernel.{KernelState}
use Rattle.interleaving_core.proofs.GoneLemmas.{HasGone, fits, goes_nowhere, goes_still, goes_then, kept_still, kept_then, unmade, whole_still, whole_then}
use Rattle.interleaving_core.proofs.LentLemmas.{row_there}
use Rattle.interleaving_core.proofs.SeatLemmas.{lent_there}
use Rattle.interleaving_core.proofs.kernel.Kernel.go_through.Given as given
use Rattle.interleaving_core.proofs.kernel.Kernel.go_through.Goals.{After-go_through-gone}
use Rattle.interleaving_core.proofs.kernel.Kernel.go_through.Goals as goal

-- the kernel, and the call that it has lent
abbrev opened : (g : given.Over) → After-go_through-gone g → KernelState g.row.K.Denot
opened g c = record {
  keys = c.self.inside.keys;
  pool = c.self.inside.pool;
  locks = c.self.inside.locks;
  callers = c.self.inside.callers.items;
  seats = c.self.inside.seats.items;
  journal = c.self.inside.journal.items;
  room = vec_capacity c.self.inside.journal;
  stopped = c.self.inside.stopped;
  failed = is_some c.self.inside.failure;
  failure = c.self.inside.failure;
  searches = c.self.inside.searches;
}

abbrev lent : (g : given.Over) → After-go_through-gone g → ActiveView
lent g c = record {
  machine = c.active.inside.machine;
  draft = c.active.inside.draft;
  begun = c.active.inside.begun;
  decided = c.active.inside.decided;
  wait = c.active.inside.wait;
}

-- it has gone so far
has_gone : (g : given.Over) (c : After-go_through-gone g) →
    HasGone g.K.PseudoKey.of_key c.args.seat c.index_mut.result.now (opened g c) c.args.self.now (lent g c)
    c.go_through-gone.result.moves c.go_through-gone.result.fault c.go_through-gone.new.self
    c.go_through-gone.new.pool c.go_through-gone.new.locks
has_gone g c = record {
  view = c.self.view_is;
  whole = c.self.invariant;
  seated = c.requires;
  at_slot = c.index_mut.ensures.value;
  sound = sym c.is_some.ensures ∙ c.if-is_some.false;
  at_a = lent_there _ _ _ _ c.under_way.ensures.value c.in-Some.is c.active.view_is;
  awake = sym c.is_some-2.ensures ∙ c.if-is_some-2.false;
  kept = c.active.invariant.drafted;
  calm = c.are_sound.ensures;
  gone = c.go_through-gone.ensures.goes;
}

-- ---- nothing was tried

pub returns-then-is_some-clause-goes : goal.returns-then-is_some-clause-goes
returns-then-is_some-clause-goes g c = goes_nowhere _ _ _ _ refl

pub returns-in_default-clause-goes : goal.returns-in_default-clause-goes
returns-in_default-clause-goes g c =
    goes_nowhere (g.K.PseudoKey.of_key c.args.self.now.keys) c.args.seat c.args.self.now _
    (unmade c.args.seat c.index_mut.result.now _ c.args.self.now c.self.view_is c.self.invariant c.requires
    c.index_mut.ensures.value c.index_mut.result.now refl)

pub returns-then-is_some-2-clause-goes : goal.returns-then-is_some-2-clause-goes
returns-then-is_some-2-clause-goes g c =
    goes_nowhere (g.K.PseudoKey.of_key c.args.self.now.keys) c.args.seat c.args.self.now _
    (unmade c.args.seat c.index_mut.result.now _ c.args.self.now c.self.view_is c.self.invariant c.requires
    c.index_mut.ensures.value (Some c.in-Some.active.now)
    (lent_there _ _ _ _ c.under_way.ensures.value c.in-Some.is refl))

pub go_through-gone-requires-clause-row : goal.go_through-gone-requires-clause-row
go_through-gone-requires-clause-row g c =
    row_there c.args.seat _ _ c.args.self.now c.self.view_is c.self.invariant c.requires c.index_mut.ensures.value _
    (lent_there _ _ _ _ c.under_way.ensures.value c.in-Some.is c.active.view_is)

-- ---- nothing was made

pub invariant_of-active : goal.invariant_of-active
invariant_of-active g c =
    kept_still (has_gone g (goal.at.invariant_of-active g c).After-go_through-gone)
    (c.has_gone_nowhere.ensures.0 c.if-has_gone_nowhere.true) c.active.invariant

pub invariant_of-self-then-has_gone_nowhere : goal.invariant_of-self-then-has_gone_nowhere
invariant_of-self-then-has_gone_nowhere g c =
    whole_still (has_gone g (goal.at.invariant_of-self-then-has_gone_nowhere g c).After-go_through-gone)
    (c.has_gone_nowhere.ensures.0 c.if-has_gone_nowhere.true)

pub returns-then-has_gone_nowhere-clause-goes : goal.returns-then-has_gone_nowhere-clause-goes
returns-then-has_gone_nowhere-clause-goes g c =
    goes_still (has_gone g (goal.at.returns-then-has_gone_nowhere-clause-goes g c).After-go_through-gone)
    (c.has_gone_nowhere.ensures.0 c.if-has_gone_nowhere.true)

-- ---- something was made, or met a fault

pub note_entry-requires-clause-fits : goal.note_entry-requires-clause-fits
note_entry-requires-clause-fits g c =
    fits (has_gone g (goal.at.note_entry-requires-clause-fits g c).After-go_through-gone)
    (λ none. true≢false (sym (c.has_gone_nowhere.ensures.1 none) ∙ c.if-has_gone_nowhere.false))

pub invariant_of-active-2 : goal.invariant_of-active-2
invariant_of-active-2 g c =
    kept_then (has_gone g (goal.at.invariant_of-active-2 g c).After-go_through-gone)
    (λ none. true≢false (sym (c.has_gone_nowhere.ensures.1 none) ∙ c.if-has_gone_nowhere.false))
    c.note_entry.new.draft c.note_entry.ensures.draft

pub invariant_of-self-2 : goal.invariant_of-self-2
invariant_of-self-2 g c =
    let many : vec_len c.self.inside.journal ≡ length c.self.inside.journal.items = search rules in
    whole_then (has_gone g (goal.at.invariant_of-self-2 g c).After-go_through-gone)
    (λ none. true≢false (sym (c.has_gone_nowhere.ensures.1 none) ∙ c.if-has_gone_nowhere.false))
    c.note_entry.new.draft c.note_entry.ensures.draft c.note_go.new.searches c.note_go.ensures.notes
    c.note_go.ensures.sound _ c.note_entry.ensures.capacity c.decided_by-decided.result c.len.result
    (c.len.ensures ∙ many) c.decided_by-decided.ensures c.note_entry.new.journal.items c.note_entry.ensures.journal
    c.failure_at-self-inside.result c.failure_at-self-inside.ensures

pub returns-clause-goes : goal.returns-clause-goes
returns-clause-goes g c =
    let many : vec_len c.self.inside.journal ≡ length c.self.inside.journal.items = search rules in
    goes_then (has_gone g (goal.at.returns-clause-goes g c).After-go_through-gone)
    (λ none. true≢false (sym (c.has_gone_nowhere.ensures.1 none) ∙ c.if-has_gone_nowhere.false))
    c.note_entry.new.draft c.note_entry.ensures.draft c.note_go.new.searches c.note_go.ensures.notes
    c.note_go.ensures.sound _ c.note_entry.ensures.capacity c.decided_by-decided.result c.len.result
    (c.len.ensures ∙ many) c.decided_by-decided.ensures c.note_entry.new.journal.items c.note_entry.ensures.journal
    c.failure_at-self-inside.result c.failure_at-self-inside.ensures
