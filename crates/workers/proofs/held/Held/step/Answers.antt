use Rattle.std.proofs.Common.{◌≤◌, ◌<◌, ◌+◌, ◌-◌, length, sym, ap, subst, rules}
use Rattle.workers.proofs.HeldLemmas.{change_at_desk, counted_after, fits_after, journal_few, kept_after, told_at_desk}
use Rattle.workers.proofs.RoomLemmas.{told_no_room}
use Rattle.workers.proofs.held.Held.step.Goals as goal

-- the calls are no more than the entries of the journal, whose length fits
pub overflow_add-self : goal.overflow_add-self
overflow_add-self g c =
    let now = counted_after _ _ _ _ c.step-did.ensures.turn _ _ _ c.self.invariant.held.counted
    (ap length c.journal-before.ensures) (ap length c.journal.ensures) in
    let small : c.self.inside.count + (length c.journal.result.now - length c.journal-before.result.now)
    < 18446744073709551616 =
    fits_after _ _ now (journal_few _ c.is_whole.ensures) in
    search rules

pub tell-requires-clause-count : goal.tell-requires-clause-count
tell-requires-clause-count g c =
    counted_after _ _ _ _ c.step-did.ensures.turn _ _ _
    c.self.invariant.held.counted (ap length c.journal-before.ensures)
    (ap length c.journal.ensures)

pub tell-requires-clause-change : goal.tell-requires-clause-change
tell-requires-clause-change g c =
    change_at_desk _ _ _ _ c.step-did.ensures.turn c.requires.within.0 _ _ c.self.invariant.held.known c.requires.seat

pub invariant_of-self : goal.invariant_of-self
invariant_of-self g c =
    let now = counted_after _ _ _ _ c.step-did.ensures.turn _ _ _ c.self.invariant.held.counted
    (ap length c.journal-before.ensures) (ap length c.journal.ensures) in
    kept_after _ _ _ _ c.step-did.ensures.turn _ _ _ _ _ _ c.steps_refine.ensures
    c.a_step_does_what_its_seat_is_told.ensures
    (c.requires.within.0, subst (λ n. c.args.seat ≤ n) (sym c.self.invariant.held.rows) c.requires.within.1)
    (record { turn = c.step-did.ensures.turn; makes = c.step-did.ensures.makes }) c.self.invariant c.tell.ensures.own
    now

pub returns-clause-told : goal.returns-clause-told
returns-clause-told g c =
    told_at_desk _ _ _ _ c.step-did.ensures.turn _ _ _ c.self.invariant.held.known c.requires.seat
    c.tell.ensures.right c.tell.ensures.seat

pub returns-clause-room : goal.returns-clause-room
returns-clause-room g c =
    told_no_room _ _ _ _ _ _ _ _ c.self.invariant c.tell.ensures.right c.requires.seat _
    (record { turn = c.step-did.ensures.turn; makes = c.step-did.ensures.makes })
