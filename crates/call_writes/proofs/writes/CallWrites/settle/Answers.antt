-- An access that has ended is let go where it has written or has no room.
use Rattle.std.proofs.Common.{refl, sym, ap, ◌∙◌, not, Option, option_copied}
use Rattle.std.proofs.lemmas.Bool.{true≢false}
use Rattle.call_writes.specs.declared.writes.CallWrites.{CallWrites}
use Rattle.call_writes.specs.WriteWords.{AccessView, Full}
use Rattle.call_writes.specs.MakeSteps.{Fails, IsFull, LetsGo}
use Rattle.call_writes.proofs.writes.CallWrites.settle.Goals as goal

pub returns-then-has_written : goal.returns-then-has_written
returns-then-has_written c =
    let left : Option AccessView → CallWrites = λ a. record { due = c.args.self.now.due; access = a } in
    LetsGo c.in-Some.access.now (sym c.get.ensures ∙ ap option_copied c.in-Some.is)
    (c.has_ended.ensures.ended.0 c.if-not-has_ended.false)
    (sym c.is_fault.ensures ∙ c.if-is_fault.false) (sym c.has_written.ensures ∙ c.if-has_written.true) refl
    (ap left c.close.ensures)

pub returns-else-not-has_no_room : goal.returns-else-not-has_no_room
returns-else-not-has_no_room c =
    let left : Option AccessView → CallWrites = λ a. record { due = Full c.in-Trying.standing; access = a } in
    IsFull c.in-Some.access.now c.in-Trying.standing (sym c.get.ensures ∙ ap option_copied c.in-Some.is)
    (c.has_ended.ensures.ended.0 c.if-not-has_ended.false) (sym c.is_fault.ensures ∙ c.if-is_fault.false)
    (sym c.has_no_room.ensures.full ∙ c.if-not-has_no_room.false) c.in-Trying.is refl
    (ap left c.close-in-Trying.ensures)

pub returns-then-not-has_no_room : goal.returns-then-not-has_no_room
returns-then-not-has_no_room c =
    let ended = c.has_ended.ensures.ended.0 c.if-not-has_ended.false in
    let unwritten = sym c.has_written.ensures ∙ c.if-has_written.false in
    Fails c.in-Some.access.now (sym c.get.ensures ∙ ap option_copied c.in-Some.is) ended
    (sym c.is_fault.ensures ∙ c.if-is_fault.false) unwritten
    (λ standing r found due serves allows.
    true≢false (sym (c.has_no_room.ensures.ended r found allows serves ended ∙ ap not unwritten)
    ∙ c.if-not-has_no_room.true)) refl refl

pub returns-in_default-due : goal.returns-in_default-due
returns-in_default-due c =
    Fails c.in-Some.access.now (sym c.get.ensures ∙ ap option_copied c.in-Some.is)
    (c.has_ended.ensures.ended.0 c.if-not-has_ended.false)
    (sym c.is_fault.ensures ∙ c.if-is_fault.false) (sym c.has_written.ensures ∙ c.if-has_written.false)
    (λ standing r found due serves allows. c.in_default-due.not-Trying standing due) refl refl
