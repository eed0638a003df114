-- What it comes to: what its inquiry decides, unless a trial has no room.
use Rattle.std.proofs.Common.{◌≡◌, sym, ap, ◌∙◌, subst, Result, Ok}
use Rattle.std.proofs.lemmas.Bool.{true≢false}
use Rattle.std.specs.Option.{is_some}
use Rattle.call_writes.specs.call_decisions.Anything.{decided_of}
use Rattle.xsi_inquiry.specs.Telling.{Gives}
use Rattle.call_writes.specs.declared.writes.CallWrites.{CallWrites}
use Rattle.xsi_calls.specs.Deciding.{IsSettled}
use Rattle.xsi_calls.specs.Parts.{asked_with, decision_by, question_under, tried_under, trials_under, undecided_with}
use Rattle.xsi_calls.specs.Undecided.{trials_of}
use Rattle.xsi_calls.specs.UndecidedWords.{AnyInquiry, Decision, IsRight, KnowsOf, NotASystem, Settled, asked_of, caller_of, locked_of, plan_of, settled_by}
use Rattle.xsi_calls.proofs.BeginLemmas.{decision_is, decision_made}
use Rattle.xsi_calls.proofs.RoomLemmas.{none_to_decide, tried_of}
use Rattle.xsi_calls.proofs.UndecidedDecideLemmas.{asks_no_more, comes_to_it, is_told, lacks_room}
use Rattle.xsi_calls.proofs.part.Part.decide.Goals as goal

pub returns-then-is_full-clause-question : goal.returns-then-is_full-clause-question
returns-then-is_full-clause-question c =
    c.rest.ensures.question ∙ sym (none_to_decide c.args.call.now c.args.questions.now c.args.self.now c.requires)

pub returns-then-is_full-clause-due : goal.returns-then-is_full-clause-due
returns-then-is_full-clause-due c =
    c.trials_due-due.ensures.due
    ∙ sym (ap (λ (w : CallWrites). w.due)
    (tried_of (decision_by c.args.call.now c.args.questions.now.inquiry) (tried_under c.args.self.now)))

pub returns-then-is_full-clause-decided : goal.returns-then-is_full-clause-decided
returns-then-is_full-clause-decided c = λ hash seat s records pool locks change is mark.
    let q = asked_with c.args.questions.now (question_under c.args.self.now) in
    lacks_room hash seat c.args.call.now s q records pool locks change c.args.stopped mark
    (decision_by c.args.call.now q.inquiry) (tried_under c.args.self.now) is c.requires
    (sym c.trials_due-due.ensures.full ∙ c.if-is_full.true)

pub returns-then-is_some-clause-question : goal.returns-then-is_some-clause-question
returns-then-is_some-clause-question c =
    c.rest.ensures.question ∙ sym (none_to_decide c.args.call.now c.args.questions.now c.args.self.now c.requires)

pub returns-then-is_some-clause-decided : goal.returns-then-is_some-clause-decided
returns-then-is_some-clause-decided c = λ hash seat s records pool locks change is mark.
    let q = asked_with c.args.questions.now (question_under c.args.self.now) in
    let none = asks_no_more hash seat c.args.call.now s q records pool locks change c.args.stopped mark
    (trials_under c.args.call.now c.args.questions.now c.args.self.now) is c.requires in
    true≢false (sym c.if-is_some.true ∙ c.is_some.ensures ∙ ap is_some
    (c.wants.ensures ∙ ap (λ (i : AnyInquiry). asked_of c.args.call.now i) c.inquiry.ensures ∙ none))

pub returns-in_err-decision-clause-decided : goal.returns-in_err-decision-clause-decided
returns-in_err-decision-clause-decided c = λ hash seat s records pool locks change is mark.
    let (filed, knows) = is_told hash seat c.args.call.now s
    (asked_with c.args.questions.now (question_under c.args.self.now)) records pool locks change c.args.stopped mark
    (trials_under c.args.call.now c.args.questions.now c.args.self.now) is in
    absurd (subst (λ (r : Result Decision NotASystem). Gives r (IsRight (caller_of c.inquiry-2.result.now)
    c.args.call.now (locked_of c.args.call.now c.inquiry-2.result.now) c.args.questions.now.room.bytes s
    (plan_of c.args.call.now c.inquiry-2.result.now))) c.in_err-decision.was
    (c.decide.ensures.right c.args.questions.now.room s filed
    (subst (λ (i : AnyInquiry). KnowsOf c.args.call.now i c.args.questions.now.room s) (sym c.inquiry-2.ensures)
    knows)))

pub returns-clause-decided : goal.returns-clause-decided
returns-clause-decided c = λ hash seat s records pool locks change is mark.
    let q = asked_with c.args.questions.now (question_under c.args.self.now) in
    let d = c.in_ok-decision in
    let same : decision_by c.args.call.now c.args.questions.now.inquiry ≡ c.in_ok-decision.decision =
    ap (decision_by c.args.call.now) (sym c.inquiry-2.ensures)
    ∙ decision_is c.args.call.now c.inquiry-2.result.now c.decide.result c.decide.ensures.value d.decision d.was in
    let value : decided_of c.args.call.now c.args.questions.now.inquiry
    ≡ Ok (decision_by c.args.call.now c.args.questions.now.inquiry) =
    ap (decided_of c.args.call.now) (sym c.inquiry-2.ensures) ∙ sym c.decide.ensures.value ∙ d.was ∙ ap Ok (sym same) in
    let decides = decision_made c.args.call.now q c.inquiry-2.result.now c.inquiry-2.ensures c.decide.result
    c.decide.ensures.value c.decide.ensures.right d.decision d.was in
    subst (λ (x : Settled). IsSettled hash seat c.args.call.now s
    (asked_with c.args.questions.now (question_under c.args.self.now)) x
    (trials_of (undecided_with c.args.call.now c.args.questions.now c.args.self.now)) records pool locks change)
    (ap (settled_by c.args.stopped) same ∙ sym c.of.ensures.value)
    (comes_to_it hash seat c.args.call.now s q records pool locks change c.args.stopped mark
    (decision_by c.args.call.now q.inquiry) (tried_under c.args.self.now) is c.requires c.keep_order.ensures
    (sym c.trials_due-due.ensures.full ∙ c.if-is_full.false) value decides)
