-- A trial makes its moves, or nothing is to be inserted on trial.
use Rattle.std.proofs.Common.{◌≡◌, ◌+◌, min, Result, Ok, Bool, refl, sym, ap, ◌∙◌, subst, None}
use Rattle.xsi_calls.specs.declared.call_machine.CallMachine.TheInside.{Inside}
use Rattle.xsi_calls.specs.declared.part.Part.{Part}
use Rattle.xsi_calls.specs.declared.part.Part.TheVariants as parts
use Rattle.xsi_calls.specs.Beginning.{GoesOnTrying, StaysSo, Tries}
use Rattle.xsi_calls.specs.Machine.{CallView, is_undecided, undecided_searches}
use Rattle.xsi_calls.specs.Parts.{asked_with, conclusion_under, decision_by, payment_under, undecided_with}
use Rattle.xsi_calls.specs.Counting.{MOST_FINDS}
use Rattle.xsi_calls.specs.Stages.{stage_at}
use Rattle.xsi_calls.specs.UndecidedSteps.{MakesUndecided}
use Rattle.xsi_calls.specs.Words.{AreNames, Ended, WritesAtOnce}
use Rattle.xsi_calls.specs.Undecided.{undecided_locks}
use Rattle.xsi_calls.specs.UndecidedWords.{AnyInquiry, NotASystem, plan_of}
use Rattle.xsi_calls.proofs.EndingLemmas.{can_now}
use Rattle.xsi_calls.proofs.GoLemmas.{undecided_row}
use Rattle.xsi_calls.proofs.MachineLemmas.{machine, still_one, tries_at_once}
use Rattle.xsi_calls.proofs.RoomLemmas.{trying_in}
use Rattle.xsi_calls.proofs.UndecidedAtOnceLemmas.{trial_at_once, tries_from_part}
use Rattle.xsi_calls.proofs.call_machine.CallMachine.try_through.Given as given
use Rattle.xsi_calls.proofs.call_machine.CallMachine.try_through.Goals as goal
use Rattle.xsi_calls.proofs.call_machine.CallMachine.try_through.Goals.{After-keep_order, then-not-tries+else-not-is_done+in-Ok+else-not-begins, else-not-tries}

-- behind its questions it tries, and a step of that is one of the call
tried : (g : given.Over) (c : After-keep_order g) → (part : Part) × (c.if-not-tries.self-inside ≡ record {
  caller = c.self.inside.caller;
  phase = c.self.inside.phase;
  call = c.self.inside.call;
  questions = c.self.inside.questions;
  part = part;
}) × Tries c.self.inside.call c.self.inside.questions c.self.inside.part part
tried g c =
    elim c.if-not-tries.branch [
      | then-not-tries+else-not-is_done+in-Ok+else-not-begins w ↦ (
        w.begin_first.new.self,
        w.self-inside-is,
        subst (λ (r : Result Bool NotASystem). GoesOnTrying c.self.inside.call c.self.inside.questions r
            c.self.inside.part w.begin_first.new.self) (w.in-Ok.is ∙ ap Ok w.if-not-begins.false)
            w.begin_first.ensures,
      )
      | else-not-tries w ↦ (
        c.self.inside.part,
        w.self-inside-is,
        record {
          under_way = sym c.is_trying-tries.ensures ∙ w.if-not-tries.false;
          row = refl;
          makes = λ hash seat did after pool pool' locks locks' made. made;
        },
      )
    ]

-- nothing is to be inserted on trial, so it can decide
pub returns-then-not-begins : goal.returns-then-not-begins
returns-then-not-begins g c =
    let i = c.self.inside in
    let u = undecided_with c.self.inside.call c.self.inside.questions c.self.inside.part in
    let stage = stage_at i.phase (payment_under i.part) (conclusion_under i.part) in
    let undecided = sym c.is_undecided.ensures ∙ c.if-not-is_undecided.false in
    let row = c.requires.row
    ∙ undecided_row i.caller i.call u stage c.args.self.now c.self.view_is undecided in
    let stays : StaysSo c.self.inside.call c.self.inside.questions Ended c.self.inside.part c.begin_first.new.self =
    subst (λ (r : Result Bool NotASystem). GoesOnTrying c.self.inside.call c.self.inside.questions r c.self.inside.part
    c.begin_first.new.self) (c.in-Ok.is ∙ ap Ok c.if-not-begins.true) c.begin_first.ensures in
    let makes = stays.makes (g.K.PseudoKey.of_key c.args.keys.now) c.args.seat c.args.pool.now c.args.locks.now
    c.requires.ready row in (
      can_now i.caller i.call u stage c.args.self.now c.self.view_is undecided (makes.aim.ended.0 refl),
      (
        ap (λ (p : Part). machine c.self.inside.caller c.self.inside.call c.self.inside.questions p
            c.self.inside.phase) stays.same ∙ c.self.view_is,
        refl,
      ),
    )

pub invariant_of-self-in-Made : goal.invariant_of-self-in-Made
invariant_of-self-in-Made g c =
    let i = c.self.inside in
    let (part, is, tries) = tried g (goal.at.invariant_of-self-in-Made g c).After-keep_order in
    let counted = c.count_one.ensures
    ∙ ap (λ (x : Inside). record x.questions { finds = min (x.questions.finds + 1) MOST_FINDS }) is in
    rw (is, counted) (still_one i.caller i.call i.questions i.part i.phase
    (ap (λ (m : CallView). is_undecided m.stage) c.self.view_is ∙ sym c.is_undecided.ensures
    ∙ c.if-not-is_undecided.false)
    c.self.invariant (min (i.questions.finds + 1) MOST_FINDS)
    (record {
      writes = c.try_through.new.self;
      on_trial = c.in-Writes.place.on_trial;
      conclusion = c.in-Writes.place.conclusion;
    }))

pub returns-in-Made : goal.returns-in-Made
returns-in-Made g c = λ stopped.
    let i = c.self.inside in
    let q = c.self.inside.questions in
    let hash = g.K.PseudoKey.of_key c.args.keys.now in
    let undecided = sym c.is_undecided.ensures ∙ c.if-not-is_undecided.false in
    let (part, is, tries) = tried g (goal.at.returns-in-Made g c).After-keep_order in
    let place = c.in-Writes.place in
    let part2 = parts.Writes (record {
      writes = c.try_through.new.self;
      on_trial = c.in-Writes.place.on_trial;
      conclusion = c.in-Writes.place.conclusion;
    }) in
    let here = sym (ap (λ (x : Inside). x.part) is) ∙ c.in-Writes.is in
    let (on_trial, now) = trying_in i.call q part place here tries.under_way in
    let counted = c.count_one.ensures
    ∙ ap (λ (x : Inside). record x.questions { finds = min (x.questions.finds + 1) MOST_FINDS }) is in
    let row = c.requires.row ∙ undecided_row i.caller i.call (undecided_with i.call q i.part)
    (stage_at i.phase (payment_under i.part) (conclusion_under i.part)) c.args.self.now c.self.view_is undecided in
    let goes : WritesAtOnce (MakesUndecided (g.K.PseudoKey.of_key c.args.keys.now) c.args.seat c.self.inside.call)
    undecided_searches c.args.seat (undecided_with c.self.inside.call c.self.inside.questions part)
    (undecided_with c.self.inside.call c.count_one.new.self part2) c.args.pool.now c.try_through.new.pool
    c.args.locks.now =
    rw (here, on_trial, counted) (trial_at_once hash c.args.seat i.call (asked_with q None)
    (subst (λ (x : Inside). AreNames x.questions.names) is c.keep_order.ensures) c.new-plan.result
    (c.new-plan.ensures ∙ ap (λ (y : AnyInquiry). plan_of c.if-not-tries.self-inside.call y)
    c.inquiry.ensures ∙ ap (λ (x : Inside). plan_of x.call x.questions.inquiry) is)
    (decision_by i.call q.inquiry) place.writes c.try_through.new.self c.args.pool.now c.try_through.new.pool
    c.args.locks.now c.requires.seat (row ∙ sym tries.row ∙ ap undecided_locks now)
    c.in-Made.ensures) in
    rw is (tries_at_once hash c.args.seat stopped i.caller i.call q i.part i.phase c.args.self.now c.self.view_is
    undecided c.count_one.new.self part2 c.args.pool.now c.try_through.new.pool c.args.locks.now
    (tries_from_part hash c.args.seat i.call q i.part part tries (undecided_with i.call c.count_one.new.self part2)
    c.args.pool.now c.try_through.new.pool c.args.locks.now goes))
