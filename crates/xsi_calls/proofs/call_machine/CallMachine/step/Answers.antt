-- What a step of each place does.
use Rattle.std.proofs.Common.{◌≡◌, ◌&&◌, not, Bool, false, Option, None, Result, Ok, refl, sym, ap, ◌∙◌, subst}
use Rattle.std.proofs.lemmas.Bool.{true≢false}
use Rattle.file_pages.specs.declared.fault.FileFault.TheVariants.{Failed}
use Rattle.xsi_inquiry.specs.declared.verdict.Verdict.TheVariants.{Done}
use Rattle.xsi_calls.specs.declared.conclusion.Conclusion.TheVariants.{Answers}
use Rattle.xsi_calls.specs.declared.part.Part.TheVariants as parts
use Rattle.xsi_calls.specs.declared.call_machine.CallMachine.TheInside.{Inside}
use Rattle.xsi_calls.specs.declared.part.Part.{Part}
use Rattle.xsi_calls.specs.declared.question.Question.{Question}
use Rattle.xsi_calls.specs.declared.questions.Questions.{Questions}
use Rattle.xsi_calls.specs.Beginning.{GoesOnTrying}
use Rattle.xsi_calls.specs.CallSteps.{ComesTo, HasNoSystem}
use Rattle.xsi_calls.specs.Undecided.{CanDecide, undecided_locks}
use Rattle.xsi_calls.specs.UndecidedSteps.{MakesUndecided}
use Rattle.xsi_calls.specs.Machine.{CallView, is_undecided}
use Rattle.xsi_calls.specs.Parts.{asked_with, conclusion_under, decision_by, payment_under, question_under, tried_under, undecided_with}
use Rattle.xsi_calls.specs.Questions.{has_asked, is_done}
use Rattle.xsi_calls.specs.QuestionSteps.{MakesQuestions}
use Rattle.call_writes.specs.PaymentStages.{Sweeping, Writing}
use Rattle.xsi_calls.specs.Stages.{Releasing, stage_at}
use Rattle.xsi_calls.specs.UndecidedWords.{AnyInquiry, NotASystem, plan_of}
use Rattle.xsi_calls.specs.Words.{AreNames, Ended, Fault}
use Rattle.xsi_calls.proofs.DecidedLemmas.{decides_by, fails_from}
use Rattle.xsi_calls.proofs.GoLemmas.{at_end, not_end, undecided_row}
use Rattle.call_writes.proofs.StartLemmas.{none_of}
use Rattle.xsi_calls.proofs.MachineLemmas.{asks_one, asks_there, blocked_there, first_there, no_trials, pays_there, releases_there, tries_there, undecided_here}
use Rattle.xsi_calls.proofs.PartLemmas.{ends_part, failed_part, goes_part, writes_part}
use Rattle.xsi_calls.proofs.PayLemmas.{pays_from, released_from, sweeps_from}
use Rattle.xsi_calls.proofs.PhaseLemmas.{undecided_still}
use Rattle.xsi_calls.proofs.RoomLemmas.{trying_in}
use Rattle.xsi_calls.proofs.StepLemmas.{tried_with}
use Rattle.xsi_calls.proofs.BeginLemmas.{stays_so}
use Rattle.xsi_calls.proofs.call_machine.CallMachine.step.Given as given
use Rattle.xsi_calls.proofs.call_machine.CallMachine.step.Goals as goal
use Rattle.xsi_calls.proofs.call_machine.CallMachine.step.Goals.{After-is_end, then-tries+in-Writes-part-2, else-tries}

-- ---- it asks

pub returns-then-is_asking : goal.returns-then-is_asking
returns-then-is_asking g c =
    let i = c.self.inside in
    let hash = g.K.PseudoKey.of_key c.args.keys.now in
    let under = sym c.is_asking.ensures ∙ c.if-is_asking.true in
    let more : is_done i.call (asked_with i.questions (question_under i.part)) ≡ false =
    ap (λ (b : Bool). not b && has_asked i.call (asked_with i.questions (question_under i.part))) under in
    asks_there hash c.args.seat c.args.stopped i.caller i.call i.questions i.part i.phase c.args.self.now
    c.self.view_is (sym c.is_undecided.ensures ∙ c.if-is_undecided.true) c.go_on.new.self
    (parts.Asks c.go_on.new.question) (ap tried_under c.in-Asks.is, more) refl c.go_on.result c.args.pool.now
    c.go_on.new.pool c.args.locks.now c.go_on.new.locks
    (subst (λ (o : Option Question). MakesQuestions hash c.args.seat i.call c.go_on.result (asked_with i.questions o)
    (asked_with c.go_on.new.self c.go_on.new.question) c.args.pool.now c.go_on.new.pool c.args.locks.now
    c.go_on.new.locks) (sym (ap question_under c.in-Asks.is)) c.go_on.ensures)

pub returns-in-Some : goal.returns-in-Some
returns-in-Some g c =
    let i = c.self.inside in
    let more : is_done i.call (asked_with i.questions (question_under i.part)) ≡ false =
    ap (λ (b : Bool). not b && has_asked i.call (asked_with i.questions (question_under i.part)))
    (sym c.is_asking.ensures ∙ c.if-is_asking.false) ∙ sym c.has_asked.ensures ∙ c.if-not-has_asked.true in
    asks_there (g.K.PseudoKey.of_key c.args.keys.now) c.args.seat c.args.stopped i.caller i.call i.questions i.part
    i.phase c.args.self.now c.self.view_is (sym c.is_undecided.ensures ∙ c.if-is_undecided.true)
    c.turn.new.self c.turn.new.part
    (none_of _ (sym c.is_trying.ensures ∙ c.if-not-is_trying.true), more) c.turn.ensures.untried
    c.in-Some.did c.args.pool.now c.args.pool.now c.args.locks.now c.turn.new.locks
    (c.in-Some.ensures.made c.args.pool.now c.requires.ready)

pub invariant_of-self-in-Some : goal.invariant_of-self-in-Some
invariant_of-self-in-Some g c =
    let i = c.self.inside in
    let made = c.in-Some.ensures.made c.args.pool.now c.requires.ready in
    asks_one i.caller i.call i.questions i.part i.phase
    (ap (λ (m : CallView). is_undecided m.stage) c.self.view_is ∙ sym c.is_undecided.ensures ∙ c.if-is_undecided.true)
    c.self.invariant c.turn.new.self c.turn.new.part made.aim.caller made.aim.most c.turn.ensures.untried

-- the question that has begun makes its first step
pub returns-then-is_blocked : goal.returns-then-is_blocked
returns-then-is_blocked g c =
    let i = c.self.inside in
    rw c.close.ensures (blocked_there (g.K.PseudoKey.of_key c.args.keys.now) c.args.seat c.args.stopped i.caller i.call
    i.questions i.part i.phase c.args.self.now c.self.view_is (sym c.is_undecided.ensures ∙ c.if-is_undecided.true)
    (none_of _ (sym c.is_asking.ensures ∙ c.if-is_asking.false))
    (none_of _ (sym c.is_trying.ensures ∙ c.if-not-is_trying.true))
    (sym c.has_asked.ensures ∙ c.if-not-has_asked.true) c.turn.new.self c.turn.new.part c.in-Asks-part.question
    c.in-Asks-part.is c.in_default.ensures.same.0 c.in_default.ensures.begins c.args.locks.now c.turn.new.locks
    c.in_default.ensures.same.1 c.go_on-did.result c.go_on-did.new.self c.go_on-did.new.question c.args.pool.now
    c.go_on-did.new.pool c.go_on-did.new.locks c.go_on-did.ensures (sym c.is_blocked.ensures ∙ c.if-is_blocked.true))

pub returns-then-not-has_asked : goal.returns-then-not-has_asked
returns-then-not-has_asked g c =
    let i = c.self.inside in
    first_there (g.K.PseudoKey.of_key c.args.keys.now) c.args.seat c.args.stopped i.caller i.call
    i.questions i.part i.phase c.args.self.now c.self.view_is (sym c.is_undecided.ensures ∙ c.if-is_undecided.true)
    (none_of _ (sym c.is_asking.ensures ∙ c.if-is_asking.false))
    (none_of _ (sym c.is_trying.ensures ∙ c.if-not-is_trying.true))
    (sym c.has_asked.ensures ∙ c.if-not-has_asked.true) c.turn.new.self c.turn.new.part c.in-Asks-part.question
    c.in-Asks-part.is c.in_default.ensures.same.0 c.in_default.ensures.begins c.args.locks.now c.turn.new.locks
    c.in_default.ensures.same.1 c.go_on-did.result c.go_on-did.new.self c.go_on-did.new.question c.args.pool.now
    c.go_on-did.new.pool c.go_on-did.new.locks c.go_on-did.ensures (sym c.is_blocked.ensures ∙ c.if-is_blocked.false)

-- ---- it tries, and decides

-- what it has done before it can decide
stepped : (g : given.Over) (c : After-is_end g) → (q : Questions) × (part : Part)
    × (c.if-tries.self-inside ≡ record {
      caller = c.self.inside.caller;
      phase = c.self.inside.phase;
      call = c.self.inside.call;
      questions = q;
      part = part;
    }) × MakesUndecided (g.K.PseudoKey.of_key c.args.keys.now) c.args.seat c.self.inside.call c.if-tries.did
    (undecided_with c.self.inside.call c.self.inside.questions c.self.inside.part)
    (undecided_with c.self.inside.call q part) c.args.pool.now c.if-tries.pool c.args.locks.now c.if-tries.locks
stepped g c =
    let i = c.self.inside in
    let hash = g.K.PseudoKey.of_key c.args.keys.now in
    let q = c.self.inside.questions in
    let call = c.self.inside.call in
    let first = c.begin_first.new.self in
    let row = c.requires.row ∙ undecided_row i.caller i.call (undecided_with i.call i.questions i.part)
    (stage_at i.phase (payment_under i.part) (conclusion_under i.part)) c.args.self.now c.self.view_is
    (sym c.is_undecided.ensures ∙ c.if-is_undecided.true) in
    elim c.if-tries.branch [
      | then-tries+in-Writes-part-2 w ↦
          let place = w.in-Writes-part-2.place in
          let tries = subst (λ (r : Result Bool NotASystem). GoesOnTrying c.self.inside.call c.self.inside.questions r
          c.self.inside.part c.begin_first.new.self) (c.in-Ok.is ∙ ap Ok w.if-tries.true) c.begin_first.ensures in
          let (on_trial, is) = trying_in call q first place w.in-Writes-part-2.is tries.under_way in
          let part2 = parts.Writes (record {
            writes = w.step-did.new.self;
            on_trial = w.in-Writes-part-2.place.on_trial;
            conclusion = w.in-Writes-part-2.place.conclusion;
          }) in
          let made : MakesUndecided (g.K.PseudoKey.of_key c.args.keys.now) c.args.seat c.self.inside.call
          w.step-did.result
          (undecided_with c.self.inside.call c.self.inside.questions c.begin_first.new.self)
          (undecided_with c.self.inside.call w.count.new.self part2)
          c.args.pool.now w.step-did.new.pool c.args.locks.now w.step-did.new.locks =
          rw (w.in-Writes-part-2.is, on_trial, w.count.ensures) (tried_with hash c.args.seat
          call (asked_with q None) c.args.pool.now c.args.locks.now w.new-plan.result
          (w.new-plan.ensures ∙ ap (λ (x : AnyInquiry). plan_of c.self.inside.call x) w.inquiry.ensures)
          (record { writes = place.writes; decision = decision_by call q.inquiry }) w.keep_order.ensures
          (row ∙ sym tries.row ∙ ap undecided_locks is)
          w.step-did.result w.step-did.new.self w.step-did.new.pool w.step-did.new.locks w.step-did.ensures
          c.requires.seat _ refl) in (
            w.count.new.self,
            part2,
            w.self-inside-is,
            rw (w.did-is, w.pool-is, w.locks-is) (tries.makes hash
                c.args.seat w.step-did.result (undecided_with call w.count.new.self part2) c.args.pool.now
                w.step-did.new.pool c.args.locks.now w.step-did.new.locks made),
          )
      | else-tries w ↦ (
        q,
        first,
        w.self-inside-is,
        rw (w.did-is, w.pool-is, w.locks-is) (stays_so hash c.args.seat call q
            c.self.inside.part first Ended c.args.pool.now c.args.locks.now c.requires.ready row
            (subst (λ (r : Result Bool NotASystem). GoesOnTrying c.self.inside.call c.self.inside.questions r
            c.self.inside.part c.begin_first.new.self) (c.in-Ok.is ∙ ap Ok w.if-tries.false) c.begin_first.ensures)),
      )
    ]

pub returns-in_default-begin_first : goal.returns-in_default-begin_first
returns-in_default-begin_first g c =
    let i = c.self.inside in
    tries_there (g.K.PseudoKey.of_key c.args.keys.now) c.args.seat c.args.stopped i.caller i.call i.questions i.part
    i.phase c.args.self.now c.self.view_is (sym c.is_undecided.ensures ∙ c.if-is_undecided.true)
    i.questions c.begin_first.new.self (Fault Failed) c.args.pool.now c.args.pool.now c.args.locks.now c.args.locks.now
    (λ e. absurd cc) (stays_so (g.K.PseudoKey.of_key c.args.keys.now) c.args.seat i.call i.questions i.part
    c.begin_first.new.self (Fault Failed) c.args.pool.now c.args.locks.now c.requires.ready
    (c.requires.row ∙ undecided_row i.caller i.call (undecided_with i.call i.questions i.part)
    (stage_at i.phase (payment_under i.part) (conclusion_under i.part)) c.args.self.now c.self.view_is
    (sym c.is_undecided.ensures ∙ c.if-is_undecided.true))
    (subst (λ (r : Result Bool NotASystem). GoesOnTrying c.self.inside.call c.self.inside.questions r
    c.self.inside.part c.begin_first.new.self) c.in_default-begin_first.is c.begin_first.ensures))

pub returns-then-not-is_end : goal.returns-then-not-is_end
returns-then-not-is_end g c =
    let i = c.self.inside in
    let (q, part, is, made) = stepped g (goal.at.returns-then-not-is_end g c).After-is_end in
    rw is (tries_there (g.K.PseudoKey.of_key c.args.keys.now) c.args.seat c.args.stopped i.caller i.call i.questions
    i.part i.phase c.args.self.now c.self.view_is (sym c.is_undecided.ensures ∙ c.if-is_undecided.true)
    q part c.if-tries.did c.args.pool.now c.if-tries.pool c.args.locks.now c.if-tries.locks
    (not_end c.if-tries.did (sym c.is_end.ensures ∙ c.if-not-is_end.true)) made)

pub decide-requires : goal.decide-requires
decide-requires g c =
    let (q, part, is, made) = stepped g (goal.at.decide-requires g c).After-is_end in
    let e = at_end c.if-tries.did (sym c.is_end.ensures ∙ c.if-not-is_end.false) in
    rw is (subst (CanDecide c.self.inside.call) (sym (made.aim.rests e)) (made.aim.ended.0 e))

pub returns-in_default-decide : goal.returns-in_default-decide
returns-in_default-decide g c =
    let i = c.self.inside in
    let undecided = sym c.is_undecided.ensures ∙ c.if-is_undecided.true in
    let hash = g.K.PseudoKey.of_key c.args.keys.now in
    let (q, part, is, e) = stepped g (goal.at.returns-in_default-decide g c).After-is_end in
    let before = undecided_here hash c.args.seat c.args.stopped i.caller i.call i.questions i.part i.phase
    c.args.self.now c.self.view_is undecided in
    rw is (fails_from hash c.args.seat c.args.stopped i.caller i.call (undecided_with i.call i.questions i.part)
    (undecided_with i.call q part)
    (stage_at i.phase (payment_under i.part) (conclusion_under i.part)) c.args.self.now c.self.view_is undecided
    c.self.invariant.one.calm c.self.invariant.one.by
    (subst (λ (x : Inside). AreNames x.questions.names) is c.keep_order-then-is_undecided.ensures) c.if-tries.did
    (sym c.is_end.ensures ∙ c.if-not-is_end.false) c.args.pool.now c.if-tries.pool
    c.args.locks.now c.if-tries.locks e.writes e.aim e.row e.step (undecided_with i.call q c.decide.new.part)
    (stage_at i.phase (payment_under c.decide.new.part) (conclusion_under c.decide.new.part))
    (undecided_still i.phase (payment_under i.part) (payment_under c.decide.new.part) (conclusion_under i.part)
    (conclusion_under c.decide.new.part) before)
    (subst (λ (x : Inside). HasNoSystem (g.K.PseudoKey.of_key c.args.keys.now) x.call c.args.stopped
    (undecided_with x.call x.questions x.part) (undecided_with x.call x.questions c.decide.new.part)) is
    c.in_default-decide.ensures.fails))

pub returns-then-is_undecided : goal.returns-then-is_undecided
returns-then-is_undecided g c =
    let i = c.self.inside in
    let undecided = sym c.is_undecided.ensures ∙ c.if-is_undecided.true in
    let hash = g.K.PseudoKey.of_key c.args.keys.now in
    let (q, part, is, e) = stepped g (goal.at.returns-then-is_undecided g c).After-is_end in
    rw is (decides_by hash c.args.seat c.args.stopped i.caller i.call (undecided_with i.call i.questions i.part)
    (undecided_with i.call q part)
    (stage_at i.phase (payment_under i.part) (conclusion_under i.part)) c.args.self.now c.self.view_is undecided
    c.self.invariant.one.calm c.self.invariant.one.by
    (subst (λ (x : Inside). AreNames x.questions.names) is c.keep_order-then-is_undecided.ensures) c.if-tries.did
    (sym c.is_end.ensures ∙ c.if-not-is_end.false) c.args.pool.now c.if-tries.pool
    c.args.locks.now c.if-tries.locks e.writes e.aim e.row e.step
    (undecided_with i.call q c.decide.new.part) (payment_under c.decide.new.part) (conclusion_under c.decide.new.part)
    (subst (λ (x : Inside). ComesTo (g.K.PseudoKey.of_key c.args.keys.now) x.call c.args.stopped
    (conclusion_under c.decide.new.part) (undecided_with x.call x.questions x.part)
    (undecided_with x.call x.questions c.decide.new.part) (payment_under c.decide.new.part)) is
    c.in-Ok-decide.ensures.comes))

-- ---- it pays

pub returns-then-is_over : goal.returns-then-is_over
returns-then-is_over g c =
    let i = c.self.inside in
    let hash = g.K.PseudoKey.of_key c.args.keys.now in
    let v = ap payment_under c.in-Sweeps.is in
    pays_there hash c.args.seat c.args.stopped i.caller i.call i.questions i.part i.phase c.args.self.now
    c.self.view_is (sym c.is_paying.ensures ∙ c.if-is_paying.true) c.self.invariant (parts.Sweeps c.in-Sweeps.sweep) tt
    (ap conclusion_under c.in-Sweeps.is) (Fault Failed) c.args.pool.now c.args.pool.now
    c.args.locks.now c.args.locks.now
    (sweeps_from hash c.args.seat i.caller i.call (undecided_with i.call i.questions i.part) i.phase (payment_under
    i.part) (conclusion_under i.part) c.args.self.now c.self.view_is (sym c.is_paying.ensures ∙ c.if-is_paying.true)
    (asked_with i.questions (question_under i.part)) refl
    c.keep_order-then-is_paying.ensures c.new-plan-then-is_paying.result
    (c.new-plan-then-is_paying.ensures ∙ ap (λ (x : AnyInquiry). plan_of c.self.inside.call x)
    c.inquiry-then-is_paying.ensures)
    (Sweeping c.in-Sweeps.sweep) (Fault Failed) c.args.pool.now c.args.pool.now c.args.locks.now c.args.locks.now
    c.requires.seat c.requires.ready c.requires.row
    (failed_part hash c.args.seat c.new-plan-then-is_paying.result c.args.pool.now c.args.locks.now (payment_under
    i.part) c.in-Sweeps.sweep v (c.is_over.ensures.0 c.if-is_over.true)) c.in-Sweeps.sweep v c.args.stopped)

pub returns-then-not-is_move : goal.returns-then-not-is_move
returns-then-not-is_move g c =
    let i = c.self.inside in
    let hash = g.K.PseudoKey.of_key c.args.keys.now in
    let v = ap payment_under c.in-Sweeps.is in
    pays_there hash c.args.seat c.args.stopped i.caller i.call i.questions i.part i.phase c.args.self.now
    c.self.view_is (sym c.is_paying.ensures ∙ c.if-is_paying.true) c.self.invariant (parts.Sweeps
    c.step-did-in-Sweeps.new.self) tt (ap conclusion_under c.in-Sweeps.is) c.step-did-in-Sweeps.result
    c.args.pool.now c.step-did-in-Sweeps.new.pool c.args.locks.now c.step-did-in-Sweeps.new.locks
    (sweeps_from hash c.args.seat i.caller i.call (undecided_with i.call i.questions i.part) i.phase (payment_under
    i.part) (conclusion_under i.part) c.args.self.now c.self.view_is (sym c.is_paying.ensures ∙ c.if-is_paying.true)
    (asked_with i.questions (question_under i.part)) refl
    c.keep_order-then-is_paying.ensures c.new-plan-then-is_paying.result
    (c.new-plan-then-is_paying.ensures ∙ ap (λ (x : AnyInquiry). plan_of c.self.inside.call x)
    c.inquiry-then-is_paying.ensures)
    (Sweeping c.step-did-in-Sweeps.new.self) c.step-did-in-Sweeps.result c.args.pool.now c.step-did-in-Sweeps.new.pool
    c.args.locks.now c.step-did-in-Sweeps.new.locks c.requires.seat c.requires.ready c.requires.row
    (goes_part hash c.args.seat c.new-plan-then-is_paying.result c.step-did-in-Sweeps.result c.args.pool.now
    c.step-did-in-Sweeps.new.pool c.args.locks.now
    c.step-did-in-Sweeps.new.locks (payment_under i.part) c.in-Sweeps.sweep c.step-did-in-Sweeps.new.self v
    (λ over. true≢false (sym (c.is_over.ensures.1 over) ∙ c.if-is_over.false))
    c.step-did-in-Sweeps.ensures (λ moved. absurd (true≢false (sym (c.is_move.ensures ∙ moved) ∙
    c.if-not-is_move.true)))) c.in-Sweeps.sweep v c.args.stopped)

pub returns-then-not-is_over : goal.returns-then-not-is_over
returns-then-not-is_over g c =
    let i = c.self.inside in
    let hash = g.K.PseudoKey.of_key c.args.keys.now in
    let v = ap payment_under c.in-Sweeps.is in
    pays_there hash c.args.seat c.args.stopped i.caller i.call i.questions i.part i.phase c.args.self.now
    c.self.view_is (sym c.is_paying.ensures ∙ c.if-is_paying.true) c.self.invariant (parts.Sweeps
    c.step-did-in-Sweeps.new.self) tt (ap conclusion_under c.in-Sweeps.is) c.step-did-in-Sweeps.result
    c.args.pool.now c.step-did-in-Sweeps.new.pool c.args.locks.now c.step-did-in-Sweeps.new.locks
    (sweeps_from hash c.args.seat i.caller i.call (undecided_with i.call i.questions i.part) i.phase (payment_under
    i.part) (conclusion_under i.part) c.args.self.now c.self.view_is (sym c.is_paying.ensures ∙ c.if-is_paying.true)
    (asked_with i.questions (question_under i.part)) refl
    c.keep_order-then-is_paying.ensures c.new-plan-then-is_paying.result
    (c.new-plan-then-is_paying.ensures ∙ ap (λ (x : AnyInquiry). plan_of c.self.inside.call x)
    c.inquiry-then-is_paying.ensures)
    (Sweeping c.step-did-in-Sweeps.new.self) c.step-did-in-Sweeps.result c.args.pool.now c.step-did-in-Sweeps.new.pool
    c.args.locks.now c.step-did-in-Sweeps.new.locks c.requires.seat c.requires.ready c.requires.row
    (goes_part hash c.args.seat c.new-plan-then-is_paying.result c.step-did-in-Sweeps.result c.args.pool.now
    c.step-did-in-Sweeps.new.pool c.args.locks.now
    c.step-did-in-Sweeps.new.locks (payment_under i.part) c.in-Sweeps.sweep c.step-did-in-Sweeps.new.self v
    (λ over. true≢false (sym (c.is_over.ensures.1 over) ∙ c.if-is_over.false))
    c.step-did-in-Sweeps.ensures (λ moved over. true≢false (sym (c.is_over-in-Sweeps.ensures.1 over) ∙
    c.if-not-is_over.true))) c.in-Sweeps.sweep v c.args.stopped)

pub returns-in-Sweeps : goal.returns-in-Sweeps
returns-in-Sweeps g c =
    let i = c.self.inside in
    let hash = g.K.PseudoKey.of_key c.args.keys.now in
    let v = ap payment_under c.in-Sweeps.is in
    pays_there hash c.args.seat c.args.stopped i.caller i.call i.questions i.part i.phase c.args.self.now
    c.self.view_is (sym c.is_paying.ensures ∙ c.if-is_paying.true) c.self.invariant (parts.Writes (record {
      writes = c.unwritten.result;
      on_trial = false;
      conclusion = Answers Done;
    })) refl (ap conclusion_under c.in-Sweeps.is) c.step-did-in-Sweeps.result c.args.pool.now
    c.step-did-in-Sweeps.new.pool c.args.locks.now c.step-did-in-Sweeps.new.locks
    (sweeps_from hash c.args.seat i.caller i.call (undecided_with i.call i.questions i.part) i.phase (payment_under
    i.part) (conclusion_under i.part) c.args.self.now c.self.view_is (sym c.is_paying.ensures ∙ c.if-is_paying.true)
    (asked_with i.questions (question_under i.part)) refl
    c.keep_order-then-is_paying.ensures c.new-plan-then-is_paying.result
    (c.new-plan-then-is_paying.ensures ∙ ap (λ (x : AnyInquiry). plan_of c.self.inside.call x)
    c.inquiry-then-is_paying.ensures)
    (Writing c.unwritten.result) c.step-did-in-Sweeps.result c.args.pool.now c.step-did-in-Sweeps.new.pool
    c.args.locks.now c.step-did-in-Sweeps.new.locks c.requires.seat c.requires.ready c.requires.row
    (ends_part hash c.args.seat c.new-plan-then-is_paying.result c.step-did-in-Sweeps.result c.args.pool.now
    c.step-did-in-Sweeps.new.pool c.args.locks.now
    c.step-did-in-Sweeps.new.locks (payment_under i.part) c.in-Sweeps.sweep c.step-did-in-Sweeps.new.self v
    (λ over. true≢false (sym (c.is_over.ensures.1 over) ∙ c.if-is_over.false))
    c.step-did-in-Sweeps.ensures (sym c.is_move.ensures ∙ c.if-not-is_move.false)
    (c.is_over-in-Sweeps.ensures.0 c.if-not-is_over.false) c.unwritten.result c.unwritten.ensures)
    c.in-Sweeps.sweep v c.args.stopped)

pub returns-then-not-is_end-2 : goal.returns-then-not-is_end-2
returns-then-not-is_end-2 g c =
    let i = c.self.inside in
    let hash = g.K.PseudoKey.of_key c.args.keys.now in
    let did = c.step-did-in-Writes-part-3.result in
    let part2 = parts.Writes (record {
      writes = c.step-did-in-Writes-part-3.new.self;
      on_trial = c.in-Writes-part-3.place.on_trial;
      conclusion = c.in-Writes-part-3.place.conclusion;
    }) in
    let gone = no_trials hash c.args.seat c.args.stopped i.caller i.call i.questions i.part i.phase
    c.args.self.now c.self.view_is (sym c.is_paying.ensures ∙ c.if-is_paying.true) c.self.invariant
    c.in-Writes-part-3.place c.in-Writes-part-3.is in
    pays_there hash c.args.seat c.args.stopped i.caller i.call i.questions i.part i.phase c.args.self.now
    c.self.view_is (sym c.is_paying.ensures ∙ c.if-is_paying.true) c.self.invariant part2 gone (ap conclusion_under
    c.in-Writes-part-3.is) did c.args.pool.now c.step-did-in-Writes-part-3.new.pool
    c.args.locks.now c.step-did-in-Writes-part-3.new.locks
    (pays_from hash c.args.seat i.caller i.call (undecided_with i.call i.questions i.part) i.phase (payment_under
    i.part) (conclusion_under i.part) c.args.self.now c.self.view_is (sym c.is_paying.ensures ∙ c.if-is_paying.true)
    (asked_with i.questions (question_under i.part)) refl
    c.keep_order-then-is_paying.ensures c.new-plan-then-is_paying.result
    (c.new-plan-then-is_paying.ensures ∙ ap (λ (x : AnyInquiry). plan_of c.self.inside.call x)
    c.inquiry-then-is_paying.ensures)
    (Writing c.step-did-in-Writes-part-3.new.self) did c.args.pool.now c.step-did-in-Writes-part-3.new.pool
    c.args.locks.now c.step-did-in-Writes-part-3.new.locks c.requires.seat c.requires.ready c.requires.row
    (writes_part hash c.args.seat c.new-plan-then-is_paying.result did c.args.pool.now
    c.step-did-in-Writes-part-3.new.pool
    c.args.locks.now c.step-did-in-Writes-part-3.new.locks (payment_under i.part) c.in-Writes-part-3.place.writes
    c.step-did-in-Writes-part-3.new.self (ap payment_under c.in-Writes-part-3.is) c.step-did-in-Writes-part-3.ensures)
    (not_end did (sym c.is_end-in-Writes-part-3.ensures ∙ c.if-not-is_end-2.true)) c.args.stopped)

pub returns-then-is_paying : goal.returns-then-is_paying
returns-then-is_paying g c =
    let i = c.self.inside in
    let hash = g.K.PseudoKey.of_key c.args.keys.now in
    let did = c.step-did-in-Writes-part-3.result in
    let part2 = parts.Writes (record {
      writes = c.step-did-in-Writes-part-3.new.self;
      on_trial = c.in-Writes-part-3.place.on_trial;
      conclusion = c.in-Writes-part-3.place.conclusion;
    }) in
    let gone = no_trials hash c.args.seat c.args.stopped i.caller i.call i.questions i.part i.phase
    c.args.self.now c.self.view_is (sym c.is_paying.ensures ∙ c.if-is_paying.true) c.self.invariant
    c.in-Writes-part-3.place c.in-Writes-part-3.is in
    released_from hash c.args.seat i.caller i.call (undecided_with i.call i.questions i.part) i.phase (payment_under
    i.part) (conclusion_under i.part) c.args.self.now c.self.view_is (sym c.is_paying.ensures ∙ c.if-is_paying.true)
    (asked_with i.questions (question_under i.part)) refl
    c.keep_order-then-is_paying.ensures c.new-plan-then-is_paying.result
    (c.new-plan-then-is_paying.ensures ∙ ap (λ (x : AnyInquiry). plan_of c.self.inside.call x)
    c.inquiry-then-is_paying.ensures)
    (Writing c.step-did-in-Writes-part-3.new.self) did c.args.pool.now c.step-did-in-Writes-part-3.new.pool
    c.args.locks.now c.step-did-in-Writes-part-3.new.locks c.requires.seat c.requires.ready c.requires.row
    (writes_part hash c.args.seat c.new-plan-then-is_paying.result did c.args.pool.now
    c.step-did-in-Writes-part-3.new.pool
    c.args.locks.now c.step-did-in-Writes-part-3.new.locks (payment_under i.part) c.in-Writes-part-3.place.writes
    c.step-did-in-Writes-part-3.new.self (ap payment_under c.in-Writes-part-3.is) c.step-did-in-Writes-part-3.ensures)
    (sym c.is_end-in-Writes-part-3.ensures ∙ c.if-not-is_end-2.false) (Releasing (conclusion_under i.part)) refl
    c.release.result c.release.new.self c.release.new.locks
    (releases_there hash c.args.seat c.args.stopped i.caller i.call i.questions i.part i.phase c.args.self.now
    c.self.view_is (sym c.is_paying.ensures ∙ c.if-is_paying.true) c.self.invariant part2 gone (ap conclusion_under
    c.in-Writes-part-3.is) c.release.result c.release.new.self
    c.step-did-in-Writes-part-3.new.locks c.release.new.locks c.release.ensures.steps) c.args.stopped

-- ---- it gives a name back

pub returns : goal.returns
returns g c =
    c.release-2.ensures.steps.makes _ c.args.stopped c.args.pool.now c.requires.ready
