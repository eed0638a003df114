-- The access makes its step, and the inquiry hears of it.
use Rattle.std.proofs.Common.{sym, ap, ◌∙◌, subst, IsSome, Option}
use Rattle.xsi_calls.specs.declared.question.Question.{Question}
use Rattle.xsi_calls.specs.Questions.{locks_behind}
use Rattle.xsi_calls.proofs.OpenLemmas.{failed_in, seated_in, under_in, went_in}
use Rattle.xsi_calls.proofs.questions.Questions.go_on.Goals as goal

pub invariant_of-question : goal.invariant_of-question
invariant_of-question g c =
    let row = c.requires.row ∙ sym (ap (λ (o : Option Question). locks_behind o c.args.self.now.names)
    c.question.view_is) in
    let some = subst (λ (o : Option Question). IsSome o) (sym c.question.view_is) c.requires.under_way in
    under_in (g.K.PseudoKey.of_key c.args.keys.now) c.args.seat c.args.call.now
    c.args.self.now.inquiry c.args.self.now.room c.args.self.now.names c.args.self.now.finds
    c.keep_order.ensures c.step-did.result c.args.pool.now
    c.step-did.new.pool c.args.locks.now c.step-did.new.locks c.listen-heard.new.inquiry
    c.listen-heard.new.room c.listen-heard.result c.question.inside.question c.step-did.new.self
    c.listen-heard.new.question
    c.goes_on-question-inside.result c.step-did.ensures c.listen-heard.ensures
    c.goes_on-question-inside.ensures c.question.inside.is_asking some c.question.invariant row

pub invariant_of-question-2 : goal.invariant_of-question-2
invariant_of-question-2 g c =
    let row = c.requires.row ∙ sym (ap (λ (o : Option Question). locks_behind o c.args.self.now.names)
    c.question.view_is) in
    let some = subst (λ (o : Option Question). IsSome o) (sym c.question.view_is) c.requires.under_way in
    under_in (g.K.PseudoKey.of_key c.args.keys.now) c.args.seat c.args.call.now
    c.args.self.now.inquiry c.args.self.now.room c.args.self.now.names c.args.self.now.finds
    c.keep_order.ensures c.step-did.result c.args.pool.now
    c.step-did.new.pool c.args.locks.now c.step-did.new.locks c.listen-heard.new.inquiry
    c.listen-heard.new.room c.listen-heard.result c.question.inside.question c.step-did.new.self
    c.listen-heard.new.question
    c.goes_on-question-inside.result c.step-did.ensures c.listen-heard.ensures
    c.goes_on-question-inside.ensures c.question.inside.is_asking some c.question.invariant row

pub finds_behind-self-requires : goal.finds_behind-self-requires
finds_behind-self-requires g c =
    let row = c.requires.row ∙ sym (ap (λ (o : Option Question). locks_behind o c.args.self.now.names)
    c.question.view_is) in
    let some = subst (λ (o : Option Question). IsSome o) (sym c.question.view_is) c.requires.under_way in
    seated_in (g.K.PseudoKey.of_key c.args.keys.now) c.args.seat c.args.call.now
    c.args.self.now.inquiry c.args.self.now.room c.args.self.now.names c.args.self.now.finds
    c.keep_order.ensures c.step-did.result c.args.pool.now
    c.step-did.new.pool c.args.locks.now c.step-did.new.locks c.listen-heard.new.inquiry
    c.listen-heard.new.room c.listen-heard.result c.question.inside.question c.step-did.new.self
    c.listen-heard.new.question
    c.goes_on-question-inside.result c.step-did.ensures c.listen-heard.ensures
    c.goes_on-question-inside.ensures c.question.inside.is_asking some row c.requires.seat

pub returns : goal.returns
returns g c =
    let row = c.requires.row ∙ sym (ap (λ (o : Option Question). locks_behind o c.args.self.now.names)
    c.question.view_is) in
    let some = subst (λ (o : Option Question). IsSome o) (sym c.question.view_is) c.requires.under_way in
    rw (← c.question.view_is) (went_in (g.K.PseudoKey.of_key c.args.keys.now) c.args.seat c.args.call.now
    c.args.self.now.inquiry c.args.self.now.room c.args.self.now.names c.args.self.now.finds
    c.keep_order.ensures c.step-did.result c.args.pool.now
    c.step-did.new.pool c.args.locks.now c.step-did.new.locks c.listen-heard.new.inquiry
    c.listen-heard.new.room c.listen-heard.result c.question.inside.question c.step-did.new.self
    c.listen-heard.new.question
    c.goes_on-question-inside.result c.step-did.ensures c.listen-heard.ensures
    c.goes_on-question-inside.ensures c.requires.seat c.finds_behind-self.result c.finds_behind-self.ensures
    c.question.inside.is_asking some c.question.invariant row)

pub returns-in_default : goal.returns-in_default
returns-in_default g c =
    let row = c.requires.row ∙ sym (ap (λ (o : Option Question). locks_behind o c.args.self.now.names)
    c.question.view_is) in
    let some = subst (λ (o : Option Question). IsSome o) (sym c.question.view_is) c.requires.under_way in
    rw (← c.question.view_is) (failed_in (g.K.PseudoKey.of_key c.args.keys.now) c.args.seat c.args.call.now
    c.args.self.now.inquiry c.args.self.now.room c.args.self.now.names c.args.self.now.finds
    c.keep_order.ensures c.step-did.result c.args.pool.now
    c.step-did.new.pool c.args.locks.now c.step-did.new.locks c.listen-heard.new.inquiry
    c.listen-heard.new.room c.listen-heard.result c.question.inside.question c.step-did.new.self
    c.listen-heard.new.question
    c.goes_on-question-inside.result c.step-did.ensures c.listen-heard.ensures
    c.goes_on-question-inside.ensures c.question.inside.is_asking some c.question.invariant row c.in_default.not-Ok)
