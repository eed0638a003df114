-- A question makes its moves.
use Rattle.std.proofs.Common.{sym, ap, ◌∙◌, Option, false}
use Rattle.xsi_calls.specs.declared.question.Question.{Question}
use Rattle.xsi_calls.specs.Questions.{locks_behind}
use Rattle.call_writes.proofs.StartLemmas.{none_of}
use Rattle.xsi_calls.proofs.MachineLemmas.{asking_row, asks_at_once_there}
use Rattle.xsi_calls.proofs.call_machine.CallMachine.skip.Goals as goal

pub skip-requires-clause-row : goal.skip-requires-clause-row
skip-requires-clause-row g c =
    let i = c.self.inside in
    c.requires.row
    ∙ asking_row (g.K.PseudoKey.of_key c.args.keys.now) c.args.seat false i.caller i.call i.questions i.part i.phase
    c.args.self.now c.self.view_is (sym c.is_undecided.ensures ∙ c.if-not-is_undecided.false)
    (none_of _ (sym c.is_trying.ensures ∙ c.if-is_trying.false))
    ∙ ap (λ (o : Option Question). locks_behind o c.self.inside.questions.names)
    (none_of _ (sym c.is_asking.ensures ∙ c.if-is_asking.false))

pub returns-clause-made : goal.returns-clause-made
returns-clause-made g c = λ made stopped.
    let i = c.self.inside in
    asks_at_once_there (g.K.PseudoKey.of_key c.args.keys.now) c.args.seat stopped i.caller i.call i.questions i.part
    i.phase c.args.self.now c.self.view_is (sym c.is_undecided.ensures ∙ c.if-not-is_undecided.false)
    c.skip.new.self (none_of _ (sym c.is_asking.ensures ∙ c.if-is_asking.false))
    (none_of _ (sym c.is_trying.ensures ∙ c.if-is_trying.false)) c.args.pool.now c.args.locks.now
    (c.skip.ensures.made made)
