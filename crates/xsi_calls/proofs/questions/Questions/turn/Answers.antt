-- A name is taken or given back, or the next question begins.
use Rattle.std.proofs.Common.{ℕ, Some, false, sym, ap, ◌∙◌}
use Rattle.xsi_calls.specs.QuestionWords.{RecordKey, ToFind, begun}
use Rattle.xsi_calls.proofs.TurnLemmas.{gave, next_are_names, took}
use Rattle.xsi_calls.proofs.questions.Questions.turn.Goals as goal

pub take-requires-clause-next : goal.take-requires-clause-next
take-requires-clause-next g c =
    next_are_names c.args.call.now c.args.self.now.inquiry c.args.self.now.names c.in-Take.lock
    (sym c.turn.ensures ∙ c.in-Take.is)

pub returns-in-Take-clause-made : goal.returns-in-Take-clause-made
returns-in-Take-clause-made g c =
    let i = c.args.self.now in
    rw c.requires.none (λ pool ready. took (g.K.PseudoKey.of_key c.args.keys.now) c.args.seat c.args.call.now i.inquiry
    i.room i.finds pool ready c.args.locks.now i.names c.requires.asks c.requires.row
    c.in-Take.lock (sym c.turn.ensures ∙ c.in-Take.is) c.take.result c.take.new.self c.take.new.locks
    c.take.ensures.takes c.take.ensures.row c.take.ensures.step)

pub returns-in-GiveBack-clause-made : goal.returns-in-GiveBack-clause-made
returns-in-GiveBack-clause-made g c =
    let i = c.args.self.now in
    rw c.requires.none (λ pool ready. gave (g.K.PseudoKey.of_key c.args.keys.now) c.args.seat c.args.call.now i.inquiry
    i.room i.finds pool ready c.args.locks.now i.names c.requires.asks c.requires.row
    (sym c.turn.ensures ∙ c.in-GiveBack.is) c.give_back.result c.give_back.new.self c.give_back.new.locks
    c.give_back.ensures.gives c.give_back.ensures.row c.give_back.ensures.step)

pub returns-in-Asks-clause-begins : goal.returns-in-Asks-clause-begins
returns-in-Asks-clause-begins g c =
    let hash = g.K.PseudoKey.of_key c.args.keys.now in
    record {
      wanted = c.in-Some.wanted;
      asked = sym c.wants.ensures ∙ c.in-Some.is;
      names = sym c.turn.ensures ∙ c.in-Ready.is;
      begins = c.begin.ensures
          ∙ ap (λ (k : ℕ). Some (record { access = begun (ToFind c.key_asked-key.result) k; told = false }))
          c.of.ensures
          ∙ ap (λ (x : RecordKey). Some (record {
            access = begun (ToFind x) (g.K.PseudoKey.of_key c.args.keys.now x);
            told = false;
          })) c.key_asked-key.ensures;
    }
