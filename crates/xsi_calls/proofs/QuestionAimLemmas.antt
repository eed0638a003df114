-- What a call asks the file for while it searches is what its seat knows.
use Rattle.std.proofs.Common.{Option, Some, None}
use Rattle.call_writes.proofs.of_record_file.AskLemmas.{access_aimed}
use Rattle.step_rules.specs.Searching.{IsAimed}
use Rattle.xsi_calls.specs.declared.question.Question.{Question}
use Rattle.xsi_calls.specs.Questions.{QuestionsView, facts_of, questions_facts, questions_turn, turn_behind}
use Rattle.xsi_calls.specs.QuestionWords.{Call, NameTurn, Take, GiveBack, Ready, Store, name_turn, names_for}

aimed : (o : Option Question) (turn : NameTurn) (s : Store) → IsAimed (turn_behind o turn s).ask (facts_of o)
aimed None (Take lock) s = tt
aimed None GiveBack s = tt
aimed None Ready s = tt
aimed (Some q) turn s = access_aimed q.access s

pub questions_aimed : (call : Call) (v : QuestionsView) (s : Store) →
    IsAimed (questions_turn call v s).ask (questions_facts v)
questions_aimed call v s = aimed v.question (name_turn v.names (names_for call v.inquiry)) s
