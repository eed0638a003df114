-- What a call that has not decided asks for while it searches is what its seat knows.
use Rattle.std.proofs.Common.{ℕ, Bool, true, false, Option, Some, None, if◌then◌else◌}
use Rattle.xsi_calls.proofs.QuestionAimLemmas.{questions_aimed}
use Rattle.xsi_calls.specs.stale_search.step_rules.Searching.{IsAimed}
use Rattle.xsi_calls.proofs.WriteAimLemmas.{sets_out_aimed, writes_aimed}
use Rattle.xsi_calls.proofs.UndecidedNames.{next_deed}
use Rattle.xsi_calls.specs.Undecided.{Trials, UndecidedCall, facts_in, its_plan, turn_in, undecided_facts, undecided_turn, untried}
use Rattle.xsi_calls.specs.UndecidedWords.{Call, QuestionsView, RecordKey, Store, is_done, questions_facts, questions_turn, writes_turn}

pub undecided_aimed : (hash : RecordKey → ℕ) (call : Call) (u : UndecidedCall) (s : Store) →
    IsAimed (undecided_turn hash call u s).ask (undecided_facts u)
undecided_aimed hash call u s = by u.trials
  where
    q : QuestionsView
    q = u.questions

    asking : (b : Bool) →
        IsAimed (if b then writes_turn hash (its_plan call q) untried s else questions_turn call q s).ask
        (questions_facts q)
    asking true = sets_out_aimed hash (next_deed (its_plan call q) untried.due) s (questions_facts q)
    asking false = questions_aimed call q s

    by : (o : Option Trials) → IsAimed (turn_in hash call q o s).ask (facts_in q o)
    by None = asking (is_done call q)
    by (Some t) = writes_aimed hash (its_plan call q) t.writes s
