-- Laws of the questions of calls. Each is the contract of a function of question_laws.rt.
-- docs/STEPS.md, "What a call reads".
use Rattle.std.specs.Prelude.{ℕ, ◌≡◌, ◌≢◌, ◌≤◌, true, Option, Some, None, [], List}
use Rattle.std.specs.List.{Contains}
use Rattle.call_writes.specs.call_decisions.Anything.{locked_of}
use Rattle.page_locks.specs.declared.lock.LockKind.TheVariants.{Exclusive}
use Rattle.page_locks.specs.Locks.{kind_of}
use Rattle.xsi_calls.specs.QuestionWords.{Store, Record, StandsAt, AnyInquiry, KnowsOf, asked_of, left_of, plan_of, LockName, names_in, names_for, Call, State, Wanted, Roomful}
use Rattle.xsi_inquiry.specs.Telling.{most_asked}
use Rattle.xsi_inquiry.specs.Writing.{nothing}
use Rattle.xsi_calls.specs.Answering.{Answers, IsAskedUnder, key_asked}
use Rattle.xsi_calls.specs.Agreeing.{Agrees}
use Rattle.xsi_calls.specs.Questions.{QuestionsView, has_asked, questions_left}

-- each question is asked under a name that the call holds then
abbrev pub AskUnderNames : Type 0
AskUnderNames = (call : Call) (i : AnyInquiry) (wanted : Wanted) → asked_of call i ≡ Some wanted →
    IsAskedUnder (names_in (names_for call i)) wanted

-- what stands at the key that is read answers it
pub record IsAnswered (store : Store) (wanted : Wanted) (s : State) : Type 0 where
  pub found : Option Record
  pub stands : StandsAt store (key_asked wanted) found
  pub answers : Answers wanted found s

abbrev pub FilesAnswer : Type 0
FilesAnswer = (call : Call) (i : AnyInquiry) (room : Roomful) (wanted : Wanted) (held : List LockName) (store : Store)
    (s : State) → asked_of call i ≡ Some wanted → KnowsOf call i room s → IsAskedUnder held wanted →
    Agrees held store s → IsAnswered store wanted s

-- it holds exactly the names that it needs, and those under which it inserts and writes Exclusive
pub record HoldsNames (call : Call) (v : QuestionsView) : Type 0 where
  pub names : v.names ≡ names_for call v.inquiry
  pub exclusive : (name : LockName) → Contains (locked_of call v.inquiry) name → kind_of v.names name ≡ Some Exclusive

-- so a call does that has asked all and is to change the file
abbrev pub WriteUnderNames : Type 0
WriteUnderNames = (call : Call) (v : QuestionsView) → has_asked call v ≡ true → plan_of call v.inquiry ≢ nothing →
    HoldsNames call v

-- the steps of a call that has just begun, if no other seat steps
abbrev pub MOST_QUESTION_STEPS : ℕ
MOST_QUESTION_STEPS = 15420

abbrev pub HaveFewSteps : Type 0
HaveFewSteps = (call : Call) (v : QuestionsView) (s : Store) → v.question ≡ None → v.names ≡ [] →
    left_of call v.inquiry ≤ most_asked call → questions_left call v s ≤ MOST_QUESTION_STEPS
