-- A call as one machine: what it holds, knows, asks for and owes at each place. docs/STEPS.md, "Calls".
use Rattle.std.specs.Prelude.{ℕ, ◌≡◌, ◌+◌, Bool, true, false, List, [], Option, Some, None, length, ⊤}
use Rattle.queue_model.specs.declared.answer.Answer.{Answer}
use Rattle.step_rules.specs.Turns.{no_ask}
use Rattle.call_writes.specs.PaymentLaws.{MOST_PAYMENT_STEPS}
use Rattle.xsi_calls.specs.declared.conclusion.Conclusion.{Conclusion}
use Rattle.xsi_calls.specs.declared.question.Question.{Question}
use Rattle.xsi_calls.specs.Concluding.{answer_in}
use Rattle.xsi_calls.specs.Stages.{Stage, Undecided, Paying, Releasing}
use Rattle.call_writes.specs.Payments.{payment_access}
use Rattle.xsi_calls.specs.Questions.{question_access}
use Rattle.call_writes.specs.WriteWords.{AccessView, searches_under}
use Rattle.xsi_calls.specs.Words.{MAX_NAMES, Writes, Call, Caller, HasRoom, IsCalm, IsFresh, IsPaid, KnowsNear, Known, Lock, Owes, RecordKey, State, Store, Trials, Turn, UndecidedCall, caller_of, its_plan, owes_now, payment_facts, payment_left, payment_locks, payment_turn, undecided_facts, undecided_left, undecided_locks, undecided_owes, undecided_turn}

-- a call, with what it has asked and the names that it holds, and where it stands
pub record CallView : Type 0 where
  pub caller : Caller
  pub call : Call
  pub undecided : UndecidedCall
  pub stage : Stage

-- no question is under way after its Decide, and none while it inserts on trial
abbrev pub IsCalmAt : UndecidedCall → Stage → Type 0
IsCalmAt u Undecided = IsCalm u
IsCalmAt u (Paying payment conclusion) = u.questions.question ≡ None
IsCalmAt u (Releasing conclusion) = u.questions.question ≡ None

-- what is always so
pub record IsOneCall (m : CallView) : Type 0 where
  pub by : caller_of m.undecided.questions.inquiry ≡ m.caller
  -- the bytes that it is answered have room
  pub room : HasRoom m.call m.undecided.questions.room
  pub calm : IsCalmAt m.undecided m.stage

-- ---- its conclusion, once it has decided

abbrev pub conclusion_at : Stage → Option Conclusion
conclusion_at Undecided = None
conclusion_at (Paying payment conclusion) = Some conclusion
conclusion_at (Releasing conclusion) = Some conclusion

abbrev pub conclusion_of : CallView → Option Conclusion
conclusion_of m = conclusion_at m.stage

-- the answer, with the bytes of its room
abbrev pub answer_by : Option Conclusion → List ℕ → Option Answer
answer_by None bytes = None
answer_by (Some conclusion) bytes = answer_in conclusion bytes

abbrev pub answer_of_call : CallView → Option Answer
answer_of_call m = answer_by (conclusion_of m) m.undecided.questions.room.bytes

-- the searches that it began since it last began, before its Decide
abbrev pub finds_of : CallView → ℕ
finds_of m = m.undecided.questions.finds

-- ---- its places

abbrev pub is_undecided : Stage → Bool
is_undecided Undecided = true
is_undecided (Paying payment conclusion) = false
is_undecided (Releasing conclusion) = false

abbrev pub is_paying : Stage → Bool
is_paying Undecided = false
is_paying (Paying payment conclusion) = true
is_paying (Releasing conclusion) = false

-- it asks, or gives its names back
abbrev pub IsReading : Option Trials → Stage → Type 0
IsReading None Undecided = ⊤
IsReading (Some t) Undecided = ⊥
IsReading trials (Paying payment conclusion) = ⊥
IsReading trials (Releasing conclusion) = ⊤

-- ---- locks, access, facts, turns, and what is owed

abbrev pub locks_at : UndecidedCall → Stage → List Lock
locks_at u Undecided = undecided_locks u
locks_at u (Paying payment conclusion) = payment_locks payment u.questions.names
locks_at u (Releasing conclusion) = u.questions.names

-- the row of its seat: its names, and behind them the locks of the access under way
abbrev pub call_locks : CallView → List Lock
call_locks m = locks_at m.undecided m.stage

-- the access under way of what is paid: before its Decide a call deletes nothing
abbrev pub access_at : Stage → Option AccessView
access_at Undecided = None
access_at (Paying payment conclusion) = payment_access payment
access_at (Releasing conclusion) = None

abbrev pub call_access : CallView → Option AccessView
call_access m = access_at m.stage

-- whatever it is at, the access under way: of its question, of what it inserts on trial, or of what it pays
abbrev pub asking_access : Option Question → Option Trials → Option AccessView
asking_access question None = question_access question
asking_access question (Some t) = t.writes.access

abbrev pub undecided_searches : UndecidedCall → Bool
undecided_searches u = searches_under (asking_access u.questions.question u.trials)

abbrev pub under_way_at : UndecidedCall → Stage → Option AccessView
under_way_at u Undecided = asking_access u.questions.question u.trials
under_way_at u (Paying payment conclusion) = payment_access payment
under_way_at u (Releasing conclusion) = None

abbrev pub access_under_way : CallView → Option AccessView
access_under_way m = under_way_at m.undecided m.stage

-- a search of it is under way: the directory was granted to it, and no page has answered
abbrev pub is_searching : CallView → Bool
is_searching m = searches_under (access_under_way m)

abbrev pub facts_at : UndecidedCall → Stage → List Known
facts_at u Undecided = undecided_facts u
facts_at u (Paying payment conclusion) = payment_facts payment
facts_at u (Releasing conclusion) = []

abbrev pub call_facts : CallView → List Known
call_facts m = facts_at m.undecided m.stage

abbrev pub turn_at : (RecordKey → ℕ) → Call → UndecidedCall → Stage → Store → Turn
turn_at hash call u Undecided s = undecided_turn hash call u s
turn_at hash call u (Paying payment conclusion) s = payment_turn hash (its_plan call u.questions) payment s
turn_at hash call u (Releasing conclusion) s = no_ask

abbrev pub call_turn : (RecordKey → ℕ) → CallView → Store → Turn
call_turn hash m s = turn_at hash m.call m.undecided m.stage s

-- before its Decide the deletions of its trials; behind it what is left of what its conclusion has it write
abbrev pub owes_at : Call → UndecidedCall → Stage → Owes
owes_at call u Undecided = undecided_owes call u
owes_at call u (Paying payment conclusion) = owes_now (its_plan call u.questions) payment
owes_at call u (Releasing conclusion) = Writes []

abbrev pub call_owes : CallView → Owes
call_owes m = owes_at m.call m.undecided m.stage

-- ---- the steps that are left, if no other seat steps

-- its Decide, and at most as many after it
abbrev pub STEPS_FROM_DECIDE : ℕ
STEPS_FROM_DECIDE = 1 + (MOST_PAYMENT_STEPS + MAX_NAMES)

abbrev pub left_at : Call → UndecidedCall → Stage → Store → ℕ
left_at call u Undecided s = undecided_left call u s + STEPS_FROM_DECIDE
left_at call u (Paying payment conclusion) s =
    payment_left (its_plan call u.questions) payment s + length u.questions.names
left_at call u (Releasing conclusion) s = length u.questions.names

abbrev pub call_left : CallView → Store → ℕ
call_left m s = left_at m.call m.undecided m.stage s

-- ---- its end, and its beginning

-- nothing is owed, and no name is held
abbrev pub IsOverAt : Call → UndecidedCall → Stage → Type 0
IsOverAt call u Undecided = ⊥
IsOverAt call u (Paying payment conclusion) =
    IsPaid (its_plan call u.questions) payment × (u.questions.names ≡ [])
IsOverAt call u (Releasing conclusion) = u.questions.names ≡ []

abbrev pub IsOver : CallView → Type 0
IsOver m = IsOverAt m.call m.undecided m.stage

-- it holds nothing, and has asked and tried nothing
pub record IsNew (m : CallView) : Type 0 where
  pub stage : m.stage ≡ Undecided
  pub fresh : IsFresh m.call m.undecided
  pub knows : (s : State) → KnowsNear m.call m.undecided.questions s

-- the call of this caller
pub record Begins (caller : Caller) (call : Call) (m : CallView) : Type 0 where
  pub caller_is : m.caller ≡ caller
  pub call_is : m.call ≡ call
  pub new : IsNew m
