-- A call up to its Decide: what it holds, knows, asks for and owes. docs/STEPS.md, "Calls".
use Rattle.std.specs.Prelude.{ℕ, ◌≡◌, ◌≤◌, ◌+◌, ◌*◌, Bool, true, List, [], Option, Some, None, if◌then◌else◌, slice_get, ⊤}
use Rattle.call_writes.specs.declared.writes.CallWrites.{CallWrites}
use Rattle.xsi_inquiry.specs.declared.write.TheConstants.{MAX_TRIALS}
use Rattle.xsi_inquiry.specs.Telling.{most_asked}
use Rattle.xsi_calls.specs.UndecidedWords.{Call, Decision, IsBare, IsOver, Known, Lock, MOST_STEPS, Owes, Plan, QuestionsView, RecordKey, Store, Trying, Turn, Writes, is_done, is_full, left_of, owes, plan_of, questions_facts, questions_left, questions_locks, questions_turn, writes_facts, writes_left_in, writes_locks, writes_turn}

-- what it inserts on trial, and the decision for which it does, which its inquiry tells
pub record Trials : Type 0 where
  pub writes : CallWrites
  pub decision : Decision

-- what it has asked, and the trials that have begun
pub record UndecidedCall : Type 0 where
  pub questions : QuestionsView
  pub trials : Option Trials

-- the plan of its inquiry where that has come
abbrev pub its_plan : Call → QuestionsView → Plan
its_plan call q = plan_of call q.inquiry

-- the trials where none has begun
abbrev pub untried : CallWrites
untried = record { due = Trying 0; access = None }

-- those under way, or else those that begin once all is asked
abbrev pub trials_in : Option Trials → CallWrites
trials_in None = untried
trials_in (Some t) = t.writes

abbrev pub trials_of : UndecidedCall → CallWrites
trials_of u = trials_in u.trials

-- ---- locks, facts, turns, and what is owed

abbrev pub locks_in : QuestionsView → Option Trials → List Lock
locks_in q None = questions_locks q
locks_in q (Some t) = writes_locks t.writes q.names

-- the row of its seat: the names, and behind them the locks of the question or the trial
abbrev pub undecided_locks : UndecidedCall → List Lock
undecided_locks u = locks_in u.questions u.trials

abbrev pub facts_in : QuestionsView → Option Trials → List Known
facts_in q None = questions_facts q
facts_in q (Some t) = writes_facts t.writes

abbrev pub undecided_facts : UndecidedCall → List Known
undecided_facts u = facts_in u.questions u.trials

-- in the step after the last question the first trial begins
abbrev pub turn_in : (RecordKey → ℕ) → Call → QuestionsView → Option Trials → Store → Turn
turn_in hash call q None s =
    if is_done call q then writes_turn hash (its_plan call q) untried s else questions_turn call q s
turn_in hash call q (Some t) s = writes_turn hash (its_plan call q) t.writes s

abbrev pub undecided_turn : (RecordKey → ℕ) → Call → UndecidedCall → Store → Turn
undecided_turn hash call u s = turn_in hash call u.questions u.trials s

abbrev pub owes_in : Call → QuestionsView → Option Trials → Owes
owes_in call q None = Writes []
owes_in call q (Some t) = owes (its_plan call q) t.writes.due

-- the trials that stand are owed back
abbrev pub undecided_owes : Call → UndecidedCall → Owes
undecided_owes call u = owes_in call u.questions u.trials

-- ---- steps that are left, if no other seat steps

-- at most as many of trials
abbrev pub TRIAL_STEPS : ℕ
TRIAL_STEPS = MAX_TRIALS * MOST_STEPS

abbrev pub left_in : Call → QuestionsView → Option Trials → Store → ℕ
left_in call q None s = questions_left call q s + TRIAL_STEPS
left_in call q (Some t) s = writes_left_in (its_plan call q) t.writes s

abbrev pub undecided_left : Call → UndecidedCall → Store → ℕ
undecided_left call u s = left_in call u.questions u.trials s

-- ---- its end

-- all is asked, and nothing is to be inserted on trial; or the trials are over: all stand, or one has no room
abbrev pub CanDecideIn : Call → QuestionsView → Option Trials → Type 0
CanDecideIn call q None = (is_done call q ≡ true) × (slice_get (its_plan call q).trials 0 ≡ None)
CanDecideIn call q (Some t) = IsOver (its_plan call q) t.writes

abbrev pub CanDecide : Call → UndecidedCall → Type 0
CanDecide call u = CanDecideIn call u.questions u.trials

-- no question is under way while it tries
abbrev pub IsCalmIn : QuestionsView → Option Trials → Type 0
IsCalmIn q None = ⊤
IsCalmIn q (Some t) = q.question ≡ None

abbrev pub IsCalm : UndecidedCall → Type 0
IsCalm u = IsCalmIn u.questions u.trials

-- a trial has no room
abbrev pub has_no_room : UndecidedCall → Bool
has_no_room u = is_full (trials_of u)

-- it has just begun, or begins anew: it holds nothing, and has asked and tried nothing
pub record IsFresh (call : Call) (u : UndecidedCall) : Type 0 where
  pub bare : IsBare u.questions
  pub untried : u.trials ≡ None
  -- no search has begun
  pub finds : u.questions.finds ≡ 0
  -- no more questions are left than it may ask
  pub few : left_of call u.questions.inquiry ≤ most_asked call
