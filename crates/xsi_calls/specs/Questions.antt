-- A call that asks the file its questions: what it holds, knows, asks for, and is about. docs/STEPS.md, "Calls".
use Rattle.std.specs.Prelude.{ℕ, ◌≡◌, ◌≤◌, ◌<◌, ◌⊎◌, ◌+◌, ◌*◌, ◌&&◌, ◌||◌, Bool, true, false, not, List, [], Option, Some, None, IfSome, if◌then◌else◌, slice_get}
use Rattle.std.specs.Option.{is_some}
use Rattle.call_writes.specs.call_decisions.InquiryWords.{RemoveInquiry}
use Rattle.call_writes.specs.call_decisions.declared.any_inquiry.AnyInquiry.TheVariants as any
use Rattle.call_writes.specs.call_decisions.Others.{HoldsOwn}
use Rattle.page_locks.specs.declared.lock.LockKind.TheVariants.{Read}
use Rattle.page_locks.specs.declared.lock.LockName.TheVariants.{Directory}
use Rattle.queue_model.specs.declared.call.Call.TheVariants as calls
use Rattle.step_rules.specs.Turns.{ForLock, asks, no_ask}
use Rattle.xsi_inquiry.specs.Slots.{writes_left}
use Rattle.xsi_inquiry.specs.Telling.{most_asked}
use Rattle.xsi_inquiry.specs.Writing.{Plan}
use Rattle.xsi_control.specs.declared.stage.Stage.TheVariants.{Keyed}
use Rattle.xsi_calls.specs.declared.question.Question.{Question}
use Rattle.xsi_calls.specs.QuestionWords.{RecordKey, Store, Lock, LockName, Known, Turn, HasEnded, ToFind, AccessView, Serves, access_answer, access_facts, access_key, access_left, access_locks, access_pseudokey, access_turn, has_set_out, searches_under, AnyInquiry, KnowsOf, asked_of, left_of, plan_of, names_in, names_for, MAX_NAMES, Begins, name_turn, names_left, NameTurn, Take, GiveBack, Ready, Call, State, Wanted, IsSoNear, IsFiled, Roomful}
use Rattle.xsi_calls.specs.Answering.{MayRead, key_asked}
use Rattle.xsi_calls.specs.ToldNames.{AreTold}

pub record QuestionsView : Type 0 where
  pub inquiry : AnyInquiry
  pub room : Roomful
  -- the locks of the names that it holds
  pub names : List Lock
  -- the one under way
  pub question : Option Question
  -- the searches that its call has begun since it last began
  pub finds : ℕ

-- what is always so of a question under way: it reads its key, and still holds or asks for a lock
pub record IsUnderWay (a : AccessView) : Type 0 where
  pub finds : Serves (ToFind (access_key a)) a
  pub goes_on : HasEnded a.operation → ⊥

-- ---- its end

-- whether a plan inserts on trial or writes something
abbrev pub changes_by : Plan → Bool
changes_by p = is_some (slice_get p.trials 0) || is_some (slice_get (writes_left p 0) 0)

-- whether the call does where its inquiry has come
abbrev pub changes : Call → AnyInquiry → Bool
changes call i = changes_by (plan_of call i)

abbrev pub asks_more : Call → AnyInquiry → Bool
asks_more call i = is_some (asked_of call i)

abbrev pub is_ready : NameTurn → Bool
is_ready (Take lock) = false
is_ready GiveBack = false
is_ready Ready = true

-- nothing is asked any more, and what is inserted on trial or written stands under names that are held
abbrev pub has_asked : Call → QuestionsView → Bool
has_asked call v =
    not (asks_more call v.inquiry)
    && (not (changes call v.inquiry) || is_ready (name_turn v.names (names_for call v.inquiry)))

abbrev pub is_done : Call → QuestionsView → Bool
is_done call v = not (is_some v.question) && has_asked call v

-- ---- locks, access, facts and turns

abbrev pub question_access : Option Question → Option AccessView
question_access None = None
question_access (Some q) = Some q.access

-- the search of the question under way is: the directory was granted to it, and no page has answered
abbrev pub question_searches : QuestionsView → Bool
question_searches v = searches_under (question_access v.question)

abbrev pub locks_behind : Option Question → List Lock → List Lock
locks_behind None held = held
locks_behind (Some q) held = access_locks q.access held

-- the row of its seat
abbrev pub questions_locks : QuestionsView → List Lock
questions_locks v = locks_behind v.question v.names

abbrev pub facts_of : Option Question → List Known
facts_of None = []
facts_of (Some q) = access_facts q.access

abbrev pub questions_facts : QuestionsView → List Known
questions_facts v = facts_of v.question

-- a question begins with a lock on the directory
abbrev pub turn_of_names : NameTurn → Turn
turn_of_names (Take lock) = asks (ForLock lock.name lock.kind)
turn_of_names GiveBack = no_ask
turn_of_names Ready = asks (ForLock Directory Read)

abbrev pub turn_behind : Option Question → NameTurn → Store → Turn
turn_behind None turn s = turn_of_names turn
turn_behind (Some q) turn s = access_turn q.access s

abbrev pub questions_turn : Call → QuestionsView → Store → Turn
questions_turn call v s = turn_behind v.question (name_turn v.names (names_for call v.inquiry)) s

-- ---- the steps that are left, if no other seat steps

-- of a question that begins
abbrev pub FIND_STEPS : ℕ
FIND_STEPS = 9

-- of a question, with the names that it needs and those that it gives back
abbrev pub ROUND_STEPS : ℕ
ROUND_STEPS = 2 * MAX_NAMES + FIND_STEPS

abbrev pub left_behind : Option Question → Call → QuestionsView → Store → ℕ
left_behind None call v s =
    names_left v.names (names_for call v.inquiry) + (if asks_more call v.inquiry then FIND_STEPS else 0)
left_behind (Some q) call v s = access_left q.access s + (if q.told then ROUND_STEPS else 0)

abbrev pub questions_left : Call → QuestionsView → Store → ℕ
questions_left call v s = left_behind v.question call v s + ROUND_STEPS * left_of call v.inquiry

-- ---- what it is about

-- until it is told: the inquiry asks for what stands at its key, under exactly the names that it needs
pub record IsAsked (call : Call) (v : QuestionsView) (a : AccessView) : Type 0 where
  pub wanted : Wanted
  pub asked : asked_of call v.inquiry ≡ Some wanted
  pub key : access_key a ≡ key_asked wanted
  pub names : v.names ≡ names_for call v.inquiry
  -- it is one of those that are left
  pub left : 0 < left_of call v.inquiry
  pub unanswered : access_answer a ≡ None

pub record IsRightQuestion (hash : RecordKey → ℕ) (call : Call) (v : QuestionsView) (q : Question) : Type 0 where
  -- the pseudokey is that of its key
  pub keyed : hash (access_key q.access) ≡ access_pseudokey q.access
  pub may_read : MayRead (names_in v.names) (access_key q.access)
  pub asked : q.told ≡ false → IsAsked call v q.access
  -- nothing is told before its search has begun
  pub first : has_set_out q.access ≡ false → q.told ≡ false

-- one is under way whose search has begun, and of which the inquiry was told nothing yet
abbrev pub untold : Option Question → ℕ
untold None = 0
untold (Some q) = if has_set_out q.access && not q.told then 1 else 0

-- a Remove between its two phases
pub record KnowsItsKey (call : Call) (i : AnyInquiry) : Type 0 where
  pub id : ℕ
  pub key : Option ℕ
  pub is : call ≡ calls.Remove id
  pub inquiry : RemoveInquiry
  pub asks : i ≡ any.Remove inquiry
  pub stage : inquiry.stage ≡ Keyed key

-- why others don't change what it knows: it holds the name of the queue, or of the key, that it was given; or it was
-- told nothing yet, so all that it knows is so in each system; or it is a Remove that knows its queue's key alone
pub data KnowsApart (call : Call) (i : AnyInquiry) (room : Roomful) (held : List Lock) : Type 0 where
  Holds : HoldsOwn call (names_in held) → KnowsApart call i room held
  HasBegun : ((s : State) → IsFiled s → KnowsOf call i room s) → KnowsApart call i room held
  HasKey : KnowsItsKey call i → KnowsApart call i room held

-- what is held are names of this call in their kinds: they begin those that it needs wherever an inquiry of it has come
pub record AreNamesOf (call : Call) (held : List Lock) : Type 0 where
  pub come : AnyInquiry
  pub begins : Begins held (names_for call come)

-- it has come so far by steps of this call, on an honest device
pub record IsRight (hash : RecordKey → ℕ) (call : Call) (v : QuestionsView) : Type 0 where
  pub question : IfSome v.question (IsRightQuestion hash call v)
  -- where it is to change the file its names begin those that it needs
  pub begins : asks_more call v.inquiry ≡ false → changes call v.inquiry ≡ true →
      Begins v.names (names_for call v.inquiry)
  -- while it asks they do so too, but for a Remove between its phases, which gives that of the first one back
  pub grows : asks_more call v.inquiry ≡ true →
      Begins v.names (names_for call v.inquiry) ⊎ KnowsItsKey call v.inquiry
  -- and at each place they are names of the call
  pub names : AreNamesOf call v.names
  -- the queue of a Get and the key of a Remove are those that it was told
  pub told : AreTold call v.inquiry v.names
  -- so others don't change what it knows
  pub apart : KnowsApart call v.inquiry v.room v.names
  -- it begins one search a question: those that it has begun, with the questions that are left, are at most as many as
  -- it asks; a question that was not told yet is counted as both
  pub few : v.finds + left_of call v.inquiry ≤ most_asked call + untold v.question

-- ---- what it knows

-- the names that keep what it knows: while it asks it knows nothing of the Counter, and needs none
abbrev pub keeping : Bool → List Lock → List LockName
keeping true held = []
keeping false held = names_in held

-- what it was told is so in each system that it can't tell from s
abbrev pub KnowsNear : Call → QuestionsView → State → Type 0
KnowsNear call v s =
    IsSoNear call (keeping (asks_more call v.inquiry) v.names) (KnowsOf call v.inquiry v.room) s

-- it holds nothing
pub record IsBare (v : QuestionsView) : Type 0 where
  pub names : v.names ≡ []
  pub question : v.question ≡ None
