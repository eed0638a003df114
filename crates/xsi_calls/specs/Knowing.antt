-- What is so of a call up to its Decide, over a system and the records that stand under its names.
-- docs/STEPS.md, "Calls", "What a call reads".
use Rattle.std.specs.Prelude.{ℕ, ◌≡◌, ◌≢◌, Option, Some, None, IsSome, slice_get, take, ⊤}
use Rattle.xsi_calls.specs.QuestionSteps.{Faces}
use Rattle.xsi_calls.specs.Undecided.{Trials, UndecidedCall, its_plan}
use Rattle.xsi_calls.specs.UndecidedWords.{AreAlike, Call, Change, Decision, Due, Full, IsCarrying, IsFiled, IsRight, KnowsNear, KnowsOf, PoolState, QuestionsView, RecordKey, Records, State, Table, Trying, asked_of, caller_of, inserted, locked_of, names_for, names_in, nothing, questions_locks, record_of, row_of}
use Rattle.call_writes.specs.declared.due.Due.TheVariants.{Undoing, Writing}

-- ---- it asks

pub record IsAsking (hash : RecordKey → ℕ) (seat : ℕ) (call : Call) (s : State) (q : QuestionsView)
    (records : Records) (pool : PoolState) (locks : Table) (change : Change) : Type 0 where
  pub faces : Faces hash seat call s q pool locks change
  pub row : row_of locks seat ≡ questions_locks q
  -- under its names stand the records of s
  pub alike : AreAlike (names_in q.names) records (record_of s)

-- ---- it tries

-- so many trials stand
abbrev pub standing : Due → ℕ
standing (Trying place) = place
standing (Full place) = place
standing (Undoing place) = place
standing (Writing from) = from

-- it has not decided
abbrev pub IsOnTrial : Due → Type 0
IsOnTrial (Trying place) = ⊤
IsOnTrial (Full place) = ⊤
IsOnTrial (Undoing place) = ⊥
IsOnTrial (Writing from) = ⊥

-- it was made before the first trial, for each system of which the call knows what it was told
abbrev pub IsDecision : Call → QuestionsView → Decision → Type 0
IsDecision call q decision = (u : State) → IsFiled u → KnowsOf call q.inquiry q.room u →
    IsRight (caller_of q.inquiry) call (locked_of call q.inquiry) q.room.bytes u (its_plan call q) decision

-- nothing is left to ask, and the trials of its plan are carried out under all names that it needs
pub record IsTrying (hash : RecordKey → ℕ) (seat : ℕ) (call : Call) (s : State) (q : QuestionsView) (t : Trials)
    (records : Records) (pool : PoolState) (locks : Table) (change : Change) : Type 0 where
  pub asked : asked_of call q.inquiry ≡ None
  pub rests : q.question ≡ None
  -- something is inserted on trial
  pub inserts : IsSome (slice_get (its_plan call q).trials 0)
  pub filed : IsFiled s
  pub knows : KnowsNear call q s
  pub decision : IsDecision call q t.decision
  -- its plan is to change the file
  pub changes : its_plan call q ≢ nothing
  pub names : q.names ≡ names_for call q.inquiry
  pub carries : IsCarrying hash seat q.names (its_plan call q) t.writes records pool locks change
  pub on_trial : IsOnTrial t.writes.due
  -- under its names stand the records of s, and those inserted so far
  pub alike : AreAlike (names_in q.names) records
      (inserted (take (standing t.writes.due) (its_plan call q).trials) (record_of s))

-- ---- one or the other

abbrev pub IsUndecidedIn : (RecordKey → ℕ) → ℕ → Call → State → QuestionsView → Option Trials → Records → PoolState →
    Table → Change → Type 0
IsUndecidedIn hash seat call s q None records pool locks change = IsAsking hash seat call s q records pool locks change
IsUndecidedIn hash seat call s q (Some t) records pool locks change =
    IsTrying hash seat call s q t records pool locks change

-- a call of a seat, which has not decided, over a system and the records that stand under its names
abbrev pub IsUndecided : (RecordKey → ℕ) → ℕ → Call → State → UndecidedCall → Records → PoolState → Table → Change →
    Type 0
IsUndecided hash seat call s u records pool locks change =
    IsUndecidedIn hash seat call s u.questions u.trials records pool locks change
