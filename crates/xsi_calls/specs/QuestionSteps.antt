-- What a step of a call does that asks the file its questions. docs/STEPS.md, "Calls".
use Rattle.std.specs.Prelude.{ℕ, ◌≡◌, ◌<◌, ◌↔◌, ◌⊎◌, Bool, true, false, not, List, Option, Some, None, IsOk, Result, ⊤}
use Rattle.file_pages.specs.declared.fault.FileFault.{FileFault}
use Rattle.call_writes.specs.xsi_remove.Words.{StepHasCause}
use Rattle.xsi_calls.specs.declared.question.Question.{Question}
use Rattle.xsi_calls.specs.QuestionWords.{RecordKey, PoolState, Table, Change, with_row, store_of, OnlyWrites, Progress, Moved, Blocked, Fault, Ended, Look, is_fault, Sees, Step, NearsOrSpares, Record, is_write, HasEnded, ToFind, AccessView, HasFound, Serves, access_answer, begun, AnyInquiry, FollowsOf, KnowsOf, asked_of, caller_of, left_of, names_in, names_for, name_turn, Ready, LockName, Call, State, Wanted, NotASystem, IsCovered, IsSoNear, IsFiled, Roomful}
use Rattle.xsi_calls.specs.Answering.{Answers, key_asked}
use Rattle.xsi_calls.specs.Agreeing.{Agrees}
use Rattle.xsi_calls.specs.Counting.{finds_behind}
use Rattle.xsi_calls.specs.Questions.{QuestionsView, IsRight, KnowsNear, is_done, questions_facts, questions_left, questions_locks, questions_turn}

-- ---- whatever the device gives

-- where it did not move, and met no fault, it is what it was
abbrev pub Rests : {F : Type 0} → Progress F → (old new : QuestionsView) → Type 0
Rests (Blocked other) old new = new ≡ old
Rests Ended old new = new ≡ old
Rests did old new = ⊤

pub record KeepsQuestions {F : Type 0} (call : Call) (did : Progress F) (old new : QuestionsView) : Type 0 where
  pub caller : caller_of new.inquiry ≡ caller_of old.inquiry
  -- it has ended where nothing is left to ask
  pub ended : (did ≡ Ended) ↔ (is_done call old ≡ true)
  pub rests : Rests did old new
  -- the room has room for as many bytes
  pub most : new.room.most ≡ old.room.most
  -- a search is counted where its seat was granted the directory to read
  pub finds : new.finds ≡ finds_behind did (questions_locks new) old.finds

-- ---- on an honest device, in a sound world

-- a call of a seat, over a file that agrees with a system as far as it reads
pub record Faces (hash : RecordKey → ℕ) (seat : ℕ) (call : Call) (s : State) (v : QuestionsView) (pool : PoolState)
    (locks : Table) (change : Change) : Type 0 where
  pub right : IsRight hash call v
  pub sees : Sees hash seat (questions_facts v) pool locks change
  pub agrees : Agrees (names_in v.names) (store_of pool.images) s
  pub knows : KnowsNear call v s

-- what it is told by the step
pub record Learns {F : Type 0} (hash : RecordKey → ℕ) (call : Call) (s : State) (did : Progress F)
    (new : QuestionsView) : Type 0 where
  pub right : IsRight hash call new
  pub knows : KnowsNear call new s
  -- no record is written
  pub reads : is_write did ≡ false

-- one step at the pseudokeys that this function gives
pub record MakesQuestions (hash : RecordKey → ℕ) (seat : ℕ) (call : Call) (did : Progress FileFault)
    (old new : QuestionsView) (pool pool' : PoolState) (locks locks' : Table) : Type 0 where
  -- whatever the device gives
  pub writes : OnlyWrites (not (is_fault did)) pool pool'
  pub cause : StepHasCause did pool pool'
  pub aim : KeepsQuestions call did old new
  pub row : locks' ≡ with_row locks seat (questions_locks new)
  -- on an honest device, in a sound world
  pub progress : (s : State) (change : Change) → Faces hash seat call s old pool locks change →
      NearsOrSpares did (questions_left call old (store_of pool.images)) (questions_left call new
      (store_of pool'.images)) pool pool'
  pub step : (s : State) (change : Change) → Faces hash seat call s old pool locks change → is_fault did ≡ false →
      Step hash seat (questions_turn call old (store_of pool.images)) did (questions_facts new) pool pool' locks locks'
      change
  pub means : (s : State) (change : Change) → Faces hash seat call s old pool locks change → is_fault did ≡ false →
      Learns hash call s did new

-- ---- a question that begins

-- it reads the key that the inquiry asks for, under exactly the names that it needs
pub record BeginsNext (hash : RecordKey → ℕ) (call : Call) (v : QuestionsView) (question : Option Question)
    : Type 0 where
  pub wanted : Wanted
  pub asked : asked_of call v.inquiry ≡ Some wanted
  pub names : name_turn v.names (names_for call v.inquiry) ≡ Ready
  pub begins : question ≡ Some (record {
    access = begun (ToFind (key_asked wanted)) (hash (key_asked wanted));
    told = false;
  })

-- ---- what an answer tells

-- an inquiry and its room
pub record Told : Type 0 where
  pub inquiry : AnyInquiry
  pub room : Roomful

-- it is told what answers its question, and knows it of each system that it can't tell from s
abbrev pub HearsIn : {T : Type 0} → Call → Wanted → Option Record → Result T NotASystem → (old new : Told) → Type 0
HearsIn call wanted found result old new = (held : List LockName) (s : State) → IsFiled s →
    IsCovered held (Some wanted) → IsSoNear call held (KnowsOf call old.inquiry old.room) s → Answers wanted found s →
    IsOk result × IsSoNear call held (KnowsOf call new.inquiry new.room) s

pub record Hears {T : Type 0} (call : Call) (found : Option Record) (result : Result T NotASystem)
    (old new : Told) : Type 0 where
  pub caller : caller_of new.inquiry ≡ caller_of old.inquiry
  pub fewer : IsOk result → left_of call new.inquiry < left_of call old.inquiry
  -- a Remove's second phase lies behind its first
  pub follows : IsOk result → FollowsOf call old.inquiry new.inquiry
  pub most : new.room.most ≡ old.room.most
  pub hears : (wanted : Wanted) → asked_of call old.inquiry ≡ Some wanted →
      HearsIn call wanted found result old new

-- why nothing is told: it was, the step was no Look, or no page answered
abbrev pub IsSilent : {F : Type 0} → Progress F → Question → Type 0
IsSilent did q =
    (q.told ≡ true) ⊎ (did ≡ Moved Look → ⊥) ⊎ ((found : Option Record) → HasFound q.access found → ⊥)

pub record IsQuiet {F T : Type 0} (did : Progress F) (result : Result T NotASystem) (q q' : Question)
    (old new : Told) : Type 0 where
  pub silent : IsSilent did q
  pub same : (q' ≡ q) × (new ≡ old)
  pub fine : IsOk result

pub record IsHeard {F T : Type 0} (call : Call) (did : Progress F) (result : Result T NotASystem) (q q' : Question)
    (old new : Told) : Type 0 where
  pub untold : q.told ≡ false
  pub looked : did ≡ Moved Look
  pub answered : access_answer q.access ≡ None → ⊥
  -- what was found is told
  pub told : Option Record
  pub only : (found : Option Record) → HasFound q.access found → told ≡ found
  pub hears : Hears call told result old new
  pub counts : IsOk result → q'.told ≡ true

-- the inquiry hears of the step of a question's access, or not
pub record Listens {F T : Type 0} (call : Call) (did : Progress F) (result : Result T NotASystem) (q q' : Question)
    (old new : Told) : Type 0 where
  pub access : q'.access ≡ q.access
  pub caller : caller_of new.inquiry ≡ caller_of old.inquiry
  pub most : new.room.most ≡ old.room.most
  pub either : IsQuiet did result q q' old new ⊎ IsHeard call did result q q' old new

abbrev pub is_blocked : {F : Type 0} → Progress F → Bool
is_blocked (Moved kind) = false
is_blocked (Blocked other) = true
is_blocked (Fault fault) = false
is_blocked Ended = false

-- ---- its end

-- it was answered
abbrev pub IsOver : AccessView → Type 0
IsOver a = HasEnded a.operation
    × ((key : RecordKey) → Serves (ToFind key) a → access_answer a ≡ None → ⊥)

-- a question that has ended is dropped
abbrev pub Closes : Question → Option Question → Type 0
Closes q new = (IsOver q.access × (new ≡ None)) ⊎ ((HasEnded q.access.operation → ⊥) × (new ≡ Some q))
