-- What a step of a call does up to its Decide. docs/STEPS.md, "Calls".
use Rattle.std.specs.Prelude.{ℕ, ◌≡◌, ◌↔◌, true, false, not, Option, Some, None}
use Rattle.file_pages.specs.declared.fault.FileFault.{FileFault}
use Rattle.call_writes.specs.xsi_remove.Words.{StepHasCause}
use Rattle.xsi_calls.specs.Undecided.{Trials, UndecidedCall, CanDecide, IsCalm, has_no_room, its_plan, trials_of, undecided_facts, undecided_left, undecided_locks, undecided_owes, undecided_turn}
use Rattle.xsi_calls.specs.UndecidedWords.{Call, Change, Ended, Exclusive, IsRightSoFar, KnowsNear, NearsOrSpares, OnlyWrites, PoolState, Progress, QuestionsView, RecordKey, Records, State, Step, Table, TrialLacksRoom, caller_of, finds_behind, guard_of, is_fault, is_write, kind_of, overlaid, store_of, with_row, world}
use Rattle.xsi_calls.specs.Knowing.{IsTrying, IsUndecided}

-- ---- whatever the device gives

pub record KeepsUndecided {F : Type 0} (call : Call) (did : Progress F) (old new : UndecidedCall) : Type 0 where
  pub caller : caller_of new.questions.inquiry ≡ caller_of old.questions.inquiry
  -- it has ended exactly where it can decide, and stays so
  pub ended : (did ≡ Ended) ↔ CanDecide call old
  pub rests : did ≡ Ended → new ≡ old
  -- the room has room for as many bytes
  pub most : new.questions.room.most ≡ old.questions.room.most
  pub calm : IsCalm old → IsCalm new
  -- a search is counted where its seat was granted the directory to read, of a trial too
  pub finds : new.questions.finds ≡ finds_behind did (undecided_locks new) old.questions.finds

-- ---- on an honest device, in a sound world

-- while it still asks it has come so far by its own steps, and knows what it was told; that the file agrees under a
-- name that it was granted is told anew
pub record AsksOn (hash : RecordKey → ℕ) (call : Call) (s : State) (q : QuestionsView) : Type 0 where
  pub right : IsRightSoFar hash call q
  pub knows : KnowsNear call q s

abbrev pub IsBehind : (RecordKey → ℕ) → ℕ → Call → State → QuestionsView → Option Trials → Records → PoolState →
    Table → Change → Type 0
IsBehind hash seat call s q None after pool locks change = AsksOn hash call s q
IsBehind hash seat call s q (Some t) after pool locks change = IsTrying hash seat call s q t after pool locks change

-- a step of the rules, behind which these records stand, and what will stand once nothing is owed is the same
pub record GoesOn {F : Type 0} (hash : RecordKey → ℕ) (seat : ℕ) (call : Call) (s : State) (did : Progress F)
    (old new : UndecidedCall) (records : Records) (pool pool' : PoolState) (locks locks' : Table) (change : Change)
    : Type 0 where
  pub step : Step hash seat (undecided_turn hash call old (store_of pool.images)) did (undecided_facts new) pool pool'
      locks locks' change
  pub after : Records
  pub still : is_write did ≡ false → after ≡ records
  -- while it asks no record is written
  pub reads : new.trials ≡ None → is_write did ≡ false
  -- a record whose name it does not hold Exclusive stays
  pub elsewhere : (key : RecordKey) → (kind_of new.questions.names (guard_of key) ≡ Some Exclusive → ⊥) →
      after key ≡ records key
  pub owed : (key : RecordKey) →
      overlaid (undecided_owes call new) after key ≡ overlaid (undecided_owes call old) records key
  pub behind : IsBehind hash seat call s new.questions new.trials after pool' locks' step.after
  -- a trial turns to having no room only where there is none for its record
  pub full : has_no_room old ≡ false → has_no_room new ≡ true → TrialLacksRoom hash (its_plan call old.questions)
      (trials_of old).due (world pool'.images locks' change)

-- one step at the pseudokeys that this function gives
pub record MakesUndecided (hash : RecordKey → ℕ) (seat : ℕ) (call : Call) (did : Progress FileFault)
    (old new : UndecidedCall) (pool pool' : PoolState) (locks locks' : Table) : Type 0 where
  -- whatever the device gives
  pub writes : OnlyWrites (not (is_fault did)) pool pool'
  pub cause : StepHasCause did pool pool'
  pub aim : KeepsUndecided call did old new
  pub row : locks' ≡ with_row locks seat (undecided_locks new)
  -- on an honest device, in a sound world
  pub progress : (s : State) (records : Records) (change : Change) →
      IsUndecided hash seat call s old records pool locks change →
      NearsOrSpares did (undecided_left call old (store_of pool.images)) (undecided_left call new
      (store_of pool'.images)) pool pool'
  pub step : (s : State) (records : Records) (change : Change) →
      IsUndecided hash seat call s old records pool locks change → is_fault did ≡ false →
      GoesOn hash seat call s did old new records pool pool' locks locks' change
