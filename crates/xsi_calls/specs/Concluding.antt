-- What a call comes to, and what it is answered. docs/STEPS.md, "Calls"; docs/QUEUES.md, "Calls".
use Rattle.std.specs.Prelude.{ℕ, ◌≡◌, Bool, true, List, Option, Some, None}
use Rattle.std.specs.List.{Contains}
use Rattle.call_writes.specs.call_decisions.declared.settled.Settled.TheVariants as settlements
use Rattle.queue_model.specs.declared.answer.Answer.{Answer}
use Rattle.queue_model.specs.Rules.{outcome}
use Rattle.xsi_inquiry.specs.Deciding.{answer_of}
use Rattle.xsi_inquiry.specs.declared.verdict.Verdict.TheVariants as verdicts
use Rattle.xsi_calls.specs.declared.conclusion.Conclusion.{Conclusion}
use Rattle.xsi_calls.specs.declared.conclusion.Conclusion.TheVariants as conclusions
use Rattle.xsi_calls.specs.Words.{AreAlike, Call, Caller, Exclusive, Lock, LockName, Owes, OwesUnder, RecordKey, Records, Settled, State, guard_of, kind_of, overlaid, record_of}

-- none where a record that it was to insert on trial had no room
abbrev pub conclusion_by : Option Settled → Conclusion
conclusion_by None = conclusions.HasNoRoom
conclusion_by (Some (settlements.Answers verdict)) = conclusions.Answers verdict
conclusion_by (Some (settlements.Sweeps sweep)) = conclusions.Answers verdicts.Done
conclusion_by (Some settlements.Waits) = conclusions.Waits

-- with these bytes in its room
abbrev pub answer_in : Conclusion → List ℕ → Option Answer
answer_in (conclusions.Answers verdict) bytes = Some (answer_of verdict bytes)
answer_in conclusions.Waits bytes = None
answer_in conclusions.HasNoRoom bytes = None

-- ---- what it means

-- the answer is that of the rules, and what is owed over these records leads to the system after; until its Decide it
-- owed its trials
pub record IsAnswered (c : Caller) (call : Call) (s : State) (answer : Answer) (names : List Lock)
    (before o : Owes) (records : Records) : Type 0 where
  pub after : State
  pub rules : outcome c call s ≡ Some (answer, after)
  -- the names under which it is to write, which are held Exclusive
  pub held : List LockName
  pub exclusive : (name : LockName) → Contains held name → kind_of names name ≡ Some Exclusive
  -- it owes no record under another, and none of its trials was
  pub own : OwesUnder held o
  pub tried : OwesUnder held before
  -- once nothing is owed there stand the records of the system after
  pub leads : AreAlike held (overlaid o records) (record_of after)
  -- and all other records are the same before and after
  pub rest : (key : RecordKey) → (Contains held (guard_of key) → ⊥) → record_of after key ≡ record_of s key

-- the rules have no answer, and nothing is owed, nor was before
pub record HasToWait (c : Caller) (call : Call) (s : State) (before o : Owes) (records : Records) : Type 0 where
  pub rules : outcome c call s ≡ None
  pub idle : (key : RecordKey) → overlaid o records key ≡ records key
  pub untried : (key : RecordKey) → overlaid before records key ≡ records key

-- a trial has no room, and what was inserted is owed back, as it was before
pub record GoesBack (full : Bool) (before o : Owes) (records : Records) : Type 0 where
  pub lacks : full ≡ true
  pub owed : (key : RecordKey) → overlaid o records key ≡ overlaid before records key

-- what a call has come to that holds these names, and these bytes for its answer; before its Decide it owed this, and
-- after it that
abbrev pub IsRightConclusion : Caller → Call → State → (bytes : List ℕ) → (names : List Lock) → (full : Bool) →
    (before o : Owes) → Records → Conclusion → Type 0
IsRightConclusion c call s bytes names full before o records (conclusions.Answers verdict) =
    IsAnswered c call s (answer_of verdict bytes) names before o records
IsRightConclusion c call s bytes names full before o records conclusions.Waits = HasToWait c call s before o records
IsRightConclusion c call s bytes names full before o records conclusions.HasNoRoom = GoesBack full before o records
