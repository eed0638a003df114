-- What a call comes to at its Decide, and what it owes the file then.
-- docs/STEPS.md, "Calls"; docs/QUEUES.md, "Calls".
use Rattle.std.specs.Prelude.{◌≡◌, Bool, List, [], Option, Some, None, ⊤, if◌then◌else◌, ℕ}
use Rattle.std.specs.List.{All, Contains, find}
use Rattle.call_decisions.specs.Owing as owed
use Rattle.page_locks.specs.declared.lock.LockName.TheVariants as names
use Rattle.queue_model.specs.declared.answer.Answer.TheVariants as answers
use Rattle.queue_model.specs.declared.errno.Errno.TheVariants.{EINTR}
use Rattle.xsi_inquiry.specs.declared.decision.Decision.TheVariants as decisions
use Rattle.xsi_inquiry.specs.declared.verdict.Verdict.TheVariants as verdicts
use Rattle.call_decisions.specs.Words.{RecordKey, LockName, Answer, Call, Caller, Queue, has_id, outcome, State, Record, guard_of, serials, first_of, record_of, Decision, Sweep, Verdict, Write, Decides, answer_of, CanAllBe, HasRange, Plan, Records, inserted, nothing, writes_of, Owes, OwesUnder, overlaid, without_swept}
use Rattle.call_decisions.specs.declared.settled.Settled.{Settled}
use Rattle.call_decisions.specs.declared.settled.Settled.TheVariants.{Answers, Sweeps, Waits}

-- a call that is put off waits, and is refused with EINTR once the system is stopped
abbrev pub settled_by : (stopped : Bool) → Decision → Settled
settled_by stopped decisions.PutOff = if stopped then Answers (verdicts.Refused EINTR) else Waits
settled_by stopped (decisions.Answers verdict) = Answers verdict
settled_by stopped (decisions.Sweeps sweep) = Sweeps sweep

-- the answer but for the bytes of a message
abbrev pub verdict_of : Settled → Option Verdict
verdict_of (Answers verdict) = Some verdict
verdict_of (Sweeps sweep) = Some verdicts.Done
verdict_of Waits = None

-- ---- the decision

-- a Remove that sweeps holds the name of its queue
abbrev pub HoldsSwept : List LockName → Decision → Type 0
HoldsSwept held decisions.PutOff = ⊤
HoldsSwept held (decisions.Answers verdict) = ⊤
HoldsSwept held (decisions.Sweeps sweep) = Contains held (names.Queue sweep.id)

-- a call that holds these names Exclusive decides so on s by the rules, with this plan and these bytes in its room
pub record IsRight (c : Caller) (call : Call) (held : List LockName) (bytes : List ℕ) (s : State) (p : Plan)
    (decision : Decision) : Type 0 where
  pub decides : Decides c call held bytes s decision p
  pub holds : HoldsSwept held decision

-- ---- what it means

-- the same stands in both at each key under the names
abbrev pub AreAlike : List LockName → (records others : Records) → Type 0
AreAlike held records others = (key : RecordKey) → Contains held (guard_of key) → records key ≡ others key

-- after a sweep, or at once
abbrev pub behind_sweep : Owes → Records → Records
behind_sweep (owed.Writes ws) records = records
behind_sweep (owed.Sweeps id ws) records = without_swept id records

abbrev pub writes_owed : Owes → List Write
writes_owed (owed.Writes ws) = ws
writes_owed (owed.Sweeps id ws) = ws

-- what is owed can be carried out on each file that has these records under the names, and leads to those of the system
-- after
pub record LeadsOver (held : List LockName) (before : Records) (o : Owes) (s after : State) : Type 0 where
  pub leads : (records : Records) → AreAlike held records before → AreAlike held (overlaid o records) (record_of after)
  pub can : (records : Records) → AreAlike held records (behind_sweep o before) → CanAllBe (writes_owed o) records
  pub in_range : All HasRange (writes_owed o)
  -- records are owed under the names alone
  pub own : OwesUnder held o
  -- and all other records stand
  pub rest : (key : RecordKey) → (Contains held (guard_of key) → ⊥) → record_of after key ≡ record_of s key

-- the answer is that of the rules, and what is owed with these trials made leads to the system after
pub record IsAnswer (c : Caller) (call : Call) (held : List LockName) (trials : List Record) (answer : Answer)
    (o : Owes) (s : State) : Type 0 where
  pub after : State
  pub outcome : outcome c call s ≡ Some (answer, after)
  pub owes : LeadsOver held (inserted trials (record_of s)) o s after

-- a sweep begins with the first message of its queue
pub record BeginsAt (s : State) (sweep : Sweep) : Type 0 where
  pub queue : Queue
  pub alive : find (has_id sweep.id) s.queues ≡ Some queue
  pub first : sweep.first ≡ first_of (serials queue.messages)

-- nothing is inserted on trial before a sweep
pub record IsSweepOf (c : Caller) (call : Call) (held : List LockName) (s : State) (sweep : Sweep) (p : Plan)
    : Type 0 where
  pub answer : IsAnswer c call held [] answers.Done (owed.Sweeps sweep.id (writes_of p)) s
  pub begins : BeginsAt s sweep
  pub no_trials : p.trials ≡ []

-- the rules have no answer, and nothing is written
pub record HasToWait (c : Caller) (call : Call) (s : State) (p : Plan) : Type 0 where
  pub none : outcome c call s ≡ None
  pub idle : p ≡ nothing

-- what a call has come to, with its plan and these bytes in its room
abbrev pub Means : Caller → Call → List LockName → List ℕ → State → Plan → Settled → Type 0
Means c call held bytes s p (Answers verdict) =
    IsAnswer c call held p.trials (answer_of verdict bytes) (owed.Writes (writes_of p)) s
Means c call held bytes s p (Sweeps sweep) = IsSweepOf c call held s sweep p
Means c call held bytes s p Waits = HasToWait c call s p
