-- What a Get asks for and knows at each stage, which names it holds, what it decides, and what it writes.
-- docs/QUEUES.md, "Calls"; docs/STEPS.md, "What a call reads".
use Rattle.std.specs.Prelude.{◌≡◌, ℕ, ◌+◌, nat_lt, Bool, ◌&&◌, IsSome, List, [], ◌∷◌, ◌++◌, Option, Some, None, Result, Ok, Err, if◌then◌else◌}
use Rattle.page_locks.specs.declared.lock.LockName.TheVariants as names
use Rattle.queue_model.specs.declared.answer.Answer.TheVariants.{Id}
use Rattle.queue_records.specs.declared.record.Record.TheVariants as records
use Rattle.xsi_inquiry.specs.declared.decision.Decision.{Decision}
use Rattle.xsi_inquiry.specs.declared.decision.Decision.TheVariants.{Answers}
use Rattle.xsi_inquiry.specs.declared.inquiry.NotASystem.{NotASystem}
use Rattle.xsi_inquiry.specs.declared.verdict.Verdict.TheVariants as verdicts
use Rattle.xsi_inquiry.specs.declared.wanted.Wanted.{Wanted}
use Rattle.xsi_inquiry.specs.declared.wanted.Wanted.TheVariants.{At}
use Rattle.xsi_inquiry.specs.declared.write.Write.TheVariants.{Replace}
use Rattle.xsi_control.specs.declared.get_inquiry.Getting.{Getting}
use Rattle.xsi_control.specs.declared.get_inquiry.Getting.TheVariants.{AtKey, Found, Absent, AtCounter, Counted}
use Rattle.xsi_control.specs.Words.{LockName, GetArguments, Caller, EEXIST, ENOENT, ENOSPC, END_OF_IDS, MAX_QUEUES, IsFreshKey, Outcome, create, new_queue, outcome_of_get, refuse, State, Counter, Record, key_of_key, counter_key, counter_of, queue_entry, refuses, Plan, nothing}

-- ---- what it asks for

abbrev pub key_wanted : Option ℕ → Option Wanted
key_wanted None = None
key_wanted (Some key) = Some (At (key_of_key key))

abbrev pub get_wanted : GetArguments → Getting → Option Wanted
get_wanted a AtKey = key_wanted a.key
get_wanted a (Found id) = None
get_wanted a Absent = None
get_wanted a AtCounter = Some (At counter_key)
get_wanted a (Counted n) = None

-- at most as many questions are still asked
abbrev pub get_left : Getting → ℕ
get_left AtKey = 2
get_left (Found id) = 0
get_left Absent = 0
get_left AtCounter = 1
get_left (Counted n) = 0

-- where no queue has the key: whether one is to be made
abbrev pub absent_or_counted : Bool → Getting
absent_or_counted create = if create then AtCounter else Absent

-- ---- what it knows

-- the outcome where the key has the queue of an id
abbrev pub id_found : ℕ → GetArguments → State → Outcome
id_found id a s = if a.create && a.excl then refuse EEXIST s else Some (Id id, s)

-- no queue has the key, so one is to be made
pub record IsToMake (c : Caller) (a : GetArguments) (s : State) : Type 0 where
  pub outcome : outcome_of_get c a s ≡ create c a s
  pub fresh : IsFreshKey a.key s

-- what is known is so in s
abbrev pub KnowsOfGet : Caller → GetArguments → Getting → State → Type 0
KnowsOfGet c a AtKey s = IsSome a.key
KnowsOfGet c a (Found id) s = outcome_of_get c a s ≡ id_found id a s
KnowsOfGet c a Absent s = outcome_of_get c a s ≡ refuse ENOENT s
KnowsOfGet c a AtCounter s = IsToMake c a s
KnowsOfGet c a (Counted n) s = IsToMake c a s × (n ≡ counter_of s)

-- ---- what it makes

-- the system with a new queue, which has the next id
abbrev pub with_new_queue : Caller → GetArguments → State → State
with_new_queue c a s = record s {
  queues = s.queues ++ new_queue s.next_id c a ∷ [];
  next_id = s.next_id + 1;
}

-- the Counter with one queue more, where a place and an id are left
abbrev pub one_more : Counter → Option Counter
one_more n =
    if nat_lt n.queues_alive MAX_QUEUES && nat_lt n.next_id END_OF_IDS
    then Some (record { next_id = n.next_id + 1; queues_alive = n.queues_alive + 1 })
    else None

-- what is inserted for a queue of an id: its Queue, and its Key where it has one
abbrev pub key_made : ℕ → Option ℕ → List Record
key_made id None = []
key_made id (Some key) = records.Key (record { key = key; id = id }) ∷ []

abbrev pub made_trials : Caller → GetArguments → ℕ → List Record
made_trials c a id = records.Queue (queue_entry (new_queue id c a)) ∷ key_made id a.key

-- and then the Counter counts it
abbrev pub plan_made : Caller → GetArguments → ℕ → Option Counter → Plan
plan_made c a id None = nothing
plan_made c a id (Some n) = record {
  trials = made_trials c a id;
  slots = Some (Replace (records.Counter n)) ∷ [];
}

abbrev pub get_plan : Caller → GetArguments → Getting → Plan
get_plan c a AtKey = nothing
get_plan c a (Found id) = nothing
get_plan c a Absent = nothing
get_plan c a AtCounter = nothing
get_plan c a (Counted n) = plan_made c a n.next_id (one_more n)

-- ---- what it decides

abbrev pub decided_made : ℕ → Option Counter → Decision
decided_made id None = refuses ENOSPC
decided_made id (Some n) = Answers (verdicts.Id id)

abbrev pub get_decided : GetArguments → Getting → Result Decision NotASystem
get_decided a AtKey = Err (record {})
get_decided a (Found id) = if a.create && a.excl then Ok (refuses EEXIST) else Ok (Answers (verdicts.Id id))
get_decided a Absent = Ok (refuses ENOENT)
get_decided a AtCounter = Err (record {})
get_decided a (Counted n) = Ok (decided_made n.next_id (one_more n))

-- ---- which names it holds

-- its key
abbrev pub key_names : Option ℕ → List LockName
key_names None = []
key_names (Some key) = names.Key key ∷ []

-- the queue that is made
abbrev pub made_names : ℕ → Option Counter → List LockName
made_names id None = []
made_names id (Some n) = names.Queue id ∷ []

-- the Counter, and the queue that is made
abbrev pub making_names : Getting → List LockName
making_names AtKey = []
making_names (Found id) = []
making_names Absent = []
making_names AtCounter = names.Counter ∷ []
making_names (Counted n) = names.Counter ∷ made_names n.next_id (one_more n)

abbrev pub get_locked : GetArguments → Getting → List LockName
get_locked a getting = key_names a.key ++ making_names getting
