-- What a Remove asks for next, and what it decides and writes.
-- docs/STEPS.md, "What a call reads".
use Rattle.std.specs.Prelude.{◌≡◌, ℕ, zero, suc, List, [], Option, Some, None, Result, Ok, Err, ⊤}
use Rattle.page_locks.specs.declared.lock.LockName.{LockName}
use Rattle.queue_model.specs.declared.errno.Errno.{Errno}
use Rattle.queue_model.specs.declared.errno.Errno.TheVariants.{EIDRM, EINVAL}
use Rattle.queue_records.specs.Keys.{key_of_queue}
use Rattle.queue_records.specs.Spelling.{counter_key}
use Rattle.xsi_inquiry.specs.declared.decision.Decision.{Decision}
use Rattle.xsi_inquiry.specs.declared.decision.Decision.TheVariants.{Sweeps}
use Rattle.xsi_inquiry.specs.declared.inquiry.NotASystem.{NotASystem}
use Rattle.xsi_inquiry.specs.declared.wanted.Wanted.{Wanted}
use Rattle.xsi_inquiry.specs.declared.wanted.Wanted.TheVariants.{At}
use Rattle.xsi_inquiry.specs.Deciding.{refuses}
use Rattle.xsi_inquiry.specs.Seeking.{asks_of_sought, sought_next}
use Rattle.xsi_inquiry.specs.Writing.{Plan, nothing}
use Rattle.xsi_control.specs.declared.stage.Stage.{Stage}
use Rattle.xsi_control.specs.declared.stage.Stage.TheVariants.{Seeking, Refused, Keyed, Counting, Removing}
use Rattle.xsi_control.specs.Removing.{names_of, removal_plan}

-- what it asks for next
abbrev pub asked : ℕ → Stage → Option Wanted
asked id (Seeking sought) = sought_next id sought
asked id (Refused errno) = None
asked id (Keyed key) = Some (At (key_of_queue id))
asked id (Counting key queue) = Some (At counter_key)
asked id (Removing r) = None

-- at most as many questions are still asked: the Queue, the Queue again, and the Counter
abbrev pub asks_left : Stage → ℕ
asks_left (Seeking sought) = asks_of_sought sought
asks_left (Refused errno) = 0
asks_left (Keyed key) = 2
asks_left (Counting key queue) = 1
asks_left (Removing r) = 0

-- a place of its first phase, or where that ends
abbrev pub IsOfFirst : Stage → Type 0
IsOfFirst (Seeking sought) = ⊤
IsOfFirst (Refused errno) = ⊤
IsOfFirst (Keyed key) = ⊤
IsOfFirst (Counting key queue) = ⊥
IsOfFirst (Removing r) = ⊥

-- a place of its second phase, under the names of this key
abbrev pub IsOfSecond : Option ℕ → Stage → Type 0
IsOfSecond key (Seeking sought) = ⊥
IsOfSecond key (Refused errno) = ⊤
IsOfSecond key (Keyed k) = ⊥
IsOfSecond key (Counting k queue) = k ≡ key
IsOfSecond key (Removing r) = r.key ≡ key

-- where it may come to once it was told an answer: its second phase lies behind the first, and keeps the key
abbrev pub FollowsAt : Stage → Stage → Type 0
FollowsAt (Seeking sought) next = IsOfFirst next
FollowsAt (Refused errno) next = ⊥
FollowsAt (Keyed key) next = IsOfSecond key next
FollowsAt (Counting key queue) next = IsOfSecond key next
FollowsAt (Removing r) next = ⊥

-- how a call on an id is refused whose queue has gone; no queue has the id 0
abbrev pub gone : ℕ → Errno
gone zero = EINVAL
gone (suc id) = EIDRM

-- between its two phases it knows a key
abbrev pub key_at : Stage → Option (Option ℕ)
key_at (Seeking sought) = None
key_at (Refused errno) = None
key_at (Keyed key) = Some key
key_at (Counting key queue) = None
key_at (Removing r) = None

-- the names that it holds Exclusive, from the second phase on
abbrev pub locked_at : ℕ → Stage → List LockName
locked_at id (Seeking sought) = []
locked_at id (Refused errno) = []
locked_at id (Keyed key) = names_of id key
locked_at id (Counting key queue) = names_of id key
locked_at id (Removing r) = names_of id r.key

abbrev pub decided_at : ℕ → Stage → Result Decision NotASystem
decided_at id (Seeking sought) = Err (record {})
decided_at id (Refused errno) = Ok (refuses errno)
decided_at id (Keyed key) = Err (record {})
decided_at id (Counting key queue) = Err (record {})
decided_at id (Removing r) = Ok (Sweeps (record { id = id; first = r.first }))

abbrev pub plan_at : ℕ → Stage → Plan
plan_at id (Seeking sought) = nothing
plan_at id (Refused errno) = nothing
plan_at id (Keyed key) = nothing
plan_at id (Counting key queue) = nothing
plan_at id (Removing r) = removal_plan id r
