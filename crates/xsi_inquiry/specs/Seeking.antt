-- What the records tell of the queue that a call names.
-- docs/QUEUES.md, "Calls".
use Rattle.std.specs.Prelude.{◌≡◌, ℕ, zero, suc, ◌<◌, Bool, Option, Some, None, ⊤, if◌then◌else◌}
use Rattle.std.specs.List.{find}
use Rattle.queue_model.specs.declared.errno.Errno.{Errno}
use Rattle.queue_model.specs.declared.errno.Errno.TheVariants.{EIDRM, EINVAL}
use Rattle.queue_model.specs.declared.queue.Queue.{Queue}
use Rattle.queue_model.specs.Rules.{Outcome, has_id, on_queue, refuse}
use Rattle.queue_model.specs.State.{State}
use Rattle.type_chains.specs.queue_records.declared.queue_entry.QueueEntry.{QueueEntry}
use Rattle.type_chains.specs.Entries.{queue_entry}
use Rattle.type_chains.specs.queue_records.Keys.{key_of_queue}
use Rattle.xsi_inquiry.specs.declared.sought.Sought.{Sought}
use Rattle.xsi_inquiry.specs.declared.sought.Sought.TheVariants.{Unread, Absent, Found, Refused}
use Rattle.xsi_inquiry.specs.declared.wanted.Wanted.{Wanted}
use Rattle.xsi_inquiry.specs.declared.wanted.Wanted.TheVariants.{At, Given}

-- before anything is read
abbrev pub begun : ℕ → Sought
begun zero = Refused EINVAL
begun (suc id) = Unread

-- how calls on an id without a queue are refused: it was given out once, or never
abbrev pub refusal : Bool → Errno
refusal given = if given then EIDRM else EINVAL

-- what is asked next
abbrev pub sought_next : ℕ → Sought → Option Wanted
sought_next id Unread = Some (At (key_of_queue id))
sought_next id Absent = Some (Given id)
sought_next id (Found e) = None
sought_next id (Refused errno) = None

-- records that may still be read
abbrev pub reads_left : Sought → ℕ
reads_left Unread = 2
reads_left Absent = 1
reads_left (Found e) = 0
reads_left (Refused errno) = 0

-- at most as many questions are still asked by a call that asks two more once its queue is found
abbrev pub asks_of_sought : Sought → ℕ
asks_of_sought Unread = 3
asks_of_sought Absent = 1
asks_of_sought (Found e) = 2
asks_of_sought (Refused errno) = 0

-- it was told whether the id was given out, and no queue has it
abbrev pub IsRefused : Sought → Type 0
IsRefused Unread = ⊥
IsRefused Absent = ⊥
IsRefused (Found e) = ⊥
IsRefused (Refused errno) = ⊤

-- the entry is that of the queue of an id, on which calls go on
pub record IsEntryOf (id : ℕ) (e : QueueEntry) (s : State) : Type 0 where
  pub queue : Queue
  pub found : find (has_id id) s.queues ≡ Some queue
  pub its_id : queue.id ≡ id
  pub entry : e ≡ queue_entry queue
  pub goes_on : (act : Queue → Outcome) → on_queue id s act ≡ act queue

-- what is known is so in s
abbrev pub Tells : ℕ → Sought → State → Type 0
Tells id Unread s = 0 < id
Tells id Absent s = (0 < id) × (find (has_id id) s.queues ≡ None)
Tells id (Found e) s = IsEntryOf id e s
Tells id (Refused errno) s = (act : Queue → Outcome) → on_queue id s act ≡ refuse errno s

-- what a Remove knows between its two phases, in which it holds no lock: the id was given out, and its queue, if it is
-- still there, has this key
pub record IsKeyed (id : ℕ) (key : Option ℕ) (s : State) : Type 0 where
  pub given : id < s.next_id
  pub keeps : (q : Queue) → find (has_id id) s.queues ≡ Some q → q.key ≡ key
