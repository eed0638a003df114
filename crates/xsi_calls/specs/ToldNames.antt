-- Names that a call takes by what it was told: of a Get its queue's, of a Remove its key's.
-- docs/STEPS.md, "What a call reads".
use Rattle.std.specs.Prelude.{ℕ, ◌≡◌, ◌⊎◌, List, Option, Some, None, Result, Ok, ⊤}
use Rattle.std.specs.List.{AllByRecursion, find}
use Rattle.call_writes.specs.call_decisions.Anything.{decided_of, of_get, of_remove}
use Rattle.call_writes.specs.call_decisions.InquiryWords.{Decision, GetInquiry, RemoveInquiry}
use Rattle.page_locks.specs.declared.lock.LockName.TheVariants as names
use Rattle.queue_model.specs.declared.call.Call.TheVariants.{Get, Remove}
use Rattle.queue_model.specs.declared.errno.Errno.{Errno}
use Rattle.queue_model.specs.declared.queue.Queue.{Queue}
use Rattle.queue_model.specs.Rules.{has_id}
use Rattle.xsi_control.specs.declared.get_inquiry.Getting.{Getting}
use Rattle.xsi_control.specs.declared.get_inquiry.Getting.TheVariants.{AtKey, Found, Absent, AtCounter, Counted}
use Rattle.xsi_control.specs.declared.stage.Stage.{Stage}
use Rattle.xsi_control.specs.declared.stage.Stage.TheVariants.{Seeking, Refused, Keyed, Counting, Removing}
use Rattle.xsi_inquiry.specs.Deciding.{refuses}
use Rattle.xsi_calls.specs.QuestionWords.{AnyInquiry, Call, Lock, LockName, NotASystem, State}

-- a queue's name is that of such an id, a key's that of such a key
abbrev pub OfQueue : (ℕ → Type 0) → LockName → Type 0
OfQueue IsSo (names.Queue id) = IsSo id
OfQueue IsSo name = ⊤

abbrev pub OfKey : (ℕ → Type 0) → LockName → Type 0
OfKey IsSo (names.Key key) = IsSo key
OfKey IsSo name = ⊤

-- ---- as it was told

-- the Counter told the id that the new queue is to have
abbrev pub IsIdAt : Getting → ℕ → Type 0
IsIdAt AtKey id = ⊥
IsIdAt (Found other) id = ⊥
IsIdAt Absent id = ⊥
IsIdAt AtCounter id = ⊥
IsIdAt (Counted n) id = n.next_id ≡ id

-- its queue's record told the key; a Remove that is refused no longer has it
abbrev pub IsKeyAt : Stage → ℕ → Type 0
IsKeyAt (Seeking sought) key = ⊥
IsKeyAt (Refused errno) key = ⊤
IsKeyAt (Keyed k) key = k ≡ Some key
IsKeyAt (Counting k queue) key = k ≡ Some key
IsKeyAt (Removing r) key = r.key ≡ Some key

abbrev pub IsToldToGet : Option GetInquiry → LockName → Type 0
IsToldToGet None name = ⊤
IsToldToGet (Some i) name = OfQueue (IsIdAt i.getting) name

abbrev pub IsToldToRemove : Option RemoveInquiry → LockName → Type 0
IsToldToRemove None name = ⊤
IsToldToRemove (Some i) name = OfKey (IsKeyAt i.stage) name

abbrev pub IsToldName : Call → AnyInquiry → LockName → Type 0
IsToldName (Get a) i name = IsToldToGet (of_get i) name
IsToldName (Remove id) i name = IsToldToRemove (of_remove i) name
IsToldName call i name = ⊤

abbrev pub AreTold : Call → AnyInquiry → List Lock → Type 0
AreTold call i held = AllByRecursion (λ (l : Lock). IsToldName call i l.name) held

-- ---- as the system has it

-- the queue of the id, where there is one, has this key
abbrev pub IsKeyOf : ℕ → State → ℕ → Type 0
IsKeyOf id s key = (q : Queue) → find (has_id id) s.queues ≡ Some q → q.key ≡ Some key

abbrev pub IsRefused : Result Decision NotASystem → Type 0
IsRefused decided = (errno : Errno) × (decided ≡ Ok (refuses errno))

-- a Get that is to make a queue names the next id, and a Remove, unless it is refused, the key of its queue
abbrev pub IsNameIn : Call → AnyInquiry → State → LockName → Type 0
IsNameIn (Get a) i s name = OfQueue (λ (id : ℕ). id ≡ s.next_id) name
IsNameIn (Remove id) i s name =
    OfKey (λ (key : ℕ). IsKeyOf id s key ⊎ IsRefused (decided_of (Remove id) i)) name
IsNameIn call i s name = ⊤

abbrev pub AreNamesIn : Call → AnyInquiry → State → List Lock → Type 0
AreNamesIn call i s held = AllByRecursion (λ (l : Lock). IsNameIn call i s l.name) held
