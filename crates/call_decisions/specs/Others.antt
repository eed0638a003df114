-- What another call decides, and what it leaves to a call that holds other names.
-- docs/STEPS.md, "Locks", "What a seat may know".
use Rattle.std.specs.Prelude.{◌≡◌, List, Option, Some, None, ⊤, ℕ}
use Rattle.std.specs.List.{Contains}
use Rattle.call_decisions.specs.declared.any_inquiry.AnyInquiry.{AnyInquiry}
use Rattle.call_decisions.specs.Anything.{KnowsOf, asked_of, caller_of, locked_of}
use Rattle.page_locks.specs.declared.lock.LockName.TheVariants as names
use Rattle.queue_model.specs.declared.call.Call.TheVariants.{Get, Send, Receive, Stat, Set, Remove}
use Rattle.xsi_inquiry.specs.Agreeing.{AgreesFor}
use Rattle.xsi_inquiry.specs.Rooms.{Roomful}
use Rattle.xsi_inquiry.specs.Telling.{IsFiled}
use Rattle.call_decisions.specs.Words.{Answer, Call, LockName, RecordKey, State, guard_of, outcome, record_of}

abbrev pub HoldsKey : Option ℕ → List LockName → Type 0
HoldsKey None held = ⊤
HoldsKey (Some key) held = Contains held (names.Key key)

-- a call holds the name of the queue, or of the key, that it was given, in whatever kind
abbrev pub HoldsOwn : Call → List LockName → Type 0
HoldsOwn (Get a) held = HoldsKey a.key held
HoldsOwn (Send a) held = Contains held (names.Queue a.id)
HoldsOwn (Receive a) held = Contains held (names.Queue a.id)
HoldsOwn (Stat id) held = Contains held (names.Queue id)
HoldsOwn (Set a) held = Contains held (names.Queue a.id)
HoldsOwn (Remove id) held = Contains held (names.Queue id)

-- another call is answered, which leads from s to the system after; none of the names under which it writes is held
pub record DecidesApart (held : List LockName) (call : Call) (i : AnyInquiry) (s after : State) : Type 0 where
  pub room : Roomful
  pub knows : KnowsOf call i room s
  pub ready : asked_of call i ≡ None
  pub answer : Answer
  pub outcome : outcome (caller_of i) call s ≡ Some (answer, after)
  -- records stand but under its names
  pub rest : (key : RecordKey) → (Contains (locked_of call i) (guard_of key) → ⊥) →
      record_of after key ≡ record_of s key
  pub apart : (name : LockName) → Contains held name → Contains (locked_of call i) name → ⊥

-- then the call can't tell the systems apart
abbrev pub LeavesOthers : Type 0
LeavesOthers = (call other : Call) (held : List LockName) (i : AnyInquiry) (s after : State) → IsFiled s →
    HoldsOwn call held → DecidesApart held other i s after → AgreesFor call held s after
