-- How a queue is found, made where it is not there, and set. docs/SHELL.md, "What a command asks".
use Rattle.std.specs.Prelude.{◌≡◌, ℕ, true, false, List, [], Option, None, Some, Ok, Err}
use Rattle.queue_model.specs.Rules.{outcome}
use Rattle.queue_model.specs.State.{State}
use Rattle.queue_model.specs.declared.answer.Answer.TheVariants as answers
use Rattle.queue_model.specs.declared.answer.QueueInfo.{QueueInfo}
use Rattle.queue_model.specs.declared.call.Call.{Call}
use Rattle.queue_model.specs.declared.call.Call.TheVariants as calls
use Rattle.queue_model.specs.declared.caller.Caller.{Caller}
use Rattle.queue_model.specs.declared.errno.Errno.TheVariants.{ENOENT}
use Rattle.queue_commands.specs.Asking.{Asking, HaltsAt, IsAnswered, IsKnown, Then, Unless}
use Rattle.queue_commands.specs.declared.queue_name.QueueName.{QueueName}
use Rattle.queue_commands.specs.declared.queue_name.QueueName.TheVariants.{Key, Id}
use Rattle.queue_commands.specs.declared.request.NewQueue.{NewQueue}
use Rattle.queue_commands.specs.declared.request.Settings.{Settings}

-- a call is done, and nothing is printed
abbrev pub IsDone : Caller → Call → State → Asking (List ℕ)
IsDone c call s (Ok text) t = (outcome c call s ≡ Some (answers.Done, t)) × (text ≡ [])
IsDone c call s (Err halt) t = HaltsAt c call s halt t

-- ---- a queue is set

-- the limit that is given, or the one that a Stat tells
abbrev pub IsLimit : QueueInfo → State → Asking ℕ
IsLimit info s = IsKnown info.qbytes s

abbrev pub LimitsAs : Caller → ℕ → Option ℕ → State → Asking ℕ
LimitsAs c id (Some qbytes) s = IsKnown qbytes s
LimitsAs c id None s = Then (IsAnswered answers.Info c (calls.Stat id) s) IsLimit

-- the Set of what is given, and of this limit
abbrev pub set_call : ℕ → Settings → ℕ → ℕ → Call
set_call moment a id qbytes = calls.Set (record {
  id = id;
  qbytes = qbytes;
  uid = a.uid;
  gid = a.gid;
  mode = a.mode;
  moment = moment;
})

-- its limit is asked for where none is given, and it is set
abbrev pub SetsAllAs : Caller → ℕ → Settings → ℕ → State → Asking (List ℕ)
SetsAllAs c moment a id s = Then (LimitsAs c id a.qbytes s) (λ qbytes. IsDone c (set_call moment a id qbytes))

-- ---- a queue is made

-- the Get that makes a queue, which its key may not have yet
abbrev pub make_call : ℕ → Option ℕ → ℕ → Call
make_call moment key mode =
    calls.Get (record { key = key; create = true; excl = true; mode = mode; moment = moment })

-- it is set, if anything is set of it
abbrev pub SetsNewAs : Caller → ℕ → Option Settings → ℕ → State → Asking ℕ
SetsNewAs c moment None id s = IsKnown id s
SetsNewAs c moment (Some a) id s = Then (SetsAllAs c moment a id s) (λ text. IsKnown id)

abbrev pub MakesNewAs : Caller → ℕ → Option ℕ → NewQueue → State → Asking ℕ
MakesNewAs c moment key new s =
    Then (IsAnswered answers.Id c (make_call moment key new.mode) s) (SetsNewAs c moment new.settings)

-- ---- a queue is found

-- the Get of a key
abbrev pub find_call : ℕ → ℕ → Call
find_call moment key =
    calls.Get (record { key = Some key; create = false; excl = false; mode = 0; moment = moment })

-- a key has a queue; or it has none, and one is made
abbrev pub FindsKeyAs : Caller → ℕ → ℕ → Option NewQueue → State → Asking ℕ
FindsKeyAs c moment key None s = IsAnswered answers.Id c (find_call moment key) s
FindsKeyAs c moment key (Some new) s =
    Unless ENOENT (IsAnswered answers.Id c (find_call moment key) s) (MakesNewAs c moment (Some key) new)

-- the id of the queue that is named: a key's is asked for
abbrev pub FindsAs : Caller → ℕ → QueueName → Option NewQueue → State → Asking ℕ
FindsAs c moment (Id id) create s = IsKnown id s
FindsAs c moment (Key key) create s = FindsKeyAs c moment key create s
