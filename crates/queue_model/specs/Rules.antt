-- What each call is answered and how it changes the system. Refusals are tested in the order written.
-- docs/QUEUES.md, "Calls"; POSIX.1-2017, msgget(), msgsnd(), msgrcv(), msgctl().
use Rattle.std.specs.Prelude.{◌≡◌, ⊤, ℕ, ◌+◌, nat_lt, nat_le, ◌==◌, Bool, false, not, ◌&&◌, ◌||◌, pos, int_lt, [], ◌∷◌, ◌++◌, length, take, Option, Some, None, if◌then◌else◌, slice_set}
use Rattle.std.specs.List.{find, position_or_len, remove}
use Rattle.queue_model.specs.declared.answer.Answer.{Answer}
use Rattle.queue_model.specs.declared.answer.Answer.TheVariants.{Id, Sent, Received, Info, Done, Refused}
use Rattle.queue_model.specs.declared.answer.QueueInfo.{QueueInfo}
use Rattle.queue_model.specs.declared.call.Call.{Call}
use Rattle.queue_model.specs.declared.call.Call.TheVariants.{Get, Send, Receive, Stat, Set, Remove}
use Rattle.queue_model.specs.declared.call.GetArguments.{GetArguments}
use Rattle.queue_model.specs.declared.call.SendArguments.{SendArguments}
use Rattle.queue_model.specs.declared.call.ReceiveArguments.{ReceiveArguments}
use Rattle.queue_model.specs.declared.call.SetArguments.{SetArguments}
use Rattle.queue_model.specs.declared.caller.Caller.{Caller}
use Rattle.queue_model.specs.declared.errno.Errno.{Errno}
use Rattle.queue_model.specs.declared.errno.Errno.TheVariants.{E2BIG, EAGAIN, EEXIST, EIDRM, EINTR, EINVAL, ENOENT, ENOMSG, ENOSPC, EACCES, EPERM}
use Rattle.numbers.specs.declared.limits.TheConstants.{MAX_QUEUES, MAX_MESSAGES, MAX_BODY, MAX_QBYTES, DEFAULT_QBYTES, END_OF_IDS, END_OF_SERIALS, SUPERUSER}
use Rattle.queue_model.specs.declared.message.Message.{Message}
use Rattle.queue_model.specs.declared.permissions.Access.TheVariants.{Read, Write}
use Rattle.queue_model.specs.declared.queue.Queue.{Queue}
use Rattle.queue_model.specs.Access.{permissions_of, is_owner, lacks_access, changed}
use Rattle.queue_model.specs.Selection.{total_bytes, selected, unselected, is_too_long}
use Rattle.queue_model.specs.State.{State}

-- an answer and the system that it leaves; none where the call has to wait
abbrev pub Outcome : Type 0
Outcome = Option (Answer × State)

-- a refusal leaves the system
abbrev pub refuse : Errno → State → Outcome
refuse e s = Some (Refused e, s)

-- a call that can't be done now: refused to one that does not wait, EINTR once the system is stopped
abbrev pub put_off : Bool → Errno → State → Outcome
put_off nowait e s = if nowait then refuse e s else if s.stopped then refuse EINTR s else None

-- Queues by id

abbrev pub has_id : ℕ → Queue → Bool
has_id id q = q.id == id

-- a call on the queue of an id, where that is alive
abbrev pub on_found : Option Queue → State → (Queue → Outcome) → Outcome
on_found None s act = refuse EIDRM s
on_found (Some q) s act = act q

-- a call on a queue: EINVAL for an id never given out, EIDRM for one whose queue was removed
abbrev pub on_queue : ℕ → State → (Queue → Outcome) → Outcome
on_queue id s act =
    if id == 0 || nat_le s.next_id id then refuse EINVAL s
    else on_found (find (has_id id) s.queues) s act

-- the system where the queue of an id has become q
abbrev pub with_queue : ℕ → Queue → State → State
with_queue id q s = record s { queues = slice_set s.queues (position_or_len (has_id id) s.queues) q }

-- the system without the queue of an id
abbrev pub without_queue : ℕ → State → State
without_queue id s = record s { queues = remove s.queues (position_or_len (has_id id) s.queues) }

-- Get

abbrev pub is_key : ℕ → Option ℕ → Bool
is_key k None = false
is_key k (Some j) = j == k

-- a private queue is found by no key
abbrev pub has_key : ℕ → Queue → Bool
has_key k q = is_key k q.key

abbrev pub new_queue : ℕ → Caller → GetArguments → Queue
new_queue id c a = record {
  id = id;
  key = a.key;
  permissions = permissions_of c a.mode;
  qbytes = DEFAULT_QBYTES;
  lspid = 0;
  lrpid = 0;
  stime = 0;
  rtime = 0;
  ctime = a.moment;
  next_serial = 1;
  messages = [];
}

abbrev pub create : Caller → GetArguments → State → Outcome
create c a s =
    if length s.queues == MAX_QUEUES || s.next_id == END_OF_IDS then refuse ENOSPC s
    else Some (
      Id s.next_id,
      record s {
        queues = s.queues ++ new_queue s.next_id c a ∷ [];
        next_id = s.next_id + 1;
      },
    )

abbrev pub get_found : Option Queue → Caller → GetArguments → State → Outcome
get_found (Some q) c a s = if a.create && a.excl then refuse EEXIST s else Some (Id q.id, s)
get_found None c a s = if a.create then create c a s else refuse ENOENT s

abbrev pub get_by : Option ℕ → Caller → GetArguments → State → Outcome
get_by None c a s = create c a s
get_by (Some key) c a s = get_found (find (has_key key) s.queues) c a s

abbrev pub outcome_of_get : Caller → GetArguments → State → Outcome
outcome_of_get c a s = get_by a.key c a s

-- Send

-- whether a body of this length has no room on the queue now
abbrev pub lacks_room : ℕ → Queue → Bool
lacks_room len q =
    nat_lt q.qbytes (total_bytes q.messages + len)
    || length q.messages == MAX_MESSAGES
    || q.next_serial == END_OF_SERIALS

-- the queue with the message last
abbrev pub with_message : ℕ → SendArguments → Queue → Queue
with_message pid a q = record q {
  lspid = pid;
  stime = a.moment;
  next_serial = q.next_serial + 1;
  messages = q.messages ++ record { serial = q.next_serial; sender = pid; mtype = a.mtype; bytes = a.body } ∷ [];
}

abbrev pub send_to : Caller → SendArguments → State → Queue → Outcome
send_to c a s q =
    if lacks_access Write c q.permissions then refuse EACCES s
    else if lacks_room (length a.body) q then put_off a.nowait EAGAIN s
    else Some (Sent q.next_serial, with_queue a.id (with_message c.pid a q) s)

abbrev pub outcome_of_send : Caller → SendArguments → State → Outcome
outcome_of_send c a s =
    if int_lt a.mtype (pos 1) || nat_lt MAX_BODY (length a.body) then refuse EINVAL s
    else on_queue a.id s (send_to c a s)

-- Receive

-- the message as it is given: what stands past the size is lost
abbrev pub cut_at : ℕ → Message → Message
cut_at size m = record m { bytes = take size m.bytes }

-- the queue without the selected message
abbrev pub without_message : ℕ → ReceiveArguments → Queue → Queue
without_message pid a q = record q { lrpid = pid; rtime = a.moment; messages = unselected a.mtype q.messages }

abbrev pub receive_found : Option Message → Caller → ReceiveArguments → State → Queue → Outcome
receive_found None c a s q = put_off a.nowait ENOMSG s
receive_found (Some m) c a s q =
    if is_too_long a m then refuse E2BIG s
    else Some (Received (cut_at a.size m), with_queue a.id (without_message c.pid a q) s)

abbrev pub receive_from : Caller → ReceiveArguments → State → Queue → Outcome
receive_from c a s q =
    if lacks_access Read c q.permissions then refuse EACCES s
    else receive_found (selected a.mtype q.messages) c a s q

abbrev pub outcome_of_receive : Caller → ReceiveArguments → State → Outcome
outcome_of_receive c a s = on_queue a.id s (receive_from c a s)

-- Stat

abbrev pub info_of : Queue → QueueInfo
info_of q = record {
  id = q.id;
  key = q.key;
  qnum = length q.messages;
  cbytes = total_bytes q.messages;
  qbytes = q.qbytes;
  lspid = q.lspid;
  lrpid = q.lrpid;
  stime = q.stime;
  rtime = q.rtime;
  ctime = q.ctime;
  permissions = q.permissions;
}

abbrev pub stat_of : Caller → State → Queue → Outcome
stat_of c s q = if lacks_access Read c q.permissions then refuse EACCES s else Some (Info (info_of q), s)

abbrev pub outcome_of_stat : Caller → ℕ → State → Outcome
outcome_of_stat c id s = on_queue id s (stat_of c s)

-- Set

-- only user 0 may raise qbytes
abbrev pub raises : Caller → ℕ → Queue → Bool
raises c qbytes q = nat_lt q.qbytes qbytes && not (c.uid == SUPERUSER)

-- the queue with these settings; messages already held stay
abbrev pub with_settings : SetArguments → Queue → Queue
with_settings a q = record q { permissions = changed a q.permissions; qbytes = a.qbytes; ctime = a.moment }

abbrev pub set_to : Caller → SetArguments → State → Queue → Outcome
set_to c a s q =
    if not (is_owner c q.permissions) then refuse EPERM s
    else if raises c a.qbytes q then refuse EPERM s
    else Some (Done, with_queue a.id (with_settings a q) s)

abbrev pub outcome_of_set : Caller → SetArguments → State → Outcome
outcome_of_set c a s = if nat_lt MAX_QBYTES a.qbytes then refuse EINVAL s else on_queue a.id s (set_to c a s)

-- Remove

abbrev pub remove_from : Caller → ℕ → State → Queue → Outcome
remove_from c id s q =
    if not (is_owner c q.permissions) then refuse EPERM s else Some (Done, without_queue id s)

abbrev pub outcome_of_remove : Caller → ℕ → State → Outcome
outcome_of_remove c id s = on_queue id s (remove_from c id s)

-- what a call of this caller is answered, and the system that it leaves
abbrev pub outcome : Caller → Call → State → Outcome
outcome c (Get a) s = outcome_of_get c a s
outcome c (Send a) s = outcome_of_send c a s
outcome c (Receive a) s = outcome_of_receive c a s
outcome c (Stat id) s = outcome_of_stat c id s
outcome c (Set a) s = outcome_of_set c a s
outcome c (Remove id) s = outcome_of_remove c id s

-- Memory

-- an answer that tells of something new on the system: the next id, or a message
abbrev pub AddsTo : State → Answer → Type 0
AddsTo s (Id id) = id ≡ s.next_id
AddsTo s (Sent serial) = ⊤
AddsTo s (Received m) = ⊥
AddsTo s (Info i) = ⊥
AddsTo s Done = ⊥
AddsTo s (Refused e) = ⊥

-- Counts

abbrev pub messages_of : Queue → ℕ
messages_of q = length q.messages
