-- What is read from bytes, and the tests that they have to pass.
use Rattle.std.specs.Prelude.{◌≡◌, ℕ, ◌+◌, ◌-◌, ◌==◌, nat_le, Bool, true, not, is_some, ◌&&◌, if◌then◌else◌, ℤ, List, length, drop, slice_index, bit_and, Option, Some, None, Result, Ok, Err}
use Rattle.std.specs.Int.{w64, cast_signed}
use Rattle.numbers.specs.declared.limits.TheConstants.{MAX_BODY}
use Rattle.queue_model.specs.declared.call.GetArguments.{GetArguments}
use Rattle.queue_model.specs.declared.call.SendArguments.{SendArguments}
use Rattle.queue_model.specs.declared.call.ReceiveArguments.{ReceiveArguments}
use Rattle.queue_model.specs.declared.call.SetArguments.{SetArguments}
use Rattle.queue_model.specs.declared.call.Call.TheVariants.{Get, Send, Receive, Stat, Set, Remove}
use Rattle.frames.specs.declared.frame.Frame.{Frame}
use Rattle.frames.specs.declared.head.Head.{Head}
use Rattle.frames.specs.declared.incoming.Incoming.{Incoming}
use Rattle.frames.specs.declared.incoming.Kind.{Kind}
use Rattle.frames.specs.declared.incoming.Kind.TheVariants as kinds
use Rattle.frames.specs.declared.incoming.Operation.{Operation}
use Rattle.frames.specs.declared.incoming.Operation.TheVariants as operations
use Rattle.frames.specs.declared.incoming.Unread.{Unread}
use Rattle.frames.specs.declared.incoming.Unread.TheVariants.{Broken, Wrong, NoMemory}
use Rattle.frames.specs.Little.{two_at, four_at, eight_at}
use Rattle.frames.specs.Requests.{flag, or_zero}

-- a value where the tests pass
abbrev pub kept : {X : Type 0} → Bool → X → Option X
kept passes value = if passes then Some value else None

-- ---- parts

abbrev pub frame_at : List ℕ → Frame
frame_at bytes = record {
  number = four_at 0 bytes;
  code = slice_index bytes 4;
  flags = slice_index bytes 5;
  mode = two_at 6 bytes;
  id = four_at 8 bytes;
  fields = drop 12 bytes;
}

abbrev pub head_at : List ℕ → Head
head_at bytes = record {
  connection = four_at 4 bytes;
  kind = four_at 8 bytes;
  caller = record { pid = four_at 12 bytes; uid = four_at 16 bytes; gid = four_at 20 bytes };
  rest = drop 24 bytes;
}

abbrev pub is_head : List ℕ → Bool
is_head bytes = nat_le 24 (length bytes) && four_at 0 bytes == length bytes - 4

-- ---- operations

-- whether flags have this one
abbrev pub has : ℕ → ℕ → Bool
has number flags = not (bit_and flags number == 0)

-- a number where it is given
abbrev pub given : Bool → ℕ → Option ℕ
given is_given number = if is_given then Some number else None

-- the type of a number, by two's complement
abbrev pub type_of : ℕ → ℤ
type_of number = cast_signed w64 number

abbrev pub get_of : ℕ → Frame → GetArguments
get_of moment f = record {
  key = given (has 16 f.flags) (four_at 0 f.fields);
  create = has 4 f.flags;
  excl = has 8 f.flags;
  mode = f.mode;
  moment = moment;
}

abbrev pub get_flags : GetArguments → ℕ
get_flags a = flag a.create 4 + flag a.excl 8 + flag (is_some a.key) 16

abbrev pub is_get : Frame → Bool
is_get f =
    length f.fields == 4
    && (f.flags == get_flags (get_of 0 f)
    && (f.id == 0 && four_at 0 f.fields == or_zero (get_of 0 f).key))

abbrev pub send_of : ℕ → Frame → SendArguments
send_of moment f = record {
  id = f.id;
  mtype = type_of (eight_at 0 f.fields);
  body = drop 8 f.fields;
  nowait = has 1 f.flags;
  moment = moment;
}

abbrev pub is_send : Frame → Bool
is_send f =
    nat_le 8 (length f.fields)
    && (nat_le (length f.fields) (8 + MAX_BODY)
    && (f.flags == flag (has 1 f.flags) 1 && f.mode == 0))

abbrev pub receive_of : ℕ → Frame → ReceiveArguments
receive_of moment f = record {
  id = f.id;
  size = four_at 8 f.fields;
  mtype = type_of (eight_at 0 f.fields);
  nowait = has 1 f.flags;
  noerror = has 2 f.flags;
  moment = moment;
}

abbrev pub is_receive : Frame → Bool
is_receive f =
    length f.fields == 12
    && (f.flags == flag (has 1 f.flags) 1 + flag (has 2 f.flags) 2 && f.mode == 0)

abbrev pub set_of : ℕ → Frame → SetArguments
set_of moment f = record {
  id = f.id;
  qbytes = four_at 0 f.fields;
  uid = given (has 32 f.flags) (four_at 4 f.fields);
  gid = given (has 64 f.flags) (four_at 8 f.fields);
  mode = given (has 128 f.flags) f.mode;
  moment = moment;
}

abbrev pub set_flags : SetArguments → ℕ
set_flags a = flag (is_some a.uid) 32 + flag (is_some a.gid) 64 + flag (is_some a.mode) 128

abbrev pub is_set : Frame → Bool
is_set f =
    length f.fields == 12
    && (f.flags == set_flags (set_of 0 f)
    && (four_at 4 f.fields == or_zero (set_of 0 f).uid
    && (four_at 8 f.fields == or_zero (set_of 0 f).gid && f.mode == or_zero (set_of 0 f).mode)))

abbrev pub is_reserve : Frame → Bool
is_reserve f =
    length f.fields == 8 && (f.flags == flag (has 1 f.flags) 1 && f.mode == 0)

abbrev pub reserve_of : Frame → Operation
reserve_of f = operations.Reserve f.id (type_of (eight_at 0 f.fields)) (has 1 f.flags)

abbrev pub is_plain : Frame → Bool
is_plain f = length f.fields == 0 && (f.flags == 0 && f.mode == 0)

-- an operation of a number alone, or of nothing
abbrev pub plain_of : ℕ → ℕ → Option Operation
plain_of code id =
    if code == 4 then Some (operations.Call (Stat id))
    else if code == 6 then Some (operations.Call (Remove id))
    else if code == 7 then Some (operations.Next id)
    else if code == 8 then Some (operations.Nth id)
    else if code == 9 then kept (id == 0) operations.Save
    else if code == 10 then kept (id == 0) operations.Info
    else if code == 11 then Some (operations.Cancel id)
    else if code == 13 then Some (operations.Acknowledge id)
    else if code == 14 then Some (operations.Release id)
    else None

-- an operation that takes no memory
abbrev pub small_of : ℕ → Frame → Option Operation
small_of moment f =
    if f.code == 1 then kept (is_get f) (operations.Call (Get (get_of moment f)))
    else if f.code == 3 then kept (is_receive f) (operations.Call (Receive (receive_of moment f)))
    else if f.code == 5 then kept (is_set f) (operations.Call (Set (set_of moment f)))
    else if f.code == 12 then kept (is_reserve f) (reserve_of f)
    else if is_plain f then plain_of f.code f.id
    else None

abbrev pub operation_of : ℕ → Frame → Option Operation
operation_of moment f =
    if f.code == 2 then kept (is_send f) (operations.Call (Send (send_of moment f)))
    else small_of moment f

-- ---- records

abbrev pub with_operation : ℕ → Frame → Option Operation → Result Kind Unread
with_operation connection f None = Err (Wrong connection f.number)
with_operation connection f (Some operation) =
    Ok (kinds.Request (record { number = f.number; operation = operation }))

-- whether a client's frame stands behind a head
abbrev pub is_asked : Head → Bool
is_asked h = nat_le 12 (length h.rest)

abbrev pub request_of : ℕ → Head → Result Kind Unread
request_of moment h =
    if is_asked h
    then with_operation h.connection (frame_at h.rest) (operation_of moment (frame_at h.rest))
    else Err Broken

abbrev pub bare_of : ℕ → Result Kind Unread
bare_of kind =
    if kind == 1 then Ok kinds.Gone
    else if kind == 2 then Ok kinds.Tick
    else if kind == 3 then Ok kinds.End
    else Err Broken

abbrev pub kind_of : ℕ → Head → Result Kind Unread
kind_of moment h =
    if h.kind == 0 then request_of moment h
    else if length h.rest == 0 then bare_of h.kind
    else Err Broken

abbrev pub with_kind : Head → Result Kind Unread → Result Incoming Unread
with_kind h (Ok kind) = Ok (record { connection = h.connection; caller = h.caller; kind = kind })
with_kind h (Err unread) = Err unread

-- what a record comes to where there is memory
abbrev pub incoming_of : ℕ → List ℕ → Result Incoming Unread
incoming_of moment bytes =
    if is_head bytes then with_kind (head_at bytes) (kind_of moment (head_at bytes)) else Err Broken

-- a client's frame of this connection and number stands behind a head
pub record IsAsked (h : Head) (connection number : ℕ) : Type 0 where
  pub kind : h.kind ≡ 0
  pub long : is_asked h ≡ true
  pub connection_is : connection ≡ h.connection
  pub number_is : number ≡ four_at 0 h.rest

-- the same of a record
pub record IsAskedIn (bytes : List ℕ) (connection number : ℕ) : Type 0 where
  pub head : is_head bytes ≡ true
  pub asked : IsAsked (head_at bytes) connection number

-- this came out, or memory lacked for the frame that was asked
abbrev pub Gives : {X : Type 0} → (ℕ → ℕ → Type 0) → Result X Unread → Result X Unread → Type 0
Gives asked want (Ok x) = want ≡ Ok x
Gives asked want (Err Broken) = want ≡ Err Broken
Gives asked want (Err (Wrong connection number)) = want ≡ Err (Wrong connection number)
Gives asked want (Err (NoMemory connection number)) = asked connection number
