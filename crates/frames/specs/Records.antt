-- What the relay tells, as bytes (docs/PROTOCOL.md, "Between the relay and the core").
use Rattle.std.specs.Prelude.{◌≡◌, ◌≢◌, ℕ, ◌+◌, ◌<◌, ◌≤◌, List, [], length, Option, Some, None, Result, Ok, Err, ⊤}
use Rattle.queue_model.specs.declared.caller.Caller.{Caller}
use Rattle.queue_model.specs.declared.call.Call.{Call}
use Rattle.queue_model.specs.declared.call.Call.TheVariants.{Get, Send, Receive, Stat, Set, Remove}
use Rattle.frames.specs.declared.frame.Frame.{Frame}
use Rattle.frames.specs.declared.head.Head.{Head}
use Rattle.frames.specs.declared.incoming.Incoming.{Incoming}
use Rattle.frames.specs.declared.incoming.Kind.{Kind}
use Rattle.frames.specs.declared.incoming.Kind.TheVariants.{Request, Gone, Tick, End}
use Rattle.frames.specs.declared.incoming.Operation.{Operation}
use Rattle.frames.specs.declared.incoming.Operation.TheVariants as operations
use Rattle.frames.specs.declared.incoming.Unread.{Unread}
use Rattle.frames.specs.declared.incoming.Unread.TheVariants.{Broken, Wrong, NoMemory}
use Rattle.frames.specs.declared.head.TheConstants.{HEAD_BYTES}
use Rattle.frames.specs.declared.reading.TheConstants.{MAX_RECORD}
use Rattle.frames.specs.Little.{four_at}
use Rattle.frames.specs.Frames.{FitsFour, FitsCaller, FitsFrame, FitsHead, frame_bytes, head_bytes}
use Rattle.frames.specs.Requests.{FitsOperation, frame_of}

-- ---- the bytes of what is told; moments are in none

abbrev pub kind_number : Kind → ℕ
kind_number (Request r) = 0
kind_number Gone = 1
kind_number Tick = 2
kind_number End = 3

-- what stands behind the caller
abbrev pub kind_bytes : Kind → List ℕ
kind_bytes (Request r) = frame_bytes (frame_of r.number r.operation)
kind_bytes Gone = []
kind_bytes Tick = []
kind_bytes End = []

abbrev pub head_of : Incoming → Head
head_of i = record {
  connection = i.connection;
  kind = kind_number i.kind;
  caller = i.caller;
  rest = kind_bytes i.kind;
}

abbrev pub spelled : Incoming → List ℕ
spelled i = head_bytes (head_of i)

-- ---- numbers that fit, and a body that is not too long

abbrev pub FitsKind : Kind → Type 0
FitsKind (Request r) = FitsFrame (frame_of r.number r.operation) × FitsOperation r.operation
FitsKind Gone = ⊤
FitsKind Tick = ⊤
FitsKind End = ⊤

pub record Fits (i : Incoming) : Type 0 where
  pub connection : FitsFour i.connection
  pub caller : FitsCaller i.caller
  pub kind : FitsKind i.kind

-- ---- the same at a moment, which becomes that of its call

abbrev pub call_at : ℕ → Call → Call
call_at moment (Get a) = Get (record a { moment = moment })
call_at moment (Send a) = Send (record a { moment = moment })
call_at moment (Receive a) = Receive (record a { moment = moment })
call_at moment (Stat id) = Stat id
call_at moment (Set a) = Set (record a { moment = moment })
call_at moment (Remove id) = Remove id

abbrev pub operation_at : ℕ → Operation → Operation
operation_at moment (operations.Call call) = operations.Call (call_at moment call)
operation_at moment (operations.Next after) = operations.Next after
operation_at moment (operations.Nth place) = operations.Nth place
operation_at moment operations.Save = operations.Save
operation_at moment operations.Info = operations.Info
operation_at moment (operations.Cancel number) = operations.Cancel number
operation_at moment (operations.Reserve id mtype nowait) = operations.Reserve id mtype nowait
operation_at moment (operations.Acknowledge id) = operations.Acknowledge id
operation_at moment (operations.Release id) = operations.Release id

abbrev pub kind_at : ℕ → Kind → Kind
kind_at moment (Request r) = Request (record r { operation = operation_at moment r.operation })
kind_at moment Gone = Gone
kind_at moment Tick = Tick
kind_at moment End = End

abbrev pub at_moment : ℕ → Incoming → Incoming
at_moment moment i = record i { kind = kind_at moment i.kind }

-- ---- what a reading comes to

-- it gave this, unless it lacked memory
abbrev pub ReadsAs : Incoming → Result Incoming Unread → Type 0
ReadsAs want (Ok incoming) = incoming ≡ want
ReadsAs want (Err Broken) = ⊥
ReadsAs want (Err (Wrong connection number)) = ⊥
ReadsAs want (Err (NoMemory connection number)) = ⊤

-- a record of the relay's, whatever a client's frame in it is
pub record IsRecord (h : Head) (bytes : List ℕ) : Type 0 where
  pub fits : FitsHead h
  -- there is such a kind
  pub kind : h.kind ≤ 3
  -- a request has at least a frame without fields
  pub request : h.kind ≡ 0 → 12 ≤ length h.rest
  -- the others end with their head
  pub others : h.kind ≢ 0 → h.rest ≡ []
  pub is : bytes ≡ head_bytes h

-- a record with a client's frame, of this connection and number
pub record IsFrameOf (connection number : ℕ) (bytes : List ℕ) : Type 0 where
  pub caller : Caller
  pub frame : Frame
  pub numbered : frame.number ≡ number
  pub is : bytes ≡ head_bytes (record {
    connection = connection;
    kind = 0;
    caller = caller;
    rest = frame_bytes frame;
  })

-- what a refusal says of the bytes
abbrev pub Says : List ℕ → Unread → Type 0
Says bytes Broken = (h : Head) → IsRecord h bytes → ⊥
Says bytes (Wrong connection number) = IsFrameOf connection number bytes
Says bytes (NoMemory connection number) = IsFrameOf connection number bytes

-- ---- the first record of a stream

-- the size that bytes begin with, with its own four bytes
abbrev pub size_at : List ℕ → ℕ
size_at bytes = 4 + four_at 0 bytes

-- the first record has this size, and is whole
pub record IsFirst (bytes : List ℕ) (size : ℕ) : Type 0 where
  pub counted : size ≡ size_at bytes
  pub low : HEAD_BYTES ≤ size
  pub high : size ≤ MAX_RECORD
  pub within : size ≤ length bytes

-- bytes of the first record have not come
pub record IsCut (bytes : List ℕ) : Type 0 where
  pub few : length bytes < MAX_RECORD
  pub more : 4 ≤ length bytes → length bytes < size_at bytes

-- no record has the size that these bytes begin with
pub record HasNoSize (bytes : List ℕ) : Type 0 where
  pub counted : 4 ≤ length bytes
  pub out : HEAD_BYTES ≤ size_at bytes → MAX_RECORD < size_at bytes

-- what is found at the front of a stream
abbrev pub Measures : List ℕ → Result (Option ℕ) Unread → Type 0
Measures bytes (Ok None) = IsCut bytes
Measures bytes (Ok (Some size)) = IsFirst bytes size
Measures bytes (Err unread) = (unread ≡ Broken) × HasNoSize bytes
