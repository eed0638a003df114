-- The frame of each operation: a row each of docs/PROTOCOL.md, "Requests".
use Rattle.std.specs.Prelude.{ℕ, ◌+◌, ◌≤◌, Bool, if◌then◌else◌, is_some, IfSome, unwrap_or, Option, List, [], ◌++◌, length, ℤ, FitsSigned, ⊤}
use Rattle.std.specs.Int.{w64, cast_unsigned}
use Rattle.numbers.specs.declared.limits.TheConstants.{MAX_BODY}
use Rattle.queue_model.specs.declared.call.SetArguments.{SetArguments}
use Rattle.queue_model.specs.declared.call.Call.{Call}
use Rattle.queue_model.specs.declared.call.Call.TheVariants.{Get, Send, Receive, Stat, Set, Remove}
use Rattle.frames.specs.declared.frame.Frame.{Frame}
use Rattle.frames.specs.declared.incoming.Operation.{Operation}
use Rattle.frames.specs.declared.incoming.Operation.TheVariants as operations
use Rattle.frames.specs.Little.{four, eight}
use Rattle.frames.specs.Frames.{FitsFour}

-- what a flag adds to the flags
abbrev pub flag : Bool → ℕ → ℕ
flag is_set number = if is_set then number else 0

-- a number, 0 where there is none
abbrev pub or_zero : Option ℕ → ℕ
or_zero given = unwrap_or given 0

-- the number of a type, by two's complement
abbrev pub type_number : ℤ → ℕ
type_number mtype = cast_unsigned w64 mtype

-- a row: operation, flags, mode, id, and the fields
abbrev row : ℕ → ℕ → ℕ → ℕ → ℕ → List ℕ → Frame
row number code flags mode id fields = record {
  number = number;
  code = code;
  flags = flags;
  mode = mode;
  id = id;
  fields = fields;
}

abbrev pub call_frame : ℕ → Call → Frame
call_frame n (Get a) =
    row n 1 (flag a.create 4 + flag a.excl 8 + flag (is_some a.key) 16) a.mode 0 (four (or_zero a.key))
call_frame n (Send a) = row n 2 (flag a.nowait 1) 0 a.id (eight (type_number a.mtype) ++ a.body)
call_frame n (Receive a) =
    row n 3 (flag a.nowait 1 + flag a.noerror 2) 0 a.id (eight (type_number a.mtype) ++ four a.size)
call_frame n (Stat id) = row n 4 0 0 id []
call_frame n (Set a) =
    row n 5 (flag (is_some a.uid) 32 + flag (is_some a.gid) 64 + flag (is_some a.mode) 128)
    (or_zero a.mode) a.id (four a.qbytes ++ (four (or_zero a.uid) ++ four (or_zero a.gid)))
call_frame n (Remove id) = row n 6 0 0 id []

-- the frame of a number that asks for this
abbrev pub frame_of : ℕ → Operation → Frame
frame_of n (operations.Call call) = call_frame n call
frame_of n (operations.Next after) = row n 7 0 0 after []
frame_of n (operations.Nth place) = row n 8 0 0 place []
frame_of n operations.Save = row n 9 0 0 0 []
frame_of n operations.Info = row n 10 0 0 0 []
frame_of n (operations.Cancel number) = row n 11 0 0 number []
frame_of n (operations.Reserve id mtype nowait) =
    row n 12 (flag nowait 1) 0 id (eight (type_number mtype))
frame_of n (operations.Acknowledge id) = row n 13 0 0 id []
frame_of n (operations.Release id) = row n 14 0 0 id []

-- ---- numbers that fit the fields of an operation, as those of each value of the program do,
-- and a body that is no longer than one may be

abbrev pub FitsType : ℤ → Type 0
FitsType mtype = FitsSigned w64 mtype

pub record FitsSet (a : SetArguments) : Type 0 where
  pub qbytes : FitsFour a.qbytes
  pub uid : IfSome a.uid FitsFour
  pub gid : IfSome a.gid FitsFour

abbrev pub FitsCall : Call → Type 0
FitsCall (Get a) = IfSome a.key FitsFour
FitsCall (Send a) = FitsType a.mtype × (length a.body ≤ MAX_BODY)
FitsCall (Receive a) = FitsType a.mtype × FitsFour a.size
FitsCall (Stat id) = ⊤
FitsCall (Set a) = FitsSet a
FitsCall (Remove id) = ⊤

abbrev pub FitsOperation : Operation → Type 0
FitsOperation (operations.Call call) = FitsCall call
FitsOperation (operations.Next after) = ⊤
FitsOperation (operations.Nth place) = ⊤
FitsOperation operations.Save = ⊤
FitsOperation operations.Info = ⊤
FitsOperation (operations.Cancel number) = ⊤
FitsOperation (operations.Reserve id mtype nowait) = FitsType mtype
FitsOperation (operations.Acknowledge id) = ⊤
FitsOperation (operations.Release id) = ⊤
