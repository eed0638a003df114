-- What the records that a Receive was told say of the system.
-- docs/STEPS.md, "What a call reads".
use Rattle.std.specs.Prelude.{◌≡◌, ℕ, ℤ, pos, ◌≤ℤ◌, false, take, Option, Some, None, IsSome, ⊤}
use Rattle.std.specs.List.{Contains, find}
use Rattle.queue_model.specs.Access.{lacks_access}
use Rattle.queue_model.specs.declared.call.Call.TheVariants.{Receive}
use Rattle.queue_model.specs.declared.call.ReceiveArguments.{ReceiveArguments}
use Rattle.queue_model.specs.declared.caller.Caller.{Caller}
use Rattle.queue_model.specs.declared.message.Message.{Message}
use Rattle.queue_model.specs.declared.permissions.Access.TheVariants.{Read}
use Rattle.queue_model.specs.Rules.{outcome, refuse, without_message}
use Rattle.queue_model.specs.Selection.{is_too_long, selected}
use Rattle.queue_model.specs.State.{State}
use Rattle.queue_records.specs.declared.queue_entry.QueueEntry.{QueueEntry}
use Rattle.queue_records.specs.declared.type_entry.TypeEntry.{TypeEntry}
use Rattle.type_chains.specs.Entries.{message_entry, queue_entry, type_entry}
use Rattle.type_chains.specs.Lists.{is_of_type, types}
use Rattle.xsi_inquiry.specs.Deciding.{waits_or_ends}
use Rattle.xsi_inquiry.specs.Rooms.{HasRoom, Roomful}
use Rattle.xsi_inquiry.specs.Seeking.{IsEntryOf, Tells, sought_next}
use Rattle.xsi_receive.specs.declared.head.MessageHead.{MessageHead}
use Rattle.xsi_receive.specs.declared.removal.Removal.{Removal}
use Rattle.xsi_receive.specs.declared.stage.Stage.{Stage}
use Rattle.xsi_receive.specs.declared.stage.Stage.TheVariants.{Seeking, Refused, PutOff, AtType, AtMessage, AtTypeOf, Taken}
use Rattle.xsi_receive.specs.Heads.{head_of}
use Rattle.xsi_receive.specs.Removing.{left_by}

abbrev pub HasRoomFor : ReceiveArguments → Roomful → Type 0
HasRoomFor a room = HasRoom (Receive a) room

-- the queue may be read, and the first message of a type is taken, if there is one
pub record SelectsType (c : Caller) (a : ReceiveArguments) (e : QueueEntry) (mtype : ℤ) (s : State) : Type 0 where
  pub its : IsEntryOf a.id e s
  pub may_read : lacks_access Read c its.queue.permissions ≡ false
  pub by_type : selected a.mtype its.queue.messages ≡ find (is_of_type mtype) its.queue.messages
  pub typed : pos 1 ≤ℤ mtype
  -- a type that the Queue names has a message
  pub stands : a.mtype ≤ℤ pos 0 → Contains (types its.queue.messages) mtype

-- the queue may be read, and this message is taken
pub record SelectsMessage (c : Caller) (a : ReceiveArguments) (e : QueueEntry) (s : State) : Type 0 where
  pub its : IsEntryOf a.id e s
  pub may_read : lacks_access Read c its.queue.permissions ≡ false
  pub message : Message
  pub is_selected : selected a.mtype its.queue.messages ≡ Some message

-- a Type that was read is that of the message that is taken
abbrev pub IsItsType : Option TypeEntry → TypeEntry → Type 0
IsItsType None its = ⊤
IsItsType (Some t) its = t ≡ its

-- its serial is known
pub record KnowsSerial (c : Caller) (a : ReceiveArguments) (e : QueueEntry) (t : Option TypeEntry) (serial : ℕ)
    (s : State) : Type 0 where
  pub selects : SelectsMessage c a e s
  pub is_its : serial ≡ selects.message.serial
  pub mtype : IsItsType t (type_entry selects.its.queue selects.message.mtype)

-- it is known, may be given, and its bytes are in the room
pub record KnowsHead (c : Caller) (a : ReceiveArguments) (e : QueueEntry) (m : MessageHead) (t : Option TypeEntry)
    (room : Roomful) (s : State) : Type 0 where
  pub selects : SelectsMessage c a e s
  pub entry : m ≡ head_of (message_entry selects.its.queue selects.message)
  pub mtype : IsItsType t (type_entry selects.its.queue selects.message.mtype)
  pub fits : is_too_long a selects.message ≡ false
  pub bytes : room.bytes ≡ take a.size selects.message.bytes

-- so is what becomes of its queue
pub record KnowsRemoval (c : Caller) (a : ReceiveArguments) (r : Removal) (room : Roomful) (s : State) : Type 0 where
  pub before : QueueEntry
  pub known : KnowsHead c a before r.message None room s
  pub queue : r.queue ≡ queue_entry (without_message c.pid a known.selects.its.queue)
  pub type_left : r.type_left
      ≡ left_by r.message.next_of_type (type_entry known.selects.its.queue known.selects.message.mtype)

-- what it was told says this of s
abbrev pub KnowsAt : Caller → ReceiveArguments → Stage → Roomful → State → Type 0
KnowsAt c a (Seeking sought) room s = HasRoomFor a room × Tells a.id sought s × IsSome (sought_next a.id sought)
KnowsAt c a (Refused errno) room s = outcome c (Receive a) s ≡ refuse errno s
KnowsAt c a PutOff room s = outcome c (Receive a) s ≡ waits_or_ends s
KnowsAt c a (AtType e mtype) room s = HasRoomFor a room × SelectsType c a e mtype s
KnowsAt c a (AtMessage e t serial) room s = HasRoomFor a room × KnowsSerial c a e t serial s
KnowsAt c a (AtTypeOf e m) room s = KnowsHead c a e m None room s × (m.next_of_type ≡ None)
KnowsAt c a (Taken r) room s = KnowsRemoval c a r room s

-- once the message is read: it is taken, or its Type is needed that was not read yet
abbrev pub IsStage : Option TypeEntry → Stage → Type 0
IsStage t (Taken r) = ⊤
IsStage t (AtTypeOf e m) = t ≡ None
IsStage t (Seeking sought) = ⊥
IsStage t (Refused errno) = ⊥
IsStage t PutOff = ⊥
IsStage t (AtType e mtype) = ⊥
IsStage t (AtMessage e f serial) = ⊥
