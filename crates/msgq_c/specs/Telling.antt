-- What C is told of an answer. docs/QUEUES.md, "Calls".
use Rattle.std.specs.Prelude.{ℕ, ◌≡◌, List, length, min, take, ⊤}
use Rattle.queue_model.specs.declared.answer.Answer.{Answer}
use Rattle.queue_model.specs.declared.answer.Answer.TheVariants as answers
use Rattle.queue_model.specs.declared.answer.QueueInfo.{QueueInfo}
use Rattle.queue_model.specs.declared.message.Message.{Message}
use Rattle.msgq_c.specs.Arguments.{given}
use Rattle.msgq_c.specs.declared.telling.Got.{Got}
use Rattle.msgq_c.specs.declared.telling.Info.{Info}

-- the id of a queue
abbrev pub TellsId : ℕ → Answer → Type 0
TellsId told (answers.Id id) = told ≡ id
TellsId told answer = ⊤

-- the serial of a message
abbrev pub TellsSerial : ℕ → Answer → Type 0
TellsSerial told (answers.Sent serial) = told ≡ serial
TellsSerial told answer = ⊤

-- all that Stat tells of a queue
pub record IsInfo (info : QueueInfo) (told : Info) : Type 0 where
  pub id : told.id ≡ info.id
  pub key : given told.has_key told.key ≡ info.key
  pub qnum : told.qnum ≡ info.qnum
  pub cbytes : told.cbytes ≡ info.cbytes
  pub qbytes : told.qbytes ≡ info.qbytes
  pub lspid : told.lspid ≡ info.lspid
  pub lrpid : told.lrpid ≡ info.lrpid
  pub stime : told.stime ≡ info.stime
  pub rtime : told.rtime ≡ info.rtime
  pub ctime : told.ctime ≡ info.ctime
  pub uid : told.uid ≡ info.permissions.uid
  pub gid : told.gid ≡ info.permissions.gid
  pub cuid : told.cuid ≡ info.permissions.cuid
  pub cgid : told.cgid ≡ info.permissions.cgid
  pub mode : told.mode ≡ info.permissions.mode

abbrev pub TellsInfo : Info → Answer → Type 0
TellsInfo told (answers.Info info) = IsInfo info told
TellsInfo told answer = ⊤

-- a message, and its bytes as far as there is room
pub record IsMessage (m : Message) (got : Got) (room : List ℕ) : Type 0 where
  pub serial : got.serial ≡ m.serial
  pub sender : got.sender ≡ m.sender
  pub mtype : got.mtype ≡ m.mtype
  pub length_is : got.length ≡ length m.bytes
  pub bytes : take (min (length room) got.length) room ≡ take (length room) m.bytes

abbrev pub TellsMessage : Got → (room : List ℕ) → Answer → Type 0
TellsMessage got room (answers.Received m) = IsMessage m got room
TellsMessage got room answer = ⊤

abbrev pub TellsNothing : Answer → Type 0
TellsNothing answer = ⊤
