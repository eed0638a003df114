-- Numbers that fit the fields of records, as those of each system of the program do, whose types say so.
-- Ids, serials and what has a limit of its own fit already in each lawful system.
-- docs/FORMAT.md, "Records".
use Rattle.std.specs.Prelude.{◌≡◌, IfSome, Some, FitsSigned, ⊤}
use Rattle.std.specs.Int.{w64}
use Rattle.std.specs.List.{All}
use Rattle.queue_model.specs.declared.answer.Answer.{Answer}
use Rattle.queue_model.specs.declared.call.Call.{Call}
use Rattle.queue_model.specs.declared.call.Call.TheVariants.{Get, Send, Receive, Stat, Set, Remove}
use Rattle.queue_model.specs.declared.call.GetArguments.{GetArguments}
use Rattle.queue_model.specs.declared.call.SetArguments.{SetArguments}
use Rattle.queue_model.specs.declared.call.SendArguments.{SendArguments}
use Rattle.queue_model.specs.declared.caller.Caller.{Caller}
use Rattle.queue_model.specs.declared.message.Message.{Message}
use Rattle.queue_model.specs.declared.queue.Queue.{Queue}
use Rattle.queue_model.specs.Rules.{outcome}
use Rattle.queue_model.specs.State.{State}
use Rattle.queue_records.specs.Records.{FitsFour, FitsEight}

-- pids have four bytes, types are signed and have eight
pub record HasFittingMessage (m : Message) : Type 0 where
  pub sender : FitsFour m.sender
  pub mtype : FitsSigned w64 m.mtype

-- keys, pids, users and groups have four bytes, moments eight
pub record HasFittingQueue (q : Queue) : Type 0 where
  pub key : IfSome q.key FitsFour
  pub lspid : FitsFour q.lspid
  pub lrpid : FitsFour q.lrpid
  pub stime : FitsEight q.stime
  pub rtime : FitsEight q.rtime
  pub ctime : FitsEight q.ctime
  pub uid : FitsFour q.permissions.uid
  pub gid : FitsFour q.permissions.gid
  pub cuid : FitsFour q.permissions.cuid
  pub cgid : FitsFour q.permissions.cgid
  pub messages : All HasFittingMessage q.messages

-- the numbers of all queues fit
abbrev pub HasFittingNumbers : State → Type 0
HasFittingNumbers s = All HasFittingQueue s.queues

-- ---- what calls bring in

pub record HasFittingCaller (c : Caller) : Type 0 where
  pub pid : FitsFour c.pid
  pub uid : FitsFour c.uid
  pub gid : FitsFour c.gid

pub record HasFittingGet (a : GetArguments) : Type 0 where
  pub key : IfSome a.key FitsFour
  pub moment : FitsEight a.moment

pub record HasFittingSend (a : SendArguments) : Type 0 where
  pub mtype : FitsSigned w64 a.mtype
  pub moment : FitsEight a.moment

pub record HasFittingSet (a : SetArguments) : Type 0 where
  pub uid : IfSome a.uid FitsFour
  pub gid : IfSome a.gid FitsFour
  pub moment : FitsEight a.moment

-- the numbers of a call that a system keeps
abbrev pub HasFittingCall : Call → Type 0
HasFittingCall (Get a) = HasFittingGet a
HasFittingCall (Send a) = HasFittingSend a
HasFittingCall (Receive a) = FitsEight a.moment
HasFittingCall (Stat id) = ⊤
HasFittingCall (Set a) = HasFittingSet a
HasFittingCall (Remove id) = ⊤

-- a call whose numbers fit keeps numbers that fit
abbrev pub KeepsFittingNumbers : Type 0
KeepsFittingNumbers = (c : Caller) (call : Call) (a : Answer) (s t : State) →
    HasFittingCaller c → HasFittingCall call → outcome c call s ≡ Some (a, t) →
    HasFittingNumbers s → HasFittingNumbers t
