-- What a session does for the lines of a script, one after the other, whatever its device gives.
-- docs/SCRIPTS.md, "Runs".
use Rattle.std.specs.Prelude.{ℕ, ◌≡◌, ◌⊎◌, ◌+◌, nat_le, Bool, true, false, ◌&&◌, not, List, [], ◌∷◌, Result, Ok, Err}
use Rattle.numbers.specs.declared.faults.TheConstants.{FAILED, NO_MEMORY, NO_ROOM, SESSION_FULL}
use Rattle.interleavings.specs.LoneKernelWords.{Answer, Call, Caller}
use Rattle.interleavings.specs.interleaving_core.declared.kernel.TheConstants.{MAX_DECIDED}
use Rattle.session.specs.Making.{SessionState}
use Rattle.session.specs.Session.{CallsAs, Stops}
use Rattle.session.specs.declared.unanswered.Unanswered.{Unanswered}
use Rattle.session.specs.declared.unanswered.Unanswered.TheVariants as why
use Rattle.msgq_cli.specs.Scripts.{caller_of}
use Rattle.msgq_cli.specs.declared.command.Command.{Command}
use Rattle.msgq_cli.specs.declared.command.Command.TheVariants as command
use Rattle.msgq_cli.specs.declared.line.Line.{Line}
use Rattle.msgq_cli.specs.declared.line.SeatIds.{SeatIds}
use Rattle.msgq_cli.specs.declared.reply.Reply.{Reply}
use Rattle.msgq_cli.specs.declared.reply.Reply.TheVariants.{Answered, Stopped, Failed}

-- ---- a call is made

-- it is put off
abbrev pub is_put_off : Result Answer Unanswered → Bool
is_put_off (Ok answer) = false
is_put_off (Err why.Waits) = true
is_put_off (Err why.NoRoom) = false
is_put_off (Err why.NoMemory) = false
is_put_off (Err why.Failed) = false

-- what a line is replied whose call came to this: its answer, or the number of a fault. One that is put off in a
-- stopped system is made of a file that holds no system
abbrev pub reply_to : Result Answer Unanswered → Reply
reply_to (Ok answer) = Answered answer
reply_to (Err why.Waits) = Failed FAILED
reply_to (Err why.NoRoom) = Failed NO_ROOM
reply_to (Err why.NoMemory) = Failed NO_MEMORY
reply_to (Err why.Failed) = Failed FAILED

-- it came to this at once
pub record IsMadeAtOnce (c : Caller) (call : Call) (result : Result Answer Unanswered) (old new : SessionState)
    : Type 0 where
  pub rest : Call
  pub made : CallsAs c call rest result old new
  pub over : is_put_off result ≡ false

-- it would have waited; the system was stopped, and it was made again
pub record IsMadeAgain (c : Caller) (call : Call) (result : Result Answer Unanswered) (old new : SessionState)
    : Type 0 where
  pub left : Call
  pub waiting : SessionState
  pub waits : CallsAs c call left (Err why.Waits) old waiting
  pub stopped : SessionState
  pub stops : Stops waiting stopped
  pub rest : Call
  pub made : CallsAs c left rest result stopped new

abbrev pub Asks : Caller → Call → Result Answer Unanswered → (old new : SessionState) → Type 0
Asks c call result old new = IsMadeAtOnce c call result old new ⊎ IsMadeAgain c call result old new

-- ---- a line is taken

-- the calls that are decided where a line is replied this
abbrev pub decided_by : Reply → ℕ
decided_by (Answered answer) = 1
decided_by Stopped = 0
decided_by (Failed fault) = 0

-- so many calls of a run were answered that it may have no more; that its file has failed is told first
abbrev pub is_full : ℕ → SessionState → Bool
is_full answered k = nat_le MAX_DECIDED answered && not k.failed

-- a call is made, and replied what it came to
pub record IsReplied (c : Caller) (call : Call) (reply : Reply) (old new : SessionState) : Type 0 where
  pub result : Result Answer Unanswered
  pub asks : Asks c call result old new
  pub told : reply ≡ reply_to result

-- there is no memory for it
pub record IsUncopied (reply : Reply) (old new : SessionState) : Type 0 where
  pub told : reply ≡ Failed NO_MEMORY
  pub same : new ≡ old

-- in a full run a call is replied so, and nothing else is done
abbrev pub TakesCallIf : (full : Bool) → Caller → Call → Reply → (old new : SessionState) → Type 0
TakesCallIf true c call reply old new = (reply ≡ Failed SESSION_FULL) × (new ≡ old)
TakesCallIf false c call reply old new = IsReplied c call reply old new ⊎ IsUncopied reply old new

-- behind so many calls that were answered
abbrev pub TakesCommand : (answered : ℕ) → Caller → Command → Reply → (old new : SessionState) → Type 0
TakesCommand answered c (command.Call call) reply old new = TakesCallIf (is_full answered old) c call reply old new
TakesCommand answered c command.Stop reply old new = (reply ≡ Stopped) × Stops old new

-- lines, one after the other, each of them by the caller of its seat
abbrev pub TakesLines : List SeatIds → (answered : ℕ) → List Line → List Reply → (old new : SessionState) → Type 0
TakesLines ids answered [] [] old new = new ≡ old
TakesLines ids answered (line ∷ lines) (reply ∷ replies) old new =
    (next : SessionState)
    × TakesCommand answered (caller_of line.seat ids) line.command reply old next
    × TakesLines ids (answered + decided_by reply) lines replies next new
TakesLines ids answered lines replies old new = ⊥
