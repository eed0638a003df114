-- A script that is replayed by a schedule: how its kernel is opened, what is printed, how it ends. docs/SCRIPTS.md,
-- "Runs" and "Schedules".
use Rattle.std.specs.Prelude.{ℕ, zero, suc, ◌≡◌, ◌↔◌, ◌⊎◌, ◌≤◌, Bool, true, false, List, [], ◌∷◌, ◌++◌, ◌&&◌, not, IsTrue, Option, Some, None, if◌then◌else◌, length}
use Rattle.std.specs.Bool.{then_some}
use Rattle.std.specs.List.{list_any}
use Rattle.numbers.specs.declared.faults.TheConstants.{BUSY, DEVICE, FAILED, NO_MEMORY}
use Rattle.queue_model.specs.declared.caller.Caller.{Caller}
use Rattle.bucket_page.specs.Pseudokeys.{sha_key}
use Rattle.bucket_page.specs.declared.pseudokey.ShaKey.{ShaKey}
use Rattle.interleavings.specs.interleaving_core.Beginning.{IsOpened}
use Rattle.interleavings.specs.interleaving_core.Closing.{IsBusy, IsFlushedTo}
use Rattle.interleavings.specs.interleaving_core.Kernel.{KernelState, call_at}
use Rattle.interleavings.specs.Laws.{RefinesFile}
use Rattle.msgq_cli.specs.Answers.{reply_text}
use Rattle.msgq_cli.specs.Outputs.{OutputState, Prints}
use Rattle.msgq_cli.specs.Runs.{is_fault}
use Rattle.msgq_cli.specs.Scripts.{Parts, caller_of, greatest_seat}
use Rattle.msgq_cli.specs.Refusals.{IsFaultAlone}
use Rattle.msgq_cli.specs.declared.ending.Ending.{Ending}
use Rattle.msgq_cli.specs.declared.ending.Ending.TheVariants.{Done, Faulty, WrongWord}
use Rattle.msgq_cli.specs.declared.line.Line.{Line}
use Rattle.msgq_cli.specs.declared.line.SeatIds.{SeatIds}
use Rattle.msgq_cli.specs.declared.reply.Reply.{Reply}
use Rattle.schedules.specs.declared.event.Event.{Event}
use Rattle.schedules.specs.declared.schedule.ScheduleError.{ScheduleError}
use Rattle.schedules.specs.declared.schedule.ScheduleError.TheVariants as errors
use Rattle.replays.specs.Events.{PlaysAll, ReplayState}
use Rattle.replays.specs.Places.{start}
use Rattle.replays.specs.PlainLists.{AnswersAsPlainLists, IsLeftWell}
use Rattle.replays.specs.Rounds.{MakesRounds, is_over}

-- ---- the beginning

-- who sits at so many seats
abbrev pub callers_of : List SeatIds → ℕ → List Caller
callers_of ids zero = []
callers_of ids (suc n) = callers_of ids n ++ caller_of (suc n) ids ∷ []

-- the file of a device is opened for the seats of a script
pub record IsOpenedForSeats (script : Parts) (content : List (List ℕ)) (honest : Bool) (k : KernelState ShaKey)
    : Type 0 where
  pub frames : ℕ
  -- there is a frame for each page
  pub enough : length content ≤ frames
  pub with_keys : ShaKey
  pub opened : IsOpened with_keys content honest (callers_of script.ids (greatest_seat script.lines)) frames k
  -- there are as many seats as the script has
  pub many : length k.locks ≡ greatest_seat script.lines

-- and no line was begun
pub record IsOpenedFor (script : Parts) (content : List (List ℕ)) (honest : Bool) (s : ReplayState) : Type 0 where
  pub kernel : IsOpenedForSeats script content honest s.kernel
  -- an honest device has the file of a system, which the kernel refines
  pub led : IsTrue honest → RefinesFile sha_key content s.kernel
  pub script_is : s.script ≡ start script.lines (greatest_seat script.lines)

-- ---- what is printed

-- what is printed of one line
abbrev pub text_to : Line → Option Reply → List ℕ
text_to line None = []
text_to line (Some reply) = reply_text line.number reply

-- the replies that there are, in the order of the script
abbrev pub replies_text : List Line → List (Option Reply) → List ℕ
replies_text (line ∷ lines) (Some reply ∷ replies) = reply_text line.number reply ++ replies_text lines replies
replies_text (line ∷ lines) (None ∷ replies) = replies_text lines replies
replies_text lines replies = []

-- a line was replied a fault
abbrev pub is_fault_told : Option Reply → Bool
is_fault_told None = false
is_fault_told (Some reply) = is_fault reply

abbrev pub ending_by : List (Option Reply) → Ending
ending_by replies = if list_any is_fault_told replies then Faulty else Done

-- the replies that there are were printed, and nothing else
pub record TellsReplies (s : ReplayState) (old new : OutputState) (ending : Ending) : Type 0 where
  pub prints : Prints old new (replies_text s.script.lines s.script.replies)
  pub ends : ending ≡ ending_by s.script.replies

-- ---- the end

-- what is told where a kernel is closed: why it was not closed well, if it was not
pub record ClosesWith {K : Type 0} (k : KernelState K) (fault : Option ℕ) : Type 0 where
  pub failed : (fault ≡ Some FAILED) ↔ (k.failed ≡ true)
  pub busy : (fault ≡ Some BUSY) ↔ IsBusy k
  pub other : (number : ℕ) → fault ≡ Some number → (number ≡ DEVICE) ⊎ (number ≡ FAILED) ⊎ (number ≡ BUSY)

-- where a line is left that is `BUSY`; else the kernel is closed. Where the output has refused a write it is let go,
-- and a failure of a step alone is told
abbrev pub MayEndWith : {K : Type 0} → (over refused : Bool) → KernelState K → Option ℕ → Type 0
MayEndWith false refused k fault = fault ≡ Some BUSY
MayEndWith true false k fault = ClosesWith k fault
MayEndWith true true k fault = fault ≡ then_some k.failed FAILED

-- pages are written at the end where no line is left, no step has failed, and the output has refused nothing
abbrev pub may_write : {K : Type 0} → (over refused : Bool) → KernelState K → Bool
may_write over refused k = over && not refused && not k.failed

-- a kernel that was closed with no fault, and the pages that are left on its device
pub record IsClosedWell {K : Type 0} (k : KernelState K) (left : List (List ℕ)) (is_synced : Bool) : Type 0 where
  pub sound : k.failed ≡ false
  pub idle : (seat : ℕ) → call_at k.seats seat ≡ None
  pub flushed : IsTrue k.pool.honest → IsFlushedTo k.pool left
  -- nothing was written behind its last sync
  pub synced : IsTrue k.pool.honest → IsTrue is_synced

-- a fault is printed after the replies, or none
abbrev pub EndsWith : Option ℕ → OutputState → Ending → OutputState → Ending → Type 0
EndsWith None told so_far new ending = (new ≡ told) × (ending ≡ so_far)
EndsWith (Some fault) told so_far new ending = IsFaultAlone fault told new ending

-- ---- the whole of it

-- the words of a schedule were played, and then rounds; the replies were printed and handed on, and only then the
-- kernel was closed, or was let go; a fault was printed, or none
pub record IsReplayed (events : List Event) (first : ReplayState) (old new : OutputState) (left : List (List ℕ))
    (is_synced untold : Bool) (ending : Ending) : Type 0 where
  pub played : ReplayState
  pub plays : PlaysAll events first played
  pub last : ReplayState
  pub rounds : MakesRounds played last
  pub answers : AnswersAsPlainLists first last
  pub told : OutputState
  pub so_far : Ending
  pub tells : TellsReplies last old told so_far
  -- the output refused a write, or the replies have come to the writer
  pub untold_is : untold ≡ told.refused
  pub handed : untold ≡ false → told.handed ≡ told.known
  pub fault : Option ℕ
  pub closes : MayEndWith (is_over last) untold last.kernel fault
  pub stuck : (fault ≡ Some BUSY) ↔ (is_over last ≡ false)
  -- what was told has happened
  pub well : untold ≡ false → fault ≡ None → IsLeftWell first last left
  pub synced : untold ≡ false → fault ≡ None → IsTrue first.kernel.pool.honest → IsTrue is_synced
  -- what can't be told has not: the pages are those that the kernel's pool knew to be stored
  pub unwritten : may_write (is_over last) untold last.kernel ≡ false → left ≡ last.kernel.pool.stored
  -- which are those of before, where there is a frame for each
  pub before : may_write (is_over last) untold last.kernel ≡ false →
      length first.kernel.pool.stored ≤ first.kernel.pool.frames → left ≡ first.kernel.pool.stored
  pub ends : EndsWith fault told so_far new ending

-- what is told where there is no schedule
abbrev pub IsScheduleRefused : ScheduleError → OutputState → OutputState → Ending → Type 0
IsScheduleRefused (errors.WrongWord word) old new ending = (ending ≡ WrongWord word) × (new ≡ old)
IsScheduleRefused errors.NoMemory old new ending = IsFaultAlone NO_MEMORY old new ending
