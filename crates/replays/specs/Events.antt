-- What events do: a line is begun, a step is made, the system is stopped. docs/SCRIPTS.md, "Schedules".
use Rattle.std.specs.Prelude.{ℕ, zero, suc, ◌≡◌, ◌≢◌, ◌≤◌, ◌⊎◌, false, List, [], ◌∷◌, Option, Some, None, slice_get, ⊤}
use Rattle.numbers.specs.declared.faults.TheConstants.{NO_MEMORY}
use Rattle.queue_model.specs.declared.call.Call.{Call}
use Rattle.step_rules.specs.declared.kind.Kind.{Kind}
use Rattle.bucket_page.specs.Pseudokeys.{sha_key}
use Rattle.bucket_page.specs.declared.pseudokey.ShaKey.{ShaKey}
use Rattle.interleavings.specs.interleaving_core.Active.{ActiveView}
use Rattle.interleavings.specs.interleaving_core.Beginning.{HasCall, IsRefused, IsStopped}
use Rattle.interleavings.specs.interleaving_core.Fault.{begin_number_of, step_number_of}
use Rattle.interleavings.specs.interleaving_core.Kernel.{KernelState, call_at}
use Rattle.interleavings.specs.interleaving_core.Owing.{IsTurn}
use Rattle.interleavings.specs.interleaving_core.Turn.{TakesTurn}
use Rattle.interleavings.specs.interleaving_core.Words.{IsSeat}
use Rattle.interleavings.specs.interleaving_core.declared.fault.BeginFault.{BeginFault}
use Rattle.interleavings.specs.interleaving_core.declared.step.Step.{Step}
use Rattle.interleavings.specs.interleaving_core.declared.step.Step.TheVariants as steps
use Rattle.msgq_cli.specs.declared.command.Command.{Command}
use Rattle.msgq_cli.specs.declared.command.Command.TheVariants as commands
use Rattle.msgq_cli.specs.declared.line.Line.{Line}
use Rattle.msgq_cli.specs.declared.reply.Reply.{Reply}
use Rattle.msgq_cli.specs.declared.reply.Reply.TheVariants.{Answered, Failed, Stopped}
use Rattle.schedules.specs.declared.event.Event.{Event}
use Rattle.schedules.specs.declared.event.Event.TheVariants as events
use Rattle.replays.specs.Places.{ProgressState, begun, place_of, replied}
use Rattle.replays.specs.declared.deed.Deed.{Deed}
use Rattle.replays.specs.declared.deed.Deed.TheVariants as deeds
use Rattle.replays.specs.declared.replay.TheConstants.{MOST_STEPS}

-- a kernel, where its seats are in a script, and what the lines were replied
pub record ReplayState : Type 0 where
  pub kernel : KernelState ShaKey
  pub script : ProgressState

-- the place of a seat's line that is under way, and of its next line
abbrev pub line_under_way : ℕ → ReplayState → Option ℕ
line_under_way seat s = (place_of s.script.places seat).under_way

abbrev pub next_line : ℕ → ReplayState → Option ℕ
next_line seat s = (place_of s.script.places seat).next

-- the line at a place, which is under way, is replied this, or goes on
abbrev pub told : ℕ → ℕ → Option Reply → ProgressState → ProgressState
told seat place None s = s
told seat place (Some reply) s = replied seat place reply s

-- ---- a line is begun

-- a call does not begin: there is no memory for it, or the kernel refuses it
abbrev pub RefusesBy : {K : Type 0} → ℕ → Call → ℕ → KernelState K → KernelState K → Type 0
RefusesBy seat call fault old new =
    ((fault ≡ NO_MEMORY) × (new ≡ old))
    ⊎ ((back : Call × BeginFault) × IsRefused seat call back old new × (fault ≡ begin_number_of back.1))

-- a call is under way, or its line is replied the number of what is in the way
abbrev pub BeginsCall : {K : Type 0} → ℕ → Call → Option Reply → KernelState K → KernelState K → Type 0
BeginsCall seat call None old new = HasCall seat call old new
BeginsCall seat call (Some (Answered answer)) old new = ⊥
BeginsCall seat call (Some Stopped) old new = ⊥
BeginsCall seat call (Some (Failed fault)) old new = RefusesBy seat call fault old new

-- a `stop` stops the system and is replied
abbrev pub BeginsCommand : {K : Type 0} → ℕ → Command → Option Reply → KernelState K → KernelState K → Type 0
BeginsCommand seat commands.Stop reply old new = (reply ≡ Some Stopped) × IsStopped old new
BeginsCommand seat (commands.Call call) reply old new = BeginsCall seat call reply old new

abbrev pub deed_at_once : Option Reply → Deed
deed_at_once None = deeds.Begun
deed_at_once (Some reply) = deeds.Replied

-- the line of a seat at a place is begun, and replied where its command is over at once
pub record BeginsLine (seat place : ℕ) (did : Deed) (old new : ReplayState) : Type 0 where
  pub seat_is : IsSeat old.kernel.locks seat
  pub line : Line
  pub stands : slice_get old.script.lines place ≡ Some line
  pub reply : Option Reply
  pub kernel : BeginsCommand seat line.command reply old.kernel new.kernel
  pub script : new.script ≡ told seat place reply (begun seat place old.script)
  pub did_is : did ≡ deed_at_once reply

-- the next line of a seat is begun, if one is left
abbrev pub BeginsNext : ℕ → Option ℕ → Deed → ReplayState → ReplayState → Type 0
BeginsNext seat None did old new = (did ≡ deeds.Nothing) × (new ≡ old)
BeginsNext seat (Some place) did old new = BeginsLine seat place did old new

-- ---- a seat is told something

-- what came of a step by which it was told this
abbrev pub deed_by : Step → Deed
deed_by (steps.Moved kind) = deeds.Moved kind
deed_by (steps.Blocked other) = deeds.Blocked other
deed_by steps.Waiting = deeds.Waits
deed_by (steps.Answered answer) = deeds.Replied
deed_by steps.Idle = deeds.Nothing
deed_by (steps.Fault fault) = deeds.Replied

-- what its line is replied
abbrev pub reply_by : Step → Option Reply
reply_by (steps.Moved kind) = None
reply_by (steps.Blocked other) = None
reply_by steps.Waiting = None
reply_by (steps.Answered answer) = Some (Answered answer)
reply_by steps.Idle = None
reply_by (steps.Fault fault) = Some (Failed (step_number_of fault))

-- ---- an event of a seat

-- one step of the call under way, which is a step of its machine, or none while the call waits
pub record StepsLine (seat place : ℕ) (did : Deed) (old new : ReplayState) : Type 0 where
  pub seat_is : IsSeat old.kernel.locks seat
  pub step : Step
  pub turn : IsTurn seat step old.kernel new.kernel
  pub makes : (a : ActiveView) → call_at old.kernel.seats seat ≡ Some a → old.kernel.failed ≡ false →
      TakesTurn sha_key seat old.kernel.stopped step a (call_at new.kernel.seats seat) old.kernel.pool new.kernel.pool
      old.kernel.locks new.kernel.locks old.kernel.journal new.kernel.journal
  pub script : new.script ≡ told seat place (reply_by step) old.script
  pub did_is : did ≡ deed_by step

abbrev pub Acts : ℕ → Option ℕ → Deed → ReplayState → ReplayState → Type 0
Acts seat None did old new = BeginsNext seat (next_line seat old) did old new
Acts seat (Some place) did old new = StepsLine seat place did old new

-- where a seat is idle its next line is begun, else one step is made
abbrev pub IsEvent : ℕ → Deed → ReplayState → ReplayState → Type 0
IsEvent seat did old new = Acts seat (line_under_way seat old) did old new

-- ---- a word of a schedule

-- so many times one leads to the next
abbrev pub Times : {S : Type 0} → (S → S → Type 0) → ℕ → S → S → Type 0
Times {S} R zero s t = t ≡ s
Times {S} R (suc n) s t = (u : S) × Times R n s u × R u t

-- one event of a seat, whatever comes of it
abbrev pub HasEvent : ℕ → ReplayState → ReplayState → Type 0
HasEvent seat old new = (did : Deed) × IsEvent seat did old new

-- where it is idle its next line is begun
abbrev pub IsReadied : ℕ → Option ℕ → ReplayState → ReplayState → Type 0
IsReadied seat None old new = (did : Deed) × BeginsNext seat (next_line seat old) did old new
IsReadied seat (Some place) old new = new ≡ old

-- a drive goes on behind a step of this kind: of any, or of any but the last
abbrev pub IsBefore : Option Kind → Kind → Type 0
IsBefore None kind = ⊤
IsBefore (Some last) kind = kind ≢ last

-- and behind an event: where it is such a step
abbrev pub GoesOn : Option Kind → Deed → Type 0
GoesOn last deeds.Nothing = ⊥
GoesOn last deeds.Begun = ⊥
GoesOn last (deeds.Moved kind) = IsBefore last kind
GoesOn last (deeds.Blocked other) = ⊥
GoesOn last deeds.Waits = ⊥
GoesOn last deeds.Replied = ⊥

abbrev pub MovesFurther : ℕ → Option Kind → ReplayState → ReplayState → Type 0
MovesFurther seat last old new = (did : Deed) × GoesOn last did × IsEvent seat did old new

-- step by step, for as long as it moves or up to the first step of this kind, and so many steps at most
pub record StepsOn (seat : ℕ) (last : Option Kind) (old new : ReplayState) : Type 0 where
  pub moves : ℕ
  pub before : ReplayState
  pub further : Times (MovesFurther seat last) moves old before
  pub ends : ((moves ≡ MOST_STEPS) × (new ≡ before))
      ⊎ ((moves ≤ MOST_STEPS) × ((did : Deed) × (GoesOn last did → ⊥) × IsEvent seat did before new))

-- where a line is under way
abbrev pub IsStepped : ℕ → Option Kind → Option ℕ → ReplayState → ReplayState → Type 0
IsStepped seat last None old new = new ≡ old
IsStepped seat last (Some place) old new = StepsOn seat last old new

-- where the seat is idle its next line is begun, and then it is driven so
pub record Drives (seat : ℕ) (last : Option Kind) (old new : ReplayState) : Type 0 where
  pub ready : ReplayState
  pub readied : IsReadied seat (line_under_way seat old) old ready
  pub stepped : IsStepped seat last (line_under_way seat ready) ready new

-- from here on no call waits
pub record Stops (old new : ReplayState) : Type 0 where
  pub kernel : IsStopped old.kernel new.kernel
  pub script : new.script ≡ old.script

-- what a word of a schedule does
abbrev pub Plays : Event → ReplayState → ReplayState → Type 0
Plays (events.Steps seat count) old new = Times (HasEvent seat) count old new
Plays (events.Drive seat) old new = Drives seat None old new
Plays (events.Until seat kind) old new = Drives seat (Some kind) old new
Plays events.Stop old new = Stops old new

-- what its words do, one after the other
abbrev pub PlaysAll : List Event → ReplayState → ReplayState → Type 0
PlaysAll [] old new = new ≡ old
PlaysAll (event ∷ more) old new = (next : ReplayState) × Plays event old next × PlaysAll more next new
