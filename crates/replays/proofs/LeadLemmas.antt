-- What happens on a kernel by an event of a replay; what it leaves of the kernel, and where the journal leads.
use Rattle.std.proofs.Common.{◌≡◌, ◌⊎◌, inl, inr, refl, sym, ap, ◌∙◌, subst, ℕ, Bool, true, false, List, [], ◌∷◌, Option, Some, None, length}
use Rattle.std.proofs.lemmas.List.Elements.{All-cons, All-nil}
use Rattle.bucket_page.specs.Pseudokeys.{sha_key}
use Rattle.bucket_page.specs.declared.pseudokey.ShaKey.{ShaKey}
use Rattle.queue_model.specs.declared.call.Call.{Call}
use Rattle.queue_model.specs.State.{State}
use Rattle.interleavings.specs.interleaving_core.Beginning.{IsStopped}
use Rattle.interleavings.specs.interleaving_core.Kernel.{KernelState}
use Rattle.interleavings.specs.interleaving_core.Owing.{KeepsRest}
use Rattle.interleavings.specs.interleaving_core.Words.{IsSeat, PoolState, spared}
use Rattle.interleavings.specs.Laws.{EventsRefine}
use Rattle.interleavings.specs.Refining.{Refines}
use Rattle.interleavings.specs.Runs.{Happens, IsOfSeat}
use Rattle.interleavings.specs.declared.event.Event.{Event}
use Rattle.interleavings.specs.declared.event.Event.TheVariants as events
use Rattle.interleavings.specs.declared.event.Outcome.{Outcome}
use Rattle.interleavings.specs.declared.event.Outcome.TheVariants as outcomes
use Rattle.interleavings.proofs.EventLemmas.{event_keeps}
use Rattle.msgq_cli.specs.declared.command.Command.{Command}
use Rattle.msgq_cli.specs.declared.command.Command.TheVariants as commands
use Rattle.msgq_cli.specs.declared.reply.Reply.{Reply}
use Rattle.msgq_cli.specs.declared.reply.Reply.TheVariants.{Answered, Failed, Stopped}
use Rattle.schedules.specs.declared.event.Event.{Event as Word}
use Rattle.replays.specs.Events.{Acts, BeginsCommand, BeginsNext, IsEvent, PlaysAll, RefusesBy, ReplayState, Stops, line_under_way, next_line}
use Rattle.replays.specs.PlainLists.{KeepsCallers}
use Rattle.replays.specs.Rounds.{MakesRounds}
use Rattle.replays.specs.declared.deed.Deed.{Deed}
use Rattle.replays.proofs.PlayLemmas.{plays_all, rounds}

-- ---- what happens

-- something that a kernel does for one of its seats, or for all
pub record HasHappened (old new : KernelState ShaKey) : Type 0 where
  pub event : Event
  pub outcome : Outcome
  pub happens : Happens sha_key event outcome old new
  pub of_seat : IsOfSeat (length old.locks) event

abbrev pub MayHappen : KernelState ShaKey → KernelState ShaKey → Type 0
MayHappen old new = (new ≡ old) ⊎ HasHappened old new

refused : (seat : ℕ) (call : Call) (fault : ℕ) (old new : KernelState ShaKey) → IsSeat old.locks seat →
    RefusesBy seat call fault old new → MayHappen old new
refused seat call fault old new is (inl (none, same)) = inl same
refused seat call fault old new is (inr ((back, cause), refuses, told)) = inr (record {
  event = events.Begin seat call;
  outcome = outcomes.Refused back cause;
  happens = refuses;
  of_seat = is;
})

stopped : (old new : KernelState ShaKey) → IsStopped old new → HasHappened old new
stopped old new stops = record {
  event = events.Stop;
  outcome = outcomes.Stopped;
  happens = stops;
  of_seat = tt;
}

command_begun : (seat : ℕ) (command : Command) (reply : Option Reply) (old new : KernelState ShaKey) →
    IsSeat old.locks seat → BeginsCommand seat command reply old new → MayHappen old new
command_begun seat commands.Stop reply old new is (told, stops) = inr (stopped old new stops)
command_begun seat (commands.Call call) None old new is has = inr (record {
  event = events.Begin seat call;
  outcome = outcomes.Begun;
  happens = has;
  of_seat = is;
})
command_begun seat (commands.Call call) (Some (Answered answer)) old new is never = absurd never
command_begun seat (commands.Call call) (Some Stopped) old new is never = absurd never
command_begun seat (commands.Call call) (Some (Failed fault)) old new is refuses =
    refused seat call fault old new is refuses

pub next_may : (seat : ℕ) (line : Option ℕ) (did : Deed) (s t : ReplayState) → BeginsNext seat line did s t →
    MayHappen s.kernel t.kernel
next_may seat None did s t (nothing, same) = inl (ap (λ (r : ReplayState). r.kernel) same)
next_may seat (Some place) did s t begins =
    command_begun seat begins.line.command begins.reply s.kernel t.kernel begins.seat_is begins.kernel

pub acts_may : (seat : ℕ) (line : Option ℕ) (did : Deed) (s t : ReplayState) → Acts seat line did s t →
    MayHappen s.kernel t.kernel
acts_may seat None did s t begins = next_may seat (next_line seat s) did s t begins
acts_may seat (Some place) did s t steps = inr (record {
  event = events.Step seat;
  outcome = outcomes.Stepped steps.step;
  happens = record { turn = steps.turn; makes = steps.makes };
  of_seat = steps.seat_is;
})

event_may : (seat : ℕ) (did : Deed) (s t : ReplayState) → IsEvent seat did s t → MayHappen s.kernel t.kernel
event_may seat did s t is = acts_may seat (line_under_way seat s) did s t is

pub stop_may : (s t : ReplayState) → Stops s t → MayHappen s.kernel t.kernel
stop_may s t stops = inr (stopped s.kernel t.kernel stops.kernel)

-- ---- what it leaves

-- the same callers, over a device as honest
same_keeps : (old new : KernelState ShaKey) → new.callers ≡ old.callers → new.pool ≡ old.pool → KeepsCallers old new
same_keeps old new callers pool = record {
  callers = callers;
  honest = ap (λ (p : PoolState). p.honest) pool;
  stored = ap spared pool;
  pages = ap (λ (p : PoolState). length p.images) pool;
}

rest_keeps : (old new : KernelState ShaKey) → KeepsRest old new → KeepsCallers old new
rest_keeps old new rest = record {
  callers = rest.callers;
  honest = rest.honest;
  stored = rest.stored;
  pages = rest.pages;
}

stop_keeps : (old new : KernelState ShaKey) → IsStopped old new → (b : Bool) → old.stopped ≡ b → KeepsCallers old new
stop_keeps old new stops true is =
    let same = stops.again is in
    same_keeps old new (ap (λ (k : KernelState ShaKey). k.callers) same)
    (ap (λ (k : KernelState ShaKey). k.pool) same)
stop_keeps old new stops false is =
    let marked = stops.first is in
    same_keeps old new (ap (λ (k : KernelState ShaKey). k.callers) marked)
    (ap (λ (k : KernelState ShaKey). k.pool) marked)

happens_keeps : (e : Event) (o : Outcome) (old new : KernelState ShaKey) → Happens sha_key e o old new →
    KeepsCallers old new
happens_keeps (events.Begin seat call) outcomes.Begun old new has =
    same_keeps old new (ap (λ (k : KernelState ShaKey). k.callers) has.is)
    (ap (λ (k : KernelState ShaKey). k.pool) has.is)
happens_keeps (events.Begin seat call) (outcomes.Refused back fault) old new is =
    same_keeps old new (ap (λ (k : KernelState ShaKey). k.callers) is.same)
    (ap (λ (k : KernelState ShaKey). k.pool) is.same)
happens_keeps (events.Step seat) (outcomes.Stepped did) old new step =
    rest_keeps old new step.turn.run.rest
happens_keeps (events.Drive seat) (outcomes.Driven did) old new drives =
    rest_keeps old new drives.run.rest
happens_keeps events.Stop outcomes.Stopped old new stops = stop_keeps old new stops old.stopped refl
happens_keeps _ _ old new never = absurd never

keeps_on : (first old new : KernelState ShaKey) → MayHappen old new → KeepsCallers first old → KeepsCallers first new
keeps_on first old new (inl same) kept = subst (KeepsCallers first) (sym same) kept
keeps_on first old new (inr it) kept =
    let next = happens_keeps it.event it.outcome old new it.happens in
    record {
      callers = next.callers ∙ kept.callers;
      honest = next.honest ∙ kept.honest;
      stored = next.stored ∙ kept.stored;
      pages = next.pages ∙ kept.pages;
    }

-- and as many seats
pub seats_kept : (old new : KernelState ShaKey) → MayHappen old new → length new.locks ≡ length old.locks
seats_kept old new (inl same) = ap (λ (k : KernelState ShaKey). length k.locks) same
seats_kept old new (inr it) = (event_keeps sha_key it.event it.outcome old new it.happens).seats

-- ---- where the journal leads

led_on : EventsRefine ShaKey → (base : State) (old new : KernelState ShaKey) → MayHappen old new →
    Refines sha_key base old → Refines sha_key base new
led_on lead base old new (inl same) led = subst (Refines sha_key base) (sym same) led
led_on lead base old new (inr it) led =
    lead sha_key base (it.event ∷ []) (it.outcome ∷ []) old new
    (All-cons (IsOfSeat (length old.locks)) it.event [] it.of_seat (All-nil (IsOfSeat (length old.locks))))
    led
    (record { between = new; first = it.happens; rest = refl })

-- ---- of a whole replay

module _ (P : KernelState ShaKey → Type 0) (one : (old new : KernelState ShaKey) → MayHappen old new → P old → P new)
    (words : List Word) (first played last : ReplayState) (plays : PlaysAll words first played)
    (goes : MakesRounds played last) where
  event_one : (seat : ℕ) (did : Deed) (s t : ReplayState) → IsEvent seat did s t → P s.kernel → P t.kernel
  event_one seat did s t is = one s.kernel t.kernel (event_may seat did s t is)

  stop_one : (s t : ReplayState) → Stops s t → P s.kernel → P t.kernel
  stop_one s t is = one s.kernel t.kernel (stop_may s t is)

  throughout : P first.kernel → P last.kernel
  throughout kept =
      rounds (λ (s : ReplayState). P s.kernel) event_one stop_one played last goes
      (plays_all (λ (s : ReplayState). P s.kernel) event_one stop_one words first played plays kept)

pub replay_keeps : (words : List Word) (first played last : ReplayState) → PlaysAll words first played →
    MakesRounds played last → KeepsCallers first.kernel last.kernel
replay_keeps words first played last plays goes =
    throughout (KeepsCallers first.kernel) (keeps_on first.kernel) words first played last plays goes
    (record { callers = refl; honest = refl; stored = refl; pages = refl })

pub replay_leads : EventsRefine ShaKey → (base : State) (words : List Word) (first played last : ReplayState) →
    PlaysAll words first played → MakesRounds played last → Refines sha_key base first.kernel →
    Refines sha_key base last.kernel
replay_leads lead base words first played last plays goes led =
    throughout (Refines sha_key base) (led_on lead base) words first played last plays goes led
