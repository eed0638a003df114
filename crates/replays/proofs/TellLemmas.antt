-- What a seat is told by an event of a kernel, and by the begin of a line.
use Rattle.std.proofs.Common.{◌≡◌, refl, sym, ap, ◌∙◌, subst, ℕ, ◌==◌, Bool, true, false, if◌then◌else◌, IsSome, inl, inr, List, [], Option, Some, None, append-nil}
use Rattle.bucket_page.specs.Pseudokeys.{sha_key}
use Rattle.bucket_page.specs.declared.pseudokey.ShaKey.{ShaKey}
use Rattle.queue_model.specs.declared.call.Call.{Call}
use Rattle.queue_model.specs.declared.entry.Entry.{Entry}
use Rattle.interleavings.specs.interleaving_core.Kernel.{KernelState, call_at}
use Rattle.interleavings.specs.interleaving_core.Owing.{call_of, entry_of, untold}
use Rattle.interleavings.specs.Runs.{Happens, last_call, told_by}
use Rattle.interleavings.specs.declared.event.Event.{Event}
use Rattle.interleavings.specs.declared.event.Event.TheVariants as events
use Rattle.interleavings.specs.declared.event.Outcome.{Outcome}
use Rattle.interleavings.specs.declared.event.Outcome.TheVariants as outcomes
use Rattle.interleavings.proofs.EventLemmas.{IsTold, event_tells}
use Rattle.interleavings.proofs.of_interleaving_core.PartLemmas.{entry_of_none}
use Rattle.msgq_cli.specs.declared.command.Command.{Command}
use Rattle.msgq_cli.specs.declared.command.Command.TheVariants as commands
use Rattle.msgq_cli.specs.declared.reply.Reply.{Reply}
use Rattle.msgq_cli.specs.declared.reply.Reply.TheVariants.{Answered, Failed, Stopped}
use Rattle.replays.specs.Events.{BeginsCommand, RefusesBy}
use Rattle.replays.specs.Journal.{call_in}

pub if_same : {X : Type 0} (b : Bool) (x : X) → (if b then x else x) ≡ x
if_same true x = refl
if_same false x = refl

-- ---- what a seat is told by an event of a kernel

-- the seat is told these entries, and a call that it then has is this one
pub record Tells (other : ℕ) (entries : List Entry) (call : Option Call) (old new : KernelState ShaKey) : Type 0 where
  pub entries_are : IsTold other entries old new
  pub call_is : IsSome (call_of (call_at new.seats other)) → call_of (call_at new.seats other) ≡ call

-- the call that it had
abbrev pub call_before : ℕ → KernelState ShaKey → Option Call
call_before other k = call_of (call_at k.seats other)

pub happens_tells : (other : ℕ) (e : Event) (o : Outcome) (old new : KernelState ShaKey) → Happens sha_key e o old new →
    Tells other (told_by other e o (call_before other old)) (last_call other e o (call_before other old)) old new
happens_tells other e o old new happens =
    let it = event_tells sha_key other e o (call_before other old) old new (λ some. refl) happens in
    record { entries_are = it.told; call_is = it.has }

nothing_tells : (other : ℕ) (old new : KernelState ShaKey) → new ≡ old → Tells other [] (call_before other old) old new
nothing_tells other old new same = record {
  entries_are = record {
    added = [];
    journal = ap (λ (k : KernelState ShaKey). k.journal) same ∙ sym (append-nil old.journal);
    owed = ap (λ (k : KernelState ShaKey). untold other (call_at k.seats other)) same
        ∙ sym (append-nil (untold other (call_at old.seats other)));
  };
  call_is = λ some. ap (call_before other) same;
}

-- the same, in other words
pub tells_as : (other : ℕ) (es fs : List Entry) (c d : Option Call) (old new : KernelState ShaKey) → es ≡ fs → c ≡ d →
    Tells other es c old new → Tells other fs d old new
tells_as other es fs c d old new same same_call tells = record {
  entries_are = subst (λ (x : List Entry). IsTold other x old new) same tells.entries_are;
  call_is = λ some. tells.call_is some ∙ same_call;
}

-- the call of a command that is under way at this seat, or the one that the other had
abbrev pub call_behind : Bool → Command → Option Reply → Option Call → Option Call
call_behind true command None call = call_in command
call_behind true command (Some reply) call = call
call_behind false command reply call = call

none_told : (b : Bool) (other : ℕ) (call : Option Call) →
    (if b then entry_of other call None else []) ≡ []
none_told true other call = entry_of_none other call
none_told false other call = refl

pub kept_behind : (b : Bool) (command : Command) (reply : Reply) (call : Option Call) →
    call ≡ call_behind b command (Some reply) call
kept_behind true command reply call = refl
kept_behind false command reply call = refl

refused_tells : (other seat : ℕ) (call : Call) (fault : ℕ) (old new : KernelState ShaKey) →
    RefusesBy seat call fault old new → Tells other [] (call_before other old) old new
refused_tells other seat call fault old new (inl (none, same)) = nothing_tells other old new same
refused_tells other seat call fault old new (inr ((back, cause), refuses, is)) =
    tells_as other _ [] _ (call_before other old) old new (none_told (seat == other) other (call_before other old))
    (if_same (seat == other) (call_before other old))
    (happens_tells other (events.Begin seat call) (outcomes.Refused back cause) old new refuses)

-- a line that begins adds nothing
pub begin_tells : (other seat : ℕ) (command : Command) (reply : Option Reply) (old new : KernelState ShaKey) →
    BeginsCommand seat command reply old new →
    Tells other [] (call_behind (seat == other) command reply (call_before other old)) old new
begin_tells other seat commands.Stop reply old new (is, stops) =
    tells_as other [] [] (call_before other old) _ old new refl
    (subst (λ (r : Option Reply).
    call_before other old ≡ call_behind (seat == other) commands.Stop r (call_before other old)) (sym is)
    (kept_behind (seat == other) commands.Stop Stopped (call_before other old)))
    (happens_tells other events.Stop outcomes.Stopped old new stops)
begin_tells other seat (commands.Call call) None old new has =
    tells_as other _ [] _ _ old new (none_told (seat == other) other (call_before other old))
    (by (seat == other)) (happens_tells other (events.Begin seat call) outcomes.Begun old new has)
  where
    by : (b : Bool) → (if b then Some call else call_before other old)
        ≡ call_behind b (commands.Call call) None (call_before other old)
    by true = refl
    by false = refl
begin_tells other seat (commands.Call call) (Some (Answered answer)) old new never = absurd never
begin_tells other seat (commands.Call call) (Some Stopped) old new never = absurd never
begin_tells other seat (commands.Call call) (Some (Failed fault)) old new refuses =
    tells_as other [] [] _ _ old new refl
    (kept_behind (seat == other) (commands.Call call) (Failed fault) (call_before other old))
    (refused_tells other seat call fault old new refuses)
