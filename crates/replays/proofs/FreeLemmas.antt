-- As long as no step has failed a seat has a call only while a line of it is under way. So where no line is left the
-- kernel is not busy.
use Rattle.std.proofs.Common.{◌≡◌, ◌≢◌, ◌↔◌, ◌||◌, ◌&&◌, inl, inr, refl, sym, ap, ◌∙◌, subst, ℕ, zero, suc, ◌==◌, Bool, true, false, not, IsSome, List, [], ◌∷◌, Option, Some, None, arith}
use Rattle.std.specs.Bool.{then_some}
use Rattle.std.specs.List.{list_all, list_any}
use Rattle.std.specs.Option.{is_some}
use Rattle.std.proofs.lemmas.Bool.{eqb-false, eqb-true}
use Rattle.std.proofs.lemmas.Option.{none-some}
use Rattle.bucket_page.specs.Pseudokeys.{sha_key}
use Rattle.bucket_page.specs.declared.pseudokey.ShaKey.{ShaKey}
use Rattle.queue_model.specs.declared.call.Call.{Call}
use Rattle.queue_model.specs.declared.entry.Entry.{Entry}
use Rattle.interleavings.specs.interleaving_core.Active.{ActiveView}
use Rattle.interleavings.specs.interleaving_core.Beginning.{IsStopped}
use Rattle.interleavings.specs.interleaving_core.Closing.{IsBusy, has_one}
use Rattle.interleavings.specs.interleaving_core.Driving.{IsStep}
use Rattle.interleavings.specs.interleaving_core.Kernel.{KernelState, call_at}
use Rattle.interleavings.specs.interleaving_core.Owing.{is_end, is_failure}
use Rattle.interleavings.specs.interleaving_core.Past.{call_of}
use Rattle.interleavings.specs.interleaving_core.declared.fault.StepFault.TheVariants as faults
use Rattle.numbers.specs.declared.faults.TheConstants.{BUSY, FAILED}
use Rattle.interleavings.specs.interleaving_core.declared.step.Step.{Step}
use Rattle.interleavings.specs.interleaving_core.declared.step.Step.TheVariants as steps
use Rattle.msgq_cli.specs.declared.command.Command.{Command}
use Rattle.msgq_cli.specs.declared.command.Command.TheVariants as commands
use Rattle.msgq_cli.specs.declared.reply.Reply.{Reply}
use Rattle.msgq_cli.specs.declared.reply.Reply.TheVariants.{Answered, Failed, Stopped}
use Rattle.replays.specs.Events.{BeginsCommand, ReplayState, line_under_way, reply_by, told}
use Rattle.replays.specs.Journal.{IsFreeWhereIdle, IsSoundReplay}
use Rattle.replays.specs.Places.{ProgressState, is_idle_for_good, place_of}
use Rattle.replays.specs.Replays.{MayEndWith}
use Rattle.replays.specs.Rounds.{is_over}
use Rattle.replays.specs.declared.progress.Place.{Place}
use Rattle.replays.proofs.PlaceLemmas.{other_place}
use Rattle.replays.proofs.TellLemmas.{Tells}

no_some : {X : Type 0} (x : X) → ◌≡◌ {A = Option X} (Some x) None → ⊥
no_some x clash = cc

-- ---- a call that is let go

-- a seat that would have no other call has none
pub none_left : (other : ℕ) (es : List Entry) (call : Option Call) (old new : KernelState ShaKey) →
    Tells other es call old new → call ≡ None → call_at new.seats other ≡ None
none_left other es call old new tells none = by (call_at new.seats other) refl
  where
    by : (at : Option ActiveView) → call_at new.seats other ≡ at → at ≡ None
    by None is = refl
    by (Some a) is =
        let some = subst (λ (x : Option ActiveView). IsSome (call_of x)) (sym is) refl in
        absurd (no_some a.machine.call (sym (ap call_of is) ∙ tells.call_is some ∙ none))

-- its end is told
ends_by : (step : Step) → IsSome (reply_by step) → is_failure step ≡ false → is_end step ≡ true
ends_by (steps.Moved kind) replied sound = absurd cc
ends_by (steps.Blocked other) replied sound = absurd cc
ends_by steps.Waiting replied sound = absurd cc
ends_by (steps.Answered answer) replied sound = refl
ends_by steps.Idle replied sound = absurd cc
ends_by (steps.Fault (faults.File fault)) replied sound = absurd cc
ends_by (steps.Fault faults.NoRoom) replied sound = refl

neither : (x y : Bool) → (x || y) ≡ false → (x ≡ false) × (y ≡ false)
neither true y is = absurd cc
neither false y is = (refl, is)

-- no step has failed before one that does not fail
module _ (seat : ℕ) (step : Step) (old new : KernelState ShaKey) (is : IsStep sha_key seat step old new)
    (sound : new.failed ≡ false) where
  both_sound : (old.failed ≡ false) × (is_failure step ≡ false)
  both_sound = neither old.failed (is_failure step) (sym is.turn.failed ∙ sound)

  pub sound_before : old.failed ≡ false
  sound_before = both_sound.0

  -- and a call whose line it replies is gone
  pub step_frees : IsSome (reply_by step) → call_at new.seats seat ≡ None
  step_frees replied = is.turn.over (ends_by step replied both_sound.1)

-- ---- whether a step has failed

stop_failed : (old new : KernelState ShaKey) → IsStopped old new → (b : Bool) → old.stopped ≡ b →
    new.failed ≡ old.failed
stop_failed old new stops true is = let same = stops.again is in ap (λ (k : KernelState ShaKey). k.failed) same
stop_failed old new stops false is = let marked = stops.first is in ap (λ (k : KernelState ShaKey). k.failed) marked

pub stopped_failed : (old new : KernelState ShaKey) → IsStopped old new → new.failed ≡ old.failed
stopped_failed old new stops = stop_failed old new stops old.stopped refl

-- a begin does not fail
pub begun_failed : (seat : ℕ) (command : Command) (reply : Option Reply) (old new : KernelState ShaKey) →
    BeginsCommand seat command reply old new → new.failed ≡ old.failed
begun_failed seat commands.Stop reply old new (is, stops) = stopped_failed old new stops
begun_failed seat (commands.Call call) None old new has = ap (λ (k : KernelState ShaKey). k.failed) has.is
begun_failed seat (commands.Call call) (Some (Answered answer)) old new never = absurd never
begun_failed seat (commands.Call call) (Some Stopped) old new never = absurd never
begun_failed seat (commands.Call call) (Some (Failed fault)) old new (inl (none, same)) =
    ap (λ (k : KernelState ShaKey). k.failed) same
begun_failed seat (commands.Call call) (Some (Failed fault)) old new (inr ((back, cause), refuses, is)) =
    ap (λ (k : KernelState ShaKey). k.failed) refuses.same

-- ---- a line that is told something

-- another seat was idle before
pub idle_before : (s : ProgressState) (seat place : ℕ) (reply : Option Reply) (other : ℕ) → other ≢ seat →
    (place_of (told seat place reply s).places other).under_way ≡ None → (place_of s.places other).under_way ≡ None
idle_before s seat place None other not idle = idle
idle_before s seat place (Some reply) other not idle =
    sym (ap (λ (p : Place). p.under_way)
    (other_place s.places seat other (record (place_of s.places seat) { under_way = None }) not)) ∙ idle

module _ (seat place : ℕ) (step : Step) (s t : ReplayState) (under : line_under_way seat s ≡ Some place)
    (script : t.script ≡ told seat place (reply_by step) s.script)
    (before : t.kernel.failed ≡ false → s.kernel.failed ≡ false)
    (frees : t.kernel.failed ≡ false → IsSome (reply_by step) → call_at t.kernel.seats seat ≡ None)
    (stays : (other : ℕ) → call_at s.kernel.seats other ≡ None → call_at t.kernel.seats other ≡ None) where
  pub free_told : (other : ℕ) → IsFreeWhereIdle other s → IsFreeWhereIdle other t
  free_told other free sound idle = by (other == seat) refl
    where
      now : (place_of (told seat place (reply_by step) s.script).places other).under_way ≡ None
      now = sym (ap (λ (x : ProgressState). (place_of x.places other).under_way) script) ∙ idle

      -- its line is replied
      own : other ≡ seat → (r : Option Reply) → reply_by step ≡ r →
          (place_of (told seat place r s.script).places seat).under_way ≡ None → call_at t.kernel.seats seat ≡ None
      own same None is none = absurd (no_some place (sym under ∙ none))
      own same (Some reply) is none = frees sound (subst IsSome (sym is) refl)

      by : (b : Bool) → (other == seat) ≡ b → call_at t.kernel.seats other ≡ None
      by true e =
          let same = eqb-true other seat e in
          ap (call_at t.kernel.seats) same
          ∙ own same (reply_by step) refl (subst
          (λ (n : ℕ). (place_of (told seat place (reply_by step) s.script).places n).under_way ≡ None) same now)
      by false e =
          stays other (free (before sound)
          (idle_before s.script seat place (reply_by step) other (eqb-false other seat e) now))

-- ---- where no line is left

both_true : (x y : Bool) → (x && y) ≡ true → (x ≡ true) × (y ≡ true)
both_true true y is = (refl, is)
both_true false y is = absurd cc

none_under_way : (next under_way : Option ℕ) → (not (is_some next) && not (is_some under_way)) ≡ true →
    under_way ≡ None
none_under_way next None is = refl
none_under_way next (Some place) is =
    let both = both_true (not (is_some next)) false is in let never : false ≡ true = both.1 in absurd cc

all_idle : (places : List Place) → list_all is_idle_for_good places ≡ true → (seat : ℕ) →
    (place_of places seat).under_way ≡ None
all_idle places over zero = refl
all_idle [] over (suc n) = refl
all_idle (p ∷ ps) over (suc zero) =
    none_under_way p.next p.under_way (both_true (is_idle_for_good p) (list_all is_idle_for_good ps) over).0
all_idle (p ∷ ps) over (suc (suc n)) =
    all_idle ps (both_true (is_idle_for_good p) (list_all is_idle_for_good ps) over).1 (suc n)

no_one : (seats : List (Option ActiveView)) → ((seat : ℕ) → call_at seats seat ≡ None) → list_any has_one seats ≡ false
no_one [] none = refl
no_one (None ∷ xs) none = no_one xs (λ seat. behind seat)
  where
    behind : (seat : ℕ) → call_at xs seat ≡ None
    behind zero = refl
    behind (suc n) = none (suc (suc n))
no_one (Some a ∷ xs) none = absurd (no_some a (none (suc zero)))

not_busy : (s : ReplayState) → IsSoundReplay s → is_over s ≡ true → IsBusy s.kernel → ⊥
not_busy s sound over busy =
    let idle = no_one s.kernel.seats (λ seat. sound.free seat busy.sound (all_idle s.script.places over seat)) in
    let never : true ≡ false = sym busy.call ∙ idle in
    absurd cc

-- a failure is not that
no_busy : (b : Bool) → then_some b FAILED ≡ Some BUSY → ⊥
no_busy false is = none-some BUSY is
no_busy true is = let same : 62 ≡ 63 = some_same is in absurd (omega (arith, same))
  where
    some_same : {a b : ℕ} → ◌≡◌ {A = Option ℕ} (Some a) (Some b) → a ≡ b
    some_same both = cc

-- so `BUSY` is told exactly where a line is left
pub busy_if_left : (s : ReplayState) (untold : Bool) (fault : Option ℕ) → IsSoundReplay s →
    MayEndWith (is_over s) untold s.kernel fault → (fault ≡ Some BUSY) ↔ (is_over s ≡ false)
busy_if_left s untold fault sound = by (is_over s) untold refl
  where
    by : (b refused : Bool) → is_over s ≡ b → MayEndWith b refused s.kernel fault →
        (fault ≡ Some BUSY) ↔ (b ≡ false)
    by false refused is closes = ((λ told. refl), (λ left. closes))
    by true false is closes = (
      (λ told. absurd (not_busy s sound is (closes.busy.0 told))),
      (λ never. absurd cc),
    )
    by true true is closes = (
      (λ told. absurd (no_busy s.kernel.failed (sym closes ∙ told))),
      (λ never. absurd cc),
    )
