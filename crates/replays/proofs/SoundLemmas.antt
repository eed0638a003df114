-- Seat by seat, what a script's lines were answered stays the kernel's: each event adds the same to both.
use Rattle.std.proofs.Common.{◌≡◌, refl, sym, ap, ◌∙◌, subst, ℕ, zero, suc, ◌==◌, Bool, true, false, if◌then◌else◌, IsSome, List, [], ◌++◌, Option, Some, None, length, replicate, slice_get, append-nil}
use Rattle.std.proofs.lemmas.Bool.{eqb-true}
use Rattle.std.proofs.lemmas.List.{get_or-replicate}
use Rattle.bucket_page.specs.Pseudokeys.{sha_key}
use Rattle.bucket_page.specs.declared.pseudokey.ShaKey.{ShaKey}
use Rattle.queue_model.specs.Journal.{part_of}
use Rattle.queue_model.specs.declared.call.Call.{Call}
use Rattle.queue_model.specs.declared.entry.Entry.{Entry}
use Rattle.interleavings.specs.interleaving_core.Active.{ActiveView}
use Rattle.interleavings.specs.interleaving_core.Driving.{IsStep}
use Rattle.interleavings.specs.interleaving_core.Kernel.{KernelState, call_at}
use Rattle.interleavings.specs.interleaving_core.Owing.{answer_told, call_of, entry_of, untold}
use Rattle.interleavings.specs.interleaving_core.declared.step.Step.{Step}
use Rattle.interleavings.specs.interleaving_core.declared.step.Step.TheVariants as steps
use Rattle.interleavings.specs.declared.event.Event.TheVariants as events
use Rattle.interleavings.specs.declared.event.Outcome.TheVariants as outcomes
use Rattle.interleavings.proofs.of_interleaving_core.PartLemmas.{entry_of_none}
use Rattle.msgq_cli.specs.declared.line.Line.{Line}
use Rattle.replays.specs.Events.{BeginsNext, ReplayState, StepsLine, Stops, line_under_way, next_line, reply_by, told}
use Rattle.replays.specs.Journal.{HasCallOfLine, IsSoundReplay, answer_in, call_in, call_on, entries_at, entry_at}
use Rattle.replays.specs.Places.{IsSound, ProgressState, place_of, start}
use Rattle.replays.specs.declared.deed.Deed.{Deed}
use Rattle.replays.proofs.BeginLemmas.{line_begun_sound, lines_told, seats_told, sound_told, told_on, under_told}
use Rattle.replays.proofs.EntryLemmas.{its_line_stands, none_replied, told_adds}
use Rattle.replays.proofs.FreeLemmas.{free_told, none_left, sound_before, step_frees, stopped_failed}
use Rattle.replays.proofs.LeadLemmas.{acts_may, next_may, seats_kept, stop_may}
use Rattle.replays.proofs.PlaceLemmas.{IsSound-start, its_line, length-places_at}
use Rattle.replays.proofs.TellLemmas.{Tells, call_before, happens_tells, if_same, tells_as}

-- ---- a line that is under way goes on, or is replied

reply_has : (step : Step) → answer_in (reply_by step) ≡ answer_told step
reply_has (steps.Moved kind) = refl
reply_has (steps.Blocked other) = refl
reply_has steps.Waiting = refl
reply_has (steps.Answered answer) = refl
reply_has steps.Idle = refl
reply_has (steps.Fault fault) = refl

-- what a seat is told by steps of this one
abbrev pub RunTells : ℕ → Step → (old new : KernelState ShaKey) → Type 0
RunTells seat step old new = (other : ℕ) →
    Tells other (if seat == other then entry_of other (call_before other old) (answer_told step) else [])
    (call_before other old) old new

module _ (seat place : ℕ) (step : Step) (s t : ReplayState) (sound : IsSoundReplay s)
    (under : line_under_way seat s ≡ Some place) (script : t.script ≡ told seat place (reply_by step) s.script)
    (locks : length t.kernel.locks ≡ length s.kernel.locks)
    (idle : call_at s.kernel.seats seat ≡ None → answer_told step ≡ None)
    (tells : RunTells seat step s.kernel t.kernel)
    (before : t.kernel.failed ≡ false → s.kernel.failed ≡ false)
    (frees : t.kernel.failed ≡ false → IsSome (reply_by step) → call_at t.kernel.seats seat ≡ None) where
  abbrev the_line : Line
  the_line = (its_line_stands s.script sound.order seat place under).0

  stands : slice_get s.script.lines place ≡ Some the_line
  stands = (its_line_stands s.script sound.order seat place under).1

  its : the_line.seat ≡ seat
  its = (its_line_stands s.script sound.order seat place under).2

  -- the line's entry is its seat's
  own_entry : entry_at the_line (reply_by step) ≡ entry_of seat (call_before seat s.kernel) (answer_told step)
  own_entry =
      ap (entry_of the_line.seat (call_in the_line.command)) (reply_has step)
      ∙ ap (λ (n : ℕ). entry_of n (call_in the_line.command) (answer_told step)) its
      ∙ by (call_at s.kernel.seats seat) refl
    where
      by : (at : Option ActiveView) → call_at s.kernel.seats seat ≡ at →
          entry_of seat (call_in the_line.command) (answer_told step)
          ≡ entry_of seat (call_before seat s.kernel) (answer_told step)
      by None is =
          let none = idle is in
          ap (entry_of seat (call_in the_line.command)) none ∙ entry_of_none seat (call_in the_line.command)
          ∙ sym (ap (entry_of seat (call_before seat s.kernel)) none ∙ entry_of_none seat (call_before seat s.kernel))
      by (Some a) is =
          ap (λ (c : Option Call). entry_of seat c (answer_told step))
          (sym (sound.calls seat place under
          (subst (λ (x : Option ActiveView). IsSome (call_of x)) (sym is) refl) ∙ ap call_on stands))

  entries_same : (other : ℕ) (x : Bool) → (seat == other) ≡ x → (if x then entry_at the_line (reply_by step) else [])
      ≡ (if x then entry_of other (call_before other s.kernel) (answer_told step) else [])
  entries_same other true e =
      subst (λ (n : ℕ). entry_at the_line (reply_by step)
      ≡ entry_of n (call_before n s.kernel) (answer_told step)) (eqb-true seat other e) own_entry
  entries_same other false e = refl

  calls_on : (other : ℕ) → HasCallOfLine other t
  calls_on other p at some =
      let had = (tells other).call_is some in
      had ∙ sound.calls other p
      (under_told s.script seat place (reply_by step) other p under
      (sym (ap (λ (x : ProgressState). (place_of x.places other).under_way) script) ∙ at)) (subst IsSome had some)
      ∙ ap (λ (ls : List Line). call_on (slice_get ls p))
      (sym (ap (λ (x : ProgressState). x.lines) script ∙ lines_told s.script seat place (reply_by step)))

  pub line_told_sound : IsSoundReplay t
  line_told_sound = record {
    seats = ap (λ (x : ProgressState). length x.places) script ∙ seats_told s.script seat place (reply_by step)
        ∙ sound.seats ∙ sym locks;
    order = subst IsSound (sym script) (sound_told s.script seat place (reply_by step) sound.order under);
    calls = calls_on;
    free = λ other. free_told seat place step s t under script before frees
        (λ x none. none_left x _ _ s.kernel t.kernel (tells x) (ap call_of none)) other (sound.free other);
    told = λ other. told_on other s t
        (if seat == other then entry_of other (call_before other s.kernel) (answer_told step) else [])
        (tells other).entries_are
        (ap (λ (x : ProgressState). part_of other (entries_at x.lines x.replies)) script
        ∙ told_adds s.script sound.order seat place under the_line stands (reply_by step) other (seat == other) refl
        ∙ ap (λ (es : List Entry). part_of other (entries_at s.script.lines s.script.replies) ++ es)
        (entries_same other (seat == other) refl)) (sound.told other);
  }

-- ---- the system is stopped

pub stop_sound : (s t : ReplayState) → IsSoundReplay s → Stops s t → IsSoundReplay t
stop_sound s t sound stops =
    let locks = seats_kept s.kernel t.kernel (stop_may s t stops) in
    let tells = λ (other : ℕ). happens_tells other events.Stop outcomes.Stopped s.kernel t.kernel stops.kernel in
    record {
      seats = ap (λ (x : ProgressState). length x.places) stops.script ∙ sound.seats ∙ sym locks;
      order = subst IsSound (sym stops.script) sound.order;
      calls = λ other p at some.
          let had = (tells other).call_is some in
          had ∙ sound.calls other p
          (sym (ap (λ (x : ProgressState). (place_of x.places other).under_way) stops.script) ∙ at)
          (subst IsSome had some)
          ∙ ap (λ (x : ProgressState). call_on (slice_get x.lines p)) (sym stops.script);
      free = λ other now idle. none_left other _ _ s.kernel t.kernel (tells other) (ap call_of (sound.free other
          (sym (stopped_failed s.kernel t.kernel stops.kernel) ∙ now)
          (sym (ap (λ (x : ProgressState). (place_of x.places other).under_way) stops.script) ∙ idle)));
      told = λ other. told_on other s t [] (tells other).entries_are
          (ap (λ (x : ProgressState). part_of other (entries_at x.lines x.replies)) stops.script
          ∙ sym (append-nil (part_of other (entries_at s.script.lines s.script.replies)))) (sound.told other);
    }

-- ---- each event

module _ (seat place : ℕ) (s t : ReplayState) (sound : IsSoundReplay s)
    (under : line_under_way seat s ≡ Some place) where
  pub step_sound : (did : Deed) → StepsLine seat place did s t → IsSoundReplay t
  step_sound did steps =
      line_told_sound seat place steps.step s t sound under steps.script
      (seats_kept s.kernel t.kernel (acts_may seat (Some place) did s t steps))
      (λ none. ap answer_told (steps.turn.idle.1 none))
      (λ other. tells_as other _ _ _ (call_before other s.kernel) s.kernel t.kernel refl
      (if_same (seat == other) (call_before other s.kernel))
      (happens_tells other (events.Step seat) (outcomes.Stepped steps.step) s.kernel t.kernel made))
      (λ now. sound_before seat steps.step s.kernel t.kernel made now)
      (λ now replied. step_frees seat steps.step s.kernel t.kernel made now replied)
    where
      made : IsStep sha_key seat steps.step s.kernel t.kernel
      made = record { turn = steps.turn; makes = steps.makes }

pub next_sound : (seat : ℕ) (did : Deed) (s t : ReplayState) → IsSoundReplay s → line_under_way seat s ≡ None →
    BeginsNext seat (next_line seat s) did s t → IsSoundReplay t
next_sound seat did s t sound idle is = by (next_line seat s) refl is
  where
    by : (line : Option ℕ) → next_line seat s ≡ line → BeginsNext seat line did s t → IsSoundReplay t
    by None next (nothing, same) = subst IsSoundReplay (sym same) sound
    by (Some place) next begins =
        line_begun_sound seat place did s t sound idle next begins
        (seats_kept s.kernel t.kernel (next_may seat (Some place) did s t begins))

-- ---- the beginning

idle_at : (many seat : ℕ) → call_at (replicate many None) seat ≡ None
idle_at many zero = refl
idle_at zero (suc place) = refl
idle_at (suc n) (suc zero) = refl
idle_at (suc n) (suc (suc place)) = idle_at n (suc place)

-- a kernel without calls has decided nothing, and no line was begun
pub start_sound : (k : KernelState ShaKey) (lines : List Line) (seats many : ℕ) → length k.locks ≡ seats →
    k.seats ≡ replicate many None → k.journal ≡ [] → IsSoundReplay (record { kernel = k; script = start lines seats })
start_sound k lines seats many locks idle journal = record {
  seats = length-places_at lines seats ∙ sym locks;
  order = IsSound-start lines seats;
  calls = λ seat place under some.
      let never : IsSome (call_of None) = subst (λ (at : Option ActiveView). IsSome (call_of at)) (none_at seat) some in
      absurd cc;
  free = λ seat now under. none_at seat;
  told = λ seat. ap (part_of seat) journal
      ∙ sym (ap (λ (es : List Entry). es ++ untold seat (call_at k.seats seat)) (no_entries seat)
      ∙ ap (untold seat) (none_at seat));
}
  where
    none_at : (seat : ℕ) → call_at k.seats seat ≡ None
    none_at seat = ap (λ (at : List (Option ActiveView)). call_at at seat) idle ∙ idle_at many seat

    no_entries : (seat : ℕ) → part_of seat (entries_at lines (replicate (length lines) None)) ≡ []
    no_entries seat =
        none_replied seat lines (replicate (length lines) None)
        (λ place of. get_or-replicate (length lines) place None None (its_line lines seat place of).0)
