-- A line that is begun adds nothing to what its seat was answered, and nothing to its part of the journal.
use Rattle.std.proofs.Common.{◌≡◌, ◌≢◌, refl, sym, ap, ◌∙◌, subst, ℕ, ◌+◌, ◌≤◌, ◌==◌, Bool, true, false, if◌then◌else◌, IsSome, List, [], ◌++◌, Option, Some, None, length, slice_get, append_assoc, eq-eqb, ne_eqb}
use Rattle.std.proofs.lemmas.Bool.{eqb-false, eqb-true}
use Rattle.std.proofs.lemmas.List.Elements.{filter-append}
use Rattle.queue_model.specs.Journal.{is_of, part_of}
use Rattle.queue_model.specs.declared.entry.Entry.{Entry}
use Rattle.interleavings.specs.interleaving_core.Kernel.{call_at}
use Rattle.interleavings.specs.interleaving_core.Owing.{call_of, entry_of, untold}
use Rattle.interleavings.proofs.EventLemmas.{IsTold}
use Rattle.interleavings.proofs.of_interleaving_core.PartLemmas.{entry_of_none}
use Rattle.msgq_cli.specs.declared.command.Command.{Command}
use Rattle.msgq_cli.specs.declared.command.Command.TheVariants as commands
use Rattle.msgq_cli.specs.declared.line.Line.{Line}
use Rattle.msgq_cli.specs.declared.reply.Reply.{Reply}
use Rattle.msgq_cli.specs.declared.reply.Reply.TheVariants.{Answered, Failed, Stopped}
use Rattle.replays.specs.Events.{BeginsCommand, BeginsLine, ReplayState, line_under_way, next_line, told}
use Rattle.replays.specs.Journal.{HasCallOfLine, IsFreeWhereIdle, IsSoundReplay, IsToldItsPart, answer_in, call_in, call_on, entries_at, entry_at}
use Rattle.replays.specs.Places.{IsSound, ProgressState, begun, line_from, place_of, with_place}
use Rattle.replays.specs.declared.deed.Deed.{Deed}
use Rattle.replays.specs.declared.progress.Place.{Place}
use Rattle.replays.proofs.EntryLemmas.{told_adds}
use Rattle.replays.proofs.FreeLemmas.{begun_failed, idle_before, none_left}
use Rattle.replays.proofs.PlaceLemmas.{IsSound-begun, IsSound-replied, length-with_place, next_is_seat, other_place, same_place, under_is_seat}
use Rattle.replays.proofs.TellLemmas.{Tells, begin_tells, call_before, call_behind, kept_behind}

-- ---- a line is told

pub under_told : (s : ProgressState) (seat place : ℕ) (reply : Option Reply) (other p : ℕ) →
    (place_of s.places seat).under_way ≡ Some place →
    (place_of (told seat place reply s).places other).under_way ≡ Some p →
    (place_of s.places other).under_way ≡ Some p
under_told s seat place None other p under at = at
under_told s seat place (Some reply) other p under at = by (other == seat) refl
  where
    there : Place
    there = record (place_of s.places seat) { under_way = None }

    is : (1 ≤ seat) × (seat ≤ length s.places)
    is = under_is_seat s.places seat place under

    none_some : ◌≡◌ {A = Option ℕ} None (Some p) → ⊥
    none_some clash = cc

    by : (b : Bool) → (other == seat) ≡ b → (place_of s.places other).under_way ≡ Some p
    by true e = absurd (none_some
        (sym (ap (λ (q : Place). q.under_way) (same_place s.places seat there is.0 is.1))
        ∙ ap (λ (n : ℕ). (place_of (with_place s.places seat there) n).under_way) (sym (eqb-true other seat e)) ∙ at))
    by false e =
        sym (ap (λ (q : Place). q.under_way) (other_place s.places seat other there (eqb-false other seat e))) ∙ at

pub lines_told : (s : ProgressState) (seat place : ℕ) (reply : Option Reply) → (told seat place reply s).lines ≡ s.lines
lines_told s seat place None = refl
lines_told s seat place (Some reply) = refl

pub seats_told : (s : ProgressState) (seat place : ℕ) (reply : Option Reply) →
    length (told seat place reply s).places ≡ length s.places
seats_told s seat place None = refl
seats_told s seat place (Some reply) =
    length-with_place s.places seat (record (place_of s.places seat) { under_way = None })

pub sound_told : (s : ProgressState) (seat place : ℕ) (reply : Option Reply) → IsSound s →
    (place_of s.places seat).under_way ≡ Some place → IsSound (told seat place reply s)
sound_told s seat place None sound under = sound
sound_told s seat place (Some reply) sound under = IsSound-replied s seat place reply sound under

-- ---- both add the same

pub told_on : (other : ℕ) (s t : ReplayState) (entries : List Entry) → IsTold other entries s.kernel t.kernel →
    part_of other (entries_at t.script.lines t.script.replies)
    ≡ part_of other (entries_at s.script.lines s.script.replies) ++ entries →
    IsToldItsPart other s → IsToldItsPart other t
told_on other s t entries kernel script before =
    let lines = part_of other (entries_at s.script.lines s.script.replies) in
    let owed = untold other (call_at s.kernel.seats other) in
    let owed_now = untold other (call_at t.kernel.seats other) in
    ap (part_of other) kernel.journal
    ∙ filter-append (is_of other) s.kernel.journal kernel.added
    ∙ ap (λ (es : List Entry). es ++ part_of other kernel.added) before
    ∙ append_assoc lines owed (part_of other kernel.added)
    ∙ ap (λ (es : List Entry). lines ++ es) (sym kernel.owed)
    ∙ sym (append_assoc lines entries owed_now)
    ∙ ap (λ (es : List Entry). es ++ owed_now) (sym script)

-- ---- a line is begun

module _ (seat place : ℕ) (did : Deed) (s t : ReplayState) (sound : IsSoundReplay s)
    (idle : line_under_way seat s ≡ None) (next : next_line seat s ≡ Some place) (b : BeginsLine seat place did s t)
    (locks : length t.kernel.locks ≡ length s.kernel.locks) where
  abbrev its_begun : ProgressState
  its_begun = begun seat place s.script

  abbrev place_begun : Place
  place_begun = record { next = line_from seat (place + 1) s.script.lines; under_way = Some place }

  is_begun : (1 ≤ seat) × (seat ≤ length s.script.places)
  is_begun = next_is_seat s.script.places seat place next

  under_begun : (place_of its_begun.places seat).under_way ≡ Some place
  under_begun = ap (λ (p : Place). p.under_way) (same_place s.script.places seat place_begun is_begun.0 is_begun.1)

  sound_begun : IsSound its_begun
  sound_begun = IsSound-begun s.script seat place sound.order idle next

  calls_begun : (other : ℕ) → HasCallOfLine other t
  calls_begun other p at some = by (seat == other) refl
    where
      tells : Tells other [] (call_behind (seat == other) b.line.command b.reply (call_before other s.kernel))
          s.kernel t.kernel
      tells = begin_tells other seat b.line.command b.reply s.kernel t.kernel b.kernel

      lines : t.script.lines ≡ s.script.lines
      lines = ap (λ (x : ProgressState). x.lines) b.script ∙ lines_told its_begun seat place b.reply

      -- the line is under way after its begin, and it is still
      behind : (place_of its_begun.places other).under_way ≡ Some p
      behind = under_told its_begun seat place b.reply other p under_begun
          (sym (ap (λ (x : ProgressState). (place_of x.places other).under_way) b.script) ∙ at)

      on_line : call_of (call_at t.kernel.seats other) ≡ call_on (slice_get s.script.lines p) →
          call_of (call_at t.kernel.seats other) ≡ call_on (slice_get t.script.lines p)
      on_line is = is ∙ ap (λ (ls : List Line). call_on (slice_get ls p)) (sym lines)

      -- at its seat it is not replied yet
      here : seat ≡ other → (r : Option Reply) → b.reply ≡ r →
          call_of (call_at t.kernel.seats other) ≡ call_on (slice_get s.script.lines p)
      here same None is =
          let same_line : Some place ≡ Some p =
          sym under_begun ∙ ap (λ (n : ℕ). (place_of its_begun.places n).under_way) same ∙ behind in
          let it : place ≡ p = cc in
          tells.call_is some
          ∙ ap (λ (x : Bool). call_behind x b.line.command b.reply (call_before other s.kernel))
          (eq-eqb seat other same)
          ∙ ap (λ (r : Option Reply). call_behind true b.line.command r (call_before other s.kernel)) is
          ∙ sym (ap call_on b.stands)
          ∙ ap (λ (n : ℕ). call_on (slice_get s.script.lines n)) it
      here same (Some reply) is = absurd (none_some
          (sym (ap (λ (q : Place). q.under_way) (same_place its_begun.places seat gone seat_now.0 seat_now.1))
          ∙ ap (λ (n : ℕ). (place_of (with_place its_begun.places seat gone) n).under_way) same
          ∙ ap (λ (r : Option Reply). (place_of (told seat place r its_begun).places other).under_way) (sym is)
          ∙ sym (ap (λ (x : ProgressState). (place_of x.places other).under_way) b.script) ∙ at))
        where
          gone : Place
          gone = record (place_of its_begun.places seat) { under_way = None }

          seat_now : (1 ≤ seat) × (seat ≤ length its_begun.places)
          seat_now = under_is_seat its_begun.places seat place under_begun

          none_some : ◌≡◌ {A = Option ℕ} None (Some p) → ⊥
          none_some clash = cc

      away : seat ≢ other → call_of (call_at t.kernel.seats other) ≡ call_on (slice_get s.script.lines p)
      away not =
          let had : call_before other t.kernel ≡ call_before other s.kernel = tells.call_is some
          ∙ ap (λ (x : Bool). call_behind x b.line.command b.reply (call_before other s.kernel))
          (ne_eqb seat other not) in
          had ∙ sound.calls other p
          (sym (ap (λ (q : Place). q.under_way) (other_place s.script.places seat other place_begun
          (λ e. not (sym e))))
          ∙ behind) (subst IsSome had some)

      by : (x : Bool) → (seat == other) ≡ x →
          call_of (call_at t.kernel.seats other) ≡ call_on (slice_get t.script.lines p)
      by true e = on_line (here (eqb-true seat other e) b.reply refl)
      by false e = on_line (away (eqb-false seat other e))

  free_begun : (other : ℕ) → IsFreeWhereIdle other t
  free_begun other sound_now idle_now = by (other == seat) refl
    where
      before : s.kernel.failed ≡ false
      before = sym (begun_failed seat b.line.command b.reply s.kernel t.kernel b.kernel) ∙ sound_now

      now : (place_of (told seat place b.reply its_begun).places other).under_way ≡ None
      now = sym (ap (λ (x : ProgressState). (place_of x.places other).under_way) b.script) ∙ idle_now

      -- a seat that would have no call has none
      none_by : call_behind (seat == other) b.line.command b.reply (call_before other s.kernel) ≡ None →
          call_at t.kernel.seats other ≡ None
      none_by = none_left other [] _ s.kernel t.kernel
          (begin_tells other seat b.line.command b.reply s.kernel t.kernel b.kernel)

      some_none : ◌≡◌ {A = Option ℕ} (Some place) None → ⊥
      some_none clash = cc

      -- at its seat the line is replied
      here : other ≡ seat → (r : Option Reply) → b.reply ≡ r → call_at t.kernel.seats other ≡ None
      here same None is = absurd (some_none
          (sym under_begun ∙ ap (λ (n : ℕ). (place_of its_begun.places n).under_way) (sym same)
          ∙ subst (λ (r : Option Reply). (place_of (told seat place r its_begun).places other).under_way ≡ None) is
          now))
      here same (Some reply) is = none_by
          (ap (λ (r : Option Reply). call_behind (seat == other) b.line.command r (call_before other s.kernel)) is
          ∙ sym (kept_behind (seat == other) b.line.command reply (call_before other s.kernel))
          ∙ ap call_of (sound.free other before (subst (λ (n : ℕ). line_under_way n s ≡ None) (sym same) idle)))

      away : other ≢ seat → call_at t.kernel.seats other ≡ None
      away not = none_by
          (ap (λ (x : Bool). call_behind x b.line.command b.reply (call_before other s.kernel))
          (ne_eqb seat other (λ e. not (sym e)))
          ∙ ap call_of (sound.free other before
          (sym (ap (λ (q : Place). q.under_way) (other_place s.script.places seat other place_begun not))
          ∙ idle_before its_begun seat place b.reply other not now)))

      by : (x : Bool) → (other == seat) ≡ x → call_at t.kernel.seats other ≡ None
      by true e = here (eqb-true other seat e) b.reply refl
      by false e = away (eqb-false other seat e)

  -- it is replied no answer
  no_answer : (command : Command) (reply : Option Reply) → BeginsCommand seat command reply s.kernel t.kernel →
      answer_in reply ≡ None
  no_answer commands.Stop reply (is, stops) = ap answer_in is
  no_answer (commands.Call call) None has = refl
  no_answer (commands.Call call) (Some (Answered answer)) never = absurd never
  no_answer (commands.Call call) (Some Stopped) never = absurd never
  no_answer (commands.Call call) (Some (Failed fault)) refuses = refl

  none_added : (x : Bool) → (if x then entry_at b.line b.reply else []) ≡ []
  none_added true =
      ap (entry_of b.line.seat (call_in b.line.command)) (no_answer b.line.command b.reply b.kernel)
      ∙ entry_of_none b.line.seat (call_in b.line.command)
  none_added false = refl

  pub line_begun_sound : IsSoundReplay t
  line_begun_sound = record {
    seats = ap (λ (x : ProgressState). length x.places) b.script ∙ seats_told its_begun seat place b.reply
        ∙ length-with_place s.script.places seat place_begun ∙ sound.seats ∙ sym locks;
    order = subst IsSound (sym b.script) (sound_told its_begun seat place b.reply sound_begun under_begun);
    calls = calls_begun;
    free = free_begun;
    told = λ other. told_on other s t []
        (begin_tells other seat b.line.command b.reply s.kernel t.kernel b.kernel).entries_are
        (ap (λ (x : ProgressState). part_of other (entries_at x.lines x.replies)) b.script
        ∙ told_adds its_begun sound_begun seat place under_begun b.line b.stands b.reply other (seat == other) refl
        ∙ ap (λ (es : List Entry). part_of other (entries_at s.script.lines s.script.replies) ++ es)
        (none_added (seat == other))) (sound.told other);
  }
