-- What is left of a replay: its answers are those of plain lists, and its file is that of their system.
use Rattle.std.proofs.Common.{◌≡◌, ◌↔◌, refl, sym, ap, ◌∙◌, subst, ℕ, zero, suc, ◌&&◌, not, Bool, true, false, true≢false, IsTrue, List, [], ◌∷◌, ◌++◌, Option, Some, None, append-nil, length}
use Rattle.std.specs.List.{list_any}
use Rattle.std.proofs.lemmas.List.{length-map}
use Rattle.page_device.specs.Sealed.{payload_of}
use Rattle.bucket_page.specs.Pseudokeys.{sha_key}
use Rattle.bucket_page.specs.declared.pseudokey.ShaKey.{ShaKey}
use Rattle.queue_model.specs.Journal.{part_of}
use Rattle.queue_model.specs.declared.entry.Entry.{Entry}
use Rattle.interleavings.specs.interleaving_core.Active.{ActiveView}
use Rattle.interleavings.specs.interleaving_core.Closing.{IsBusy, IsFlushedTo, has_one}
use Rattle.interleavings.specs.interleaving_core.Kernel.{KernelState, call_at}
use Rattle.interleavings.specs.interleaving_core.Owing.{untold}
use Rattle.interleavings.specs.interleaving_core.declared.fault.CloseFault.{CloseFault}
use Rattle.interleavings.specs.interleaving_core.declared.fault.CloseFault.TheVariants.{Failed}
use Rattle.interleavings.specs.Laws.{AnswersAsPlainLists as AnswersLed, ClosesRefine, EventsRefine}
use Rattle.schedules.specs.declared.event.Event.{Event}
use Rattle.replays.specs.Events.{PlaysAll, ReplayState}
use Rattle.replays.specs.Journal.{IsSoundReplay, entries_at}
use Rattle.replays.specs.PlainLists.{AnswersAsPlainLists, IsLeftWell}
use Rattle.replays.specs.Replays.{IsClosedWell}
use Rattle.replays.specs.Rounds.{MakesRounds}
use Rattle.replays.proofs.LeadLemmas.{replay_keeps, replay_leads}

-- ---- a kernel that is closed

not_true : (b : Bool) → (b ≡ true → ⊥) → b ≡ false
not_true true not = absurd (not refl)
not_true false not = refl

no_calls : (seats : List (Option ActiveView)) → list_any has_one seats ≡ false → (seat : ℕ) → call_at seats seat ≡ None
no_calls seats none zero = refl
no_calls [] none (suc place) = refl
no_calls (None ∷ xs) none (suc zero) = refl
no_calls (None ∷ xs) none (suc (suc place)) = no_calls xs none (suc place)
no_calls (Some a ∷ xs) none (suc place) = absurd cc

idle_closed : {K : Type 0} (k : KernelState K) → k.failed ≡ false → (IsBusy k → ⊥) → (seat : ℕ) →
    call_at k.seats seat ≡ None
idle_closed k sound not_busy =
    no_calls k.seats (not_true (list_any has_one k.seats) (λ e. not_busy (record { sound = sound; call = e })))

-- no step has failed, and it is not busy, so no seat has a call
pub closed_well : {K : Type 0} (k : KernelState K) (left : List (List ℕ)) (is_synced : Bool) →
    ((false ≡ true) ↔ IsBusy k) → ((◌≡◌ {A = Option CloseFault} None (Some Failed)) ↔ (k.failed ≡ true)) →
    (IsTrue k.pool.honest → IsFlushedTo k.pool left) → (IsTrue k.pool.honest → IsTrue is_synced) →
    IsClosedWell k left is_synced
closed_well k left is_synced busy failed flushed synced = record {
  sound = sound;
  idle = idle_closed k sound (λ is. let told : false ≡ true = busy.1 is in absurd cc);
  flushed = flushed;
  synced = synced;
}
  where
    sound : k.failed ≡ false
    sound = not_true k.failed
        (λ is. let told : ◌≡◌ {A = Option CloseFault} None (Some Failed) = failed.1 is in absurd cc)

-- where no line is left and the output refused nothing, a failure alone keeps pages from being written
pub only_failed : (over refused failed : Bool) → over ≡ true → refused ≡ false →
    (over && not refused && not failed) ≡ false → failed ≡ true
only_failed true false true is_over is_told away = refl
only_failed true false false is_over is_told away = absurd (true≢false away)
only_failed true true failed is_over is_told away = absurd (true≢false is_told)
only_failed false refused failed is_over is_told away = absurd (true≢false (sym is_over))

-- ---- what is left of a replay

module _ (leads : EventsRefine ShaKey) (words : List Event) (first played last : ReplayState)
    (plays : PlaysAll words first played) (goes : MakesRounds played last) (sound : IsSoundReplay last) where
  pub answers_plain : AnswersLed ShaKey → AnswersAsPlainLists first last
  answers_plain plain = record {
    keeps = replay_keeps words first played last plays goes;
    plain = λ base lawful led. plain sha_key base last.kernel lawful
        (replay_leads leads base words first played last plays goes led);
    told = sound.told;
  }

  module _ (left : List (List ℕ)) (is_synced : Bool) (well : IsClosedWell last.kernel left is_synced) where
    honest_still : IsTrue first.kernel.pool.honest → IsTrue last.kernel.pool.honest
    honest_still honest = subst IsTrue (sym (replay_keeps words first played last plays goes).honest) honest

    pub synced_well : IsTrue first.kernel.pool.honest → IsTrue is_synced
    synced_well honest = well.synced (honest_still honest)

    pub left_well : ClosesRefine ShaKey → IsLeftWell first last left
    left_well closes = record {
      told = λ seat. sound.told seat
          ∙ ap (λ (es : List Entry). part_of seat (entries_at last.script.lines last.script.replies) ++ es)
          (ap (untold seat) (well.idle seat))
          ∙ append-nil (part_of seat (entries_at last.script.lines last.script.replies));
      file = λ base led honest. closes sha_key base left last.kernel
          (replay_leads leads base words first played last plays goes led) well.idle well.sound
          (well.flushed (honest_still honest));
      pages = λ honest. sym (length-map left payload_of) ∙ ap length (well.flushed (honest_still honest)).images
          ∙ (replay_keeps words first played last plays goes).pages;
    }
