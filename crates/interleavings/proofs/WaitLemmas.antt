-- A call that waits, and the stop that wakes it.
use Rattle.std.proofs.Common.{ℕ, ◌≡◌, ◌≤◌, refl, sym, ap, ◌∙◌, subst, Bool, true, false, true≢false, IsSome, List, [], ◌∷◌, ◌++◌, Option, Some, None, length, drop, not, length-append, arith}
use Rattle.std.specs.List.{list_any}
use Rattle.std.proofs.lemmas.Bool.{or_right}
use Rattle.std.proofs.lemmas.List.{drop-append-le}
use Rattle.std.proofs.lemmas.List.Folds.{list_any-append}
use Rattle.queue_model.specs.declared.entry.Entry.TheVariants.{Stopped}
use Rattle.interleavings.specs.ConcurrentLaws.{BeginTogether}
use Rattle.interleaving_core.specs.Waiting.{is_woken, queue_on, wakes}
use Rattle.interleaving_core.specs.Words.{Entry}
use Rattle.interleavings.specs.LoneKernelWords.{ActiveView, Call, Caller, HasFittingCall, HasFittingCaller, IsFileAtRest, IsStopped, KernelState, RecordKey, State, stays_waiting}
use Rattle.interleavings.specs.Lone.{IsAsleep, ServesOver}
use Rattle.interleavings.specs.LoneKernelLaws.{StopsAWaitingCall}
use Rattle.interleavings.proofs.DriveLemmas.{new_so}
use Rattle.interleavings.proofs.LoneCallLemmas.{begins_alone, fits, stops_at_rest}
use Rattle.interleavings.proofs.WaitingLemmas.{undecided_yet}

-- ---- a call that does not wait

pub awake_goes : (wait : Option ℕ) (call : Call) (journal : List Entry) → wait ≡ None →
    stays_waiting wait call journal ≡ true → ⊥
awake_goes None call journal none stays = cc
awake_goes (Some since) call journal none stays = cc

-- ---- what a longer journal leaves

pub still_within : (n : ℕ) (journal added : List Entry) → n ≤ length journal → n ≤ length (journal ++ added)
still_within n journal added within = let both = length-append journal added in omega (arith, within, both)

-- a stop wakes each call that waits
module _ (call : Call) (since : ℕ) (journal : List Entry) (within : since ≤ length journal) where
  woken : is_woken call since (journal ++ Stopped ∷ []) ≡ true
  woken =
      ap (list_any (wakes (queue_on call))) (drop-append-le since journal (Stopped ∷ []) within)
      ∙ list_any-append (wakes (queue_on call)) (drop since journal) (Stopped ∷ [])
      ∙ or_right (list_any (wakes (queue_on call)) (drop since journal))
      (list_any (wakes (queue_on call)) (Stopped ∷ [])) refl

  pub stop_wakes : (wait : Option ℕ) → wait ≡ Some since →
      stays_waiting wait call (journal ++ Stopped ∷ []) ≡ true → ⊥
  stop_wakes wait is stays =
      true≢false (sym stays ∙ ap (λ (w : Option ℕ). stays_waiting w call (journal ++ Stopped ∷ [])) is ∙ ap not woken)

-- ---- it is stopped

module _ (begins : BeginTogether) {K : Type 0} (hash : RecordKey → ℕ) (seat : ℕ)
    (caller : Caller) (call : Call) (s : State) (old new : KernelState K)
    (serves : ServesOver hash seat caller call s old) (stop : IsStopped old new) where
  abbrev then : State
  then = record s { stopped = true }

  abbrev a : ActiveView
  a = serves.active

  again : old.stopped ≡ true → ServesOver hash seat caller call then old
  again is = subst (λ (t : State). ServesOver hash seat caller call t old)
      (ap (λ (b : Bool). record s { stopped = b }) (serves.mark ∙ is)) serves

  its : HasFittingCaller caller × HasFittingCall call
  its = fits hash seat caller call s a.machine old.pool old.locks serves.served.lone

  module _ (since : ℕ) (is : a.wait ≡ Some since) where
    asleep : IsAsleep hash caller call s a.machine since old
    asleep = serves.asleep since is

    file : IsFileAtRest hash then old.pool old.locks
    file = stops_at_rest hash s old.pool old.locks asleep.file true

    -- it begins over the file at rest with the stopped system
    first : ServesOver hash seat caller call then
        (record old { journal = old.journal ++ Stopped ∷ []; stopped = true; room = new.room })
    first = record {
      active = a;
      there = serves.there;
      served = begins_alone hash then old.pool old.locks file begins seat caller call a.machine
          serves.served.lone.seated its.0 its.1 asleep.begins;
      few = serves.few;
      waits = λ stays. absurd (stop_wakes a.machine.call since old.journal asleep.within a.wait is stays);
      asleep = λ n some. record {
        begins = asleep.begins;
        file = file;
        within = still_within n old.journal (Stopped ∷ []) (serves.asleep n some).within;
      };
      quiet = new_so a (old.journal ++ Stopped ∷ []) asleep.begins.new;
      decided = λ some. absurd (undecided_yet a.machine asleep.begins.new some);
      others = serves.others;
      sound = serves.sound;
      mark = refl;
    }

  pub stopped_by : (wait : Option ℕ) → a.wait ≡ wait → IsSome wait → (b : Bool) → old.stopped ≡ b →
      ServesOver hash seat caller call then new
  stopped_by None is some b mark = absurd cc
  stopped_by (Some since) is some true mark =
      subst (ServesOver hash seat caller call then) (sym (stop.again mark)) (again mark)
  stopped_by (Some since) is some false mark =
      subst (ServesOver hash seat caller call then) (sym (stop.first mark)) (first since is)

pub stops_a_waiting_call : BeginTogether → (K : Type 0) → StopsAWaitingCall K
stops_a_waiting_call begins K hash seat caller call s old new over stop =
    stopped_by begins hash seat caller call s old new over.serves stop over.serves.active.wait refl over.told
    old.stopped refl
