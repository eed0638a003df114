-- A script that is replayed, once its sync is made or not.
use Rattle.std.proofs.Common.{ℕ, ◌≡◌, ◌↔◌, ◌⊎◌, inl, inr, IsTrue, refl, sym, ap, ◌∙◌, subst, Bool, true, false, List, Option, None, Some, unwrap_or, Result, Ok, Err, arith}
use Rattle.numbers.specs.declared.faults.TheConstants.{BUSY, DEVICE, FAILED, NO_MEMORY}
use Rattle.deferred_sync.specs.Deferred.{Commits, IsLent, Start}
use Rattle.deferred_sync.specs.safe_device.Device.{DeviceState}
use Rattle.deferred_sync.specs.safe_device.Left.{Left}
use Rattle.interleavings.specs.LoneKernelWords.{KernelState, PoolState}
use Rattle.msgq_cli.specs.Outputs.{OutputState}
use Rattle.msgq_cli.specs.Refusals.{IsFaultAlone}
use Rattle.msgq_cli.specs.Scripts.{Parts, script_of}
use Rattle.msgq_cli.specs.declared.ending.Ending.{Ending}
use Rattle.replays.specs.Events.{ReplayState}
use Rattle.replays.specs.PlainLists.{IsLeftWell}
use Rattle.replays.specs.Replays.{EndsWith, IsOpenedFor, MayEndWith}
use Rattle.replays.specs.Rounds.{is_over}
use Rattle.replays.specs.Texts.{Effects, IsPlayed, IsUnopened, LeavesFault, PlaysSchedule, PlaysScript, PlaysTexts}
use Rattle.schedules.specs.Schedules.{schedule_of}
use Rattle.schedules.specs.declared.event.Event.{Event}
use Rattle.crash_safe_runs.specs.Concluding.{Concludes, fault_of, is_to_commit, is_well}
use Rattle.deferred_sync.specs.Crash.{Pages}
use Rattle.crash_safe_runs.specs.Replays.{IsReplayedOver, ReplaysOver}
use Rattle.crash_safe_runs.specs.Scripts.{IsDone}
use Rattle.deferred_sync.proofs.CrashLemmas.{before_or_after, only_before}
use Rattle.crash_safe_runs.proofs.EndLemmas.{alone_unwell, committable, none_told, not_committable, replies_well, well_told}
use Rattle.crash_safe_runs.proofs.ScriptLemmas.{carried, done_to, is_true, lent_before, unopened, unrun}

-- ---- numbers of faults

pub some_is : (a b : ℕ) → ◌≡◌ {A = Option ℕ} (Some a) (Some b) → a ≡ b
some_is a b same = ap (λ (o : Option ℕ). unwrap_or o 0) same

-- a failed transfer is no failed step, and no line that is left
pub device_failed : ◌≡◌ {A = Option ℕ} (Some DEVICE) (Some FAILED) → ⊥
device_failed is = let same = some_is DEVICE FAILED is in absurd (omega (arith, same))

device_busy : ◌≡◌ {A = Option ℕ} (Some DEVICE) (Some BUSY) → ⊥
device_busy is = let same = some_is DEVICE BUSY is in absurd (omega (arith, same))

pub none_some : {X : Type 0} (a : ℕ) → ◌≡◌ {A = Option ℕ} None (Some a) → X
none_some a is = absurd cc

-- ---- the end of a kernel

-- a transfer has failed where the kernel was closed well before
failed_after : {K : Type 0} (over untold : Bool) (k : KernelState K) → untold ≡ false → MayEndWith over untold k None →
    MayEndWith over untold k (Some DEVICE)
failed_after true false k all closes = record {
  failed = (λ is. absurd (device_failed is), λ failed. none_some FAILED (closes.failed.1 failed));
  busy = (λ is. absurd (device_busy is), λ busy. none_some BUSY (closes.busy.1 busy));
  other = λ number is. inl (sym (some_is DEVICE number is));
}
failed_after true true k all closes = absurd cc
failed_after false untold k all closes = none_some BUSY closes

-- the replay that was made, with another end
module _ (script : Parts) (events : List Event) (honest : Bool) (content : Pages) (was : ℕ) (first : OutputState)
    (untold : Bool) (left : Pages) (due synced : Bool) (faults later : ℕ) (said told : OutputState)
    (ending ended : Ending) where
  abbrev pub played_ends : (fault : Option ℕ)
      (run : IsPlayed script events honest (done_to content was first untold left due faults said) ending) →
      MayEndWith (is_over run.replayed.last) untold run.replayed.last.kernel fault →
      ((fault ≡ Some BUSY) ↔ (is_over run.replayed.last ≡ false)) →
      (untold ≡ false → fault ≡ None → IsLeftWell run.first run.replayed.last left) →
      (untold ≡ false → fault ≡ None → IsTrue run.first.kernel.pool.honest → IsTrue synced) →
      EndsWith fault run.replayed.told run.replayed.so_far told ended →
      IsPlayed script events honest (done_to content was first untold left synced later told) ended
  played_ends fault run closes stuck well sync ends = record {
    first = run.first;
    opened = run.opened;
    replayed = record {
      played = run.replayed.played;
      plays = run.replayed.plays;
      last = run.replayed.last;
      rounds = run.replayed.rounds;
      answers = run.replayed.answers;
      told = run.replayed.told;
      so_far = run.replayed.so_far;
      tells = run.replayed.tells;
      untold_is = run.replayed.untold_is;
      handed = run.replayed.handed;
      fault = fault;
      closes = closes;
      stuck = stuck;
      well = well;
      synced = sync;
      unwritten = run.replayed.unwritten;
      before = run.replayed.before;
      ends = ends;
    };
    before = run.before;
  }

-- a line is left exactly where that is told
stuck_still : (was : Option ℕ) (over : Bool) (fault : Option ℕ) → was ≡ None →
    ((was ≡ Some BUSY) ↔ (over ≡ false)) → (fault ≡ Some BUSY → ⊥) → (fault ≡ Some BUSY) ↔ (over ≡ false)
stuck_still was over fault none stuck not =
    (λ busy. absurd (not busy), λ is. none_some BUSY (sym none ∙ stuck.1 is))

-- a kernel that was opened over a device is as honest
honest_of : (script : Parts) (content : Pages) (honest : Bool) (s : ReplayState) → IsOpenedFor script content honest s →
    s.kernel.pool.honest ≡ honest
honest_of script content honest s opened = ap (λ (p : PoolState). p.honest) opened.kernel.opened.pool

module _ {P : Type 0} (honest : Bool) (moment : P → ℕ) (left_since : P → ℕ → Left → Type 0)
    (may_leave : P → Left → Type 0) (start : Start) (left : ℕ → Left → Type 0) (first : OutputState)
    (untold due : Bool) (old new : DeviceState P) (said told : OutputState) (ending ended : Ending) where
  abbrev ran : Effects
  ran = done_to start.pages start.failed first untold old.content due old.failed said

  abbrev came : DeviceState P → OutputState → Effects
  came device output =
      done_to start.pages start.failed first untold device.content device.is_synced device.failed output

  abbrev Concluded : Bool → Type 0
  Concluded to_commit =
      Concludes honest moment left_since may_leave start left to_commit old new said told ending ended

  module _ (text words : List ℕ) where
    -- what is played, and what a crash leaves of it
    pub record Both (Plays : Effects → Ending → Type 0) (e : Effects) (ends : Ending) (pair : P) : Type 0 where
      pub plays : Plays e ends
      pub over : ReplaysOver honest moment left_since may_leave start.moment left text words e ends pair

    module _ (script : Parts) (reads : script_of text ≡ Ok script) (events : List Event)
        (spells : schedule_of words ≡ Ok events) where
      abbrev Plays : Effects → Ending → Type 0
      Plays e ends = IsPlayed script events honest e ends ⊎ IsUnopened honest e ends

      abbrev BothOf : Effects → Ending → P → Type 0
      BothOf e ends pair = Both Plays e ends pair

      -- what it wrote was abandoned
      played_left : is_to_commit due untold ending ≡ false → IsLent honest moment left_since start left old →
          IsPlayed script events honest ran ending → BothOf (came old said) ending old.pair
      played_left not lent run =
          let is = run.replayed in
          let same = honest_of script start.pages honest run.first run.opened in
          let never : IsTrue honest → IsDone untold is.fault → ⊥ = λ sure done.
          not_committable due untold ending not
          (is_true due (is.synced done.told done.well (subst (λ (b : Bool). IsTrue b) (sym same) sure))) done.told
          (well_told is.fault is.told said is.so_far ending is.ends
          (ap is_well is.tells.ends ∙ replies_well run.replayed.last.script.replies) done.well)
          in
          let over : IsReplayedOver honest moment left_since may_leave start.moment left text words (came old said)
          ending
          old.pair = record {
            script = script;
            reads = reads;
            events = events;
            spells = spells;
            run = played_ends script events honest start.pages start.failed first untold old.content due old.is_synced
                old.failed old.failed said said ending ending is.fault run is.closes is.stuck is.well
                (λ all none sure. absurd (never (subst (λ (b : Bool). IsTrue b) same sure)
                (record { told = all; well = none })))
                is.ends;
            crash = λ sure.
                only_before moment left_since may_leave start left _ _ old.pair (lent.leaves sure) (never sure);
          } in
          record { plays = inl over.run; over = inl over }

      -- what it wrote was committed, or a transfer has failed
      played_brought : (done : Bool) → untold ≡ false →
          Commits honest moment left_since may_leave start left old new done →
          EndsWith (fault_of done) said ending told ended → (run : IsPlayed script events honest ran ending) →
          run.replayed.fault ≡ None → BothOf (came new told) ended new.pair
      played_brought true all commits says run none =
          let is = run.replayed in
          let same = honest_of script start.pages honest run.first run.opened in
          let ends = subst (λ (f : Option ℕ). EndsWith f is.told is.so_far said ending) none is.ends in
          let closes = subst (MayEndWith (is_over is.last) untold is.last.kernel) none is.closes in
          let over : IsReplayedOver honest moment left_since may_leave start.moment left text words
          (done_to start.pages start.failed first untold old.content new.is_synced new.failed told) ended
          new.pair = record {
            script = script;
            reads = reads;
            events = events;
            spells = spells;
            run = played_ends script events honest start.pages start.failed first untold old.content due new.is_synced
                old.failed new.failed said told ending ended None run closes
                (stuck_still run.replayed.fault (is_over is.last) None none is.stuck (none_some BUSY))
                (λ told _. is.well told none)
                (λ told _ sure. commits.synced (subst (λ (b : Bool). IsTrue b) same sure) refl)
                (says.0 ∙ ends.0, says.1 ∙ ends.1);
            crash = λ sure.
                before_or_after moment left_since may_leave start left honest _ _ old new true sure commits
                (record {
                  told = all;
                  file = (is.well all none).file (run.opened.led sure).base (run.opened.led sure).led
                      (subst (λ (b : Bool). IsTrue b) (sym same) sure);
                })
                (λ done. refl);
          } in
          subst (λ (pages : Pages). BothOf (done_to start.pages start.failed first untold pages new.is_synced
          new.failed told)
          ended new.pair) (sym commits.same) (record { plays = inl over.run; over = inl over })
      played_brought false all commits says run none =
          let is = run.replayed in
          let same = honest_of script start.pages honest run.first run.opened in
          let ends = subst (λ (f : Option ℕ). EndsWith f is.told is.so_far said ending) none is.ends in
          let closes = subst (MayEndWith (is_over is.last) untold is.last.kernel) none is.closes in
          let over : IsReplayedOver honest moment left_since may_leave start.moment left text words
          (done_to start.pages start.failed first untold old.content new.is_synced new.failed told) ended
          new.pair = record {
            script = script;
            reads = reads;
            events = events;
            spells = spells;
            run = played_ends script events honest start.pages start.failed first untold old.content due new.is_synced
                old.failed new.failed said told ending ended (Some DEVICE) run (failed_after (is_over is.last) untold
                is.last.kernel all closes)
                (stuck_still run.replayed.fault (is_over is.last) (Some DEVICE) none is.stuck device_busy)
                (λ told is. absurd cc) (λ told is sure. absurd cc)
                (subst (λ (o : OutputState). IsFaultAlone DEVICE o told ended) ends.0 says);
            crash = λ sure.
                before_or_after moment left_since may_leave start left honest _ _ old new false sure commits
                (record {
                  told = all;
                  file = (is.well all none).file (run.opened.led sure).base (run.opened.led sure).led
                      (subst (λ (b : Bool). IsTrue b) (sym same) sure);
                })
                (λ done. absurd (let told = done.well in cc));
          } in
          subst (λ (pages : Pages). BothOf (done_to start.pages start.failed first untold pages new.is_synced
          new.failed told)
          ended new.pair) (sym commits.same) (record { plays = inl over.run; over = inl over })

      played_over : (to_commit : Bool) → is_to_commit due untold ending ≡ to_commit → Concluded to_commit →
          Plays ran ending → BothOf (came new told) ended new.pair
      played_over true to is (inl run) =
          let to = committable due untold ending to in
          played_brought is.succeeded to.told is.commits is.says run
          (none_told run.replayed.fault run.replayed.told said run.replayed.so_far ending run.replayed.ends to.well)
      played_over false not is (inl run) =
          carried honest moment left_since may_leave start left first untold due old new said told ending ended
          (λ d o e. BothOf (came d o) e d.pair) is
          (played_left not
          (lent_before honest moment left_since may_leave start left first untold due old new said told ending ended is)
          run)
      played_over to_commit to is (inr u) = record {
        plays = inr
            (unopened honest moment left_since may_leave start left first untold due old new said told ending ended
            to_commit to is u);
        over = inr
            (unrun honest moment left_since may_leave start left first untold due old new said told ending ended
            to_commit to is (alone_unwell _ _ _ ending u.leaves.alone));
      }

    -- ---- what texts spell

    -- a wrong one is told, and nothing is run
    aside : (to_commit : Bool) → is_to_commit due untold ending ≡ to_commit → Concluded to_commit →
        (Is : Effects → Ending → Type 0) → is_well ending ≡ false → Is (came old said) ending →
        Both Is (came new told) ended new.pair
    aside true to is Is unwell so =
        absurd (let to = committable due untold ending to in let well = to.well in cc)
    aside false not is Is unwell so = record {
      plays = carried honest moment left_since may_leave start left first untold due old new said told ending ended
          (λ d o e. Is (came d o) e) is so;
      over = inr
          (unrun honest moment left_since may_leave start left first untold due old new said told ending ended false not
          is unwell);
    }

    by_schedule : (to_commit : Bool) → is_to_commit due untold ending ≡ to_commit → Concluded to_commit →
        (script : Parts) → script_of text ≡ Ok script → (spelled : Result (List Event) ℕ) →
        schedule_of words ≡ spelled → PlaysSchedule spelled script honest ran ending →
        Both (PlaysSchedule spelled script honest) (came new told) ended new.pair
    by_schedule to_commit to is script reads (Ok events) spells plays =
        played_over script reads events spells to_commit to is plays
    by_schedule to_commit to is script reads (Err word) spells plays =
        aside to_commit to is (PlaysSchedule (Err word) script honest) (ap is_well plays.0)
        (plays.0, record { pages = plays.1.pages; printed = plays.1.printed; told = plays.1.told })

    by_script : (to_commit : Bool) → is_to_commit due untold ending ≡ to_commit → Concluded to_commit →
        (read : Result Parts ℕ) → script_of text ≡ read → PlaysScript read words honest ran ending →
        Both (PlaysScript read words honest) (came new told) ended new.pair
    by_script to_commit to is (Ok script) reads plays =
        by_schedule to_commit to is script reads (schedule_of words) refl plays
    by_script to_commit to is (Err line) reads plays =
        aside to_commit to is (PlaysScript (Err line) words honest) (ap is_well plays.0)
        (plays.0, record { pages = plays.1.pages; printed = plays.1.printed; told = plays.1.told })

    pub texts_over : (to_commit : Bool) → is_to_commit due untold ending ≡ to_commit → Concluded to_commit →
        PlaysTexts text words honest ran ending →
        Both (PlaysTexts text words honest) (came new told) ended new.pair
    texts_over to_commit to is (inl plays) =
        let both = by_script to_commit to is (script_of text) refl plays in
        record { plays = inl both.plays; over = both.over }
    texts_over to_commit to is (inr alone) =
        let both = aside to_commit to is (LeavesFault NO_MEMORY) (alone_unwell _ _ _ ending alone.alone)
        (record { pages = alone.pages; alone = alone.alone; told = alone.told }) in
        record { plays = inr both.plays; over = both.over }
