-- A script that is run line by line, once its sync is made or not.
use Rattle.std.proofs.Common.{ℕ, ◌≡◌, inl, inr, IsTrue, refl, sym, ap, ◌∙◌, subst, Bool, true, false, Option, None, Some}
use Rattle.numbers.specs.declared.faults.TheConstants.{DEVICE}
use Rattle.deferred_sync.specs.Deferred.{Commits, IsLent, Start, start_of}
use Rattle.deferred_sync.specs.safe_device.Device.{DeviceState}
use Rattle.deferred_sync.specs.safe_device.Left.{Left}
use Rattle.interleavings.specs.LoneKernelWords.{State}
use Rattle.msgq_cli.specs.Outputs.{OutputState}
use Rattle.msgq_cli.specs.Refusals.{IsFaultAlone}
use Rattle.msgq_cli.specs.Runs.{ending_of}
use Rattle.msgq_cli.specs.Scripts.{Parts}
use Rattle.msgq_cli.specs.declared.ending.Ending.{Ending}
use Rattle.session_runs.specs.PlainRuns.{IsPlainRun, RunsPlainly}
use Rattle.replays.specs.Replays.{EndsWith}
use Rattle.session_runs.specs.Runs.{EndsWell}
use Rattle.session_runs.specs.Serves.{IsRunOn, RunsOn}
use Rattle.replays.specs.Texts.{Effects, IsUnopened}
use Rattle.crash_safe_runs.specs.Concluding.{Concludes, IsAbandoned, fault_of, is_to_commit, is_well}
use Rattle.deferred_sync.specs.Crash.{Pages}
use Rattle.crash_safe_runs.specs.Scripts.{IsDone, IsRunOver, IsToldFile, IsUnrun, RunsOver, effects_on}
use Rattle.deferred_sync.proofs.CrashLemmas.{before_or_after, only_before}
use Rattle.crash_safe_runs.proofs.EndLemmas.{alone_unwell, committable, ends_failed, ends_none, lines_well, none_told, not_committable, well_told}

-- what is done to the pages, and printed
abbrev pub done_to : (content : Pages) (was : ℕ) (first : OutputState) (untold : Bool) (left : Pages) (synced : Bool)
    (faults : ℕ) (new : OutputState) → Effects
done_to content was first untold left synced faults new = record {
  content = content;
  left = left;
  synced = synced;
  was = was;
  faults = faults;
  old = first;
  new = new;
  untold = untold;
}

-- from the device that was lent to its beginning
pub from_lent : {P : Type 0} (moment : P → ℕ) (start : Start) (lent device : DeviceState P) →
    start ≡ start_of moment device → lent ≡ device → (Is : Effects → Type 0) (first new : OutputState) (untold : Bool)
    (left : Pages) (synced : Bool) (faults : ℕ) →
    Is (done_to lent.content lent.failed first untold left synced faults new) →
    Is (done_to start.pages start.failed first untold left synced faults new)
from_lent moment start lent device began same Is first new untold left synced faults is =
    subst (λ (s : Start). Is (done_to s.pages s.failed first untold left synced faults new))
    (sym (began ∙ ap (start_of moment) (sym same))) is

-- and from there to what a caller sees
pub to_device : {P : Type 0} (moment : P → ℕ) (start : Start) (device new : DeviceState P) →
    start ≡ start_of moment device → (Is : Effects → Type 0) (first told : OutputState) (was_untold untold : Bool) →
    untold ≡ was_untold →
    Is (done_to start.pages start.failed first was_untold new.content new.is_synced new.failed told) →
    Is (effects_on device new first told untold)
to_device moment start device new began Is first told was_untold untold same is =
    subst (λ (b : Bool). Is (effects_on device new first told b)) (sym same)
    (subst (λ (s : Start). Is (done_to s.pages s.failed first was_untold new.content new.is_synced new.failed told))
    began is)

module _ (honest : Bool) (content : Pages) (was : ℕ) (first : OutputState) (untold : Bool) where
  module _ (left : Pages) (due synced : Bool) (faults later : ℕ) (said told : OutputState) (ending ended : Ending)
      (script : Parts) where
    -- ---- the same run, with another end

    abbrev pub plain_ends : (fault : Option ℕ) (run : IsPlainRun script honest (done_to content was first untold left
        due faults said) ending) →
        EndsWith fault run.told (ending_of run.replies) told ended →
        ((s : Option State) → EndsWell s left untold was faults run.fault → EndsWell s left untold was later fault) →
        (untold ≡ false → fault ≡ None → IsTrue honest → IsTrue synced) → (fault ≡ None → run.fault ≡ None) →
        IsPlainRun script honest (done_to content was first untold left synced later told) ended
    plain_ends fault run ends well sync none = record {
      replies = run.replies;
      told = run.told;
      prints = run.prints;
      untold = run.untold;
      handed = run.handed;
      fault = fault;
      ends = ends;
      rules = λ sure.
          let is = run.rules sure in record {
            system = is.system;
            file = is.file;
            after = is.after;
            replied = is.replied;
            ends = well is.after is.ends;
            before = is.before;
          };
      synced = sync;
      pages = λ all sound sure. run.pages all (none sound) sure;
      before = run.before;
    }

    pub served_ends : (fault : Option ℕ) (run : IsRunOn script honest (done_to content was first untold left due
        faults said) ending) →
        EndsWith fault run.run.told (ending_of run.run.replies) told ended →
        ((s : Option State) → EndsWell s left untold was faults run.run.fault →
        EndsWell s left untold was later fault) →
        (untold ≡ false → fault ≡ None → IsTrue honest → IsTrue synced) → (fault ≡ None → run.run.fault ≡ None) →
        IsRunOn script honest (done_to content was first untold left synced later told) ended
    served_ends fault run ends well sync none = record {
      run = plain_ends fault run.run ends well sync none;
      first = run.first;
      opened = run.opened;
      last = run.last;
      takes = run.takes;
      before = run.before;
    }

-- ---- it is concluded

-- the file that was told is that of the system
told_file : (untold : Bool) (s : Option State) (left : Pages) (was faults : ℕ) → untold ≡ false →
    EndsWell s left untold was faults None → IsToldFile untold s left
told_file false (Some s) left was faults told (inl kept) = kept.file refl
told_file false (Some s) left was faults told (inr fails) = absurd (let says = fails.told in cc)
told_file false None left was faults told fails = absurd (let says = fails.told in cc)
told_file true s left was faults told ends = absurd cc

pub is_true : (b : Bool) → IsTrue b → b ≡ true
is_true true is = refl
is_true false is = absurd cc

module _ {P : Type 0} (honest : Bool) (moment : P → ℕ) (left_since : P → ℕ → Left → Type 0)
    (may_leave : P → Left → Type 0) (start : Start) (left : ℕ → Left → Type 0) (first : OutputState)
    (untold due : Bool) (old new : DeviceState P) (said told : OutputState) (ending ended : Ending) where
  abbrev pub ran : Effects
  ran = done_to start.pages start.failed first untold old.content due old.failed said

  abbrev pub came : DeviceState P → OutputState → Effects
  came device output =
      done_to start.pages start.failed first untold device.content device.is_synced device.failed output

  -- what is so of a device that was abandoned is so of it as it came back
  pub carried : (Is : DeviceState P → OutputState → Ending → Type 0) →
      IsAbandoned honest moment left_since may_leave start left old new said told ending ended → Is old said ending →
      Is new told ended
  carried Is is so =
      subst (Is new told) (sym is.ends)
      (subst (λ (o : OutputState). Is new o ending) (sym is.prints)
      (subst (λ (d : DeviceState P). Is d said ending) (sym is.device) so))

  pub lent_before : IsAbandoned honest moment left_since may_leave start left old new said told ending ended →
      IsLent honest moment left_since start left old
  lent_before is = subst (IsLent honest moment left_since start left) is.device is.lent

  -- where nothing was run it was abandoned
  pub unrun : (to_commit : Bool) → is_to_commit due untold ending ≡ to_commit →
      Concludes honest moment left_since may_leave start left to_commit old new said told ending ended →
      is_well ending ≡ false →
      IsUnrun honest moment left_since may_leave start.moment left (came new told) ended new.pair
  unrun true to concludes unwell = absurd (let to = committable due untold ending to in let well = to.well in cc)
  unrun false not is unwell = record { unwell = ap is_well is.ends ∙ unwell; crash = is.lent.leaves }

  pub unopened : (to_commit : Bool) → is_to_commit due untold ending ≡ to_commit →
      Concludes honest moment left_since may_leave start left to_commit old new said told ending ended →
      IsUnopened honest ran ending → IsUnopened honest (came new told) ended
  unopened true to concludes u =
      absurd (let to = committable due untold ending to in let well = to.well in
      let unwell = alone_unwell _ _ _ ending u.leaves.alone in cc)
  unopened false not is u = carried (λ d o e. IsUnopened honest (came d o) e) is (record {
    fault = u.fault;
    framed = u.framed;
    cause = u.cause;
    failed = u.failed;
    leaves = record { pages = u.leaves.pages; alone = u.leaves.alone; told = u.leaves.told };
  })

  module _ (script : Parts) where
    abbrev IsOver : DeviceState P → OutputState → Ending → Type 0
    IsOver device output ends =
        IsRunOver honest moment left_since may_leave start.moment left script (came device output) ends device.pair

    -- what it wrote was abandoned
    left_over : is_to_commit due untold ending ≡ false → IsLent honest moment left_since start left old →
        IsPlainRun script honest ran ending → IsOver old said ending
    left_over not lent run =
        let never : IsTrue honest → IsDone untold run.fault → ⊥ = λ sure done.
        not_committable due untold ending not (is_true due (run.synced done.told done.well sure)) done.told
        (well_told run.fault run.told said (ending_of run.replies) ending run.ends (lines_well run.replies)
        done.well)
        in record {
          run = plain_ends honest start.pages start.failed first untold old.content due old.is_synced old.failed
              old.failed said said ending ending script run.fault run run.ends (λ s is. is)
              (λ all none sure. absurd (never sure (record { told = all; well = none }))) (λ is. is);
          crash = λ sure.
              only_before moment left_since may_leave start left _ _ old.pair (lent.leaves sure) (never sure);
        }

    -- what it wrote was committed, or a transfer has failed
    brought : (done : Bool) → untold ≡ false → Commits honest moment left_since may_leave start left old new done →
        EndsWith (fault_of done) said ending told ended → (run : IsPlainRun script honest ran ending) →
        run.fault ≡ None → IsOver new told ended
    brought true all commits says run none =
        let last = subst (λ (f : Option ℕ). EndsWith f run.told (ending_of run.replies) said ending) none run.ends in
        let well : (s : Option State) → EndsWell s old.content untold start.failed old.failed run.fault →
        EndsWell s old.content untold start.failed old.failed None =
        λ s is. subst (EndsWell s old.content untold start.failed old.failed) none is in
        subst (λ (pages : Pages). IsRunOver honest moment left_since may_leave start.moment left script
        (done_to start.pages start.failed first untold pages new.is_synced new.failed told) ended new.pair)
        (sym commits.same)
        record {
          run = plain_ends honest start.pages start.failed first untold old.content due new.is_synced old.failed
              new.failed said told ending ended script None run (says.0 ∙ last.0, says.1 ∙ last.1)
              (λ s is. ends_none start.failed old.failed new.failed old.content untold s (well s is))
              (λ all none sure. commits.synced sure refl) (λ _. none);
          crash = λ sure.
              before_or_after moment left_since may_leave start left honest _ _ old new true sure commits
              (told_file untold (run.rules sure).after old.content start.failed old.failed all
              (well (run.rules sure).after (run.rules sure).ends))
              (λ done. refl);
        }
    brought false all commits says run none =
        let last = subst (λ (f : Option ℕ). EndsWith f run.told (ending_of run.replies) said ending) none run.ends in
        let well : (s : Option State) → EndsWell s old.content untold start.failed old.failed run.fault →
        EndsWell s old.content untold start.failed old.failed None =
        λ s is. subst (EndsWell s old.content untold start.failed old.failed) none is in
        subst (λ (pages : Pages). IsRunOver honest moment left_since may_leave start.moment left script
        (done_to start.pages start.failed first untold pages new.is_synced new.failed told) ended new.pair)
        (sym commits.same)
        record {
          run = plain_ends honest start.pages start.failed first untold old.content due new.is_synced old.failed
              new.failed said told ending ended script (Some DEVICE) run
              (subst (λ (o : OutputState). IsFaultAlone DEVICE o told ended) last.0 says)
              (λ s is. ends_failed start.failed old.failed new.failed old.content untold s (well s is)
              (commits.failed refl))
              (λ all none sure. absurd cc) (λ _. none);
          crash = λ sure.
              before_or_after moment left_since may_leave start left honest _ _ old new false sure commits
              (told_file untold (run.rules sure).after old.content start.failed old.failed all
              (well (run.rules sure).after (run.rules sure).ends))
              (λ done. absurd (let none = done.well in cc));
        }

    concluded : (to_commit : Bool) → is_to_commit due untold ending ≡ to_commit →
        Concludes honest moment left_since may_leave start left to_commit old new said told ending ended →
        IsPlainRun script honest ran ending → IsOver new told ended
    concluded true to is run =
        let to = committable due untold ending to in
        brought is.succeeded to.told is.commits is.says run
        (none_told run.fault run.told said (ending_of run.replies) ending run.ends to.well)
    concluded false not is run = carried IsOver is (left_over not (lent_before is) run)

    -- a run is over
    pub over : (to_commit : Bool) → is_to_commit due untold ending ≡ to_commit →
        Concludes honest moment left_since may_leave start left to_commit old new said told ending ended →
        RunsPlainly script honest ran ending →
        RunsOver honest moment left_since may_leave start.moment left script (came new told) ended new.pair
    over to_commit to is (inl run) = inl (concluded to_commit to is run)
    over to_commit to is (inr u) = inr (unrun to_commit to is (alone_unwell _ _ _ ending u.leaves.alone))

    pub plain_over : (to_commit : Bool) → is_to_commit due untold ending ≡ to_commit →
        Concludes honest moment left_since may_leave start left to_commit old new said told ending ended →
        RunsPlainly script honest ran ending → RunsPlainly script honest (came new told) ended
    plain_over to_commit to is (inl run) = inl (concluded to_commit to is run).run
    plain_over to_commit to is (inr u) = inr (unopened to_commit to is u)

    -- ---- the same with the kernel

    served_brought : (done : Bool) → Commits honest moment left_since may_leave start left old new done →
        EndsWith (fault_of done) said ending told ended → (run : IsRunOn script honest ran ending) →
        run.run.fault ≡ None → IsRunOn script honest (came new told) ended
    served_brought true commits says run none =
        let last = subst (λ (f : Option ℕ). EndsWith f run.run.told (ending_of run.run.replies) said ending) none
        run.run.ends in
        subst (λ (pages : Pages). IsRunOn script honest
        (done_to start.pages start.failed first untold pages new.is_synced new.failed told) ended)
        (sym commits.same)
        (served_ends honest start.pages start.failed first untold old.content due new.is_synced old.failed new.failed
        said told ending ended script None run (says.0 ∙ last.0, says.1 ∙ last.1)
        (λ s is. ends_none start.failed old.failed new.failed old.content untold s
        (subst (EndsWell s old.content untold start.failed old.failed) none is))
        (λ all none sure. commits.synced sure refl) (λ _. none))
    served_brought false commits says run none =
        let last = subst (λ (f : Option ℕ). EndsWith f run.run.told (ending_of run.run.replies) said ending) none
        run.run.ends in
        subst (λ (pages : Pages). IsRunOn script honest
        (done_to start.pages start.failed first untold pages new.is_synced new.failed told) ended)
        (sym commits.same)
        (served_ends honest start.pages start.failed first untold old.content due new.is_synced old.failed new.failed
        said told ending ended script (Some DEVICE) run
        (subst (λ (o : OutputState). IsFaultAlone DEVICE o told ended) last.0 says)
        (λ s is. ends_failed start.failed old.failed new.failed old.content untold s
        (subst (EndsWell s old.content untold start.failed old.failed) none is) (commits.failed refl))
        (λ all none sure. absurd cc) (λ _. none))

    served_left : is_to_commit due untold ending ≡ false → IsRunOn script honest ran ending →
        IsRunOn script honest (came old said) ending
    served_left not run =
        served_ends honest start.pages start.failed first untold old.content due old.is_synced old.failed old.failed
        said said ending ending script run.run.fault run run.run.ends (λ s is. is)
        (λ all none sure. absurd
        (not_committable due untold ending not (is_true due (run.run.synced all none sure)) all
        (well_told run.run.fault run.run.told said (ending_of run.run.replies) ending run.run.ends
        (lines_well run.run.replies) none)))
        (λ is. is)

    pub served_over : (to_commit : Bool) → is_to_commit due untold ending ≡ to_commit →
        Concludes honest moment left_since may_leave start left to_commit old new said told ending ended →
        RunsOn script honest ran ending → RunsOn script honest (came new told) ended
    served_over true to is (inl run) =
        let to = committable due untold ending to in
        inl (served_brought is.succeeded is.commits is.says run
        (none_told run.run.fault run.run.told said (ending_of run.run.replies) ending run.run.ends to.well))
    served_over false not is (inl run) =
        inl (carried (λ d o e. IsRunOn script honest (came d o) e) is (served_left not run))
    served_over to_commit to is (inr u) = inr (unopened to_commit to is u)
