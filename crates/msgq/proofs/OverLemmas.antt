-- A script of several seats, once its sync is made or not.
use Rattle.std.proofs.Common.{ℕ, ◌≡◌, ◌⊎◌, ⊎_elim, inl, inr, IsTrue, refl, sym, ◌∙◌, subst, Bool, true, false, Option, None, Some}
use Rattle.numbers.specs.declared.faults.TheConstants.{DEVICE, FAILED}
use Rattle.page_device.specs.Device.{HasRisen}
use Rattle.crash_safe_runs.specs.deferred_sync.Deferred.{Commits, IsLent, Start}
use Rattle.crash_safe_runs.specs.deferred_sync.safe_device.Device.{DeviceState}
use Rattle.crash_safe_runs.specs.deferred_sync.safe_device.Left.{Left}
use Rattle.msgq_cli.specs.Outputs.{OutputState}
use Rattle.msgq_cli.specs.Refusals.{IsFaultAlone}
use Rattle.msgq_cli.specs.Runs.{ending_of}
use Rattle.msgq_cli.specs.Scripts.{Parts}
use Rattle.msgq_cli.specs.declared.ending.Ending.{Ending}
use Rattle.service_runs.specs.Beside.{HasReason, RunsBeside, RunsBesideOn, origin_on}
use Rattle.replays.specs.Replays.{EndsWith}
use Rattle.replays.specs.Texts.{Effects}
use Rattle.crash_safe_runs.specs.Concluding.{Concludes, fault_of, is_to_commit}
use Rattle.crash_safe_runs.specs.deferred_sync.Crash.{Pages}
use Rattle.crash_safe_runs.specs.Scripts.{IsDone, IsUnrun}
use Rattle.crash_safe_runs.proofs.of_deferred_sync.CrashLemmas.{before_or_after, only_before}
use Rattle.crash_safe_runs.proofs.EndLemmas.{alone_unwell, committable, lines_well, none_told, not_committable, well_told}
use Rattle.crash_safe_runs.proofs.ReplayLemmas.{device_failed, none_some, some_is}
use Rattle.crash_safe_runs.proofs.ScriptLemmas.{carried, done_to, is_true, lent_before, unopened, unrun}
use Rattle.msgq.specs.Runs.{IsRunBesideOver}

module _ (script : Parts) (honest : Bool) (content : Pages) (was : ℕ) (first : OutputState) (untold : Bool)
    (left : Pages)
    (due : Bool) (faults : ℕ) (said : OutputState) (ending : Ending) where
  abbrev Before : Type 0
  Before = RunsBeside script (origin_on script honest (done_to content was first untold left due faults said))
      (done_to content was first untold left due faults said) ending

  abbrev After : Bool → ℕ → OutputState → Ending → Type 0
  After synced later told ended =
      RunsBeside script (origin_on script honest (done_to content was first untold left synced later told))
      (done_to content was first untold left synced later told) ended

  -- the run that was made, where it was abandoned
  abbrev pub beside_left : (synced : Bool) (run : Before) →
      (untold ≡ false → run.fault ≡ None → IsTrue honest → IsTrue synced) → After synced faults said ending
  beside_left synced run sync = record {
    replies = run.replies;
    as_many = run.as_many;
    fits = run.fits;
    journal = run.journal;
    fault = run.fault;
    plain = run.plain;
    mark = run.mark;
    parts = run.parts;
    told = run.told;
    prints = run.prints;
    untold = run.untold;
    handed = run.handed;
    kept = run.kept;
    synced = sync;
    before = run.before;
    number = run.number;
    failed = run.failed;
    full = run.full;
    reason = run.reason;
    ends = run.ends;
  }

  -- where it was committed, or a transfer has failed
  abbrev pub beside_brought : (synced : Bool) (later : ℕ) (told : OutputState) (ended : Ending) (fault : Option ℕ)
      (run : Before) → run.fault ≡ None → (fault ≡ Some FAILED → ⊥) →
      ((n : ℕ) → fault ≡ Some n → (n ≡ DEVICE) ⊎ (n ≡ FAILED)) → HasReason honest was later fault →
      (fault ≡ None → IsTrue honest → IsTrue synced) → EndsWith fault run.told (ending_of run.replies) told ended →
      After synced later told ended
  beside_brought synced later told ended fault run none sound number reason sync ends = record {
    replies = run.replies;
    as_many = run.as_many;
    fits = run.fits;
    journal = run.journal;
    fault = fault;
    plain = run.plain;
    mark = run.mark;
    parts = λ seat some within.
        let is = run.parts seat some within in record {
          more = is.more;
          part = is.part;
          one = is.one;
          exact = λ other. is.exact (λ failed. none_some FAILED (sym none ∙ failed));
        };
    told = run.told;
    prints = run.prints;
    untold = run.untold;
    handed = run.handed;
    kept = λ all well. run.kept all none;
    synced = λ all well. sync well;
    before = λ away. run.before (⊎_elim (λ refused. inl refused) (λ failed. absurd (sound failed)) away);
    number = number;
    failed = λ is. none_some FAILED (sym none ∙ run.failed is);
    full = run.full;
    reason = reason;
    ends = ends;
  }

-- the number of a failed transfer
is_device : (n : ℕ) → ◌≡◌ {A = Option ℕ} (Some DEVICE) (Some n) → (n ≡ DEVICE) ⊎ (n ≡ FAILED)
is_device n is = inl (sym (some_is DEVICE n is))

no_number : (n : ℕ) → ◌≡◌ {A = Option ℕ} None (Some n) → (n ≡ DEVICE) ⊎ (n ≡ FAILED)
no_number n is = none_some n is

no_reason : (honest : Bool) (was later : ℕ) → HasReason honest was later None
no_reason honest was later = record { device = λ is. none_some DEVICE is; step = λ sure is. none_some FAILED is }

its_reason : (honest : Bool) (was later : ℕ) → HasRisen was later → HasReason honest was later (Some DEVICE)
its_reason honest was later risen = record { device = λ is. risen; step = λ sure is. absurd (device_failed is) }

module _ {P : Type 0} (honest : Bool) (moment : P → ℕ) (left_since : P → ℕ → Left → Type 0)
    (may_leave : P → Left → Type 0) (start : Start) (left : ℕ → Left → Type 0) (first : OutputState)
    (untold due : Bool) (old new : DeviceState P) (said told : OutputState) (ending ended : Ending) (script : Parts)
  where
    abbrev ran : Effects
    ran = done_to start.pages start.failed first untold old.content due old.failed said

    abbrev came : DeviceState P → OutputState → Effects
    came device output =
        done_to start.pages start.failed first untold device.content device.is_synced device.failed output

    abbrev IsOver : Effects → Ending → P → Type 0
    IsOver e ends pair = IsRunBesideOver honest moment left_since may_leave start.moment left script e ends pair

    -- what it wrote was abandoned
    left_over : is_to_commit due untold ending ≡ false → IsLent honest moment left_since start left old →
        RunsBeside script (origin_on script honest ran) ran ending → IsOver (came old said) ending old.pair
    left_over not lent run =
        let never : IsTrue honest → IsDone untold run.fault → ⊥ = λ sure done.
        not_committable due untold ending not (is_true due (run.synced done.told done.well sure)) done.told
        (well_told run.fault run.told said (ending_of run.replies) ending run.ends (lines_well run.replies) done.well)
        in record {
          run = beside_left script honest start.pages start.failed first untold old.content due old.failed said ending
              old.is_synced run (λ all none sure. absurd (never sure (record { told = all; well = none })));
          crash = λ sure.
              only_before moment left_since may_leave start left _ _ old.pair (lent.leaves sure) (never sure);
        }

    -- what it wrote was committed, or a transfer has failed
    brought : (done : Bool) → untold ≡ false → Commits honest moment left_since may_leave start left old new done →
        EndsWith (fault_of done) said ending told ended →
        (run : RunsBeside script (origin_on script honest ran) ran ending) → run.fault ≡ None →
        IsOver (came new told) ended new.pair
    brought true all commits says run none =
        let last = subst (λ (f : Option ℕ). EndsWith f run.told (ending_of run.replies) said ending) none run.ends in
        subst (λ (pages : Pages). IsOver
        (done_to start.pages start.failed first untold pages new.is_synced new.failed told) ended new.pair)
        (sym commits.same)
        record {
          run = beside_brought script honest start.pages start.failed first untold old.content due old.failed said
              ending
              new.is_synced new.failed told ended None run none (λ is. none_some FAILED is) no_number
              (no_reason honest start.failed new.failed) (λ _ sure. commits.synced sure refl)
              (says.0 ∙ last.0, says.1 ∙ last.1);
          crash = λ sure.
              before_or_after moment left_since may_leave start left honest _ _ old new true sure commits
              (record { told = all; file = run.kept all none sure }) (λ done. refl);
        }
    brought false all commits says run none =
        let last = subst (λ (f : Option ℕ). EndsWith f run.told (ending_of run.replies) said ending) none run.ends in
        subst (λ (pages : Pages). IsOver
        (done_to start.pages start.failed first untold pages new.is_synced new.failed told) ended new.pair)
        (sym commits.same)
        record {
          run = beside_brought script honest start.pages start.failed first untold old.content due old.failed said
              ending
              new.is_synced new.failed told ended (Some DEVICE) run none device_failed is_device
              (its_reason honest start.failed new.failed (commits.failed refl)) (λ is sure. absurd cc)
              (subst (λ (o : OutputState). IsFaultAlone DEVICE o told ended) last.0 says);
          crash = λ sure.
              before_or_after moment left_since may_leave start left honest _ _ old new false sure commits
              (record { told = all; file = run.kept all none sure }) (λ done. absurd (let told = done.well in cc));
        }

    concluded : (to_commit : Bool) → is_to_commit due untold ending ≡ to_commit →
        Concludes honest moment left_since may_leave start left to_commit old new said told ending ended →
        RunsBeside script (origin_on script honest ran) ran ending → IsOver (came new told) ended new.pair
    concluded true to is run =
        let to = committable due untold ending to in
        brought is.succeeded to.told is.commits is.says run
        (none_told run.fault run.told said (ending_of run.replies) ending run.ends to.well)
    concluded false not is run =
        carried honest moment left_since may_leave start left first untold due old new said told ending ended
        (λ d o e. IsOver (came d o) e d.pair) is
        (left_over not
        (lent_before honest moment left_since may_leave start left first untold due old new said told ending ended is)
        run)

    -- what a run of several seats comes to, and what a crash leaves of it
    pub record BesideOver (e : Effects) (ends : Ending) (pair : P) : Type 0 where
      pub runs : RunsBesideOn script honest e ends
      pub over : IsOver e ends pair ⊎ IsUnrun honest moment left_since may_leave start.moment left e ends pair

    pub beside_over : (to_commit : Bool) → is_to_commit due untold ending ≡ to_commit →
        Concludes honest moment left_since may_leave start left to_commit old new said told ending ended →
        RunsBesideOn script honest ran ending → BesideOver (came new told) ended new.pair
    beside_over to_commit to is (inl run) =
        let is_over = concluded to_commit to is run in record { runs = inl is_over.run; over = inl is_over }
    beside_over to_commit to is (inr u) = record {
      runs = inr
          (unopened honest moment left_since may_leave start left first untold due old new said told ending ended
          to_commit to is u);
      over = inr
          (unrun honest moment left_since may_leave start left first untold due old new said told ending ended to_commit
          to is (alone_unwell _ _ _ ending u.leaves.alone));
    }
