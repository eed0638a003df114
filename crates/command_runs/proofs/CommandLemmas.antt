-- A command, once its sync is made or not.
use Rattle.std.proofs.Common.{ℕ, ◌≡◌, inl, inr, IsTrue, refl, sym, subst, Bool, true, false, List, Option, Result, Ok, Err}
use Rattle.std.specs.Prelude.{◌&&◌, OnOk, is_ok}
use Rattle.page_device.specs.Device.{HasRisen}
use Rattle.command_runs.specs.Running.{IfUnprinted, IfUnwritten, RunsOn, seen}
use Rattle.command_runs.specs.declared.error.CommandError.{CommandError}
use Rattle.command_runs.specs.declared.error.CommandError.TheVariants.{Unclosed}
use Rattle.deferred_sync.specs.Deferred.{Commits, Start}
use Rattle.deferred_sync.specs.safe_device.Device.{DeviceState}
use Rattle.deferred_sync.specs.safe_device.Left.{Left}
use Rattle.interleavings.specs.LoneKernelWords.{Caller}
use Rattle.interleavings.specs.interleaving_core.declared.fault.CloseFault.TheVariants as closes
use Rattle.queue_commands.specs.declared.request.Request.{Request}
use Rattle.command_runs.specs.Commands.{AsksOver, ConcludesAs, IsFileAfterCommand, told_of}
use Rattle.deferred_sync.specs.Crash.{Pages}
use Rattle.deferred_sync.proofs.CrashLemmas.{before_or_after, only_before}

module _ (c : Caller) (r : Request) (before : Pages) (old new : Option (List ℕ)) (was faults later : ℕ) where
  -- it is from the one system of the file that its text was printed, and the device has its file
  printed : (content : Pages) (done : Unit {0}) → RunsOn c r before content (seen old new was faults) (Ok done) →
      IsFileAfterCommand c r before (seen old new was later) content
  printed content done (inl from) = let is = from.ends.0 in record {
    system = from.system;
    file = from.file;
    printed = record { text = is.text; system = is.system; is = is.is; printed = is.printed; held = is.held };
  }
  printed content done (inr u) = absurd (let told = u.told in cc)

  -- and it is done, whatever failed since
  done_later : (content : Pages) (done : Unit {0}) → RunsOn c r before content (seen old new was faults) (Ok done) →
      RunsOn c r before content (seen old new was later) (Ok done)
  done_later content done (inl from) = let is = from.ends.0 in inl (record {
    system = from.system;
    file = from.file;
    ends = (
      record { text = is.text; system = is.system; is = is.is; printed = is.printed; held = is.held },
      from.ends.1,
    );
  })
  done_later content done (inr u) = absurd (let told = u.told in cc)

  -- or a transfer has failed at its end
  failed_later : (content left : Pages) (done : Unit {0}) →
      RunsOn c r before content (seen old new was faults) (Ok done) → HasRisen was later →
      RunsOn c r before left (seen old new was later) (Err (Unclosed closes.Device))
  failed_later content left done (inl from) risen = let is = from.ends.0 in inl (record {
    system = from.system;
    file = from.file;
    ends = (risen, record { text = is.text; system = is.system; is = is.is; printed = is.printed; held = tt });
  })
  failed_later content left done (inr u) risen = absurd (let told = u.told in cc)

-- what is to be committed is done
to_done : (due : Bool) (came : Result (Unit {0}) CommandError) → (due && is_ok came) ≡ true → came ≡ Ok tt
to_done true (Ok done) to = refl
to_done true (Err error) to = absurd cc
to_done false came to = absurd cc

-- and what is not, though it asked for its sync, is not done
not_done : (due : Bool) (came : Result (Unit {0}) CommandError) → (due && is_ok came) ≡ false → due ≡ true →
    is_ok came ≡ true → ⊥
not_done true (Ok done) not due ok = cc
not_done true (Err error) not due ok = cc
not_done false came not due ok = cc

is_true : (b : Bool) → IsTrue b → b ≡ true
is_true true is = refl
is_true false is = absurd cc

-- one that is done has asked for it
pub due_of : (due : Bool) (came : Result (Unit {0}) CommandError) → OnOk came (IsTrue due) → is_ok came ≡ true →
    due ≡ true
due_of due (Ok done) synced ok = is_true due synced
due_of due (Err error) synced ok = absurd cc

module _ {P : Type 0} (honest : Bool) (moment : P → ℕ) (left_since : P → ℕ → Left → Type 0)
    (may_leave : P → Left → Type 0) (start : Start) (left : ℕ → Left → Type 0) (c : Caller) (r : Request)
    (first said : Option (List ℕ)) (due : Bool) (old new : DeviceState P) (came ended : Result (Unit {0}) CommandError)
  where
    abbrev Runs : DeviceState P → Result (Unit {0}) CommandError → Type 0
    Runs device ends = RunsOn c r start.pages device.content (seen first said start.failed device.failed) ends

    -- what a command comes to
    pub runs_over : (to_commit : Bool) → (due && is_ok came) ≡ to_commit →
        ConcludesAs honest moment left_since may_leave start left to_commit old new came ended → Runs old came →
        Runs new ended
    runs_over false not is runs =
        subst (Runs new) (sym is.ends) (subst (λ (d : DeviceState P). Runs d came) (sym is.device) runs)
    runs_over true to is runs =
        let done = subst (Runs old) (to_done due came to) runs in
        subst (Runs new) (sym is.ends) (by is.succeeded is.commits done)
      where
        by : (succeeded : Bool) → Commits honest moment left_since may_leave start left old new succeeded →
            Runs old (Ok tt) → Runs new (told_of succeeded)
        by true commits done =
            subst (λ (pages : Pages). RunsOn c r start.pages pages (seen first said start.failed new.failed) (Ok tt))
            (sym commits.same)
            (done_later c r start.pages first said start.failed old.failed new.failed old.content tt done)
        by false commits done =
            failed_later c r start.pages first said start.failed old.failed new.failed old.content new.content tt done
            (commits.failed refl)

    abbrev Leaves : DeviceState P → Result (Unit {0}) CommandError → Type 0
    Leaves device ends = AsksOver honest moment left_since may_leave start.moment left c r start.pages
        (seen first said start.failed device.failed) ends device.pair

    -- and what a crash leaves of it
    pub leaves_over : (to_commit : Bool) → (due && is_ok came) ≡ to_commit →
        ConcludesAs honest moment left_since may_leave start left to_commit old new came ended →
        (IsTrue honest → is_ok came ≡ true → due ≡ true) → Runs old came → Leaves new ended
    leaves_over false not is synced runs =
        subst (Leaves new) (sym is.ends) (λ sure.
        only_before moment left_since may_leave start left _ _ new.pair (is.lent.leaves sure)
        (λ ok. not_done due came not (synced sure ok) ok))
    leaves_over true to is synced runs =
        let done = subst (Runs old) (to_done due came to) runs in
        subst (Leaves new) (sym is.ends) (by is.succeeded is.commits done)
      where
        by : (succeeded : Bool) → Commits honest moment left_since may_leave start left old new succeeded →
            Runs old (Ok tt) → Leaves new (told_of succeeded)
        by true commits done sure =
            before_or_after moment left_since may_leave start left honest _ _ old new true sure commits
            (printed c r start.pages first said start.failed old.failed new.failed old.content tt done) (λ ok. refl)
        by false commits done sure =
            before_or_after moment left_since may_leave start left honest _ _ old new false sure commits
            (printed c r start.pages first said start.failed old.failed new.failed old.content tt done)
            (λ ok. absurd cc)

    pub synced_over : (to_commit : Bool) → (due && is_ok came) ≡ to_commit →
        ConcludesAs honest moment left_since may_leave start left to_commit old new came ended →
        (IsTrue honest → is_ok came ≡ true → due ≡ true) → IsTrue honest → OnOk ended (IsTrue new.is_synced)
    synced_over false not is synced sure =
        subst (λ (e : Result (Unit {0}) CommandError). OnOk e (IsTrue new.is_synced)) (sym is.ends)
        (on came (λ ok. not_done due came not (synced sure ok) ok))
      where
        on : (e : Result (Unit {0}) CommandError) → (is_ok e ≡ true → ⊥) → OnOk e (IsTrue new.is_synced)
        on (Ok done) never = absurd (never refl)
        on (Err error) never = tt
    synced_over true to is synced sure =
        subst (λ (e : Result (Unit {0}) CommandError). OnOk e (IsTrue new.is_synced)) (sym is.ends)
        (by is.succeeded is.commits)
      where
        by : (succeeded : Bool) → Commits honest moment left_since may_leave start left old new succeeded →
            OnOk (told_of succeeded) (IsTrue new.is_synced)
        by true commits = commits.synced sure refl
        by false commits = tt

    -- what is so of what was not written
    pub unwritten_over : (to_commit : Bool) → (due && is_ok came) ≡ to_commit →
        ConcludesAs honest moment left_since may_leave start left to_commit old new came ended →
        IfUnwritten (old.content ≡ start.pages) came → IfUnwritten (new.content ≡ start.pages) ended
    unwritten_over false not is same =
        subst (IfUnwritten (new.content ≡ start.pages)) (sym is.ends)
        (subst (λ (d : DeviceState P). IfUnwritten (d.content ≡ start.pages) came) (sym is.device) same)
    unwritten_over true to is same =
        subst (IfUnwritten (new.content ≡ start.pages)) (sym is.ends) (by is.succeeded)
      where
        by : (succeeded : Bool) → IfUnwritten (new.content ≡ start.pages) (told_of succeeded)
        by true = tt
        by false = tt

    pub untold_over : (Is : Type 0) (to_commit : Bool) → (due && is_ok came) ≡ to_commit →
        ConcludesAs honest moment left_since may_leave start left to_commit old new came ended →
        IfUnprinted Is came → IfUnprinted Is ended
    untold_over Is false not is same = subst (IfUnprinted Is) (sym is.ends) same
    untold_over Is true to is same = subst (IfUnprinted Is) (sym is.ends) (by is.succeeded)
      where
        by : (succeeded : Bool) → IfUnprinted Is (told_of succeeded)
        by true = tt
        by false = tt
