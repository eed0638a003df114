-- Files opened, run on and closed.
use Rattle.std.proofs.Common.{◌≡◌, ◌≢◌, ◌⊎◌, inl, inr, Bool, true, false, true≢false, List, length, ℕ, refl, sym, ◌∙◌, subst, Option, Some, None, Result, Ok, Err, arith}
use Rattle.page_device.specs.Device.{HasRisen}
use Rattle.page_device.specs.Fault.{number_of}
use Rattle.page_device.specs.declared.fault.DeviceFault.{DeviceFault}
use Rattle.page_device.specs.declared.fault.DeviceFault.TheVariants as device
use Rattle.bucket_page.specs.Pseudokeys.{sha_key}
use Rattle.interleavings.specs.LoneKernelWords.{Caller, State}
use Rattle.interleavings.specs.interleaving_core.Beginning.{MayRefuseUnchecked}
use Rattle.interleavings.specs.interleaving_core.Fault.{close_number_of, device_failed, open_number_of}
use Rattle.interleavings.specs.interleaving_core.declared.fault.CloseFault.{CloseFault}
use Rattle.interleavings.specs.interleaving_core.declared.fault.CloseFault.TheVariants as closes
use Rattle.interleavings.specs.interleaving_core.declared.fault.OpenFault.{OpenFault}
use Rattle.interleavings.specs.interleaving_core.declared.fault.OpenFault.TheVariants.{NoMemory, TooFewFrames, Wrong}
use Rattle.file_walk.specs.declared.fault.StructureFault.TheVariants as structure
use Rattle.interleavings.proofs.ToldLemmas.{risen_since}
use Rattle.interleavings.proofs.of_file_check.Today.{file_has_no_fault}
use Rattle.interleavings.specs.files_at_rest.Files.{no_queues}
use Rattle.session.specs.Making.{SessionState}
use Rattle.session.specs.Session.{ClosesOn, Holds, OpensAny, pages_of}
use Rattle.msgq_cli.specs.record_file.Files.{IsNewFile, MayNotFormat}
use Rattle.msgq_cli.specs.file_check.declared.fault.CheckFault.TheVariants.{Structure}
use Rattle.msgq_cli.specs.file_check.Whole.{IsFileOf}
use Rattle.msgq_cli.specs.Outputs.{OutputState, Prints}
use Rattle.msgq_cli.specs.Refusals.{IsFaultAlone, IsRefused}
use Rattle.msgq_cli.specs.Runs.{ending_of, printed}
use Rattle.msgq_cli.specs.Scripts.{Parts, Reads, caller_of, greatest_seat, script_of}
use Rattle.msgq_cli.specs.declared.ending.Ending.{Ending}
use Rattle.msgq_cli.specs.declared.script.ScriptError.{ScriptError}
use Rattle.msgq_cli.specs.declared.script.ScriptError.TheVariants as scripts
use Rattle.replays.specs.Replays.{EndsWith}
use Rattle.replays.specs.Texts.{Effects}
use Rattle.session_runs.specs.Runs.{EndsWell, Stands}
use Rattle.session_runs.specs.PlainRuns.{RepliesAlong, RunsFile, RunsPlainly}
use Rattle.session_runs.specs.Serves.{IsRunNew, IsRunOn, RunsOn, RunsScriptOn, RunsTextOn}
use Rattle.session_runs.specs.declared.serving.TheConstants.{MEMORY_PAGES}
use Rattle.session_runs.proofs.CallLemmas.{apart}

-- a device in memory does not fail
pub never_fails : (old : ℕ) → HasRisen old 0 → ⊥
never_fails old (inl less) = absurd (omega (arith, less))
never_fails old (inr most) = absurd (omega (arith, most))

-- what the making of a file in memory tells is want of memory
pub no_memory : (fault : DeviceFault) → MayNotFormat fault → (fault ≡ device.Device → HasRisen 0 0) →
    number_of fault ≡ 60
no_memory device.Device may failed = absurd (never_fails 0 (failed refl))
no_memory device.BadDigest may failed = absurd may
no_memory device.PastEnd may failed = absurd may
no_memory device.DeviceFull may failed = absurd may
no_memory device.NoMemory may failed = refl

-- ---- it is closed

-- a session that has not failed holds a system, which its file has once that is written
module _ (was faults : ℕ) (k : SessionState) (left : List (List ℕ)) (untold : Bool) where
  pub ends_kept : k.failed ≡ false → ((s : State) → Holds s k → ClosesOn s k None left faults) →
      (s : Option State) → Stands was k s → EndsWell s left untold was faults None
  ends_kept sound file None stands = absurd (apart k sound stands.failed)
  ends_kept sound file (Some s) stands = inl (record { sound = refl; file = λ _. (file s stands.holds).0 })

  -- it is let go, since the output refused a write
  pub ends_untold : k.failed ≡ false → untold ≡ true → (s : Option State) → Stands was k s →
      EndsWell s left untold was faults None
  ends_untold sound refused None stands = absurd (apart k sound stands.failed)
  ends_untold sound refused (Some s) stands =
      inl (record { sound = refl; file = λ told. absurd (true≢false (sym refused ∙ told)) })

  -- or since a line has failed, as its device has
  pub ends_failed : k.failed ≡ true → faults ≡ k.pool.faults → (s : Option State) → Stands was k s →
      EndsWell s left untold was faults (Some 62)
  ends_failed failed same None stands = record { told = refl; risen = subst (HasRisen was) (sym same) stands.risen }
  ends_failed failed same (Some s) stands = absurd (apart k stands.holds.sound failed)

  -- the device has failed at the closing
  pub ends_unclosed : (fault : CloseFault) → k.failed ≡ false →
      ((s : State) → Holds s k → ClosesOn s k (Some fault) left faults) →
      (s : Option State) → Stands was k s → EndsWell s left untold was faults (Some (close_number_of fault))
  ends_unclosed fault sound closed None stands = absurd (apart k sound stands.failed)
  ends_unclosed closes.Device sound closed (Some s) stands =
      inr (record { told = refl; risen = risen_since stands.later (closed s stands.holds) })
  ends_unclosed closes.Failed sound closed (Some s) stands = absurd (closed s stands.holds)

  -- where none is told there are as many pages as it had
  pub ends_as_many : (s : Option State) → Stands was k s → (fault : Option ℕ) →
      EndsWell s left untold was faults fault → fault ≡ None →
      ((s : State) → Holds s k → length left ≡ pages_of k) → length left ≡ pages_of k
  ends_as_many None stands fault fails none pages = absurd (let told = fails.told in cc)
  ends_as_many (Some s) stands fault ends none pages = pages s stands.holds

-- ---- a text

-- the script is not read
pub no_script : (text : List ℕ) (honest : Bool) (c : Effects) (ending : Ending) (error : ScriptError) →
    Reads (Err error) (script_of text) → c.left ≡ c.content → c.untold ≡ false →
    IsRefused error c.old c.new ending → RunsTextOn text honest c ending
no_script text honest c ending (scripts.WrongLine line mistake) reads pages told refused =
    inl (subst (λ (r : Result Parts ℕ). RunsScriptOn r honest c ending) (sym reads)
    (refused.0, record { pages = pages; printed = refused.1; told = told }))
no_script text honest c ending scripts.NoMemory reads pages told refused =
    inr (record { pages = pages; alone = refused; told = told })

-- it is, and is run
pub runs_script : (text : List ℕ) (honest : Bool) (c : Effects) (ending : Ending) (script : Parts) →
    script_of text ≡ Ok script → RunsOn script honest c ending → RunsTextOn text honest c ending
runs_script text honest c ending script reads runs =
    inl (subst (λ (r : Result Parts ℕ). RunsScriptOn r honest c ending) (sym reads) runs)

-- in plain words
pub plainly : (script : Parts) (honest : Bool) (c : Effects) (ending : Ending) → RunsOn script honest c ending →
    RunsPlainly script honest c ending
plainly script honest c ending (inl run) = inl run.run
plainly script honest c ending (inr unopened) = inr unopened

-- ---- a new file in memory

-- nothing but want of memory refuses it
module _ (content : List (List ℕ)) (file : IsFileOf sha_key content no_queues) where
  machine_alone : (fault : OpenFault) → MayRefuseUnchecked sha_key content fault → fault ≢ TooFewFrames →
      (fault ≡ device_failed → HasRisen 0 0) → open_number_of fault ≡ 60
  machine_alone TooFewFrames may framed failed = absurd (framed refl)
  machine_alone NoMemory may framed failed = refl
  machine_alone (Wrong (Structure structure.Device)) may framed failed = absurd (never_fails 0 (failed refl))
  machine_alone (Wrong (Structure structure.NoMemory)) may framed failed = refl
  machine_alone (Wrong fault) (inr wrong) framed failed =
      absurd (file_has_no_fault sha_key content no_queues fault file wrong)
  machine_alone (Wrong fault) (inl machine) framed failed = absurd machine

  -- a file in memory is run on from its system, or there is no memory for it
  module _ (new : IsNewFile MEMORY_PAGES content) (script : Parts) (c : Effects) (ending : Ending)
      (its : c.content ≡ content) (none_before : c.was ≡ 0) (none : c.faults ≡ 0) where
    sound_end : (s : Option State) (fault : Option ℕ) → EndsWell s c.left c.untold c.was c.faults fault →
        (s ≢ None) × (fault ≡ None)
    sound_end None fault fails = absurd (never_fails c.was (subst (HasRisen c.was) none fails.risen))
    sound_end (Some s) fault (inl kept) = ((λ never. cc), kept.sound)
    sound_end (Some s) fault (inr fails) = absurd (never_fails c.was (subst (HasRisen c.was) none fails.risen))

    -- a run on it that ends with no fault
    module _ (r : IsRunOn script true c ending) where
      run_new : IsRunNew script c.old c.new ending
      run_new = record {
        content = content;
        file = new;
        first = r.first;
        opened = subst (λ (p : List (List ℕ)). OpensAny sitter p true 0 r.first) its
            (subst (λ (n : ℕ). OpensAny sitter c.content true n r.first) none_before r.opened);
        last = r.last;
        run = record {
          replies = r.run.replies;
          takes = r.takes;
          prints = subst (λ (o : OutputState). Prints c.old o (printed script.lines r.run.replies)) (sym last.0)
              r.run.prints;
          ends = last.1;
        };
        after = there.0;
        replied = subst (λ (s : State). RepliesAlong script.ids script.lines (Some s) r.run.replies (Some there.0)) same
            (subst (RepliesAlong script.ids script.lines (Some on.system) r.run.replies) there.1 on.replied);
      }
        where
          sitter : Caller
          sitter = caller_of (greatest_seat script.lines) script.ids

          on : RunsFile script c r.run.replies r.run.fault
          on = r.run.rules refl

          same : on.system ≡ no_queues
          same = file.system.only on.system
              (subst (λ (p : List (List ℕ)). IsFileOf sha_key p on.system) its on.file).system.has

          sound : (on.after ≢ None) × (r.run.fault ≡ None)
          sound = sound_end on.after r.run.fault on.ends

          last : EndsWith None r.run.told (ending_of r.run.replies) c.new ending
          last = subst (λ (f : Option ℕ). EndsWith f r.run.told (ending_of r.run.replies) c.new ending) sound.1
              r.run.ends

          some : (t : Option State) → t ≢ None → (u : State) × (t ≡ Some u)
          some None not = absurd (not refl)
          some (Some u) not = (u, refl)

          there : (t : State) × (on.after ≡ Some t)
          there = some on.after sound.0

    pub runs_in_memory : RunsOn script true c ending →
        IsRunNew script c.old c.new ending ⊎ IsFaultAlone 60 c.old c.new ending
    runs_in_memory (inl r) = inl (run_new r)
    runs_in_memory (inr refused) = inr (subst (λ (n : ℕ). IsFaultAlone n c.old c.new ending)
        (machine_alone refused.fault
        (subst (λ (p : List (List ℕ)). MayRefuseUnchecked sha_key p refused.fault)
        its (refused.cause refl)) refused.framed
        (λ is. subst (λ (n : ℕ). HasRisen n 0) none_before (subst (HasRisen c.was) none (refused.failed is))))
        refused.leaves.alone)
