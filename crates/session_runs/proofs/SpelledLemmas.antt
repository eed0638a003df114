-- A run on a file, told of what its pages mean.
use Rattle.std.proofs.Common.{inl, inr, ℕ, Bool, List, Option, Some, None}
use Rattle.bucket_page.specs.Pseudokeys.{sha_key}
use Rattle.interleavings.proofs.of_files_at_rest.SpelledLemmas.{spells}
use Rattle.msgq_cli.specs.Scripts.{Parts}
use Rattle.msgq_cli.specs.declared.ending.Ending.{Ending}
use Rattle.msgq_cli.specs.declared.reply.Reply.{Reply}
use Rattle.interleavings.specs.LoneKernelWords.{State}
use Rattle.session_runs.specs.PlainRuns.{IsPlainRun, IsPlainRunBy, RunsFile, RunsPlainly}
use Rattle.session_runs.specs.Runs.{EndsWell}
use Rattle.session_runs.specs.Spelled.{EndsSpelled, IsLeftUnopened, RunsPages, RunsSpelled}
use Rattle.replays.specs.Texts.{Effects, IsUnopened}

ends_spelled : (s : Option State) (left : List (List ℕ)) (untold : Bool) (was faults : ℕ) (fault : Option ℕ) →
    EndsWell s left untold was faults fault → EndsSpelled s left untold was faults fault
ends_spelled (Some s) left untold was faults fault (inl kept) =
    inl (kept.sound, λ told. spells sha_key left _ (kept.file told))
ends_spelled (Some s) left untold was faults fault (inr fails) = inr (fails.told, fails.risen)
ends_spelled None left untold was faults fault fails = (fails.told, fails.risen)

module _ (script : Parts) (honest : Bool) (c : Effects) (ending : Ending) where
  pub unopened : IsUnopened honest c ending → IsLeftUnopened c ending
  unopened u = record { fault = u.fault; framed = u.framed; failed = u.failed; leaves = u.leaves }

  pages : (replies : List Reply) (fault : Option ℕ) → RunsFile script c replies fault → RunsPages script c replies fault
  pages replies fault file = record {
    system = file.system;
    pages = spells sha_key c.content file.system file.file;
    after = file.after;
    replied = file.replied;
    ends = ends_spelled file.after c.left c.untold c.was c.faults fault file.ends;
    before = file.before;
  }

  run_spelled : IsPlainRun script honest c ending → IsPlainRunBy (RunsPages script c) script honest c ending
  run_spelled run = record {
    replies = run.replies;
    told = run.told;
    prints = run.prints;
    untold = run.untold;
    handed = run.handed;
    fault = run.fault;
    ends = run.ends;
    rules = λ sure. pages run.replies run.fault (run.rules sure);
    synced = run.synced;
    pages = run.pages;
    before = run.before;
  }

  pub spelled : RunsPlainly script honest c ending → RunsSpelled script honest c ending
  spelled (inl run) = inl (run_spelled run)
  spelled (inr u) = inr (unopened u)
