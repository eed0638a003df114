-- A script that is run by one seat or by several, on a file and on a new one in memory.
use Rattle.std.proofs.Common.{◌≡◌, inl, inr, Bool, true, false, List, ℕ, sym, subst, refl, Result, Ok}
use Rattle.msgq_cli.specs.Outputs.{OutputState}
use Rattle.msgq_cli.specs.Scripts.{Parts, script_of}
use Rattle.msgq_cli.specs.declared.ending.Ending.{Ending}
use Rattle.msgq_cli.specs.record_file.Files.{IsNewFile}
use Rattle.replays.specs.Texts.{Effects}
use Rattle.crash_safe_runs.specs.session_runs.Serves.{RunsOn, RunsScript, RunsText}
use Rattle.crash_safe_runs.specs.session_runs.declared.serving.TheConstants.{MEMORY_PAGES}
use Rattle.service_runs.specs.Beside.{RunsBesideOn, is_of_one_seat}
use Rattle.msgq.specs.Scripts.{RunsAsOne, RunsNewAsOne, RunsRead, RunsScriptOn, RunsTextNew}

-- ---- by how many seats

pub as_one : (script : Parts) (honest : Bool) (c : Effects) (ending : Ending) → is_of_one_seat script.lines ≡ true →
    RunsOn script honest c ending → RunsScriptOn script honest c ending
as_one script honest c ending one runs =
    subst (λ (b : Bool). RunsAsOne b script honest c ending) (sym one) runs

pub as_several : (script : Parts) (honest : Bool) (c : Effects) (ending : Ending) →
    is_of_one_seat script.lines ≡ false → RunsBesideOn script honest c ending → RunsScriptOn script honest c ending
as_several script honest c ending several runs =
    subst (λ (b : Bool). RunsAsOne b script honest c ending) (sym several) runs

-- ---- on a new file in memory

module _ (text : List ℕ) (script : Parts) (spells : script_of text ≡ Ok script) (ending : Ending) where
  -- all of its lines are of one seat
  pub one_new : (old new : OutputState) → is_of_one_seat script.lines ≡ true → RunsText text old new ending →
      RunsTextNew text old new ending
  one_new old new one (inl runs) =
      inl (subst (λ (r : Result Parts ℕ). RunsRead r old new ending) (sym spells)
      (subst (λ (b : Bool). RunsNewAsOne b script old new ending) (sym one)
      (subst (λ (r : Result Parts ℕ). RunsScript r old new ending) spells runs)))
  one_new old new one (inr alone) = inr alone

  -- or they are of several
  pub several_new : (c : Effects) → is_of_one_seat script.lines ≡ false → IsNewFile MEMORY_PAGES c.content →
      RunsScriptOn script true c ending → RunsTextNew text c.old c.new ending
  several_new c several file runs =
      inl (subst (λ (r : Result Parts ℕ). RunsRead r c.old c.new ending) (sym spells)
      (subst (λ (b : Bool). RunsNewAsOne b script c.old c.new ending) (sym several)
      (inl (record {
        effects = c;
        file = file;
        was = refl;
        is = refl;
        runs = subst (λ (b : Bool). RunsAsOne b script true c ending) several runs;
      }))))
