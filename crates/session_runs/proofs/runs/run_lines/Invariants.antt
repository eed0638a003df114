use Rattle.std.proofs.Common.{ℕ, ◌≤◌, take}
use Rattle.session.specs.Making.{SessionState}
use Rattle.msgq_cli.specs.Outputs.{OutputState}
use Rattle.msgq_cli.specs.Scripts.{Parts}
use Rattle.msgq_cli.specs.declared.ending.Ending.{Ending}
use Rattle.session_runs.proofs.RunLemmas.{HasRun}
use Rattle.session_runs.proofs.runs.run_lines.Given as goal

-- a script was run by a session, its replies printed, and its answers counted, of which each line has one at most
pub record IsRunning (old now : SessionState) (script : Parts) (before after : OutputState) (ending : Ending)
    (answered many : ℕ) : Type 0 where
  pub run : HasRun script old now before after ending answered
  pub few : answered ≤ many

-- the script up to the next line was
abbrev pub invariant-loop-line : goal.invariant-loop-line
invariant-loop-line g l =
    IsRunning l.initial.session l.session (record { ids = l.script.ids; lines = take l.line-index l.line-items })
    l.initial.output l.output l.ending l.answered l.line-index
