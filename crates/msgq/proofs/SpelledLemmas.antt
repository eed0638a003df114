-- A run on a file, told of what its pages mean.
use Rattle.std.proofs.Common.{◌⊎◌, inl, inr, false, true, Bool}
use Rattle.msgq_cli.specs.Scripts.{Parts}
use Rattle.msgq_cli.specs.declared.ending.Ending.{Ending}
use Rattle.replays.specs.Texts.{Effects}
use Rattle.service_runs.proofs.SpelledLemmas.{beside_spelled}
use Rattle.service_runs.specs.Beside.{is_of_one_seat}
use Rattle.crash_safe_runs.specs.session_runs.Spelled.{IsLeftUnopened}
use Rattle.crash_safe_runs.proofs.of_session_runs.ServeLemmas.{plainly}
use Rattle.crash_safe_runs.proofs.of_session_runs.SpelledLemmas.{spelled, unopened}
use Rattle.msgq.specs.Scripts.{RunsAsOne, RunsScriptOn}
use Rattle.msgq.specs.Spelled.{RunsAsOneSpelled, RunsScriptSpelled}

module _ (script : Parts) (honest : Bool) (c : Effects) (ending : Ending) where
  as_one_spelled : (one : Bool) → RunsAsOne one script honest c ending →
      RunsAsOneSpelled one script honest c ending ⊎ IsLeftUnopened c ending
  as_one_spelled true runs = spelled script honest c ending (plainly script honest c ending runs)
  as_one_spelled false (inl run) = inl (beside_spelled script honest c ending run)
  as_one_spelled false (inr u) = inr (unopened script honest c ending u)

  pub script_spelled : RunsScriptOn script honest c ending → RunsScriptSpelled script honest c ending
  script_spelled runs = as_one_spelled (is_of_one_seat script.lines) runs
