-- What is printed where a file is checked. docs/SCRIPTS.md, "Runs".
use Rattle.std.specs.Prelude.{◌≡◌, ◌⊎◌, ℕ, List, Result, Ok, Err}
use Rattle.queue_model.specs.State.{State}
use Rattle.file_check.specs.Fault.{number_of}
use Rattle.file_check.specs.declared.fault.CheckFault.{CheckFault}
use Rattle.msgq_cli.specs.Answers.{fault_text}
use Rattle.msgq_cli.specs.Outputs.{OutputState, Prints}
use Rattle.msgq_cli.specs.Reports.{report_text}
use Rattle.msgq_cli.specs.Refusals.{IsFaultAlone}
use Rattle.msgq_cli.specs.declared.ending.Ending.{Ending}
use Rattle.msgq_cli.specs.declared.ending.Ending.TheVariants.{Done}
use Rattle.msgq_cli.specs.declared.reports.Report.{Report}

-- a report of the system that was found, or the number of what is wrong
abbrev pub found_text : Report → Result State CheckFault → List ℕ
found_text report (Ok s) = report_text report s
found_text report (Err fault) = fault_text (number_of fault)

-- a report of some system is printed, and nothing else
pub record IsReported (report : Report) (old new : OutputState) (ending : Ending) : Type 0 where
  pub system : State
  pub prints : Prints old new (report_text report system)
  pub ends : ending ≡ Done

-- one of these is printed
abbrev pub IsReportOrFault : Report → OutputState → OutputState → Ending → Type 0
IsReportOrFault report old new ending =
    IsReported report old new ending ⊎ ((fault : ℕ) × IsFaultAlone fault old new ending)
