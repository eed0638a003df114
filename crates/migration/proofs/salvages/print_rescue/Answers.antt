-- The counts, and the pages behind them.
use Rattle.std.proofs.Common.{subst, ◌++◌, List}
use Rattle.msgq_cli.proofs.OutputLemmas.{Prints-then}
use Rattle.msgq_cli.specs.Outputs.{Prints}
use Rattle.msgq_cli.specs.Reports.{deed_text}
use Rattle.msgq_cli.specs.declared.reports.Deed.TheVariants as deeds
use Rattle.migration.specs.declared.losses.Pages.{Pages}
use Rattle.migration.specs.Printing.{unread_texts}
use Rattle.migration.proofs.salvages.print_rescue.Goals as goal

pub returns : goal.returns
returns g c =
    subst (λ (pages : List Pages). Prints c.args.output.now c.print_pages.new.output
    (deed_text deeds.Salvaged c.args.rescue.now.system ++ unread_texts pages)) c.as_slice.ensures.value
    (Prints-then _ _ _ _ _ c.print_deed.ensures c.print_pages.ensures)
