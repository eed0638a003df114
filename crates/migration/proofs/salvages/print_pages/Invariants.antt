-- The lines so far were printed.
use Rattle.std.proofs.Common.{take}
use Rattle.msgq_cli.specs.Outputs.{Prints}
use Rattle.migration.specs.Printing.{unread_texts}
use Rattle.migration.proofs.salvages.print_pages.Given as goal

abbrev pub invariant-loop-pages : goal.invariant-loop-pages
invariant-loop-pages g l = Prints l.initial.output l.output (unread_texts (take l.pages-index l.unread))
