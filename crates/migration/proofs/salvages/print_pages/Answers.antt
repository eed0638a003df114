-- Line by line.
use Rattle.std.proofs.Common.{rules, ◌<◌, length}
use Rattle.msgq_cli.proofs.OutputLemmas.{Prints-nil}
use Rattle.migration.proofs.UnreadLemmas.{Prints-unread}
use Rattle.migration.proofs.salvages.print_pages.Goals as goal

pub loop-pages-init : goal.loop-pages-init
loop-pages-init g c = Prints-nil _

pub loop-pages-preserved : goal.loop-pages-preserved
loop-pages-preserved g c =
    let i = c.loop-pages.pages-index in
    let below : i < length c.args.unread.now = search rules in
    Prints-unread c.args.output.now c.loop-pages.output c.print_unread.new.output c.args.unread.now i _ below
    c.loop-pages.invariant c.print_unread.ensures
