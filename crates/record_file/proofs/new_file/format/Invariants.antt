-- The pages so far are those of a new file.
use Rattle.record_file.proofs.FileLemmas.{IsMade}
use Rattle.record_file.proofs.new_file.format.Given as goal

abbrev pub invariant-loop-page : goal.invariant-loop-page
invariant-loop-page g l =
    IsMade g.D.PageDevice.content g.D.PageDevice.is_honest g.D.PageDevice.fault_count
    l.fn.device l.device l.pages l.page
