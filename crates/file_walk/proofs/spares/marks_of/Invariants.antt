-- The pages so far are marked.
use Rattle.std.proofs.Common.{take}
use Rattle.file_walk.specs.Walks.{AreMarked}
use Rattle.file_walk.proofs.spares.marks_of.Given as goal

abbrev pub invariant-loop-page : goal.invariant-loop-page
invariant-loop-page l = AreMarked l.pages (take l.page-index l.chain) l.marks.items
