-- No bucket so far is too deep.
use Rattle.std.proofs.Common.{take}
use Rattle.file_walk.specs.Walks.{AreShallow}
use Rattle.file_walk.proofs.index.test_depths.Given as goal

abbrev pub invariant-loop-page : goal.invariant-loop-page
invariant-loop-page l = AreShallow l.file (take l.page-index l.chain)
