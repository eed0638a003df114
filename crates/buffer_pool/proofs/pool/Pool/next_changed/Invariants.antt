-- The device has the images of the pages so far.
use Rattle.buffer_pool.specs.Pool.{AreOnDevice}
use Rattle.buffer_pool.proofs.pool.Pool.next_changed.Given as goal

abbrev pub invariant-loop-page : goal.invariant-loop-page
invariant-loop-page g l = AreOnDevice l.from l.page l.self
