-- Each move of its search is one of any deed that the search suits; a find gives the page back.
use Rattle.record_file.proofs.AheadLemmas.{finds_if, heads_if}
use Rattle.record_file.proofs.bucket_access.BucketAccess.heads_for.Goals as goal

pub returns-in-Searching-clause-heads : goal.returns-in-Searching-clause-heads
returns-in-Searching-clause-heads g c =
    rw (← c.self.view_is, c.in-Searching.is) (heads_if c.args.seat c.args.pool.now c.args.locks.now
    c.self.inside.search c.heads_for.result c.heads_for.ensures.moves)

pub returns-in-Searching-clause-moves : goal.returns-in-Searching-clause-moves
returns-in-Searching-clause-moves g c =
    rw (← c.self.view_is, c.in-Searching.is) (finds_if c.args.seat c.args.pool.now c.requires.ready c.args.locks.now
    c.requires.seat c.self.inside.search (rw (← c.self.view_is, c.in-Searching.is) at c.requires.row) c.heads_for.result
    c.heads_for.ensures.bare c.heads_for.ensures.moves)
