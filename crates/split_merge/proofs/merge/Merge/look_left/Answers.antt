use Rattle.std.proofs.Common.{refl, []}
use Rattle.split_merge.specs.MergeWords.{LookLeft}
use Rattle.split_merge.proofs.ArmLemmas.{stays}
use Rattle.split_merge.proofs.CompareLemmas.{side_not_read, on_chain, left_differs, left_seen}
use Rattle.split_merge.proofs.merge.Merge.look_left.Goals as goal

pub returns-in-Err : goal.returns-in-Err
returns-in-Err g c = λ seat locks row.
    stays seat c.args.pool.now locks c.args.self.now (LookLeft c.args.b) c.in-Err.fault c.read_bucket.new.pool
    c.requires.place
    (side_not_read seat c.args.self.now.key c.args.self.now.approach c.args.pool.now c.read_bucket.new.pool locks
    c.args.b c.requires.buddies (LookLeft c.args.b) c.args.b.left c.in-Err.fault c.in-Err.ensures.reads
    c.in-Err.ensures.cause
    (λ honest file live. c.in-Err.ensures.fault honest file live.behind live.within live.bucket)
    (λ hash change sees. (on_chain seat c.args.self.now.key c.args.self.now.approach c.args.pool.now
    c.read_bucket.new.pool locks c.args.b c.requires.buddies [] hash change sees.known).0) refl)

pub returns-then-sight-b : goal.returns-then-sight-b
returns-then-sight-b g c = λ seat locks row.
    let is = rw (← c.self.view_is) at c.requires.place in
    let row' = rw (← c.self.view_is, is) at row in
    rw (← c.self.view_is, is) (left_differs seat c.self.inside.key c.self.inside.approach c.args.pool.now
    c.read_bucket.new.pool locks c.args.b c.requires.buddies c.in-Ok.sight c.in-Ok.ensures.reads c.in-Ok.ensures.ok
    row' c.if-sight-b.true)

pub returns : goal.returns
returns g c = λ seat locks row.
    let is = rw (← c.self.view_is) at c.requires.place in
    let row' = rw (← c.self.view_is, is) at row in
    rw (← c.self.view_is, is) (left_seen seat c.self.inside.key c.self.inside.approach c.args.pool.now
    c.read_bucket.new.pool locks c.args.b c.requires.buddies c.in-Ok.sight c.in-Ok.ensures.reads c.in-Ok.ensures.ok
    row' c.if-sight-b.false)
