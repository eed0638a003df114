use Rattle.std.proofs.Common.{refl, []}
use Rattle.split_merge.specs.MergeWords.{LookRight}
use Rattle.split_merge.specs.Facts.{left_facts}
use Rattle.split_merge.proofs.ArmLemmas.{stays}
use Rattle.split_merge.proofs.CompareLemmas.{side_not_read, on_chain, right_differs, too_many, right_seen}
use Rattle.split_merge.proofs.merge.Merge.look_right.Goals as goal

pub returns-in-Err : goal.returns-in-Err
returns-in-Err g c = λ seat locks row.
    stays seat c.args.pool.now locks c.args.self.now (LookRight c.args.b c.args.left) c.in-Err.fault
    c.read_bucket.new.pool
    c.requires.place
    (side_not_read seat c.args.self.now.key c.args.self.now.approach c.args.pool.now c.read_bucket.new.pool locks
    c.args.b c.requires.buddies (LookRight c.args.b c.args.left) c.args.b.right c.in-Err.fault c.in-Err.ensures.reads
    c.in-Err.ensures.cause
    (λ honest file live. c.in-Err.ensures.fault honest file live.behind live.within live.bucket)
    (λ hash change sees. (on_chain seat c.args.self.now.key c.args.self.now.approach c.args.pool.now
    c.read_bucket.new.pool locks c.args.b c.requires.buddies (left_facts c.args.b c.args.left []) hash change
    sees.known).1) refl)

pub returns-then-sight-b : goal.returns-then-sight-b
returns-then-sight-b g c = λ seat locks row.
    let is = rw (← c.self.view_is) at c.requires.place in
    let row' = rw (← c.self.view_is, is) at row in
    rw (← c.self.view_is, is) (right_differs seat c.self.inside.key c.self.inside.approach c.args.pool.now
    c.read_bucket.new.pool locks c.args.b c.requires.buddies c.in-Ok.sight c.in-Ok.ensures.reads c.args.left
    c.in-Ok.ensures.ok
    row' c.if-sight-b.true)

pub returns-then-not-fit_together : goal.returns-then-not-fit_together
returns-then-not-fit_together g c = λ seat locks row.
    let is = rw (← c.self.view_is) at c.requires.place in
    let row' = rw (← c.self.view_is, is) at row in
    rw (← c.self.view_is, is) (too_many seat c.self.inside.key c.self.inside.approach c.args.pool.now
    c.read_bucket.new.pool locks c.args.b c.requires.buddies c.in-Ok.sight c.in-Ok.ensures.reads c.args.left
    c.in-Ok.ensures.ok
    row' (λ few. absurd (let fine = c.fit_together.ensures.1 few in let off = c.if-not-fit_together.true in cc)))

pub returns : goal.returns
returns g c = λ seat locks row.
    let is = rw (← c.self.view_is) at c.requires.place in
    let row' = rw (← c.self.view_is, is) at row in
    rw (← c.self.view_is, is) (right_seen seat c.self.inside.key c.self.inside.approach c.args.pool.now
    c.read_bucket.new.pool locks c.args.b c.requires.buddies c.in-Ok.sight c.in-Ok.ensures.reads c.args.left
    c.in-Ok.ensures.ok
    row' c.if-sight-b.false)
