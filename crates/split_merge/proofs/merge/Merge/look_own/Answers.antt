use Rattle.stale_search.specs.file_pages.declared.fault.FileFault.TheVariants.{Failed}
use Rattle.split_merge.specs.MergeWords.{Approaching}
use Rattle.split_merge.proofs.ArmLemmas.{stays}
use Rattle.split_merge.proofs.LookLemmas.{own_not_read, own_not_valid, own_is_whole, own_seen}
use Rattle.split_merge.proofs.merge.Merge.look_own.Goals as goal

pub returns-in-Err : goal.returns-in-Err
returns-in-Err g c = λ seat locks row.
    stays seat c.args.pool.now locks c.args.self.now Approaching c.in-Err.fault c.read_bucket.new.pool c.requires.place
    (own_not_read seat c.args.self.now.key c.args.self.now.approach c.args.pool.now c.read_bucket.new.pool locks
    c.args.depth c.args.page c.requires.reached c.in-Err.fault c.in-Err.ensures.reads
    c.in-Err.ensures.cause
    (λ honest file live. c.in-Err.ensures.fault honest file live.behind live.within live.bucket))

-- the range of a live bucket is one
pub returns-then-not-is_valid : goal.returns-then-not-is_valid
returns-then-not-is_valid g c = λ seat locks row.
    stays seat c.args.pool.now locks c.args.self.now Approaching Failed c.read_bucket.new.pool c.requires.place
    (own_not_valid seat c.args.self.now.key c.args.self.now.approach c.args.pool.now c.read_bucket.new.pool locks
    c.args.depth c.args.page c.requires.reached c.in-Ok.sight c.in-Ok.ensures.reads c.in-Ok.ensures.ok
    (λ valid. absurd (let fine = c.is_valid.ensures.1 valid in let off = c.if-not-is_valid.true in cc)))

-- a bucket of depth 0 has no buddy
pub returns-then-range-eq0 : goal.returns-then-range-eq0
returns-then-range-eq0 g c = λ seat locks row.
    let is = rw (← c.self.view_is) at c.requires.place in
    let reached = rw (← c.self.view_is) at c.requires.reached in
    rw (← c.self.view_is, is) (own_is_whole seat c.self.inside.key c.self.inside.approach c.args.pool.now
    c.read_bucket.new.pool locks c.args.depth c.args.page reached c.in-Ok.sight c.in-Ok.ensures.reads
    c.in-Ok.ensures.ok c.if-range-eq0.true)

pub returns : goal.returns
returns g c = λ seat locks row.
    let is = rw (← c.self.view_is) at c.requires.place in
    let reached = rw (← c.self.view_is) at c.requires.reached in
    let row' = rw (← c.self.view_is, is) at row in
    rw (← c.self.view_is, is) (own_seen seat c.self.inside.key c.self.inside.approach c.args.pool.now
    c.read_bucket.new.pool locks c.args.depth c.args.page reached c.in-Ok.sight c.in-Ok.ensures.reads
    c.in-Ok.ensures.ok row')
