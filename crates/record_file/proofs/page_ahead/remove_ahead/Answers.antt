-- The image is that of the bucket that was looked at, so the place is its key's there too.
use Rattle.std.proofs.Common.{refl, length, slice_set}
use Rattle.record_file.specs.Words.{PoolState}
use Rattle.record_file.proofs.PageAheadLemmas.{bucket_here, not_due, placed_here, remove_done, some_here, some_told}
use Rattle.record_file.proofs.page_ahead.remove_ahead.Goals as goal

pub remove_at-requires-clause-bucket : goal.remove_at-requires-clause-bucket
remove_at-requires-clause-bucket g c =
    bucket_here c.args.pool.now.images c.args.page c.in-Some.bucket c.in-Some.ensures c.args.key.now
    c.seek-sought.result.place c.seek-sought.ensures.place c.in-Some-resident_mut.image.now
    c.in-Some-resident_mut.ensures.value

pub remove_at-requires-clause-place : goal.remove_at-requires-clause-place
remove_at-requires-clause-place g c =
    placed_here c.args.pool.now.images c.args.page c.in-Some.bucket c.in-Some.ensures c.args.key.now
    c.seek-sought.result.place c.seek-sought.ensures.place c.in-Some-resident_mut.image.now
    c.in-Some-resident_mut.ensures.value

pub remove_at-requires-clause-there : goal.remove_at-requires-clause-there
remove_at-requires-clause-there g c =
    some_here c.args.pool.now.images c.args.page c.in-Some.bucket c.in-Some.ensures c.args.key.now
    c.seek-sought.result.place c.seek-sought.ensures.place c.in-Some-resident_mut.image.now
    c.in-Some-resident_mut.ensures.value
    c.in-Some-value.value.now
    (some_told c.args.key.now c.in-Some.bucket c.seek-sought.result.value c.in-Some-value.value
    c.in-Some-value.is c.seek-sought.ensures.some)

pub returns-clause-made : goal.returns-clause-made
returns-clause-made g c = λ bytes.
    let pool' : PoolState =
    record c.args.pool.now { images = slice_set c.args.pool.now.images c.args.page c.remove_at.new.self } in
    remove_done c.args.pool.now pool' c.requires.ready c.args.page c.args.key.now c.in-Some.bucket c.in-Some.ensures
    c.seek-sought.result.place c.seek-sought.ensures.place c.in-Some-resident_mut.image.now c.remove_at.new.self
    c.in-Some-resident_mut.ensures.value refl
    c.in-Some-value.value.now
    (some_told c.args.key.now c.in-Some.bucket c.seek-sought.result.value c.in-Some-value.value
    c.in-Some-value.is c.seek-sought.ensures.some)
    bytes
    (not_due c.in-Some.bucket c.depth.result c.used.result (length c.in-Some-value.value.now) c.depth.ensures
    c.used.ensures c.if-is_due.ensures)
    c.remove_at.ensures
