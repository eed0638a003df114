-- The image is that of the bucket that was looked at, so the place is its key's there too.
use Rattle.std.proofs.Common.{refl, subst, ℕ, Some, slice_set, arith}
use Rattle.record_file.specs.Words.{PoolState}
use Rattle.record_file.specs.WritesAhead.{WritesOn}
use Rattle.record_file.specs.declared.bucket_access.Deed.TheVariants as deeds
use Rattle.record_file.proofs.PageAheadLemmas.{bucket_here, long_here, placed_here, replace_done, some_here, some_told}
use Rattle.record_file.proofs.page_ahead.replace_ahead.Goals as goal

pub replace_front_at-requires-clause-bucket : goal.replace_front_at-requires-clause-bucket
replace_front_at-requires-clause-bucket g c =
    bucket_here c.args.pool.now.images c.args.page c.in-Some.bucket c.in-Some.ensures c.args.key.now
    c.seek-sought.result.place c.seek-sought.ensures.place c.in-Some-resident_mut.image.now
    c.in-Some-resident_mut.ensures.value

pub replace_front_at-requires-clause-place : goal.replace_front_at-requires-clause-place
replace_front_at-requires-clause-place g c =
    placed_here c.args.pool.now.images c.args.page c.in-Some.bucket c.in-Some.ensures c.args.key.now
    c.seek-sought.result.place c.seek-sought.ensures.place c.in-Some-resident_mut.image.now
    c.in-Some-resident_mut.ensures.value

pub replace_front_at-requires-clause-there : goal.replace_front_at-requires-clause-there
replace_front_at-requires-clause-there g c =
    some_here c.args.pool.now.images c.args.page c.in-Some.bucket c.in-Some.ensures c.args.key.now
    c.seek-sought.result.place c.seek-sought.ensures.place c.in-Some-resident_mut.image.now
    c.in-Some-resident_mut.ensures.value
    c.in-Some-value.old.now
    (some_told c.args.key.now c.in-Some.bucket c.seek-sought.result.value c.in-Some-value.old
    c.in-Some-value.is c.seek-sought.ensures.some)

pub replace_front_at-requires-clause-long : goal.replace_front_at-requires-clause-long
replace_front_at-requires-clause-long g c =
    long_here c.args.pool.now.images c.args.page c.in-Some.bucket c.in-Some.ensures c.args.key.now
    c.seek-sought.result.place c.seek-sought.ensures.place c.in-Some-resident_mut.image.now
    c.in-Some-resident_mut.ensures.value
    c.in-Some-value.old.now c.args.value.now
    (some_told c.args.key.now c.in-Some.bucket c.seek-sought.result.value c.in-Some-value.old
    c.in-Some-value.is c.seek-sought.ensures.some)
    (omega (arith, c.if-old-value.false))

pub returns-clause-made : goal.returns-clause-made
returns-clause-made g c = λ made.
    let pool' : PoolState =
    record c.args.pool.now { images = slice_set c.args.pool.now.images c.args.page c.replace_front_at.new.self } in
    subst (λ (n : ℕ). WritesOn deeds.Replace c.args.page (Some n) c.args.key.now c.args.value.now c.args.pool.now pool')
    c.if-old-value.false
    (replace_done c.args.pool.now pool' c.requires.ready c.args.page c.args.key.now c.in-Some.bucket c.in-Some.ensures
    c.seek-sought.result.place c.seek-sought.ensures.place c.in-Some-resident_mut.image.now c.replace_front_at.new.self
    c.in-Some-resident_mut.ensures.value refl
    c.in-Some-value.old.now
    (some_told c.args.key.now c.in-Some.bucket c.seek-sought.result.value c.in-Some-value.old
    c.in-Some-value.is c.seek-sought.ensures.some)
    c.args.value.now c.replace_front_at.ensures)
