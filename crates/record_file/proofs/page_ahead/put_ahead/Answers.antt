-- The image is that of the bucket that was looked at, so the place is its key's there too.
use Rattle.std.proofs.Common.{◌≡◌, refl, sym, ap, ◌∙◌, ℕ, true, None, length, slice_set}
use Rattle.record_file.specs.BucketAccesses.{has_room}
use Rattle.record_file.specs.Words.{PoolState, record_bytes}
use Rattle.record_file.proofs.PageAheadLemmas.{bucket_here, held_here, none_told, placed_here, put_done, room_here}
use Rattle.record_file.proofs.page_ahead.put_ahead.Goals as goal

pub put_at-requires-clause-bucket : goal.put_at-requires-clause-bucket
put_at-requires-clause-bucket g c =
    bucket_here c.args.pool.now.images c.args.page c.in-Some.bucket c.in-Some.ensures c.args.key.now
    c.seek-sought.result.place c.seek-sought.ensures.place c.in-Some-resident_mut.image.now
    c.in-Some-resident_mut.ensures.value

pub put_at-requires-clause-place : goal.put_at-requires-clause-place
put_at-requires-clause-place g c =
    placed_here c.args.pool.now.images c.args.page c.in-Some.bucket c.in-Some.ensures c.args.key.now
    c.seek-sought.result.place c.seek-sought.ensures.place c.in-Some-resident_mut.image.now
    c.in-Some-resident_mut.ensures.value

pub put_at-requires-clause-absent : goal.put_at-requires-clause-absent
put_at-requires-clause-absent g c =
    held_here c.args.pool.now.images c.args.page c.in-Some.bucket c.in-Some.ensures c.args.key.now
    c.seek-sought.result.place c.seek-sought.ensures.place c.in-Some-resident_mut.image.now
    c.in-Some-resident_mut.ensures.value None
    (none_told c.args.key.now c.in-Some.bucket c.seek-sought.result.value c.in-None.is
    c.seek-sought.ensures.none)

pub put_at-requires-clause-room : goal.put_at-requires-clause-room
put_at-requires-clause-room g c =
    let room : has_room (length (record_bytes c.in-Some.bucket.records)) (length c.args.value.now) ≡ true =
    ap (λ (n : ℕ). has_room n (length c.args.value.now)) (sym c.used.ensures) ∙ sym c.if-not-has_room.ensures in
    room_here c.args.pool.now.images c.args.page c.in-Some.bucket c.in-Some.ensures c.args.key.now
    c.seek-sought.result.place c.seek-sought.ensures.place c.in-Some-resident_mut.image.now
    c.in-Some-resident_mut.ensures.value
    (length c.args.value.now) room

pub returns-clause-made : goal.returns-clause-made
returns-clause-made g c = λ made.
    let pool' : PoolState =
    record c.args.pool.now { images = slice_set c.args.pool.now.images c.args.page c.put_at.new.self } in
    let room : has_room (length (record_bytes c.in-Some.bucket.records)) (length c.args.value.now) ≡ true =
    ap (λ (n : ℕ). has_room n (length c.args.value.now)) (sym c.used.ensures) ∙ sym c.if-not-has_room.ensures in
    put_done c.args.pool.now pool' c.requires.ready c.args.page c.args.key.now c.in-Some.bucket c.in-Some.ensures
    c.seek-sought.result.place c.seek-sought.ensures.place c.in-Some-resident_mut.image.now c.put_at.new.self
    c.in-Some-resident_mut.ensures.value refl
    c.args.value.now
    (none_told c.args.key.now c.in-Some.bucket c.seek-sought.result.value c.in-None.is
    c.seek-sought.ensures.none)
    room c.put_at.ensures
