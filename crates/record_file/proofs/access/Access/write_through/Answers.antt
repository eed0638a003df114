-- What its bucket access is told of its way, and what is written at the page, are its own steps.
use Rattle.std.proofs.Common.{refl, sym, ap, ◌∙◌, subst, true, length}
use Rattle.record_file.specs.OperationRuns.{GoesToPage, IsBucketOf, OperationHeads, operation_through}
use Rattle.record_file.specs.AccessRuns.{TakesAhead, WritesAtOnce, WritesThere}
use Rattle.record_file.specs.Accesses.{AccessView}
use Rattle.record_file.specs.AccessWords.{MayBeLent, PoolState, RecordOperation}
use Rattle.record_file.proofs.AccessAheadLemmas.{row_bare}
use Rattle.record_file.proofs.AccessWrittenLemmas.{writes_at_once}
use Rattle.record_file.proofs.HeadLemmas.{bucket_heads}
use Rattle.record_file.proofs.OperationWrittenLemmas.{goes_through}
use Rattle.record_file.proofs.access.Access.write_through.Goals as goal

pub returns-clause-made : goal.returns-clause-made
returns-clause-made g c = λ made.
    let old : AccessView = c.args.self.now in
    let mid : AccessView = c.write_ahead.new.self in
    let pool : PoolState = c.args.pool.now in
    let pool' : PoolState = c.write_ahead.new.pool in
    let b = c.in-Some.bucket.now in
    let page = c.in-Some-heads_for.page in
    let found = c.in-Some-write_ahead.found in
    let way = c.in-Some-heads_for.ensures in
    let on = subst (λ (v : AccessView). IsBucketOf b v.operation) c.self.view_is c.in-Some.ensures in
    let lent = subst (λ (v : AccessView). MayBeLent (length c.self.inside.value) v.operation) c.self.view_is
    c.self.invariant.lent in
    let done = subst (λ (p : PoolState). WritesThere page found p pool' old mid) c.heads_for.ensures.pool
    c.in-Some-write_ahead.ensures.made in
    let heads : OperationHeads c.args.seat page old.operation pool c.args.locks.now =
    bucket_heads b (way.searches refl) (way.bare refl) c.args.seat page pool c.args.locks.now _ old.operation on lent
    way.heads in
    let goes : GoesToPage c.args.seat page found old.operation pool c.args.locks.now =
    heads found done.done.has done.lacks in
    let same = c.self-2.view_is ∙ done.ahead.is in
    let through = goes_through c.args.seat pool pool' c.args.locks.now page mid.bytes c.requires.seat
    (row_bare c.args.seat c.args.locks.now old.operation goes.bare c.requires.row) b (way.searches refl) _
    old.operation on lent found done.done in
    let is = ap (λ (v : AccessView). record v { operation = c.end_at.new.self; written = true }) same
    ∙ ap (λ (o : RecordOperation). record old { operation = o; bytes = mid.bytes; written = true })
    (c.end_at.ensures ∙ ap (λ (v : AccessView). operation_through page found v.operation) same) in
    subst (λ (v : AccessView). WritesAtOnce c.args.seat old v pool pool' c.args.locks.now) (sym is)
    (writes_at_once c.args.seat pool pool' c.requires.ready done.done.writes.ready c.args.locks.now c.requires.seat old
    mid.bytes page found goes c.requires.row through
    (subst (λ (v : AccessView). TakesAhead page found pool old v) done.ahead.is done.ahead))
