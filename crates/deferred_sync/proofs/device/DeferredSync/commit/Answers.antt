-- The device is synced, or a transfer has failed.
use Rattle.std.proofs.Common.{ap, subst, sym, Bool, true}
use Rattle.deferred_sync.specs.Deferred.{Commits, DeferredState}
use Rattle.deferred_sync.proofs.SinceLemmas.{commits}
use Rattle.deferred_sync.proofs.device.DeferredSync.commit.Goals as goal

pub returns : goal.returns
returns g c =
    let P = g.P.PagePair in
    let N = g.N.Beginning in
    let met = g.met.P.PagePair in
    let s = c.sync.ensures in
    subst (Commits P.is_honest P.moment P.left_since P.may_leave N.start N.left c.args.self.device
    c.sync.new.self) (sym c.is_ok-is_done.ensures.value)
    (rw (← ap (λ (d : DeferredState g.row.P.Denot). d.device) c.self.view_is)
    (commits P.is_honest P.file P.journal P.moment P.left_since P.may_leave N.start N.left met.seen_may_stay
    met.counts_now c.sync.result c.self.inside.device c.sync.new.self c.self.invariant s.same s.any_moment s.cause
    s.ok s.durable s.usable))
