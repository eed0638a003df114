-- It commits nothing.
use Rattle.std.specs.Prelude.{is_ok}
use Rattle.deferred_sync.proofs.SinceLemmas.{still_lent}
use Rattle.deferred_sync.proofs.device.DeferredSyncPageDevice.extend.Goals as goal

pub invariant_of-self : goal.invariant_of-self
invariant_of-self g c =
    let P = g.P.PagePair in
    let met = g.met.P.PagePair in
    still_lent P.is_honest P.file P.journal P.moment P.left_since P.may_leave g.N.Beginning.start g.N.Beginning.left
    met.seen_may_stay met.counts_now (is_ok c.extend.result) c.self.inside.device c.extend.new.self
    c.extend.ensures.any_moment
    c.extend.ensures.cause.later c.self.invariant
