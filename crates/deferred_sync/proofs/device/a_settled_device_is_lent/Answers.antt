-- Nothing was done since.
use Rattle.deferred_sync.proofs.SinceLemmas.{lent}
use Rattle.deferred_sync.proofs.device.a_settled_device_is_lent.Goals as goal

pub returns : goal.returns
returns g c =
    let P = g.P.PagePair in
    lent P.moment P.left_since P.may_leave P.is_honest c.args.device.now
    (g.met.P.PagePair.only_now c.args.device.now.pair) c.requires
