-- A page that is in a frame is the page of that frame.
use Rattle.std.proofs.Common.{◌∙◌, sym}
use Rattle.buffer_pool.proofs.TableLemmas.{within_if_found}
use Rattle.buffer_pool.proofs.pool.Pool.touch.Goals as goal

pub touch-requires : goal.touch-requires
touch-requires g c =
    within_if_found _ c.in-Some.frame c.args.page
    (c.self.invariant.whole.in_frame c.args.page c.in-Some.frame (sym c.place.ensures ∙ c.in-Some.is))
