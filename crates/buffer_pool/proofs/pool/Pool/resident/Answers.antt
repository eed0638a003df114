-- The image of a page in a frame is what the frame has.
use Rattle.std.proofs.Common.{◌≡◌, ◌∙◌, sym, ap, subst, ◌<◌, Some}
use Rattle.std.specs.Option.{is_some}
use Rattle.buffer_pool.specs.Table.{place_of}
use Rattle.buffer_pool.proofs.TableLemmas.{within_if_found}
use Rattle.buffer_pool.proofs.ImagesLemmas.{image_found}
use Rattle.buffer_pool.proofs.pool.Pool.resident.Goals as goal

pub payload-requires : goal.payload-requires
payload-requires g c =
    ap is_some (c.self.invariant.whole.in_frame c.args.page c.in_ok-frame.frame (sym c.in_ok-frame.ensures))

pub returns : goal.returns
returns g c =
    let table = c.self.inside.table in
    let place : place_of table c.args.page ≡ Some c.in_ok-frame.frame = sym c.in_ok-frame.ensures in
    let within = subst (λ n. c.args.page < n) c.self.invariant.as_many
    (within_if_found _ c.args.page c.in_ok-frame.frame place) in
    rw (← c.self.view_is) (image_found _ table c.args.page c.in_ok-frame.frame within place
    ∙ ap Some (sym c.payload.ensures))
