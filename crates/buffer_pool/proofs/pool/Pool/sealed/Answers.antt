-- The image of a pinned page is in its frame.
use Rattle.std.proofs.Common.{◌≡◌, ◌∙◌, sym, ap, subst, ◌<◌, Some}
use Rattle.buffer_pool.specs.Table.{place_of}
use Rattle.buffer_pool.proofs.TableLemmas.{within_if_found}
use Rattle.buffer_pool.proofs.ImagesLemmas.{image_found}
use Rattle.buffer_pool.proofs.pool.Pool.sealed.Goals as goal

pub returns-clause-image : goal.returns-clause-image
returns-clause-image g c =
    let page = c.args.frame.now in
    let table = c.self.inside.table in
    let frame = c.frame_of-at.result in
    let place : place_of table page ≡ Some frame = rw (← c.page.ensures) c.frame_of-at.ensures.place in
    let within = subst (λ n. page < n) c.self.invariant.as_many (within_if_found _ page frame place) in
    rw (← c.self.view_is) (image_found _ table page frame within place ∙ ap Some (sym c.sealed.ensures.payload))
