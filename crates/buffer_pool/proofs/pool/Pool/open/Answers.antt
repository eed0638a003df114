-- No page is in a frame yet.
use Rattle.std.proofs.Common.{refl, None, Option, ℕ}
use Rattle.std.proofs.lemmas.List.{length-replicate}
use Rattle.buffer_pool.proofs.ImagesLemmas.{images_of-no_pages, none_pinned}
use Rattle.buffer_pool.proofs.pool.Pool.open.Goals as goal

pub returns-in-Ok-clause-ok : goal.returns-in-Ok-clause-ok
returns-in-Ok-clause-ok g c =
    let made = c.in-Ok.ensures in
    let none : Option ℕ = None in
    rw (
      made,
      c.pages.ensures,
      images_of-no_pages
          (g.D.PageDevice.content c.args.device) _ c.args.frames,
      length-replicate c.args.frames none,
    ) refl

pub returns-in-Ok-clause-rest : goal.returns-in-Ok-clause-rest
returns-in-Ok-clause-rest g c = λ page. let made = c.in-Ok.ensures in rw made (none_pinned c.pages.result page)
