-- The header's image says the depth.
use Rattle.std.proofs.Common.{[]}
use Rattle.std.proofs.lemmas.Option.{get_or_from_slice_get}
use Rattle.file_pages.proofs.ReadLemmas.{if_told}
use Rattle.file_pages.proofs.StoreLemmas.{header_is}
use Rattle.file_pages.proofs.resident.peek_depth.Goals as goal

pub returns-clause-ok : goal.returns-clause-ok
returns-clause-ok g c =
    let images = c.args.pool.now.images in
    let here = c.in_ok-resident.ensures in
    rw (c.ok-depth.ensures.value, header_is images, get_or_from_slice_get images 0 c.in_ok-resident.field-0.now [] here)
    (if_told c.depth_of.result _ c.depth_of.ensures.ok)
