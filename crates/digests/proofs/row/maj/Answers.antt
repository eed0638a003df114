use Rattle.std.proofs.Common.{◌∙◌, ap, bit_and, bit_xor, slice_index}
use Rattle.digests.proofs.ChMaj.{maj_short}
use Rattle.digests.proofs.row.maj.Goals as goal

pub returns : goal.returns
returns c = λ lane within.
    let x = slice_index c.args.x lane in
    let y = slice_index c.args.y lane in
    let z = slice_index c.args.z lane in
    c.xor-3.ensures lane within
    ∙ ap (bit_xor y) (c.and.ensures lane within
    ∙ (λ i. bit_and (c.xor.ensures lane within i) (c.xor-2.ensures lane within i)))
    ∙ maj_short x y z
