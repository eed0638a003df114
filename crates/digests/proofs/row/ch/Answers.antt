use Rattle.std.proofs.Common.{rules, ◌∙◌, ap, bit_and, bit_xor, slice_index}
use Rattle.digests.proofs.ChMaj.{ch_short}
use Rattle.digests.proofs.row.ch.Goals as goal

pub returns : goal.returns
returns c = λ lane within.
    let x = slice_index c.args.x lane in
    let y = slice_index c.args.y lane in
    let z = slice_index c.args.z lane in
    c.xor-2.ensures lane within
    ∙ ap (bit_xor z) (c.and.ensures lane within ∙ ap (bit_and x) (c.xor.ensures lane within))
    ∙ ch_short x y z (search rules) (search rules) (search rules)
