use Rattle.std.proofs.Common.{rules, ◌∙◌, ap, ℕ, bit_xor, slice_index, w32, arith}
use Rattle.std.specs.Int.{rotate_right}
use Rattle.digests.proofs.Rotations.{turned_two}
use Rattle.digests.proofs.row.small_sigma1.Goals as goal

pub returns : goal.returns
returns c = λ lane within.
    let n = slice_index c.args.x lane in
    let first = c.xor.ensures lane within ∙ ap (bit_xor n) (c.rotated.ensures lane within) in
    let both = c.rotated-2.ensures lane within
    ∙ ap (λ (m : ℕ). rotate_right w32 m 17) first
    ∙ turned_two n 17 2 (omega arith) (search rules) in
    c.xor-2.ensures lane within ∙ (λ i. bit_xor (both i) (c.shifted.ensures lane within i))
