use Rattle.std.proofs.Common.{rules, ◌∙◌, ap, ℕ, bit_xor, slice_index, w32, arith}
use Rattle.std.specs.Int.{rotate_right}
use Rattle.digests.proofs.Rotations.{turned_three}
use Rattle.digests.proofs.row.big_sigma1.Goals as goal

pub returns : goal.returns
returns c = λ lane within.
    let n = slice_index c.args.x lane in
    let first = c.xor.ensures lane within ∙ ap (bit_xor n) (c.rotated.ensures lane within) in
    let second = c.xor-2.ensures lane within ∙ ap (bit_xor n) (c.rotated-2.ensures lane within
    ∙ ap (λ (m : ℕ). rotate_right w32 m 5) first) in
    c.rotated-3.ensures lane within
    ∙ ap (λ (m : ℕ). rotate_right w32 m 6) second
    ∙ turned_three n 6 5 14 (omega arith) (search rules)
