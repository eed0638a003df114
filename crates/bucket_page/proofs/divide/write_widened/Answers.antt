use Rattle.std.proofs.Common.{ℕ, ◌<◌, ◌^◌, List, drop, ap, ◌∙◌, arith}
use Rattle.bucket_page.proofs.JoinLaws.{widened_spells}
use Rattle.bucket_page.proofs.divide.write_widened.Goals as goal

pub returns : goal.returns
returns c =
    let small : c.args.next < 2 ^ 32 = omega (arith, c.ranges.next.fits) in
    let back = c.split_at_mut-front.ensures.back ∙ ap (λ (xs : List ℕ). drop 16 xs) c.copy_from_slice.ensures.after in
    widened_spells c.args.bucket.now _ _ c.read-head.result c.args.next c.requires.bucket c.requires.wide small
    c.read-head.ensures c.write.ensures back
