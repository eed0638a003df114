use Rattle.std.proofs.Common.{◌≡◌, ℕ, ◌-◌, ◌++◌, length, take, ap, ap₂, ◌∙◌, arith}
use Rattle.directory.specs.numbers.Numbers.{zeros}
use Rattle.bucket_page.proofs.SpliceLaws.{moved_front}
use Rattle.bucket_page.proofs.splice.drop_first.Goals as goal

pub returns : goal.returns
returns c =
    let old = c.args.region.now in
    let split = c.split_at_mut-last.ensures in
    let front = split.front ∙ ap (λ (k : ℕ). take (k - c.args.count) c.copy_within.new.self) c.copy_within.ensures.len
    ∙ ap (take (length old - c.args.count)) c.copy_within.ensures.after ∙ moved_front old c.args.count c.requires in
    let last : length c.split_at_mut-last.result.1.now ≡ c.args.count =
    omega (arith, split.back_len, c.copy_within.ensures.len, c.requires) in
    ap₂ (λ a b. a ++ b) front (c.blank.ensures ∙ ap zeros last)
