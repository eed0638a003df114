use Rattle.std.proofs.Common.{◌<◌, ◌+◌, ◌^◌, ℕ, length, refl, ap, ◌∙◌, arith}
use Rattle.bucket_page.specs.Changes.{inserted_at}
use Rattle.bucket_page.specs.Reading.{head_at}
use Rattle.bucket_page.specs.Records.{pair, pair_bytes}
use Rattle.bucket_page.specs.Spelling.{head_bytes}
use Rattle.bucket_page.proofs.Steps.{length-pair}
use Rattle.bucket_page.proofs.ChangeLaws.{opened, put_makes}
use Rattle.bucket_page.proofs.change.insert_record.Goals as goal

pub returns : goal.returns
returns c =
    let split = c.split_at_mut-front.ensures in
    let p = pair c.args.key.now c.args.value.now in
    let h = head_at c.args.payload.now in
    let small : length c.args.value.now < 2 ^ 16 = omega (arith, c.requires.room) in
    let says = opened c.args.payload.now c.requires.bucket in
    let head = c.set_counts.ensures h (split.front ∙ says.front)
    ∙ (λ i. head_bytes (record h {
      count = c.two_at-count.ensures i + 1;
      used = c.two_at-used.ensures i + (15 + length c.args.value.now);
    })) in
    let body = c.insert.ensures
    ∙ ap (λ (u : ℕ). inserted_at c.split_at_mut-front.result.1.now u c.args.at (pair_bytes p)) c.two_at-used.ensures in
    put_makes c.args.payload.now c.args.at _ p h _ _ _ c.requires.bucket
    (record { key = c.fits_bytes.ensures; value = small }) (length-pair p) c.requires.room refl head split.back body
