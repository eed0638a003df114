use Rattle.std.proofs.Common.{◌+◌, ◌++◌, length, drop, ap, ap₂, ◌∙◌}
use Rattle.bucket_page.proofs.SpliceLaws.{moved_back}
use Rattle.bucket_page.specs.declared.layout.TheConstants.{RECORD_HEAD_BYTES}
use Rattle.bucket_page.proofs.splice.put_first.Goals as goal

pub returns : goal.returns
returns c =
    let old = c.args.region.now in
    let count = RECORD_HEAD_BYTES + length c.args.value.now in
    let back = c.split_at_mut-place.ensures.back ∙ ap (drop count) c.copy_within.ensures.after
    ∙ moved_back old count c.requires.room in
    ap₂ (λ a b. a ++ b) c.write_record.ensures back
