use Rattle.bucket_page.specs.Records.{pair}
use Rattle.bucket_page.proofs.Steps.{length-pair}
use Rattle.bucket_page.proofs.SpliceLaws.{insert_parts}
use Rattle.bucket_page.proofs.splice.insert.Goals as goal

pub returns : goal.returns
returns c =
    let first = c.split_at_mut-back.ensures in
    let second = c.split_at_mut-region.ensures in
    let len = length-pair (pair c.args.key.now c.args.value.now) in
    insert_parts c.args.bytes.now c.args.used c.args.at _ _ _ _ _ _ _ c.requires.at len c.requires.room first.front
    first.back second.front second.back c.put_first.ensures
