use Rattle.bucket_page.proofs.HeadLaws.{counts_set}
use Rattle.bucket_page.proofs.head.set_counts.Goals as goal

pub returns : goal.returns
returns c h is =
    counts_set h c.args.count c.args.used c.args.bytes.now _ _ _ _ _ _ _ _ is c.split_at_mut-others.ensures.front
    c.split_at_mut-others.ensures.back c.split_at_mut-records.ensures.back c.split_at_mut-others-2.ensures.front
    c.split_at_mut-others-2.ensures.back c.split_at_mut-room.ensures.back c.write_two.ensures c.write_two-2.ensures
