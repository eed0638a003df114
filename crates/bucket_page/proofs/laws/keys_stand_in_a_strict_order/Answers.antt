use Rattle.bucket_page.proofs.KeyLaws.{below_past, below_other, other_way, same_is}
use Rattle.bucket_page.proofs.laws.keys_stand_in_a_strict_order.Goals as goal

pub returns : goal.returns
returns c = record {
  past = below_past;
  apart = λ a b low. (below_other a b low).0;
  linear = other_way;
  same =
      same_is;
}
