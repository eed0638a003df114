-- The examples compute.
use Rattle.std.proofs.Common.{refl}
use Rattle.bucket_page.specs.Keys.{is_below}
use Rattle.hash_file.specs.Chain.{chain}
use Rattle.hash_file.specs.Examples.{TwoSplits, MergeAndHalving, FreedPageTakenAgain}

pub two_splits : TwoSplits
unfolding chain is_below
two_splits = record {
  first_chain = refl;
  first_lower = refl;
  first_upper = refl;
  first_counts = refl;
  chain = refl;
  lower = refl;
  upper = refl;
  other = refl;
  depth = refl;
  entries = refl;
  counts = refl;
  free = refl;
}

pub merge_and_halving : MergeAndHalving
unfolding chain is_below
merge_and_halving = record {
  both = refl;
  still = refl;
  off = refl;
  tombstone = refl;
  entries = refl;
  free_page = refl;
  free = refl;
  depth = refl;
  counts = refl;
  chain = refl;
}

pub freed_page_taken_again : FreedPageTakenAgain
unfolding chain is_below
freed_page_taken_again = record { chain = refl; lower = refl; upper = refl; free = refl }
