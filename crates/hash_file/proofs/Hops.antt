-- How changes lengthen ways, together.
use Rattle.std.proofs.Common.{refl}
use Rattle.hash_file.specs.Chain.{chain}
use Rattle.hash_file.specs.Hops.{OneHopAtMost, NoHopMore}
use Rattle.hash_file.proofs.WriteRecord.{record_ways}
use Rattle.hash_file.proofs.OffChain.{write_new_ways, write_tombstone_ways, write_free_ways}
use Rattle.hash_file.proofs.Splitting.{write_old_ways}
use Rattle.hash_file.proofs.Merging.{write_left_ways}

pub one_hop_at_most : OneHopAtMost
one_hop_at_most = record { write_old = write_old_ways; write_tombstone = write_tombstone_ways }

pub no_hop_more : NoHopMore
unfolding chain
no_hop_more = record {
  write_record = record_ways;
  headed = λ s head entries n k. refl;
  write_new = write_new_ways;
  write_left = write_left_ways;
  write_free = write_free_ways;
}
