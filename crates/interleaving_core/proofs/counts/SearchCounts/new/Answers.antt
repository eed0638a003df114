-- The counts of seats that have not searched are sound.
use Rattle.std.proofs.Common.{◌≤◌, sym, subst, List, arith}
use Rattle.std.proofs.lemmas.List.Elements.{All-replicate}
use Rattle.std.specs.List.{All}
use Rattle.interleaving_core.specs.Counting.{MOST_COUNTED, unbegun_count}
use Rattle.interleaving_core.specs.declared.count.SearchCount.{SearchCount}
use Rattle.interleaving_core.proofs.counts.SearchCounts.new.Goals as goal

pub invariant_of-result : goal.invariant_of-result
invariant_of-result c = record {
  few = subst (λ (xs : List SearchCount). All (λ (x : SearchCount). x.changes ≤ MOST_COUNTED) xs)
      (sym c.loop.invariant)
      (All-replicate (λ (x : SearchCount). x.changes ≤ MOST_COUNTED) _ unbegun_count (omega arith));
  stirred = λ moving. absurd cc;
}
