-- Each count so far is right.
use Rattle.std.proofs.Common.{ℕ, ◌≡◌, ◌<◌}
use Rattle.hash_file.specs.Chain.{number_on}
use Rattle.hash_file.specs.Store.{count_at}
use Rattle.file_walk.proofs.index.test_counts.Given as goal

abbrev pub invariant-loop-depth : goal.invariant-loop-depth
invariant-loop-depth l = (d : ℕ) → d < l.depth → count_at l.file d ≡ number_on l.file l.chain d
