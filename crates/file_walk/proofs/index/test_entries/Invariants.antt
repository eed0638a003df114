-- Each entry so far is the bucket of its index.
use Rattle.std.proofs.Common.{ℕ, ◌<◌}
use Rattle.hash_file.specs.Chain.{IsBucketOn}
use Rattle.hash_file.specs.Store.{entry_at}
use Rattle.file_walk.proofs.index.test_entries.Given as goal

abbrev pub invariant-loop-index : goal.invariant-loop-index
invariant-loop-index l = (i : ℕ) → i < l.index → IsBucketOn l.file l.chain i (entry_at l.file i)
