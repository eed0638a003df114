use Rattle.std.proofs.Common.{◌≡◌, ◌<◌, ◌+◌, ℕ, true}
use Rattle.std.specs.List.{list_any}
use Rattle.workers.specs.Closing.{sits_at}
use Rattle.workers.proofs.closing.is_missing.Given as goal

abbrev pub invariant-loop-place : goal.invariant-loop-place
invariant-loop-place g l = (before : ℕ) → before < l.place → list_any (sits_at (before + 1)) l.seats ≡ true
