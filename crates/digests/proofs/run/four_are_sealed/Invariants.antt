use Rattle.std.proofs.Common.{◌+◌, ℕ, ◌<◌, [], slice_index_or}
use Rattle.page_device.specs.Sealed.{IsSealed}
use Rattle.digests.proofs.run.four_are_sealed.Given as goal

-- each page so far is sealed
abbrev pub invariant-lanes : goal.invariant-lanes
invariant-lanes l = (k : ℕ) → k < l.lane → IsSealed (l.first + k) (slice_index_or l.pages k [])
