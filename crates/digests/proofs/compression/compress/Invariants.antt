use Rattle.std.proofs.Common.{ℕ, ◌*◌, ◌<◌, List}
use Rattle.sha2.specs.Sha256.{IsRoundsAt}
use Rattle.digests.specs.Lanes.{SpellsBlock, column}
use Rattle.digests.proofs.compression.compress.Given as goal

-- each message is so many rounds into its block
abbrev pub invariant-schedule : goal.invariant-schedule
invariant-schedule l = (block : List ℕ) (lane : ℕ) → lane < 4 → SpellsBlock (column lane l.words) block
    → IsRoundsAt block (column lane l.state) (column lane l.w) (column lane l.v) (16 * l.turn)
