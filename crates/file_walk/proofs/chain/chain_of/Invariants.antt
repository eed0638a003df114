-- The pages so far are a chain, up to the position that is reached and the page that is to come.
use Rattle.std.proofs.Common.{◌≤◌, ◌-◌}
use Rattle.directory.specs.declared.pseudokey.TheConstants.{POSITIONS}
use Rattle.file_walk.specs.Walks.{IsChainSoFar}
use Rattle.file_walk.proofs.chain.chain_of.Given as goal

abbrev pub invariant-loop-reached : goal.invariant-loop-reached
invariant-loop-reached l = record {
  within : l.reached ≤ POSITIONS;
  right : IsChainSoFar l.file l.chain.items l.reached l.page;
}

abbrev pub decreases-loop-reached : goal.decreases-loop-reached
decreases-loop-reached l = POSITIONS - l.reached
