-- As many are counted as stand so far.
use Rattle.std.proofs.Common.{◌≡◌, ◌≤◌, take}
use Rattle.hash_file.specs.Chain.{number_on}
use Rattle.file_walk.proofs.index.number_of.Given as goal

abbrev pub invariant-loop-page : goal.invariant-loop-page
invariant-loop-page l = record {
  small : l.number ≤ l.page-index;
  counted : l.number ≡ number_on l.file (take l.page-index l.chain) l.depth;
}
