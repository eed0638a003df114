-- The free list so far is right, its pages are marked beside those of the chain, and no page before is lost.
use Rattle.std.proofs.Common.{ℕ, ◌≡◌, ◌<◌, ◌≤◌, true, false, slice_index_or}
use Rattle.file_walk.proofs.SparesLemmas.{AreWalked, unmarked}
use Rattle.file_walk.proofs.spares.test_spares.Given as goal

abbrev pub invariant-walk : goal.invariant-walk
invariant-walk l = AreWalked l.file l.chain l.marks.items l.page

abbrev pub decreases-walk : goal.decreases-walk
decreases-walk l = unmarked l.marks.items

abbrev pub invariant-loop-number : goal.invariant-loop-number
invariant-loop-number l =
    (n : ℕ) → l.file.layout.root ≤ n → n < l.number → slice_index_or l.marks.items n false ≡ true
