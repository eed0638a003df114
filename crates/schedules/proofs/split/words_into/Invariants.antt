use Rattle.std.specs.Prelude.{length}
use Rattle.schedules.proofs.WordLemmas.{AreWordsTo}
use Rattle.schedules.proofs.split.words_into.Given as goal

abbrev pub invariant-blanks : goal.invariant-blanks
invariant-blanks l = AreWordsTo l.words.items l.rest l.text

-- the rest becomes shorter
abbrev pub decreases-blanks : goal.decreases-blanks
decreases-blanks l = length l.rest
