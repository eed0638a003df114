use Rattle.std.specs.Prelude.{◌≤◌, drop, length, map}
use Rattle.msgq_cli.specs.Texts.{text_of}
use Rattle.msgq_cli.proofs.SpellingLemmas.{AreSpelled}
use Rattle.msgq_cli.proofs.spelling.spell_line.Given as goal

abbrev pub invariant-words : goal.invariant-words
invariant-words l =
    (l.left ≤ length l.words)
    × AreSpelled (map text_of (drop l.left l.words)) l.room l.start l.behind

-- fewer words are left
abbrev pub decreases-words : goal.decreases-words
decreases-words l = l.left
