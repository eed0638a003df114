use Rattle.std.proofs.Common.{rules}
use Rattle.msgq_cli.specs.Texts.{text_of}
use Rattle.msgq_cli.proofs.SpellingLemmas.{AreSpelled-more}
use Rattle.msgq_cli.proofs.spelling.spell_line.Goals as goal

-- one word more
pub words-preserved : goal.words-preserved
words-preserved c =
    let before = c.words.invariant in (
      search rules,
      AreSpelled-more text_of c.args.words.now c.words.left _ c.words.room
          c.spell_before.new.room c.words.start c.in_ok-start.start c.words.behind
          c.words-test.true before.0 (search rules) before.1 c.in_ok-start.ensures,
    )
