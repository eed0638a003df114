use Rattle.std.proofs.Common.{rules}
use Rattle.msgq_cli.specs.Texts.{text_of}
use Rattle.msgq_cli.proofs.SpellingLemmas.{IsSpelled-before}
use Rattle.msgq_cli.proofs.spelling.spell_before.Goals as goal

pub returns : goal.returns
returns c =
    IsSpelled-before (text_of c.args.word.now) c.args.room.now c.spell.new.room c.args.behind
    c.in_ok-place.place c.args.end c.spell.result (search rules) (search rules) c.spell.ensures
