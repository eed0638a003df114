use Rattle.std.proofs.Common.{rules}
use Rattle.msgq_cli.proofs.SpellingLemmas.{IsSpelled-over}
use Rattle.msgq_cli.proofs.spelling.spell_text.Goals as goal

pub returns : goal.returns
returns c =
    rw c.set_bytes.ensures
    (IsSpelled-over c.args.room.now c.args.text.now c.in_ok-start.start c.args.end (search rules)
    (search rules))
