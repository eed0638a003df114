use Rattle.queue_records.proofs.ReadingLaws.{is_ok_where, message_spells}
use Rattle.queue_records.proofs.SpellingLaws.{is_only, message_again}
use Rattle.queue_records.proofs.message_entry.MessageEntry.decode.Goals as goal

-- what is read is spelled
pub returns-clause-ok : goal.returns-clause-ok
returns-clause-ok c =
    let spells = message_spells c.args.key.now c.args.value.now (λ i. (c.type_inv.value i).fits) in
    is_ok_where _ _ c.read.ensures.value c.read.ensures.fits spells

-- what is spelled is read
pub returns-clause-only : goal.returns-clause-only
returns-clause-only c entry spells =
    is_only _ c.read.ensures.value (message_again c.args.key.now c.args.value.now entry spells)
