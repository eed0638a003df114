use Rattle.queue_records.proofs.ReadingLaws.{is_ok, key_spells}
use Rattle.queue_records.proofs.SpellingLaws.{is_only, key_entry_again}
use Rattle.queue_records.proofs.key_entry.KeyEntry.decode.Goals as goal

-- what is read is spelled
pub returns-clause-ok : goal.returns-clause-ok
returns-clause-ok c =
    is_ok _ _ c.read.ensures (key_spells c.args.key.now c.args.value.now (λ i. (c.type_inv.value i).fits))

-- what is spelled is read
pub returns-clause-only : goal.returns-clause-only
returns-clause-only c entry spells =
    is_only _ c.read.ensures (key_entry_again c.args.key.now c.args.value.now entry spells)
