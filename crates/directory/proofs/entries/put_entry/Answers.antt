use Rattle.directory.proofs.PageLaws.{entry_there, other_entry}
use Rattle.directory.proofs.entries.put_entry.Goals as goal

pub returns-clause-ok : goal.returns-clause-ok
returns-clause-ok c = entry_there _ _ _ _ c.requires.directory c.set_entry.ensures.ok c.requires.slot

pub returns-clause-others : goal.returns-clause-others
returns-clause-others c = other_entry _ _ _ _ c.requires.directory c.set_entry.ensures.ok
