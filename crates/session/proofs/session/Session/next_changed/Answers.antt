use Rattle.session.proofs.SaveLemmas.{changes_told, next_there}
use Rattle.session.proofs.session.Session.next_changed.Goals as goal

pub returns-clause-told : goal.returns-clause-told
returns-clause-told g c = rw (← c.self.view_is) (changes_told c.args.from _ _ c.next_changed.ensures)

pub returns-clause-there : goal.returns-clause-there
returns-clause-there g c = rw (← c.self.view_is) (next_there c.args.from _ c.self.inside.kernel c.next_changed.ensures)
