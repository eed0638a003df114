use Rattle.session.proofs.SaveLemmas.{none_saved, save_noted}
use Rattle.session.proofs.session.Session.note_saved.Goals as goal

-- it is not between calls, and so holds no system
pub returns-then-not-is_between_calls : goal.returns-then-not-is_between_calls
returns-then-not-is_between_calls g c =
    rw (← c.self.view_is) (none_saved c.self.inside.kernel c.if-not-is_between_calls.ensures.1)

pub returns : goal.returns
returns g c =
    rw (← c.self.view_is, c.is_ok-is_saved.ensures.value)
    (save_noted c.flush.result c.self.inside.kernel c.flush.new.self c.flush.ensures)
