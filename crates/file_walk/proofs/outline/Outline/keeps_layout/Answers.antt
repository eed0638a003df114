-- The outline of a file shows its layout.
use Rattle.file_walk.proofs.OutlineLemmas.{outline_shows}
use Rattle.file_walk.proofs.outline.Outline.keeps_layout.Goals as goal

pub returns : goal.returns
returns c =
    rw (← c.self.view_is)
    (outline_shows c.self.inside.layout c.self.invariant.layout c.self.inside.header c.self.inside.entries.items
    c.self.inside.forms.items c.self.invariant)
