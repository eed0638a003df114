-- The first frame that holds no page is filled next; where each holds one any is.
use Rattle.std.proofs.Common.{◌≡◌, ◌∙◌, length, arith}
use Rattle.buffer_pool.proofs.FilledLemmas.{any_next, first_next}
use Rattle.buffer_pool.proofs.table.Table.free_frame.Goals as goal

pub returns-then-filled-len-clause-next : goal.returns-then-filled-len-clause-next
returns-then-filled-len-clause-next c =
    let filled : c.len-filled.result ≡ length c.self.inside.payloads.items
    = c.len-filled.ensures ∙ c.self.inside.payloads.ok.0 in
    rw (← c.self.view_is, filled) (first_next _ _ c.self.invariant.holding)

pub returns-clause-next : goal.returns-clause-next
returns-clause-next c =
    let filled = c.len-filled.ensures ∙ c.self.inside.payloads.ok.0 in
    let frames = c.len.ensures ∙ c.self.inside.pages.ok.0 in
    let full = c.if-filled-len.false in
    rw (← c.self.view_is)
    (any_next _ _ c.unused_frame.result c.self.invariant.holding (omega (arith, filled, frames, full)))
