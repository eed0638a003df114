-- It is the page in the frame that is sealed.
use Rattle.std.proofs.Common.{◌∙◌, sym, [], length}
use Rattle.std.proofs.lemmas.List.{get_or_default}
use Rattle.buffer_pool.proofs.FilledLemmas.{held_is_filled}
use Rattle.buffer_pool.proofs.GivenLemmas.{filled_up-at}
use Rattle.buffer_pool.proofs.table.Table.sealed.Goals as goal

pub returns-clause-payload : goal.returns-clause-payload
returns-clause-payload c =
    let held = rw (← c.self.view_is) at c.requires in
    let within = held_is_filled _ _ c.args.frame c.self.invariant.holding held in
    rw (← c.self.view_is)
    (c.sealed.ensures.payload ∙ c.index_mut.ensures.value
    ∙ sym (get_or_default c.self.inside.payloads.items c.args.frame [] c.index_mut.result.now within)
    ∙ sym (filled_up-at (length c.self.inside.pages.items) c.self.inside.payloads.items c.args.frame [] within))
