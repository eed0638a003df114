-- What is written to the payload that was lent is in its frame.
use Rattle.std.proofs.Common.{◌∙◌, refl, sym, [], length}
use Rattle.std.proofs.lemmas.List.{get_or_default}
use Rattle.buffer_pool.proofs.FilledLemmas.{held_is_filled}
use Rattle.buffer_pool.proofs.GivenLemmas.{IsKept-back, filled_up-at, given_back}
use Rattle.buffer_pool.proofs.table.Table.payload_mut.Goals as goal

pub invariant_of-self-lent : goal.invariant_of-self-lent
invariant_of-self-lent c = λ payload.
    let held = rw (← c.self.view_is) at c.requires in
    let within = held_is_filled _ _ c.args.frame c.self.invariant.holding held in
    IsKept-back c.self.inside.payloads.items _ refl c.args.frame payload _ _ _ c.self.invariant within

pub returns : goal.returns
returns c =
    let held = rw (← c.self.view_is) at c.requires in
    let within = held_is_filled _ _ c.args.frame c.self.invariant.holding held in (
      (
        refl,
        λ payload. rw (← c.self.view_is)
            (given_back c.self.inside.payloads.items _ refl c.args.frame payload within),
      ),
      record {
        writes_back = tt;
        value = rw (← c.self.view_is)
            (c.page_mut.ensures.value ∙ c.index_mut-2.ensures.value
            ∙ sym (get_or_default c.self.inside.payloads.items c.args.frame [] c.index_mut-2.result.now within)
            ∙ sym (filled_up-at (length c.self.inside.pages.items) c.self.inside.payloads.items c.args.frame []
            within));
      },
    )
