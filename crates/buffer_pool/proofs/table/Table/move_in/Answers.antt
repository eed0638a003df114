-- The page that was in the frame is not pinned, so it may go.
use Rattle.std.proofs.Common.{◌∙◌, refl, sym, None, length}
use Rattle.std.proofs.lemmas.List.{get_or_default}
use Rattle.buffer_pool.proofs.FilledLemmas.{is_earlier}
use Rattle.buffer_pool.proofs.GivenLemmas.{IsKept-again, IsKept-next, given_again, given_next}
use Rattle.buffer_pool.proofs.TableLemmas.{within_if_found}
use Rattle.buffer_pool.proofs.table.Table.move_in.Goals as goal

pub forget-requires : goal.forget-requires
forget-requires c =
    let in_range = rw (← c.self.view_is) at c.requires.frame in
    let read = get_or_default c.self.inside.pages.items c.args.frame None c.index.result.now in_range
    ∙ sym c.index.ensures in
    λ k here. within_if_found _ k c.args.frame (c.self.invariant.whole.at_place k c.args.frame (read ∙ here))

pub invariant_of-self : goal.invariant_of-self
invariant_of-self c =
    let in_range = rw (← c.self.view_is) at c.requires.frame in
    let free = rw (← c.self.view_is) at c.requires.free in
    let on_device = rw (← c.self.view_is) at c.requires.page in
    let outside = rw (← c.self.view_is) at c.requires.outside in
    let read = get_or_default c.self.inside.pages.items c.args.frame None c.index.result.now in_range
    ∙ sym c.index.ensures in
    let next = c.if-frame-len.true ∙ c.len.ensures ∙ c.self.inside.payloads.ok.0 in
    rw (c.push_reserved.ensures.items, c.push_reserved.ensures.capacity, c.forget.ensures, ← read)
    (IsKept-next c.self.inside.payloads.items _ refl c.args.frame c.new-framed.result _ _ _ c.self.invariant c.args.page
    in_range free on_device outside next)

pub returns-then-frame-len : goal.returns-then-frame-len
returns-then-frame-len c =
    let in_range = rw (← c.self.view_is) at c.requires.frame in
    let read = get_or_default c.self.inside.pages.items c.args.frame None c.index.result.now in_range
    ∙ sym c.index.ensures in
    let next = c.if-frame-len.true ∙ c.len.ensures ∙ c.self.inside.payloads.ok.0 in
    rw (← c.self.view_is, c.push_reserved.ensures.items, c.forget.ensures, c.new-framed.ensures, ← read)
    (given_next c.self.inside.payloads.items _ refl c.args.frame c.args.payload c.args.page in_range next)

pub invariant_of-self-else-frame-len : goal.invariant_of-self-else-frame-len
invariant_of-self-else-frame-len c =
    let in_range = rw (← c.self.view_is) at c.requires.frame in
    let free = rw (← c.self.view_is) at c.requires.free in
    let next = rw (← c.self.view_is) at c.requires.next in
    let on_device = rw (← c.self.view_is) at c.requires.page in
    let outside = rw (← c.self.view_is) at c.requires.outside in
    let read = get_or_default c.self.inside.pages.items c.args.frame None c.index.result.now in_range
    ∙ sym c.index.ensures in
    let last = c.len.ensures ∙ c.self.inside.payloads.ok.0 in
    rw (c.forget.ensures, ← read)
    (IsKept-again c.self.inside.payloads.items _ refl c.args.frame c.new-framed.result _ _ _ c.self.invariant
    c.args.page in_range free on_device outside next (λ same. c.if-frame-len.false (same ∙ sym last)))

pub index_mut-requires-else-frame-len : goal.index_mut-requires-else-frame-len
index_mut-requires-else-frame-len c =
    let in_range = rw (← c.self.view_is) at c.requires.frame in
    let next = rw (← c.self.view_is) at c.requires.next in
    let last = c.len.ensures ∙ c.self.inside.payloads.ok.0 in
    rw c.self.inside.payloads.ok.0
    (is_earlier (length c.self.inside.payloads.items) c.self.inside.pages.items c.args.frame c.args.page
    c.self.invariant.holding in_range next (λ same. c.if-frame-len.false (same ∙ sym last)))

pub returns-else-frame-len : goal.returns-else-frame-len
returns-else-frame-len c =
    let in_range = rw (← c.self.view_is) at c.requires.frame in
    let next = rw (← c.self.view_is) at c.requires.next in
    let read = get_or_default c.self.inside.pages.items c.args.frame None c.index.result.now in_range
    ∙ sym c.index.ensures in
    let last = c.len.ensures ∙ c.self.inside.payloads.ok.0 in
    let earlier = is_earlier (length c.self.inside.payloads.items) c.self.inside.pages.items c.args.frame c.args.page
    c.self.invariant.holding in_range next (λ same. c.if-frame-len.false (same ∙ sym last)) in
    rw (← c.self.view_is, c.forget.ensures, c.new-framed.ensures, ← read)
    (given_again c.self.inside.payloads.items _ refl c.args.frame c.args.payload c.args.page earlier)
