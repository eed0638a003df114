-- A page that is pinned for the first time is one more.
use Rattle.std.proofs.Common.{◌∙◌, sym, ap, subst, ◌+◌, ◌<◌}
use Rattle.std.proofs.lemmas.Grind.{get_or_default_zero}
use Rattle.buffer_pool.proofs.TableLemmas.{IsWhole-with_pins, count_pinned-first, some_place, within_if_found}
use Rattle.buffer_pool.proofs.table.Table.pin.Goals as goal

pub invariant_of-self : goal.invariant_of-self
invariant_of-self c =
    let kept = c.self.invariant in
    let placed = rw (← c.self.view_is) at c.requires.placed in
    let place = some_place _ placed in
    let within = subst (λ n. c.args.page < n) (sym kept.whole.even_pins)
    (within_if_found _ c.args.page place.0 place.1) in
    let read = get_or_default_zero c.self.inside.pins.items c.args.page c.index-pins.result.now within in
    let none = sym read ∙ sym c.index-pins.ensures ∙ c.if-pins-eq0.true in
    let first = count_pinned-first _ kept.whole c.args.page c.index-pins.result.now within none in
    record {
      whole = IsWhole-with_pins _ kept.whole c.args.page _ place;
      roomy = kept.roomy;
      even_used = kept.even_used;
      counted = ap (λ n. n + 1) kept.counted ∙ sym first;
      holding = kept.holding;
    }
