use Rattle.std.proofs.Common.{arith, ◌<◌, length, refl, sym, ◌∙◌}
use Rattle.page_locks.specs.Probing.{after}
use Rattle.page_locks.proofs.CircleLemmas.{after-lt}
use Rattle.page_locks.proofs.CloseLemmas.{Closes-begun, Closes-empty}
use Rattle.page_locks.proofs.SlotLemmas.{slot-read}
use Rattle.page_locks.proofs.slots.close_up.Goals as goal

-- where the next slot is free no name had passed
pub returns-then-is_nobody-clause-probed : goal.returns-then-is_nobody-clause-probed
returns-then-is_nobody-clause-probed c =
    let slots = c.args.slots.now in
    let start = c.args.start in
    let lt : after start 1 < length slots = omega (arith, after-lt start 1, c.requires.opened.as_many) in
    let read = slot-read slots (after start 1) _ _ lt refl in
    Closes-empty slots slots start 0 1 (Closes-begun slots start c.requires.opened c.requires.free) (omega arith) _
    read (sym c.is_nobody.ensures ∙ c.if-is_nobody.true)
