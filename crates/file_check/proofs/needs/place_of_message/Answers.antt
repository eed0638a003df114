-- The half in which the message can stand.
use Rattle.std.proofs.Common.{sym, arith}
use Rattle.queue_model.specs.declared.message.Message.{Message}
use Rattle.file_check.proofs.NeedsLemmas.{halved_all, halved_down, halved_found, halved_up}
use Rattle.file_check.proofs.needs.place_of_message.Goals as goal

pub search-preserved-then-other-serial-2 : goal.search-preserved-then-other-serial-2
search-preserved-then-other-serial-2 c =
    halved_up (λ (m : Message). m.serial) c.args.messages.now c.args.serial c.search.low c.search.high
    c.requires c.search.invariant _ c.get.result.now
    (let short = c.search-test.true in omega (arith, short)) (sym c.get.ensures) c.if-other-serial-2.true

pub search-preserved : goal.search-preserved
search-preserved c =
    halved_down (λ (m : Message). m.serial) c.args.messages.now c.args.serial c.search.low c.search.high
    c.requires c.search.invariant _ c.get.result.now
    (let short = c.search-test.true in omega (arith, short)) (sym c.get.ensures)
    (let other = c.if-other-serial.false in let above = c.if-other-serial-2.false in omega (arith, other, above))

pub returns-then-other-serial-clause-some : goal.returns-then-other-serial-clause-some
returns-then-other-serial-clause-some c =
    halved_found (λ (m : Message). m.serial) c.args.messages.now c.args.serial c.search.low c.search.high
    c.requires c.search.invariant _ c.get.result.now
    (let short = c.search-test.true in omega (arith, short)) (sym c.get.ensures) c.if-other-serial.true

pub returns-clause-none : goal.returns-clause-none
returns-clause-none c =
    halved_all (λ (m : Message). m.serial) c.args.messages.now c.args.serial c.search.low c.search.high
    c.requires c.search.invariant (let met = c.search-test.false in omega (arith, met))
