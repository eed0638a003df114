-- Serials ascend, so there is no other message of this serial.
use Rattle.std.proofs.Common.{◌<◌, ◌-◌, length, sym, arith}
use Rattle.queue_model.specs.declared.message.Message.{Message}
use Rattle.file_check.proofs.NeedsLemmas.{halved_found, halved_none}
use Rattle.file_check.proofs.needs.place_without_gaps.Goals as goal

pub returns-then-get-serial : goal.returns-then-get-serial
returns-then-get-serial c =
    let ms = c.args.messages.now in
    let within : c.args.serial - c.get.result.now.serial < length ms =
    (let w = c.if-place-len.true in let n = c.len-2.ensures in omega (arith, w, n)) in
    halved_found (λ (m : Message). m.serial) ms c.args.serial 0 (length ms) c.requires
    (halved_none (λ (m : Message). m.serial) ms c.args.serial) _ c.get-then-place-len.result.now within
    (sym c.get-then-place-len.ensures) c.if-get-serial.true
