-- The three links stand behind the type and the sender.
use Rattle.std.proofs.Common.{◌≡◌, ◌∙◌, ◌++◌, length, arith}
use Rattle.std.proofs.lemmas.List.{length-append}
use Rattle.bucket_page.specs.numbers.Numbers.{four, eight}
use Rattle.bucket_page.proofs.of_numbers.NumberLaws.{length-eight, length-four}
use Rattle.queue_records.specs.Fields.{serial_number, type_number}
use Rattle.queue_records.proofs.RelinkLaws.{three_set}
use Rattle.queue_records.proofs.relinking.relink_message.Goals as goal

pub returns-clause-set : goal.returns-clause-set
returns-clause-set c m rest is =
    let e = length-eight (type_number m.mtype) in
    let f = length-four m.sender in
    let a = length-append (eight (type_number m.mtype)) (four m.sender) in
    let head : length (eight (type_number m.mtype) ++ four m.sender) ≡ 12 = omega (arith, a, e, f) in
    three_set (eight (type_number m.mtype) ++ four m.sender) m.body c.args.front.now c.set_number.new.bytes
    c.set_number-2.new.bytes c.set_number-3.new.bytes rest (serial_number m.previous) (serial_number m.next)
    (serial_number m.next_of_type) c.serial_set.result c.serial_set-2.result c.serial_set-3.result head
    c.requires.long is c.set_number.ensures.set c.set_number-2.ensures.set c.set_number-3.ensures.set
    ∙ (λ i. eight (type_number m.mtype) ++ four m.sender ++ eight (c.serial_set.ensures m.previous i)
    ++ eight (c.serial_set-2.ensures m.next i) ++ eight (c.serial_set-3.ensures m.next_of_type i) ++ m.body)
