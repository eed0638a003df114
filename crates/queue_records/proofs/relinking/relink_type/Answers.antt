-- The four links are all of the value.
use Rattle.std.proofs.Common.{◌∙◌, ◌++◌}
use Rattle.std.specs.Prelude.{unwrap_or}
use Rattle.bucket_page.specs.numbers.Numbers.{eight}
use Rattle.queue_records.specs.Fields.{type_link_number}
use Rattle.queue_records.proofs.RelinkLaws.{four_set}
use Rattle.queue_records.proofs.relinking.relink_type.Goals as goal

pub returns-clause-set : goal.returns-clause-set
returns-clause-set c t rest is =
    let l = c.args.links.now in
    four_set c.args.front.now c.set_number.new.bytes c.set_number-2.new.bytes c.set_number-3.new.bytes
    c.set_number-4.new.bytes rest t.first t.last (type_link_number t.lower) (type_link_number t.higher) l.first l.last
    c.type_set.result c.type_set-2.result c.requires.long is c.set_number.ensures.set c.set_number-2.ensures.set
    c.set_number-3.ensures.set c.set_number-4.ensures.set
    ∙ (λ i. eight (unwrap_or l.first t.first) ++ eight (unwrap_or l.last t.last)
    ++ eight (c.type_set.ensures t.lower i) ++ eight (c.type_set-2.ensures t.higher i))
