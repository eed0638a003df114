use Rattle.std.proofs.Common.{ap, arith}
use Rattle.bucket_page.specs.declared.place.Place.{Place}
use Rattle.bucket_page.specs.Reading.{records_in}
use Rattle.bucket_page.specs.Records.{pair}
use Rattle.bucket_page.proofs.OrderLaws.{below_within}
use Rattle.bucket_page.proofs.ChangeLaws.{opened, put_in_place}
use Rattle.bucket_page.proofs.change.put_at.Goals as goal

-- the records below a key have no more bytes than all
pub insert_record-requires-clause-at : goal.insert_record-requires-clause-at
insert_record-requires-clause-at c =
    let says = opened c.args.payload.now c.requires.bucket in
    let all = below_within c.args.place.now.key (records_in c.args.payload.now) in
    omega (arith, all, ap (λ (p : Place). p.at) c.requires.place, says.used)

pub insert_record-requires-clause-room : goal.insert_record-requires-clause-room
insert_record-requires-clause-room c =
    let says = opened c.args.payload.now c.requires.bucket in
    omega (arith, says.used, c.requires.room)

pub returns : goal.returns
returns c =
    put_in_place c.args.payload.now _ (pair c.args.place.now.key c.args.value.now) c.args.place.now.at
    c.requires.bucket c.requires.absent (ap (λ (p : Place). p.at) c.requires.place) c.insert_record.ensures
