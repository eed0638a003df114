-- The first bytes of the value are in the room of the records, and are written over alone.
use Rattle.std.proofs.Common.{ap, arith}
use Rattle.bucket_page.specs.declared.place.Place.{Place}
use Rattle.bucket_page.proofs.ChangeLaws.{opened}
use Rattle.bucket_page.proofs.StandingLaws.{front_makes, some_with, stands}
use Rattle.bucket_page.proofs.change.replace_front_at.Goals as goal

pub overflow_add-place : goal.overflow_add-place
overflow_add-place c =
    let says = opened c.args.payload.now c.requires.bucket in
    let there = stands c.args.payload.now _ c.args.place.now.key c.requires.bucket (some_with _ c.requires.there) in
    omega (arith, says.room, there.within, (ap (λ (p : Place). p.at) c.requires.place))

pub set_bytes-requires : goal.set_bytes-requires
set_bytes-requires c =
    let says = opened c.args.payload.now c.requires.bucket in
    let there = stands c.args.payload.now _ c.args.place.now.key c.requires.bucket (some_with _ c.requires.there) in
    omega (
      arith,
      says.room,
      there.within,
      c.requires.long,
      (ap (λ (p : Place). p.at) c.requires.place),
      c.split_at_mut-body.ensures.back_len,
      c.told-payload,
    )

pub returns : goal.returns
returns c =
    let split = c.split_at_mut-body.ensures in
    record {
      ok = front_makes c.args.payload.now c.args.front.now _ _ _ c.args.place.now.key c.args.place.now.at
          c.requires.bucket c.requires.there c.requires.long (ap (λ (p : Place). p.at) c.requires.place)
          split.front split.back c.set_bytes.ensures;
    }
