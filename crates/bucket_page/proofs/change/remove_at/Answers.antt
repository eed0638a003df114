use Rattle.std.proofs.Common.{◌∙◌, ◌+◌, ◌-◌, refl, ap, arith}
use Rattle.bucket_page.specs.declared.place.Place.{Place}
use Rattle.bucket_page.specs.Reading.{head_at}
use Rattle.bucket_page.specs.Spelling.{head_bytes}
use Rattle.bucket_page.specs.Changes.{taken_out}
use Rattle.bucket_page.proofs.ChangeLaws.{opened}
use Rattle.bucket_page.proofs.StandingLaws.{is_read, stands_there, remove_makes}
use Rattle.bucket_page.proofs.change.remove_at.Goals as goal

pub two_at-requires : goal.two_at-requires
two_at-requires c =
    let says = opened c.args.payload.now c.requires.bucket in
    let there = stands_there c.args.payload.now c.args.place.now.key c.requires.bucket c.requires.there in
    omega (
      arith,
      says.room,
      there.within,
      (ap (λ (p : Place). p.at) c.requires.place),
      c.split_at_mut-front.ensures.back_len,
      c.told-payload,
    )

pub take_out-requires-clause-at : goal.take_out-requires-clause-at
take_out-requires-clause-at c =
    let read = is_read c.args.payload.now _ c.args.place.now.key _ _ _ c.requires.bucket c.requires.there refl
    (ap (λ (p : Place). p.at) c.requires.place) c.split_at_mut-front.ensures.back c.two_at.ensures in
    omega (arith, read.fits, c.two_at-used.ensures)

pub take_out-requires-clause-room : goal.take_out-requires-clause-room
take_out-requires-clause-room c =
    let says = opened c.args.payload.now c.requires.bucket in
    omega (
      arith,
      says.room,
      c.two_at-used.ensures,
      c.split_at_mut-front.ensures.back_len,
      c.told-payload,
    )

pub overflow_sub-used : goal.overflow_sub-used
overflow_sub-used c =
    let read = is_read c.args.payload.now _ c.args.place.now.key _ _ _ c.requires.bucket c.requires.there refl
    (ap (λ (p : Place). p.at) c.requires.place) c.split_at_mut-front.ensures.back c.two_at.ensures in
    omega (arith, read.fits, c.two_at-used.ensures)

pub returns : goal.returns
returns c =
    let split = c.split_at_mut-front.ensures in
    let h = head_at c.args.payload.now in
    let read = is_read c.args.payload.now _ c.args.place.now.key h _ _ c.requires.bucket c.requires.there refl
    (ap (λ (p : Place). p.at) c.requires.place) split.back c.two_at.ensures in
    let says = opened c.args.payload.now c.requires.bucket in
    let there = stands_there c.args.payload.now c.args.place.now.key c.requires.bucket c.requires.there in
    let head = c.set_counts.ensures h (split.front ∙ says.front)
    ∙ (λ i. head_bytes (record h {
      count = c.two_at-count.ensures i - 1;
      used = c.two_at-used.ensures i - (15 + read.len i);
    })) in
    let body = c.take_out.ensures
    ∙ (λ i. taken_out c.split_at_mut-front.result.1.now (c.two_at-used.ensures i) c.args.place.now.at
    (15 + read.len i)) in
    record {
      ok = remove_makes c.args.payload.now _ _ _ _ c.args.place.now.key h c.args.place.now.at c.requires.bucket there
          (ap (λ (p : Place). p.at) c.requires.place) refl head split.back body;
    }
