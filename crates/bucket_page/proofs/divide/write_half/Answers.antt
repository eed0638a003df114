use Rattle.std.proofs.Common.{◌∙◌}
use Rattle.bucket_page.specs.Reading.{bucket_in}
use Rattle.bucket_page.proofs.DivideLaws.{begun_half, half_next, half_on}
use Rattle.bucket_page.proofs.divide.write_half.Goals as goal

-- the first bucket has none of the half's records
pub loop-record-init : goal.loop-record-init
loop-record-init g c =
    let all = c.into_iter-record-iterator.ensures.into_iter_gives ∙ c.records_of-record-items.ensures in (
      tt,
      tt,
      begun_half c.args.set (g.K.PseudoKey.of_key c.args.keys.now) c.args.next _ (bucket_in c.args.full.now) _
          _ c.pattern_of_half-pattern.ensures c.write_bucket.ensures all,
    )

pub append-requires-clause-bucket : goal.append-requires-clause-bucket
append-requires-clause-bucket g c =
    (half_next c.args.set (g.K.PseudoKey.of_key c.args.keys.now) c.args.next c.args.full.now _ _ _ _ _ _
    c.requires.bucket c.loop-record.invariant.2 c.in-Some.ensures.steps c.of.ensures
    c.has_bit_as.ensures c.if-has_bit_as.true).page

pub append-requires-clause-order : goal.append-requires-clause-order
append-requires-clause-order g c =
    (half_next c.args.set (g.K.PseudoKey.of_key c.args.keys.now) c.args.next c.args.full.now _ _ _ _ _ _
    c.requires.bucket c.loop-record.invariant.2 c.in-Some.ensures.steps c.of.ensures
    c.has_bit_as.ensures c.if-has_bit_as.true).order

pub append-requires-clause-room : goal.append-requires-clause-room
append-requires-clause-room g c =
    (half_next c.args.set (g.K.PseudoKey.of_key c.args.keys.now) c.args.next c.args.full.now _ _ _ _ _ _
    c.requires.bucket c.loop-record.invariant.2 c.in-Some.ensures.steps c.of.ensures
    c.has_bit_as.ensures c.if-has_bit_as.true).room

-- a record of the half is appended
pub loop-record-preserved-then-has_bit_as : goal.loop-record-preserved-then-has_bit_as
loop-record-preserved-then-has_bit_as g c = (
  tt,
  tt,
  half_on c.args.set (g.K.PseudoKey.of_key c.args.keys.now) c.args.next c.args.full.now _ _ _ _ _ _ _
      c.loop-record.invariant.2 c.in-Some.ensures.steps c.of.ensures
      c.has_bit_as.ensures c.if-has_bit_as.true c.append.ensures,
)
