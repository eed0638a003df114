-- The parts stand one behind the other, or the bytes begin with no entry.
use Rattle.std.proofs.Common.{◌≤◌, arith, length}
use Rattle.call_entries.proofs.ReadLemmas.{first_of, is_cut, is_first, no_check, no_record, too_short}
use Rattle.call_entries.proofs.reading.cut.Goals as goal

pub returns-then-bytes-lt8 : goal.returns-then-bytes-lt8
returns-then-bytes-lt8 c = too_short c.args.bytes.now c.if-bytes-lt8.true

pub returns-in-Ok-None : goal.returns-in-Ok-None
returns-in-Ok-None c =
    no_record c.args.bytes.now _ c.split_at.ensures.back c.whole.result c.whole.ensures.size
    (λ size is. (let none = c.in-Ok-None.is in absurd cc))

pub returns-in-Err : goal.returns-in-Err
returns-in-Err c =
    no_record c.args.bytes.now _ c.split_at.ensures.back c.whole.result c.whole.ensures.size
    (λ size is. (let none = c.in-Err.is in absurd cc))

pub returns-then-behind-size-lt8 : goal.returns-then-behind-size-lt8
returns-then-behind-size-lt8 c =
    let first = first_of _ c.whole.result c.in-Ok-Some.field-0 c.in-Ok-Some.size c.whole.ensures.size c.in-Ok-Some.is
    c.in-Ok-Some.field-0-is in
    no_check c.args.bytes.now _ c.split_at.ensures.back c.in-Ok-Some.size first c.if-behind-size-lt8.true

pub returns : goal.returns
returns c =
    let bytes = c.args.bytes.now in
    let back = c.split_at.ensures.back in
    let size = c.in-Ok-Some.size in
    let first = first_of _ c.whole.result c.in-Ok-Some.field-0 size c.whole.ensures.size c.in-Ok-Some.is
    c.in-Ok-Some.field-0-is in
    let long : 8 ≤ length bytes = let more = c.if-bytes-lt8.false in omega (arith, more) in
    record {
      moment = c.eight_at.ensures;
      is = is_cut bytes _ back _ _ size first c.split_at-2.ensures.front c.split_at-2.ensures.back _
          c.eight_at.result c.eight_at-2.result (λ i. (c.type_inv.bytes i).fits) long
          (let more = c.if-behind-size-lt8.false in omega (arith, more)) c.eight_at.ensures c.eight_at-2.ensures
          c.split_at-3.ensures.back;
      first = is_first bytes _ back _ _ size first c.split_at-2.ensures.front c.split_at-2.ensures.back
          c.split_at-2.ensures.front_len;
    }
