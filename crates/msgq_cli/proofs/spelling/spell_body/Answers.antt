use Rattle.std.proofs.Common.{◌≡◌, ◌-◌, ◌*◌, length, sym, rules}
use Rattle.hex.specs.Hex.{encode_lower}
use Rattle.msgq_cli.proofs.SpellingLemmas.{IsSpelled-part}
use Rattle.msgq_cli.proofs.spelling.spell_body.Goals as goal

pub returns : goal.returns
returns c =
    let digits = 2 * length c.args.body.now in
    let some = sym c.if-is_empty.ensures in
    let long : c.args.end - (c.args.end - digits) ≡ digits = search rules in
    let written = rw c.unwrap.ensures at c.encode_to_slice.ensures.written in
    rw (written, some, long)
    (IsSpelled-part c.args.room.now (encode_lower c.args.body.now) (c.args.end - digits) digits
    c.args.end (search rules) (search rules))
