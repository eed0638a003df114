use Rattle.std.proofs.Common.{◌∙◌, sym}
use Rattle.std.proofs.lemmas.Str.{IsUtf8-from_ascii}
use Rattle.schedules.proofs.NumberLemmas.{signed_ascii, parse_signed}
use Rattle.schedules.proofs.values.signed.Goals as goal

-- digits and the sign are ASCII, so they are text
pub returns-in_default : goal.returns-in_default
returns-in_default c =
    let digits = rw c.without_minus.ensures at (sym c.is_digits.ensures ∙ c.if-not-is_digits.false) in
    absurd (c.in_default.ensures.cases.0 (IsUtf8-from_ascii _ (signed_ascii c.args.word.now digits)))

pub returns : goal.returns
returns c =
    let digits = rw c.without_minus.ensures at (sym c.is_digits.ensures ∙ c.if-not-is_digits.false) in
    let parses = rw c.in-Ok.ensures.cases.0 at c.parse.ensures.value.0 in
    c.ok.ensures.value ∙ parse_signed c.args.word.now c.parse.result digits parses
