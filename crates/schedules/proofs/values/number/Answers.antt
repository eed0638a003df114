use Rattle.std.proofs.Common.{◌∙◌, sym}
use Rattle.std.proofs.lemmas.Str.{IsUtf8-from_ascii}
use Rattle.schedules.proofs.NumberLemmas.{digits_ascii, parse_decimal}
use Rattle.schedules.proofs.values.number.Goals as goal

-- digits are ASCII, so they are text
pub returns-in_default : goal.returns-in_default
returns-in_default c =
    let digits = sym c.is_digits.ensures ∙ c.if-not-is_digits.false in
    absurd (c.in_default.ensures.cases.0 (IsUtf8-from_ascii _ (digits_ascii c.args.word.now digits)))

pub returns : goal.returns
returns c =
    let parses = rw c.in-Ok.ensures.cases.0 at c.parse.ensures.value.0 in
    let digits = sym c.is_digits.ensures ∙ c.if-not-is_digits.false in
    c.ok.ensures.value ∙ parse_decimal c.args.word.now c.parse.result digits parses
