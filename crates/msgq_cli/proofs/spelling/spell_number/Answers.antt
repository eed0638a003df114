use Rattle.std.proofs.Common.{arith, rules}
use Rattle.std.proofs.lemmas.Fmt.{length-decimal-le}
use Rattle.msgq_cli.proofs.spelling.spell_number.Goals as goal

pub write_digits-requires : goal.write_digits-requires
write_digits-requires c = search (rules, length-decimal-le 20)

pub returns : goal.returns
returns c = record {
  within = let start = c.write_digits.ensures.start in omega (arith, start);
  spelled = c.write_digits.ensures.written;
}
