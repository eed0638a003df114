use Rattle.numbers.proofs.ListLaws.{read_all}
use Rattle.numbers.proofs.fields.read_numbers.Goals as goal

pub returns : goal.returns
returns c = read_all _ _ c.read_u32_into.new.dst c.read_u32_into.auto.dst c.read_u32_into.ensures
