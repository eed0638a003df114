-- The page of a frame is one of the device.
use Rattle.std.proofs.Common.{◌∙◌, sym, arith}
use Rattle.std.proofs.lemmas.Bool.Decides.{nat_tests}
use Rattle.buffer_pool.proofs.TableLemmas.{within_if_found}
use Rattle.buffer_pool.proofs.table.Table.is_free.Goals as goal

pub pins-requires : goal.pins-requires
pins-requires c = within_if_found _ _ c.args.frame
    (c.keeps_whole.ensures.at_place c.in-Some.page c.args.frame (sym c.page.ensures ∙ c.in-Some.is))

pub returns-in-Some-clause-taken : goal.returns-in-Some-clause-taken
returns-in-Some-clause-taken c = λ test.
    (c.in-Some.page, sym c.page.ensures ∙ c.in-Some.is, let read = c.pins.ensures in grind (arith, nat_tests))
