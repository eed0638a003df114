use Rattle.std.proofs.Common.{rules, tests, not, ◌==◌, length}
use Rattle.std.proofs.lemmas.Iterator.Consumers.{map_from_collect, YieldsList-at, YieldsList-from_filter}
use Rattle.std.proofs.lemmas.Iterator.Splits.{YieldsList-from_slice_split}
use Rattle.schedules.specs.Schedules.{is_gap}
use Rattle.schedules.proofs.schedule.schedule_words.Goals as goal

-- the parts between gaps, without the empty ones
pub returns : goal.returns
returns c =
    map_from_collect _ c.collect.ensures.ran
    (YieldsList-from_filter _ (λ word. not (length word == 0))
    (YieldsList-at c.filter.ensures.source
    (YieldsList-from_slice_split _ is_gap c.args.bytes.now c.split.ensures.rest c.split.ensures.done
    c.split.ensures.closure (λ x b q k. search (rules, tests))))
    c.filter.ensures.closure (λ x b q k. search (rules, tests)))
