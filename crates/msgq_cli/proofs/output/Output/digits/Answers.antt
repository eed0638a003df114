use Rattle.std.proofs.Common.{◌∙◌, rules}
use Rattle.std.proofs.lemmas.List.{nil_from_length}
use Rattle.msgq_cli.proofs.OutputLemmas.{IsSpelling-none, IsSpelling-more, IsSpelling-all}
use Rattle.msgq_cli.proofs.output.Output.digits.Goals as goal

pub loop-block-init : goal.loop-block-init
loop-block-init g c = (search rules, tt, search rules, IsSpelling-none _ _ _ (search rules))

pub loop-block-preserved : goal.loop-block-preserved
loop-block-preserved g c =
    let steps = c.in-Some.ensures.steps in
    let written = rw c.unwrap.ensures at c.encode_to_slice.ensures.written in
    let block = rw written at c.put.ensures in (
      search rules,
      tt,
      steps.0 ∙ c.loop-block.invariant.2,
      IsSpelling-more _ _ _ _ _ _ _ c.loop-block.invariant.3 steps.1.0 block,
    )

pub returns : goal.returns
returns g c =
    IsSpelling-all _ _ _ _ c.loop-block.invariant.3 (nil_from_length _ c.in-None.ensures.steps.1.0)
