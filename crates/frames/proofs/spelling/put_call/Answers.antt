use Rattle.std.proofs.Common.{ℕ, ◌+◌, ◌++◌, ◌∙◌, [], ap}
use Rattle.frames.specs.declared.frame.Frame.{Frame}
use Rattle.frames.specs.Answers.{appended}
use Rattle.frames.specs.Spelling.{head_parts, row_parts}
use Rattle.frames.proofs.SpellLaws.{put_is}
use Rattle.frames.proofs.spelling.put_call.Goals as goal

-- the parts stand behind what stood there, one after the other
pub returns-clause-value : goal.returns-clause-value
returns-clause-value c =
    let head = appended [] (head_parts c.args.asker.connection c.args.caller (12 + c.len_of_fields.result)) in
    put_is c.args.asker c.args.caller c.args.call.now c.args.into.now.items c.put_front.new.into.items
    c.put_fields.new.into.items (12 + c.len_of_fields.result)
    (ap (λ (n : ℕ). 12 + n) c.len_of_fields.ensures.value)
    (c.put_front.ensures.value
    ∙ ap (λ (f : Frame). c.args.into.now.items ++ appended head (row_parts f)) c.row_of-frame.ensures)
    c.put_fields.ensures.value
