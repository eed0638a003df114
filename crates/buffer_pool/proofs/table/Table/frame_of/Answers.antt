-- The frame of a page holds it.
use Rattle.std.proofs.Common.{rules, ◌∙◌, sym, subst, IsSome}
use Rattle.buffer_pool.proofs.table.Table.frame_of.Goals as goal

pub returns-clause-held : goal.returns-clause-held
returns-clause-held c =
    subst IsSome (sym (c.keeps_whole.ensures.in_frame c.args.page c.in-Some.frame (sym c.place.ensures ∙ c.in-Some.is)))
    (search rules)
