use Rattle.std.proofs.Common.{◌∙◌, ◌-◌, sym, ap}
use Rattle.directory.specs.Entries.{page_of}
use Rattle.directory.proofs.HalfLaws.{lower_half}
use Rattle.directory.proofs.entries.lower_page.Goals as goal

-- the first entries of the two pages are half a directory apart
pub returns : goal.returns
returns c i on upper =
    lower_half i c.args.page c.args.depth on upper
    ∙ sym (c.page_of.ensures.value
    ∙ ap page_of (c.saturating_sub.ensures ∙ (λ t. c.first_entry.ensures t - c.half_of.ensures t)))
