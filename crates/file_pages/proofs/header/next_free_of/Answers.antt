-- What spells a free page is one.
use Rattle.std.proofs.Common.{subst}
use Rattle.bucket_page.specs.declared.page.PageKind.{PageKind}
use Rattle.bucket_page.specs.Spelling.{Spells}
use Rattle.buffer_pool.proofs.FormLemmas.{free_page}
use Rattle.file_pages.proofs.HeaderLemmas.{of_none}
use Rattle.file_pages.proofs.header.next_free_of.Goals as goal

pub returns-in_default-clause-err : goal.returns-in_default-clause-err
returns-in_default-clause-err c = λ _ spells next is.
    of_none c.next_free.result c.next_free.ensures.none c.in_default.is
    (free_page next c.args.page.now (subst (λ (p : PageKind). Spells p c.args.page.now) is spells))
