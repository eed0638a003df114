-- The page that the header names is read behind the header.
use Rattle.std.proofs.Common.{◌∙◌, refl, ap}
use Rattle.directory.specs.declared.header.Header.{Header}
use Rattle.file_pages.proofs.HeaderLemmas.{free_there}
use Rattle.file_pages.proofs.ReadLemmas.{devices_after, handed_on}
use Rattle.file_pages.proofs.header.take_page.Goals as goal

pub returns-in_err-next-clause-fault : goal.returns-in_err-next-clause-fault
returns-in_err-next-clause-fault g c = λ honest file has.
    let reads = c.in_ok-header.ensures.reads in
    let there = free_there c.args.pool.now.images c.read_header.new.pool.images c.in_ok-header.header.first_free
    (reads.images honest) (ap (λ (h : Header). h.first_free) (c.in_ok-header.ensures.ok honest)) has in
    handed_on c.from_residual-in_err-next.result _ _ c.from_residual-in_err-next.ensures.1
    (devices_after reads.later (c.in_err-next.ensures.fault (reads.honest ∙ honest) (reads.file honest refl file)
    there.behind there.within there.free))
