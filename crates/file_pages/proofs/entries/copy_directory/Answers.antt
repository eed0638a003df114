-- The lower half's page is read, and then copied.
use Rattle.std.proofs.Common.{◌∙◌, refl, arith}
use Rattle.file_pages.proofs.ReadLemmas.{devices_after, handed_on}
use Rattle.file_pages.proofs.entries.copy_directory.Goals as goal

pub returns-in_err-lower-clause-fault : goal.returns-in_err-lower-clause-fault
returns-in_err-lower-clause-fault g c = λ honest file may.
    let reads = c.in_ok-header.ensures.reads in
    let again = reads.file honest refl file in
    let least = again.file.least in
    let last = c.source_of.ensures.last in
    handed_on c.from_residual-in_err-lower.result _ _ c.from_residual-in_err-lower.ensures.1
    (devices_after reads.later (c.in_err-lower.ensures.fault (reads.honest ∙ honest) again
    (omega (arith, least, last, may.last))))
