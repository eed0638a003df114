-- What is right of the outline is right of the file, and what is wrong is wrong.
use Rattle.std.proofs.Common.{ℕ, ◌⊎◌, List, subst}
use Rattle.std.proofs.lemmas.Result.{err_from_is_err_and}
use Rattle.file_walk.specs.Order.{LacksMemory}
use Rattle.file_walk.specs.Walks.{HasRightSpares, IsRightDirectory, IsChainFault, IsSparesFault, IsDirectoryFault}
use Rattle.file_walk.proofs.OutlinedLemmas.{no_transfer}
use Rattle.file_walk.proofs.StructureLemmas.{reading_first, chain_first, spares_first, directory_first, structure_right}
use Rattle.file_walk.proofs.structure.check_structure_in.Goals as goal

pub returns-in_err-outline-clause-err : goal.returns-in_err-outline-clause-err
returns-in_err-outline-clause-err g c = λ is.
    let p = err_from_is_err_and c.from_residual.result c.from_residual.ensures.1 in
    rw (p.1, p.2) (reading_first c.args.layout.now c.requires.layout _ _ (c.in_err-outline.ensures.err is))

pub returns-in_err-chain-clause-err : goal.returns-in_err-chain-clause-err
returns-in_err-chain-clause-err g c = λ is.
    let p = err_from_is_err_and c.from_residual-in_err-chain.result c.from_residual-in_err-chain.ensures.1 in
    rw (p.1, p.2) (chain_first c.args.layout.now c.requires.layout _ _ _
    (c.in_ok-outline.ensures.ok is) c.in_err-chain.ensures.err)

pub returns-in_err-chain-clause-cause : goal.returns-in_err-chain-clause-cause
returns-in_err-chain-clause-cause g c =
    let p = err_from_is_err_and c.from_residual-in_err-chain.result c.from_residual-in_err-chain.ensures.1 in
    rw (p.1, p.2) (no_transfer (IsChainFault c.in_ok-outline.outline) _ _ _ c.in_ok-outline.ensures.cause.later
    c.in_err-chain.ensures.err (λ h. h))

pub returns-in_err-test_spares-clause-err : goal.returns-in_err-test_spares-clause-err
returns-in_err-test_spares-clause-err g c = λ is.
    let p = err_from_is_err_and c.from_residual-in_err-test_spares.result
    c.from_residual-in_err-test_spares.ensures.1 in
    rw (p.1, p.2) (spares_first c.args.layout.now c.requires.layout _ _ _
    (c.in_ok-outline.ensures.ok is) _ c.in_ok-chain.ensures.ok
    (subst (λ (ns : List ℕ). LacksMemory c.in_err-test_spares.field-0.0
    ⊎ IsSparesFault c.in_ok-outline.outline ns c.in_err-test_spares.field-0.0) c.deref.ensures.value
    c.in_err-test_spares.ensures.err))

pub returns-in_err-test_spares-clause-cause : goal.returns-in_err-test_spares-clause-cause
returns-in_err-test_spares-clause-cause g c =
    let p = err_from_is_err_and c.from_residual-in_err-test_spares.result
    c.from_residual-in_err-test_spares.ensures.1 in
    rw (p.1, p.2) (no_transfer (IsSparesFault c.in_ok-outline.outline c.deref.result.now) _ _ _
    c.in_ok-outline.ensures.cause.later c.in_err-test_spares.ensures.err (λ h. h))

pub returns-in_err-test_directory-clause-err : goal.returns-in_err-test_directory-clause-err
returns-in_err-test_directory-clause-err g c = λ is.
    let p = err_from_is_err_and c.from_residual-in_err-test_directory.result
    c.from_residual-in_err-test_directory.ensures.1 in
    rw (p.1, p.2) (directory_first c.args.layout.now c.requires.layout _ _ _
    (c.in_ok-outline.ensures.ok is) _ c.in_ok-chain.ensures.ok
    (subst (HasRightSpares c.in_ok-outline.outline) c.deref.ensures.value c.in_ok-test_spares.ensures.ok)
    (subst (λ (ns : List ℕ). IsDirectoryFault c.in_ok-outline.outline ns c.in_err-test_directory.field-0.0)
    c.deref-2.ensures.value c.in_err-test_directory.ensures.err))

pub returns-clause-ok : goal.returns-clause-ok
returns-clause-ok g c = λ is.
    structure_right c.args.layout.now c.requires.layout _ _ _ (c.in_ok-outline.ensures.ok is) c.in_ok-chain.ensures.ok
    (subst (HasRightSpares c.in_ok-outline.outline) c.deref.ensures.value c.in_ok-test_spares.ensures.ok)
    (subst (IsRightDirectory c.in_ok-outline.outline) c.deref-2.ensures.value c.in_ok-test_directory.ensures.ok)
