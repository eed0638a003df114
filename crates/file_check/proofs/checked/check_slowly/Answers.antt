-- The ids, then the walk, then the strays: the pages stay, so each speaks of the same file.
use Rattle.std.proofs.Common.{ℕ, ◌⊎◌, inl, IsTrue, List, sym, subst, ◌∙◌}
use Rattle.record_walk.specs.Systems.{IsSystemOf}
use Rattle.record_walk.specs.Files.{HasRecords}
use Rattle.file_check.specs.Fault.{IsOfMachineToo}
use Rattle.file_check.specs.Ids.{HasChain}
use Rattle.file_check.specs.Strays.{AreNeeded, IsFirstStray}
use Rattle.file_check.specs.Whole.{IsToldIn, IsWalkFault}
use Rattle.file_check.specs.Words.{IsRightStructureIn, held_in, file_in}
use Rattle.file_check.proofs.WholeLemmas.{has_chain, has_records, is_file, is_right, stray_told, walk_told}
use Rattle.file_check.proofs.checked.check_slowly.Goals as goal

pub queue_ids-requires : goal.queue_ids-requires
queue_ids-requires g c = λ is.
    subst (HasChain c.args.layout.now (g.D.PageDevice.content c.args.device)) (sym c.as_slice.ensures.value)
    (has_chain _ c.requires.layout (g.K.PseudoKey.of_key c.args.keys) _ _
    (is_right _ c.requires.layout _ _ _ _ (c.requires.file is)))

pub returns-in-Err-clause-err : goal.returns-in-Err-clause-err
returns-in-Err-clause-err g c = λ is. inl (c.in-Err.ensures.err is)

pub walk-walked-requires-clause-records : goal.walk-walked-requires-clause-records
walk-walked-requires-clause-records g c = λ is.
    let ids = c.in-Ok.ensures in
    subst (λ pages. HasRecords c.args.layout.now (g.K.PseudoKey.of_key c.args.keys) pages c.args.structure.outline)
    (sym ids.same) (has_records _ c.requires.layout _ _ _ _ (c.requires.file (subst IsTrue ids.honest is)))

pub returns-in-Err-found-clause-err : goal.returns-in-Err-found-clause-err
returns-in-Err-found-clause-err g c = λ is.
    let ids = c.in-Ok.ensures in
    let right = is_right _ c.requires.layout _ _ _ _ (c.requires.file is) in
    let told = rw c.in-Err-found.is at (c.walk-walked.ensures.err (subst IsTrue (sym ids.honest) is)) in
    let here = subst (λ pages. IsWalkFault (held_in c.args.layout.now (file_in c.args.layout.now pages))
    c.in-Err-found.fault) ids.same told in
    subst (IsToldIn c.args.layout.now (g.K.PseudoKey.of_key c.args.keys) (g.D.PageDevice.content c.args.device))
    (sym here.1)
    (walk_told _ c.requires.layout _ _ _ right here.0 here.2)

pub test_strays-requires-clause-structure : goal.test_strays-requires-clause-structure
test_strays-requires-clause-structure g c = λ is.
    let ids = c.in-Ok.ensures in
    let walked = c.walk-walked.ensures in
    let right = (c.requires.file (subst IsTrue ids.honest (subst IsTrue walked.honest is))) in
    subst (IsRightStructureIn c.args.layout.now (g.D.PageDevice.content c.walk-walked.result.device))
    (sym c.as_slice-3.ensures.value)
    (subst (λ pages. IsRightStructureIn c.args.layout.now pages c.args.structure.chain.items)
    (sym (walked.same ∙ ids.same))
    right.structure.right)

pub returns-in-Ok-test_strays-clause-ok : goal.returns-in-Ok-test_strays-clause-ok
returns-in-Ok-test_strays-clause-ok g c = λ is.
    let ids = c.in-Ok.ensures in
    let walked = c.walk-walked.ensures in
    let system = c.in-Ok-found.system in
    let read = subst IsTrue (sym ids.honest) is in
    let stands = rw c.in-Ok-found.is at (walked.ok read) in
    let needed = c.in-Ok-test_strays.ensures.ok (subst IsTrue (sym walked.honest) read) in
    is_file _ c.requires.layout _ _ _ (is_right _ c.requires.layout _ _ _ _ (c.requires.file is)) system
    (subst (λ pages. IsSystemOf (held_in c.args.layout.now (file_in c.args.layout.now pages)) system) ids.same stands)
    (subst (AreNeeded system (file_in c.args.layout.now (g.D.PageDevice.content c.args.device)))
    c.as_slice-3.ensures.value
    (subst (λ pages. AreNeeded system (file_in c.args.layout.now pages) c.as_slice-3.result.now)
    (walked.same ∙ ids.same) needed))

pub returns-clause-err : goal.returns-clause-err
returns-clause-err g c = λ is.
    let ids = c.in-Ok.ensures in
    let walked = c.walk-walked.ensures in
    let system = c.in-Ok-found.system in
    let fault = c.in-Err-test_strays.fault in
    let read = subst IsTrue (sym ids.honest) is in
    let stands = rw c.in-Ok-found.is at (walked.ok read) in
    let stray = c.in-Err-test_strays.ensures.err (subst IsTrue (sym walked.honest) read) in
    stray_told _ c.requires.layout _ _ _ (is_right _ c.requires.layout _ _ _ _ (c.requires.file is)) system fault
    (subst (λ pages. IsSystemOf (held_in c.args.layout.now (file_in c.args.layout.now pages)) system) ids.same stands)
    (subst (λ (ns : List ℕ). IsOfMachineToo fault
    ⊎ IsFirstStray system (file_in c.args.layout.now (g.D.PageDevice.content c.args.device)) ns fault)
    c.as_slice-3.ensures.value
    (subst (λ pages. IsOfMachineToo fault ⊎ IsFirstStray system
    (file_in c.args.layout.now pages) c.as_slice-3.result.now fault)
    (walked.same ∙ ids.same) stray))
