-- The structure, then the system that is gathered, or else each record by itself: the pages stay, so each speaks of the
-- same file.
use Rattle.std.proofs.Common.{ℕ, IsTrue, List, sym, subst, ◌∙◌}
use Rattle.file_check.specs.Gathered.{AreJustOf}
use Rattle.file_check.specs.Records.{AreRightRecordsIn}
use Rattle.file_check.specs.Words.{IsRightStructureIn, IsStructureIn, file_in}
use Rattle.file_check.proofs.WholeLemmas.{file_of_just, structure_told}
use Rattle.file_check.proofs.checked.check_in.Goals as goal

pub returns-in-Err-clause-err : goal.returns-in-Err-clause-err
returns-in-Err-clause-err g c = λ is.
    structure_told c.args.layout.now (g.K.PseudoKey.of_key c.args.keys) (g.D.PageDevice.content c.args.device) _
    (c.in-Err.ensures.err is)

pub quick_system-requires-clause-structure : goal.quick_system-requires-clause-structure
quick_system-requires-clause-structure g c = λ is.
    let walked = c.in-Ok.ensures in
    subst (IsRightStructureIn c.args.layout.now (g.D.PageDevice.content c.check_structure_in.new.device))
    (sym c.as_slice.ensures.value)
    (subst (λ pages. IsRightStructureIn c.args.layout.now pages c.in-Ok.structure.chain.items) (sym walked.same)
    (walked.ok (subst IsTrue walked.honest is)).right)

pub returns-in-Some-clause-ok : goal.returns-in-Some-clause-ok
returns-in-Some-clause-ok g c = λ is.
    let walked = c.in-Ok.ensures in
    let system = c.in-Some.system in
    let hash = g.K.PseudoKey.of_key c.args.keys in
    let content = g.D.PageDevice.content c.args.device in
    let honest = subst IsTrue (sym walked.honest) is in
    let right = subst (λ pages. AreRightRecordsIn c.args.layout.now hash
    (file_in c.args.layout.now pages) c.as_slice.result.now) walked.same
    (c.in-Some.ensures.right honest) in
    let just = subst (λ pages. AreJustOf c.args.layout.now (file_in c.args.layout.now pages) c.as_slice.result.now
    system) walked.same
    (c.in-Some.ensures.some honest) in
    file_of_just _ c.requires hash content c.in-Ok.structure.chain.items
    (record {
      structure = (walked.ok is).right;
      records = subst (AreRightRecordsIn c.args.layout.now hash (file_in c.args.layout.now content))
          c.as_slice.ensures.value right;
    }) system
    (subst (λ (ns : List ℕ). AreJustOf c.args.layout.now (file_in c.args.layout.now content) ns system)
    c.as_slice.ensures.value just)

pub check_each-requires-clause-structure : goal.check_each-requires-clause-structure
check_each-requires-clause-structure g c = λ is.
    let walked = c.in-Ok.ensures in
    let quick = c.quick_system.ensures in
    subst (λ pages. IsStructureIn c.args.layout.now pages c.in-Ok.structure.outline c.in-Ok.structure.chain.items)
    (sym (quick.same ∙ walked.same)) (walked.ok (subst IsTrue walked.honest (subst IsTrue quick.honest is)))
