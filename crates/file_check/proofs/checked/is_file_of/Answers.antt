-- The pages were only read, so structure, records and their number are said of the same file.
use Rattle.std.proofs.Common.{ℕ, IsTrue, List, sym, subst, ◌∙◌}
use Rattle.directory.specs.declared.layout.TheConstants.{LAYOUT}
use Rattle.file_check.specs.Gathered.{AreJustOf}
use Rattle.file_check.specs.Records.{AreRightRecords}
use Rattle.file_check.specs.Words.{IsRightStructure, file_of}
use Rattle.file_check.proofs.RecordLemmas.{some_of}
use Rattle.file_check.proofs.WholeLemmas.{file_of_just}
use Rattle.file_check.proofs.checked.is_file_of.Goals as goal

pub test_records-requires-clause-structure : goal.test_records-requires-clause-structure
test_records-requires-clause-structure g c = λ is.
    let structure = c.in_ok-structure.ensures in
    subst (IsRightStructure (g.D.PageDevice.content c.check_structure.new.device)) (sym c.as_slice-chain.ensures.value)
    (subst (λ pages. IsRightStructure pages c.in_ok-structure.structure.chain.items) (sym structure.same)
    (structure.ok (subst IsTrue structure.honest is)).right)

pub has_just-requires-clause-structure : goal.has_just-requires-clause-structure
has_just-requires-clause-structure g c = λ is.
    let structure = c.in_ok-structure.ensures in
    let tested = c.in_ok-test_records.ensures in
    subst (IsRightStructure (g.D.PageDevice.content c.test_records.new.device)) (sym c.as_slice-chain.ensures.value)
    (subst (λ pages. IsRightStructure pages c.in_ok-structure.structure.chain.items)
    (sym (tested.same ∙ structure.same))
    (structure.ok (subst IsTrue structure.honest (subst IsTrue tested.honest is))).right)

pub returns-clause-ok : goal.returns-clause-ok
returns-clause-ok g c = λ is some running.
    let structure = c.in_ok-structure.ensures in
    let tested = c.in_ok-test_records.ensures in
    let hash = g.K.PseudoKey.of_key c.args.keys.now in
    let content = g.D.PageDevice.content c.args.device.now in
    let chain = c.in_ok-structure.structure.chain.items in
    let system = c.args.system.now in
    let honest = subst IsTrue (sym structure.honest) is in
    let right = subst (λ pages. AreRightRecords hash (file_of pages) c.as_slice-chain.result.now) structure.same
    (tested.ok honest) in
    let just = subst (λ pages. AreJustOf LAYOUT (file_of pages) c.as_slice-chain.result.now system)
    (tested.same ∙ structure.same)
    (some_of _ c.has_just.result (c.has_just.ensures.just (subst IsTrue (sym tested.honest) honest))
    (subst IsTrue c.is_some.ensures some) running) in
    file_of_just LAYOUT c.layouts_are_right.ensures.today hash content chain
    (record {
      structure = (structure.ok is).right;
      records = subst (AreRightRecords hash (file_of content)) c.as_slice-chain.ensures.value right;
    }) system
    (subst (λ (ns : List ℕ). AreJustOf LAYOUT (file_of content) ns system) c.as_slice-chain.ensures.value just)
