-- Right records, or the first that is wrong.
use Rattle.std.proofs.Common.{IsTrue, sym, subst}
use Rattle.file_check.specs.Records.{AreRightRecordsIn}
use Rattle.file_check.specs.Words.{IsStructureIn, file_in}
use Rattle.file_check.proofs.checked.check_each.Goals as goal

pub check_slowly-requires-clause-file : goal.check_slowly-requires-clause-file
check_slowly-requires-clause-file g c = λ is.
    let tested = c.in-Ok.ensures in
    let hash = g.K.PseudoKey.of_key c.args.keys in
    let chain = c.args.structure.chain.items in
    let honest = subst IsTrue tested.honest is in
    record {
      structure = subst (λ pages. IsStructureIn c.args.layout.now pages c.args.structure.outline chain)
          (sym tested.same)
          (c.requires.structure honest);
      records = subst (λ pages. AreRightRecordsIn c.args.layout.now hash (file_in c.args.layout.now pages) chain)
          (sym tested.same)
          (subst (AreRightRecordsIn c.args.layout.now hash (file_in c.args.layout.now
          (g.D.PageDevice.content c.args.device))) c.as_slice.ensures.value
          (tested.ok honest));
    }
