-- What is told of the new file is of the system of the old one.
use Rattle.std.proofs.Common.{IsTrue}
use Rattle.file_check.specs.Whole.{IsFileIn}
use Rattle.queue_model.specs.State.{State}
use Rattle.migration.specs.Filling.{MayNotFill}
use Rattle.migration.proofs.MakeLemmas.{err_told, known_told, ok_told}
use Rattle.migration.proofs.copied.copy.Goals as goal

pub returns-clause-err : goal.returns-clause-err
returns-clause-err g c = λ honest.
    let hash = g.K.PseudoKey.of_key c.args.keys in
    known_told hash c.args.target.pages
    (λ (s : State). IsTrue (g.O.PageDevice.is_honest c.args.old) →
    IsFileIn c.args.layout.now hash (g.O.PageDevice.content c.args.old) s) c.in-Ok.system
    (λ old_honest. ok_told (IsFileIn c.args.layout.now hash (g.O.PageDevice.content c.args.old))
    c.check_in-old.result.found c.in-Ok.system c.in-Ok.is (c.check_in-old.ensures.ok old_honest))
    c.in-Err-made.fault
    (err_told (MayNotFill hash c.args.target.pages c.in-Ok.system) c.make-new.result.made c.in-Err-made.fault
    c.in-Err-made.is (c.make-new.ensures.told honest))
