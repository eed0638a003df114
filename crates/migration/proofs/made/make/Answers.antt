-- What is told while a new file is filled.
use Rattle.std.proofs.Common.{IsTrue, sym, subst}
use Rattle.migration.specs.Filling.{MayNotFill}
use Rattle.migration.proofs.MakeLemmas.{err_told}
use Rattle.migration.proofs.made.make.Goals as goal

pub returns-in-Err-made-clause-told : goal.returns-in-Err-made-clause-told
returns-in-Err-made-clause-told g c = λ honest.
    err_told (MayNotFill (g.K.PseudoKey.of_key c.args.keys.now) c.args.target.pages c.args.system.now)
    c.fill-device.result.made c.in-Err-made.fault c.in-Err-made.is
    (c.fill-device.ensures.told c.args.target.pages (c.in_default.ensures.ok honest)
    (subst IsTrue (sym c.in_default.ensures.honest) honest))
