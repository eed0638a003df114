-- Of a file of which nothing came the new device was not touched.
use Rattle.std.proofs.Common.{IsTrue}
use Rattle.page_device.specs.Device.{HasRisen}
use Rattle.migration.specs.Filling.{MayNotFill}
use Rattle.migration.specs.Rescues.{IsFoundIn}
use Rattle.migration.proofs.MakeLemmas.{err_told, found_in, known_told}
use Rattle.migration.proofs.RescueLemmas.{cause_old, rescued_still}
use Rattle.migration.proofs.salvaged.salvage.Goals as goal

pub returns-in-Err-clause-cause : goal.returns-in-Err-clause-cause
returns-in-Err-clause-cause g c = cause_old _ _ _ _ _ c.in-Err.is c.find_rescue-old.ensures.cause

pub returns-in-Ok-made-clause-rescued : goal.returns-in-Ok-made-clause-rescued
returns-in-Ok-made-clause-rescued g c = λ honest.
    rescued_still _ _ _ _ _ c.in-Ok.is (c.find_rescue-old.ensures.rescued honest)

-- what is told of the new file is of what was found
pub returns-in-Err-made-clause-ok : goal.returns-in-Err-made-clause-ok
returns-in-Err-made-clause-ok g c = λ honest.
    let hash = g.K.PseudoKey.of_key c.args.keys.now in
    let content = g.O.PageDevice.content c.args.old in
    let Honest = IsTrue (g.O.PageDevice.is_honest c.args.old) in
    let Failed = HasRisen (g.O.PageDevice.fault_count c.args.old)
    (g.O.PageDevice.fault_count c.find_rescue-old.result.device) in
    known_told hash c.args.target.pages (IsFoundIn hash content Honest Failed) c.in-Ok.rescue.system
    (found_in hash content Honest Failed c.in-Ok.rescue c.find_rescue-old.result.found c.in-Ok.is
    c.find_rescue-old.ensures.rescued)
    c.in-Err-made.fault
    (err_told (MayNotFill hash c.args.target.pages c.in-Ok.rescue.system) c.make-new.result.made c.in-Err-made.fault
    c.in-Err-made.is (c.make-new.ensures.told honest))
