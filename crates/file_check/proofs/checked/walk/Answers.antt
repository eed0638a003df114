-- What the walk along the links of these records tells.
use Rattle.std.proofs.Common.{sym, subst}
use Rattle.record_walk.specs.Systems.{AreQueueIds, IsSystemOf}
use Rattle.record_walk.specs.Told.{IsToldOfSystem}
use Rattle.record_walk.specs.Files.{Source, held_on}
use Rattle.file_check.proofs.WholeLemmas.{is_honest_too, is_honest_back}
use Rattle.file_check.proofs.checked.walk.Goals as goal

pub read_system-read-requires : goal.read_system-read-requires
read_system-read-requires g c = λ is.
    subst (λ (x : Source). AreQueueIds (held_on x) c.args.ids.now) (sym c.new-records.ensures)
    (c.requires.ids (is_honest_too _ _ _ _ _ c.new-records.ensures is))

pub returns-in-Ok-clause-ok : goal.returns-in-Ok-clause-ok
returns-in-Ok-clause-ok g c = λ is.
    subst (λ (x : Source). IsSystemOf (held_on x) c.in-Ok.system) c.new-records.ensures
    (c.in-Ok.ensures.ok (is_honest_back _ _ _ _ _ c.new-records.ensures is))

pub returns-in-Err-clause-err : goal.returns-in-Err-clause-err
returns-in-Err-clause-err g c = λ is. (
  c.in-Err.fault,
  c.from.ensures,
  subst (λ (x : Source). IsToldOfSystem (held_on x) c.in-Err.fault) c.new-records.ensures
      (c.in-Err.ensures.err (is_honest_back _ _ _ _ _ c.new-records.ensures is)),
)
