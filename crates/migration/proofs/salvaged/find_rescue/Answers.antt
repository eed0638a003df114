-- A file is right, or is read page by page.
use Rattle.std.proofs.Common.{ℕ, ◌<◌, ◌∙◌, IsTrue, sym, subst}
use Rattle.migration.proofs.RescueLemmas.{cause_since, rescued_refused, rescued_whole, whole_cause}
use Rattle.migration.proofs.salvaged.find_rescue.Goals as goal

pub returns-in-Ok-clause-rescued : goal.returns-in-Ok-clause-rescued
returns-in-Ok-clause-rescued g c = λ honest.
    rescued_whole _ _ _ _ _ _ c.in-Ok.is (c.check-device.ensures.ok honest) c.make_whole-found.ensures.ok
    c.make_whole-found.ensures.err

pub returns-in-Ok-clause-cause : goal.returns-in-Ok-clause-cause
returns-in-Ok-clause-cause g c =
    whole_cause _ _ _ c.check-device.ensures.cause.later c.make_whole-found.ensures.err

pub returns-clause-rescued : goal.returns-clause-rescued
returns-clause-rescued g c = λ honest.
    rescued_refused _ _ _ _ _ _ _ _ _ c.in-Err.is (c.check-device.ensures.err honest) c.check-device.ensures.cause
    (sym c.lacks_memory.ensures ∙ c.if-lacks_memory.false) c.check-device.ensures.same
    c.make_rescue-found.ensures.cause.later
    (subst (λ (count : ℕ). count < 18446744073709551616) c.faults.ensures c.faults.type_inv)
    (c.make_rescue-found.ensures.told (subst IsTrue (sym c.check-device.ensures.honest) honest))

pub returns-clause-cause : goal.returns-clause-cause
returns-clause-cause g c =
    cause_since _ _ _ _ c.check-device.ensures.cause.later c.make_rescue-found.ensures.cause
