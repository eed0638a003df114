use Rattle.std.proofs.Common.{length, refl, sym, ap, ◌∙◌, subst, Err, Some}
use Rattle.interleaving_core.specs.Closing.{fault_in, is_busy, journal_in}
use Rattle.workers.specs.Closing.{HasMissing, IsMarked}
use Rattle.workers.proofs.CloseLemmas.{all_came, is_closed, is_faulted, is_left, kept_beside, none_failed, not_busy, sound_at_end, sound_by, unfailed_by}
use Rattle.workers.proofs.service.Service.close.Goals as goal

-- nothing is closed: the kernel is as it was
pub invariant_of-held : goal.invariant_of-held
invariant_of-held g c = kept_beside _ _ _ _ _ _ c.held.invariant c.compare_all.ensures.own

-- and no seat that came knows of a failure
pub returns-then-is_missing : goal.returns-then-is_missing
returns-then-is_missing g c =
    let away = c.is_missing.ensures.0 c.if-is_missing.true in
    record {
      same = c.compare_all.ensures.seats;
      stopper = refl;
      missing = subst (λ l. HasMissing (length g.N.Base.origin.callers) l)
          (c.as_slice.ensures.value ∙ c.compare_all.ensures.seats) away.1;
      sound = sym c.has_failed.ensures ∙ away.0;
      unfailed = none_failed _ _ _ _ _ _ c.held.invariant.held c.compare_all.ensures.beside
          (sym c.has_failed.ensures ∙ away.0);
    }

-- no step has failed, and all seats came
pub returns-in-Ok : goal.returns-in-Ok
returns-in-Ok g c =
    let sound = sound_at_end _ _ refl c.in-Ok.ensures.failed in
    let mark = subst (λ d. IsMarked c.args.stopper.used d.journal) c.compare_all.ensures.own c.compare.ensures.mark in
    is_closed _ _ _ _ _ _ c.held.invariant.held c.compare_all.ensures.beside sound
    (subst (λ l. HasMissing (length g.N.Base.origin.callers) l → ⊥)
    (c.as_slice.ensures.value ∙ c.compare_all.ensures.seats)
    (all_came _ _ _ _ _ c.is_missing.ensures c.if-is_missing.false c.has_failed.ensures sound))
    _ c.a_refining_kernel_answers_as_plain_lists.ensures c.a_refining_kernel_closes_on_its_file.ensures mark _
    c.in-Ok.ensures.journal c.compare_all.ensures.seats c.in-Ok.ensures.device.same
    (unfailed_by _ _ _ c.failure-failure.ensures c.is_whole.ensures.blamed sound) c.in-Ok.ensures.ok
    (λ honest. c.in-Ok.ensures.device.synced honest refl) c.held.invariant.device.size

-- a step has failed, or the device as the pages were written
pub returns-in-Err-Fault : goal.returns-in-Err-Fault
returns-in-Err-Fault g c =
    let released = rw c.in-Err-Fault.field-0-is at c.in-Err-Fault.ensures.device in
    let told = ap (λ e. fault_in (Err e)) c.in-Err-Fault.field-0-is in
    let journal = ap (λ e. journal_in (Err e)) (sym c.in-Err-Fault.field-0-is) ∙ c.in-Err-Fault.ensures.journal in
    let mark = subst (λ d. IsMarked c.args.stopper.used d.journal) c.compare_all.ensures.own c.compare.ensures.mark in
    is_faulted _ _ _ _ _ _ c.held.invariant.held c.compare_all.ensures.beside _ c.held.invariant.device _
    (is_left _ _ _ _ _ _ c.held.invariant.held c.compare_all.ensures.beside _
    c.a_refining_kernel_answers_as_plain_lists.ensures mark _ journal c.compare_all.ensures.seats released.same)
    journal c.failure-failure.ensures c.is_whole.ensures.blamed released.later _
    (λ failed. c.in-Err-Fault.ensures.failed.0 (told ∙ ap Some failed))
    (λ failed. released.unwritten (c.in-Err-Fault.ensures.failed.0 (told ∙ ap Some failed)))
    (sound_by _ _ _ told c.in-Err-Fault.ensures.failed)
    (λ failed. released.cause (told ∙ ap Some failed))
    (λ sound. subst (λ l. HasMissing (length g.N.Base.origin.callers) l → ⊥)
    (c.as_slice.ensures.value ∙ c.compare_all.ensures.seats)
    (all_came _ _ _ _ _ c.is_missing.ensures c.if-is_missing.false c.has_failed.ensures sound))

-- each seat that came is between two calls
pub unreachable-requires : goal.unreachable-requires
unreachable-requires g c =
    let busy = c.in-Err-Busy.ensures.busy.0 (ap (λ e. is_busy (Err e)) c.in-Err-Busy.field-0-is) in
    not_busy _ _ _ _ _ _ c.held.invariant.held c.compare_all.ensures.beside busy.sound
    (subst (λ l. HasMissing (length g.N.Base.origin.callers) l → ⊥)
    (c.as_slice.ensures.value ∙ c.compare_all.ensures.seats)
    (all_came _ _ _ _ _ c.is_missing.ensures c.if-is_missing.false c.has_failed.ensures busy.sound))
    (record { sound = busy.sound; call = busy.call })
