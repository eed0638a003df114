use Rattle.std.proofs.Common.{[], ◌∷◌, ◌++◌, refl, ap, ◌∙◌}
use Rattle.queue_model.specs.declared.entry.Entry.TheVariants.{Decided}
use Rattle.workers.specs.Words.{Call, Entry}
use Rattle.workers.proofs.RoomLemmas.{cause_of_step}
use Rattle.workers.proofs.SeatLemmas.{fault_ends, list_taken_back, seated_answered, seated_faulted, seated_taken_back, way_begins, way_goes}
use Rattle.workers.proofs.service.Service.call_within.Goals as goal

pub loop-init : goal.loop-init
loop-init g c =
    way_begins _ _ _ _ _ _ _ _ _ _ c.seat.invariant c.seat.view_is c.of.ensures.list c.in-Ok.ensures.room
    c.in_default-begin.ensures.ok

-- told that it waits, its call is under way still, and is taken back
pub invariant_of-seat-then-is_back : goal.invariant_of-seat-then-is_back
invariant_of-seat-then-is_back g c =
    let told = rw c.in-Waiting.is at c.advance-last.ensures.told in
    let way = way_goes _ _ _ _ _ _ _ _ c.loop.invariant _ _ told refl refl in
    seated_taken_back _ _ _ _ _ _ _ _ way _ (c.take_back-is_back.ensures.back c.if-is_back.true)

pub returns-then-is_back-clause-cause : goal.returns-then-is_back-clause-cause
returns-then-is_back-clause-cause g c = c.into_call.ensures ∙ c.in-Ok.ensures.call

pub returns-then-is_back-clause-err : goal.returns-then-is_back-clause-err
returns-then-is_back-clause-err g c =
    let told = rw c.in-Waiting.is at c.advance-last.ensures.told in
    let way = way_goes _ _ _ _ _ _ _ _ c.loop.invariant _ _ told refl refl in
    list_taken_back _ _ _ _ _ _ _ _ way _ (c.take_back-is_back.ensures.back c.if-is_back.true)

-- its entry joins the list at hand
pub invariant_of-seat-in-Answered : goal.invariant_of-seat-in-Answered
invariant_of-seat-in-Answered g c =
    let told = rw c.in-Answered.is at c.advance-last.ensures.told in
    let entry = c.entry.ensures
    ∙ ap (λ (call : Call). Decided c.loop.seat-inside.number call c.in-Answered.answer) c.in-Ok.ensures.call in
    let pushed = c.push_reserved.ensures.items ∙ ap (λ (e : Entry). c.loop.seat-inside.list.items ++ e ∷ []) entry in
    seated_answered _ _ _ _ _ _ _ _ c.loop.invariant _ _ _ told pushed

-- the list is as it was
pub invariant_of-seat-in-Fault : goal.invariant_of-seat-in-Fault
invariant_of-seat-in-Fault g c =
    let told = rw c.in-Fault.is at c.advance-last.ensures.told in
    seated_faulted _ _ _ _ _ _ _ _ c.loop.invariant _ _ told refl (fault_ends c.in-Fault.fault)

pub returns-in-Fault-clause-cause : goal.returns-in-Fault-clause-cause
returns-in-Fault-clause-cause g c =
    let told = rw c.in-Fault.is at c.advance-last.ensures.told in
    let room = rw c.in-Fault.is at c.advance-last.ensures.room in
    cause_of_step _ _ _ _ _ _ c.of_step.ensures told room c.loop.invariant.under_way
