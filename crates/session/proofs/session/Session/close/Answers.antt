use Rattle.std.proofs.Common.{refl, ap, ◌∙◌}
use Rattle.session.specs.Session.{SessionState}
use Rattle.session.proofs.CloseLemmas.{closed_badly, closed_well, left_busy}
use Rattle.session.proofs.session.Session.close.Goals as goal

pub returns-in-Ok : goal.returns-in-Ok
returns-in-Ok g c =
    rw (← c.self.view_is) (closed_well c.a_kernel_at_rest_closes_on_its_file.ensures c.self.inside.kernel _ _ _ _
    c.in-Ok.ensures.ok c.in-Ok.ensures.failed c.in-Ok.ensures.device)

-- a transfer failed, now or before
pub returns-in-Err-Fault : goal.returns-in-Err-Fault
returns-in-Err-Fault g c =
    let failed = rw c.in-Err-Fault.field-0-is at c.in-Err-Fault.ensures.failed in
    let device = rw c.in-Err-Fault.field-0-is at c.in-Err-Fault.ensures.device in
    let released = rw c.in-Err-Fault.field-0-is at device in
    rw (← c.self.view_is) (closed_badly c.self.inside.kernel c.in-Err-Fault.fault _ _ _ _ failed released)

-- a call is left
pub returns-in-Err-Busy : goal.returns-in-Err-Busy
returns-in-Err-Busy g c =
    let busy = rw c.in-Err-Busy.field-0-is at c.in-Err-Busy.ensures.busy in
    let same = rw c.in-Err-Busy.field-0-is at c.in-Err-Busy.ensures.back in
    rw (← c.self.view_is) (left_busy c.self.inside.kernel _ _ _ _ (busy.0 refl)
    (c.abandon.ensures.content ∙ ap (λ (k : SessionState). k.pool.stored) same)
    (c.abandon.ensures.honest ∙ ap (λ (k : SessionState). k.pool.honest) same)
    (c.abandon.ensures.faults ∙ ap (λ (k : SessionState). k.pool.faults) same))
