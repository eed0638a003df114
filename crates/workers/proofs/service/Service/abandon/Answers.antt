use Rattle.std.proofs.Common.{arith, subst}
use Rattle.workers.specs.Closing.{IsMarked}
use Rattle.workers.proofs.CloseLemmas.{is_left, is_let_go}
use Rattle.workers.proofs.service.Service.abandon.Goals as goal

-- what failed a kernel is known exactly where a step has failed
pub returns : goal.returns
returns g c =
    let mark = subst (λ d. IsMarked c.args.stopper.used d.journal) c.compare_all.ensures.own c.compare.ensures.mark in
    is_let_go _ _ _ _ _ _ c.held.invariant.held c.compare_all.ensures.beside _ c.held.invariant.device _
    (is_left _ _ _ _ _ _ c.held.invariant.held c.compare_all.ensures.beside _
    c.a_refining_kernel_answers_as_plain_lists.ensures mark _
    c.abandon-device.ensures.journal c.compare_all.ensures.seats c.abandon-device.ensures.honest)
    c.abandon-device.ensures.journal c.failure-failure.ensures c.is_whole.ensures.blamed
    (let same = c.abandon-device.ensures.faults in omega (arith, same))
    c.abandon-device.ensures.content
