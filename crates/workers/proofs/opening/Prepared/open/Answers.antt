use Rattle.std.proofs.Common.{◌≡◌, length, refl}
use Rattle.workers.proofs.OpenLemmas.{is_prepared}
use Rattle.workers.proofs.opening.Prepared.open.Goals as goal

-- the kernel was just opened, with a seat for each caller
pub invariant_of-result : goal.invariant_of-result
invariant_of-result g c =
    let made = c.in-Ok-new.ensures in
    let wide = c.from.ensures in
    let fits : c.in-Ok-new.table.seats ≡ length c.args.callers.now = cc in
    is_prepared _ _ _ _ _ _ _ c.in-Ok.ensures.ok c.an_opened_kernel_refines.ensures _ _ fits c.requires.some
    c.requires.few c.in-Ok.ensures.file refl
