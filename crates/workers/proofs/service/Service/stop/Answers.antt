use Rattle.workers.proofs.StopLemmas.{is_stopper, used_by}
use Rattle.workers.proofs.service.Service.stop.Goals as goal

pub invariant_of-stopper : goal.invariant_of-stopper
invariant_of-stopper g c = is_stopper _ c.stop.ensures

pub returns : goal.returns
returns g c = used_by _ c.stop.ensures
