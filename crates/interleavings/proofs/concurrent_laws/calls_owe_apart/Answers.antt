use Rattle.interleavings.proofs.SeatLemmas.{apart_owing}
use Rattle.interleavings.proofs.concurrent_laws.calls_owe_apart.Goals as goal

pub returns : goal.returns
returns c = apart_owing
