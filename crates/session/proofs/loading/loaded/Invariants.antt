-- The pages that were reached are on the device.
use Rattle.std.proofs.Common.{◌≡◌}
use Rattle.session.specs.Session.{pages_in}
use Rattle.session.proofs.loading.loaded.Given as goal

abbrev pub invariant-loop-page : goal.invariant-loop-page
invariant-loop-page l = l.device ≡ pages_in l.page l.bytes
