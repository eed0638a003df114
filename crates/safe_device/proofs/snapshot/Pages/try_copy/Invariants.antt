use Rattle.std.proofs.Common.{◌≡◌, take}
use Rattle.safe_device.proofs.snapshot.Pages.try_copy.Given as goal

abbrev pub invariant-loop-page : goal.invariant-loop-page
invariant-loop-page l = l.items.items ≡ take l.page-index l.page-items
