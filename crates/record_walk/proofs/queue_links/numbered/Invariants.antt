-- The ends so far.
use Rattle.std.proofs.Common.{◌≡◌, map, take}
use Rattle.record_walk.specs.Links.{ends_in}
use Rattle.record_walk.proofs.queue_links.numbered.Given as goal

abbrev pub invariant-loop-end : goal.invariant-loop-end
invariant-loop-end l = l.list.items ≡ map ends_in (take l.end-index l.ends)
