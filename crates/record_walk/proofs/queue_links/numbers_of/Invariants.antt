-- The links so far.
use Rattle.std.proofs.Common.{◌≡◌, map, take}
use Rattle.record_walk.specs.Links.{link_of}
use Rattle.record_walk.proofs.queue_links.numbers_of.Given as goal

abbrev pub invariant-loop-link : goal.invariant-loop-link
invariant-loop-link l = map link_of l.numbers.items ≡ take l.link-index l.links
