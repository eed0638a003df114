-- The types so far.
use Rattle.std.proofs.Common.{◌≡◌, take}
use Rattle.record_walk.specs.Words.{types}
use Rattle.record_walk.proofs.lists.types_of.Given as goal

abbrev pub invariant-loop-place : goal.invariant-loop-place
invariant-loop-place l = l.list.items ≡ types (take l.place l.messages)
