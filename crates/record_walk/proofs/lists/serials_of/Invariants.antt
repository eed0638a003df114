-- The serials so far.
use Rattle.std.proofs.Common.{◌≡◌, take}
use Rattle.record_walk.specs.Words.{serials}
use Rattle.record_walk.proofs.lists.serials_of.Given as goal

abbrev pub invariant-loop-place : goal.invariant-loop-place
invariant-loop-place l = l.list.items ≡ serials (take l.place l.messages)
