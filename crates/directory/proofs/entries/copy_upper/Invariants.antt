use Rattle.directory.proofs.CopyLaws.{doubled}
use Rattle.directory.proofs.EntryLaws.{IsDoneTo}
use Rattle.directory.proofs.entries.copy_upper.Given as goal

-- the entries in the slots so far are copied
abbrev pub invariant-loop-slot : goal.invariant-loop-slot
invariant-loop-slot l = IsDoneTo (doubled l.depth l.first l.lower l.initial.payload) l.slot l.initial.payload l.payload
