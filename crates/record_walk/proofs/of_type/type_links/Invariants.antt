-- The last messages so far are linked.
use Rattle.record_walk.proofs.LinkLemmas.{IsLinkedFrom}
use Rattle.record_walk.proofs.of_type.type_links.Given as goal

abbrev pub invariant-loop-back : goal.invariant-loop-back
invariant-loop-back l = IsLinkedFrom l.messages l.kinds l.next.items l.ends.items l.back
