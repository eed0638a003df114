-- The links of the queues so far.
use Rattle.file_check.proofs.GatheredLemmas.{AreLinkedTo}
use Rattle.file_check.proofs.compared.links_of.Given as goal

abbrev pub invariant-loop-place : goal.invariant-loop-place
invariant-loop-place l = AreLinkedTo l.system l.links.items l.place
