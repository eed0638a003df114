-- The records of the pages so far are of the system, and are counted.
use Rattle.std.proofs.Common.{IsTrue, take}
use Rattle.file_check.specs.Gathered.{AreCounted}
use Rattle.file_check.specs.Words.{file_in, pairs_on}
use Rattle.file_check.proofs.RecordLemmas.{IsStill}
use Rattle.file_check.proofs.compared.count_on.Given as goal

abbrev pub invariant-loop-page : goal.invariant-loop-page
invariant-loop-page g l = record {
  still : IsStill g.D.PageDevice.content g.D.PageDevice.is_honest g.D.PageDevice.fault_count l.fn.device l.device;
  counted : IsTrue (g.D.PageDevice.is_honest l.fn.device) →
      AreCounted l.layout l.system (pairs_on (file_in l.layout (g.D.PageDevice.content l.fn.device))
      (take l.page-index l.chain)) l.count;
}
