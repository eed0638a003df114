-- The system needs the records of the pages so far.
use Rattle.std.proofs.Common.{IsTrue, take}
use Rattle.file_check.specs.Strays.{AreNeeded}
use Rattle.file_check.specs.Words.{file_in}
use Rattle.file_check.proofs.RecordLemmas.{IsStill}
use Rattle.file_check.proofs.strays.test_strays.Given as goal

abbrev pub invariant-loop-page : goal.invariant-loop-page
invariant-loop-page g l = record {
  still : IsStill g.D.PageDevice.content g.D.PageDevice.is_honest g.D.PageDevice.fault_count l.fn.device l.device;
  needed : IsTrue (g.D.PageDevice.is_honest l.fn.device) →
      AreNeeded l.system (file_in l.layout (g.D.PageDevice.content l.fn.device)) (take l.page-index l.chain);
}
