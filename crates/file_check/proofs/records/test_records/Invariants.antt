-- The records of the pages so far are right.
use Rattle.std.proofs.Common.{IsTrue, take}
use Rattle.file_check.specs.Records.{AreRightRecordsIn}
use Rattle.file_check.specs.Words.{file_in}
use Rattle.file_check.proofs.RecordLemmas.{IsStill}
use Rattle.file_check.proofs.records.test_records.Given as goal

abbrev pub invariant-loop-page : goal.invariant-loop-page
invariant-loop-page g l = record {
  still : IsStill g.D.PageDevice.content g.D.PageDevice.is_honest g.D.PageDevice.fault_count l.fn.device l.device;
  right : IsTrue (g.D.PageDevice.is_honest l.fn.device) →
      AreRightRecordsIn l.layout (g.K.PseudoKey.of_key l.keys) (file_in l.layout (g.D.PageDevice.content l.fn.device))
      (take l.page-index l.chain);
}
