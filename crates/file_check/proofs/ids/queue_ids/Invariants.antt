-- The ids of the pages so far are put.
use Rattle.std.proofs.Common.{◌≡◌, IsTrue, take}
use Rattle.file_check.specs.Ids.{ids_in}
use Rattle.file_check.specs.Words.{file_in, pairs_on}
use Rattle.file_check.proofs.RecordLemmas.{IsStill}
use Rattle.file_check.proofs.ids.queue_ids.Given as goal

abbrev pub invariant-loop-page : goal.invariant-loop-page
invariant-loop-page g l = record {
  still : IsStill g.D.PageDevice.content g.D.PageDevice.is_honest g.D.PageDevice.fault_count l.fn.device l.device;
  put : IsTrue (g.D.PageDevice.is_honest l.fn.device) →
      l.ids.items ≡ ids_in (pairs_on (file_in l.layout (g.D.PageDevice.content l.fn.device))
      (take l.page-index l.chain));
}
