-- The pages so far are right, and their entries are kept.
use Rattle.std.proofs.Common.{◌≡◌, ◌-◌, ◌*◌, IsTrue, length, min, take}
use Rattle.directory.specs.declared.layout.TheConstants.{PAGE_ENTRIES, FIRST_DIRECTORY_PAGE}
use Rattle.file_walk.specs.Runs.{HoldsRun, IsToldSince}
use Rattle.file_walk.proofs.PagesLemmas.{IsReadTo, entries_before}
use Rattle.file_walk.proofs.pages.entries_of.Given as goal

abbrev pub invariant-loop-page : goal.invariant-loop-page
invariant-loop-page g l = record {
  held : HoldsRun (g.D.PageDevice.is_honest l.device) (g.D.PageDevice.content l.device) l.run;
  told : IsToldSince (g.D.PageDevice.fault_count l.fn.device) (g.D.PageDevice.fault_count l.device) l.run;
  read : IsReadTo l.layout g.D.PageDevice.content g.D.PageDevice.is_honest g.D.PageDevice.fault_count
      l.fn.device l.device FIRST_DIRECTORY_PAGE l.page;
  number : length l.entries.items ≡ min l.most (PAGE_ENTRIES * (l.page - FIRST_DIRECTORY_PAGE));
  value : IsTrue (g.D.PageDevice.is_honest l.fn.device) →
      l.entries.items ≡ take l.most (entries_before (g.D.PageDevice.content l.fn.device) l.page);
}
