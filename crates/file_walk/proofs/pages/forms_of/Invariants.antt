-- The pages so far are right, and their forms are kept.
use Rattle.std.proofs.Common.{◌≡◌, IsTrue, length, map, take, replicate}
use Rattle.file_walk.specs.declared.form.Form.TheVariants as forms
use Rattle.file_walk.specs.Files.{pages_in}
use Rattle.file_walk.specs.Outlines.{shown, bare}
use Rattle.file_walk.specs.Runs.{HoldsRun, IsToldSince}
use Rattle.file_walk.proofs.PagesLemmas.{IsReadTo}
use Rattle.file_walk.proofs.pages.forms_of.Given as goal

abbrev pub invariant-loop-page : goal.invariant-loop-page
invariant-loop-page g l = record {
  held : HoldsRun (g.D.PageDevice.is_honest l.device) (g.D.PageDevice.content l.device) l.run;
  told : IsToldSince (g.D.PageDevice.fault_count l.fn.device) (g.D.PageDevice.fault_count l.device) l.run;
  read : IsReadTo l.layout g.D.PageDevice.content g.D.PageDevice.is_honest g.D.PageDevice.fault_count
      l.fn.device l.device l.layout.root_page l.page;
  number : length l.forms.items ≡ l.page;
  low : take l.layout.root_page l.forms.items ≡ replicate l.layout.root_page forms.Other;
  value : IsTrue (g.D.PageDevice.is_honest l.fn.device) →
      map shown l.forms.items ≡ map bare (take l.page (pages_in l.layout (g.D.PageDevice.content l.fn.device)));
}
