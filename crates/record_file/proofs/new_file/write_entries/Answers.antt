-- The entries are those that were written into the array.
use Rattle.std.proofs.Common.{◌≡◌, ◌∙◌, subst, sym}
use Rattle.directory.specs.Pages.{SpellsDirectory}
use Rattle.record_file.specs.Files.{entries_on}
use Rattle.record_file.proofs.FileLemmas.{first_entries, other_entries}
use Rattle.record_file.proofs.new_file.write_entries.Goals as goal
use Rattle.record_file.proofs.new_file.write_entries.Goals.{then-page-eq-FIRST_DIRECTORY_PAGE, else-page-eq-FIRST_DIRECTORY_PAGE}

pub returns : goal.returns
returns c = subst (λ es. SpellsDirectory es c.write_directory.new.payload) entries c.write_directory.ensures.ok
  where
    entries : c.if-page-eq-FIRST_DIRECTORY_PAGE.entries ≡ entries_on c.args.page
    entries =
        elim c.if-page-eq-FIRST_DIRECTORY_PAGE.branch [
          | then-page-eq-FIRST_DIRECTORY_PAGE w ↦
              w.entries-is ∙ sym (first_entries c.args.page w.if-page-eq-FIRST_DIRECTORY_PAGE.true)
          | else-page-eq-FIRST_DIRECTORY_PAGE w ↦
              w.entries-is ∙ sym (other_entries c.args.page w.if-page-eq-FIRST_DIRECTORY_PAGE.false)
        ]
