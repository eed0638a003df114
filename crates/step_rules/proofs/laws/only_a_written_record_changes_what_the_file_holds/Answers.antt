use Rattle.step_rules.proofs.KindLemmas.{kind_keeps_contents}
use Rattle.step_rules.proofs.RecordStepLemmas.{changes_just}
use Rattle.step_rules.proofs.laws.only_a_written_record_changes_what_the_file_holds.Goals as goal

pub returns : goal.returns
returns c = record {
  others = λ kind hash seat old new sound other does. kind_keeps_contents kind hash seat old new sound other does;
  written = λ hash seat write old new sound does. changes_just hash seat write old new sound does;
}
