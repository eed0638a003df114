-- A lemma that another crate names, in today's layout.
use Rattle.std.proofs.Common.{ℕ, List}
use Rattle.directory.proofs.HeaderLaws.{is_today}
use Rattle.directory.specs.declared.layout.TheConstants.{LAYOUT}
use Rattle.file_check.specs.Whole.{IsFileOf, IsWrongWith}
use Rattle.file_check.specs.Words.{CheckFault, RecordKey, State}
use Rattle.file_check.proofs.WholeLemmas as whole

pub file_has_no_fault : (hash : RecordKey → ℕ) (content : List (List ℕ)) (s : State) (fault : CheckFault) →
    IsFileOf hash content s → IsWrongWith LAYOUT hash content fault → ⊥
file_has_no_fault = whole.file_has_no_fault LAYOUT is_today
