-- The access of a question writes nothing.
use Rattle.std.proofs.Common.{ℕ, ◌≡◌, Bool, true, false, refl}
use Rattle.call_writes.proofs.of_record_file.AccessAimLemmas.{wrote_of}
use Rattle.call_writes.proofs.of_record_file.StandLemmas.{finds_none}
use Rattle.call_writes.specs.record_file.Accesses.{IsOfKind}
use Rattle.file_pages.specs.declared.fault.FileFault.{FileFault}
use Rattle.step_rules.specs.Turns.{TurnsAt}
use Rattle.xsi_calls.specs.QuestionWords.{RecordKey, Progress, World, is_write, ToFind, AccessView, access_key, access_turn}
use Rattle.step_rules.specs.Sound.{IsSoundWorld}

-- a find writes no record
pub reads_only : (hash : RecordKey → ℕ) (seat : ℕ) (did : Progress FileFault) (w w' : World) → IsSoundWorld hash w →
    (a : AccessView) → IsOfKind (ToFind (access_key a)) a.operation →
    TurnsAt hash (access_turn a w.store) did seat w w' → is_write did ≡ false
reads_only hash seat did w w' sound a kind does = by (is_write did) refl
  where
    by : (b : Bool) → is_write did ≡ b → b ≡ false
    by false is = refl
    by true is =
        absurd (finds_none hash seat did w w' sound (wrote_of did is) (ToFind (access_key a)) (access_key a) a.operation
        a.bytes kind does)
