-- What a file means, as laws. Each is the contract of a function of spelled_laws.rt.
use Rattle.std.specs.Prelude.{ℕ, ◌≡◌, List}
use Rattle.bucket_page.specs.declared.record_key.RecordKey.{RecordKey}
use Rattle.queue_model.specs.State.{State}
use Rattle.files_at_rest.specs.Spelled.{SpellsSystem}
use Rattle.file_check.specs.Whole.{IsFileOf}

-- the pages that are the file of a system spell it
abbrev pub FileSpellsSystem : Type 0
FileSpellsSystem = (hash : RecordKey → ℕ) (content : List (List ℕ)) (s : State) → IsFileOf hash content s →
    SpellsSystem content s

-- pages spell one system at most
abbrev pub PagesSpellOneSystem : Type 0
PagesSpellOneSystem = (content : List (List ℕ)) (s t : State) → SpellsSystem content s → SpellsSystem content t → t ≡ s
