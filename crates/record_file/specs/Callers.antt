-- What the caller of a machine holds of the names of records.
use Rattle.std.specs.Prelude.{◌≡◌, List}
use Rattle.record_file.specs.Words.{RecordKey, Lock, kind_of, guard_of}

-- the name of each record is among a machine's locks where it was among those before
abbrev pub KeepsNames : (List Lock → List Lock) → Type 0
KeepsNames locks_of = (before : List Lock) (key : RecordKey) →
    kind_of (locks_of before) (guard_of key) ≡ kind_of before (guard_of key)
