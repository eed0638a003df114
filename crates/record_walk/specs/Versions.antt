-- Values of a layout, read as those of today's (docs/FORMAT.md, "Version 1").
use Rattle.std.specs.Prelude.{ℕ, ◌==◌, Bool, true, false, List, Option, Some, None}
use Rattle.directory.specs.declared.layout.Layout.{Layout}
use Rattle.directory.specs.declared.layout.TheConstants.{LAYOUT}
use Rattle.queue_records.specs.Older.{as_today}
use Rattle.record_walk.specs.LookupWords.{Record, RecordKey, SpellsRecord, Store, contents}

-- whether values are today's
abbrev pub is_today : Layout → Bool
is_today l = l.version == LAYOUT.version

abbrev pub today_by : Bool → RecordKey → List ℕ → List ℕ
today_by true key value = value
today_by false key value = as_today key value

-- the value at a key, as one of today's
abbrev pub today_in : Layout → RecordKey → List ℕ → List ℕ
today_in l key value = today_by (is_today l) key value

-- key and value are those of this record
abbrev pub SpellsIn : Layout → Record → RecordKey → List ℕ → Type 0
SpellsIn l r key value = SpellsRecord r key (today_in l key value)

abbrev pub found_by : Bool → RecordKey → Option (List ℕ) → Option (List ℕ)
found_by today key None = None
found_by today key (Some value) = Some (today_by today key value)

-- what was found at a key, as of today's
abbrev pub found_in : Layout → RecordKey → Option (List ℕ) → Option (List ℕ)
found_in l key found = found_by (is_today l) key found

abbrev pub held_by : Bool → Store → RecordKey → Option (List ℕ)
held_by true s = contents s
held_by false s = λ key. found_by false key (contents s key)

-- what a file holds at a key, as of today's
abbrev pub held_in : Layout → Store → RecordKey → Option (List ℕ)
held_in l s = held_by (is_today l) s
