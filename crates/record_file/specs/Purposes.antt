-- What an access is for: a record is found, inserted, or written.
-- docs/STEPS.md, "What a call reads", "What a call writes".
use Rattle.std.specs.Prelude.{◌≡◌, Bool, true, false, Option, Some, None, IfSome, FitsSigned, if◌then◌else◌, ⊤}
use Rattle.std.specs.Int.{w64}
use Rattle.std.specs.Option.{option_map}
use Rattle.queue_records.specs.declared.links.Links.TheVariants as links
use Rattle.queue_records.specs.declared.links.MessageLinks.{MessageLinks}
use Rattle.queue_records.specs.declared.links.TypeLinks.{TypeLinks}
use Rattle.queue_records.specs.Relinking.{IfLeads}
use Rattle.record_file.specs.AccessWords.{RecordKey, Store, contents, Progress, Moved, WriteRecord, Links, Record, FitsEight, SpellsRecord, AreLinksInRange, key_of, value_of, Write, Replace, Relink, Delete, CanBe, key_written, turned}

pub data Purpose : Type 0 where
  -- what stands at the key is told
  ToFind : RecordKey → Purpose
  -- the record is put where its key has none
  ToInsert : Record → Purpose
  -- the write is carried out
  ToWrite : Write → Purpose

-- the key that it is about
abbrev pub aimed_at : Purpose → RecordKey
aimed_at (ToFind key) = key
aimed_at (ToInsert r) = key_of r
aimed_at (ToWrite write) = key_written write

-- what its WriteRecord makes of what stands there
abbrev pub made : Purpose → Option Record → Option Record
made (ToFind key) found = found
made (ToInsert r) found = Some r
made (ToWrite write) found = turned write found

abbrev pub is_write : {F : Type 0} → Progress F → Bool
is_write (Moved WriteRecord) = true
is_write did = false

-- what stands there after a step
abbrev pub left_by : {F : Type 0} → Progress F → Purpose → Option Record → Option Record
left_by did p found = if is_write did then made p found else found

-- ---- limits

-- the key and the value of a record spell it
abbrev pub IsSpelled : Record → Type 0
IsSpelled r = SpellsRecord r (key_of r) (value_of r)

pub record FitMessageLinks (l : MessageLinks) : Type 0 where
  pub previous : IfLeads l.previous FitsEight
  pub next : IfLeads l.next FitsEight
  pub next_of_type : IfLeads l.next_of_type FitsEight

pub record FitTypeLinks (l : TypeLinks) : Type 0 where
  pub first : IfSome l.first FitsEight
  pub last : IfSome l.last FitsEight
  pub lower : IfLeads l.lower (FitsSigned w64)
  pub higher : IfLeads l.higher (FitsSigned w64)

-- the numbers of links fit their fields, as those of all links of the program do
abbrev pub FitLinks : Links → Type 0
FitLinks (links.Message l) = FitMessageLinks l
FitLinks (links.Type l) = FitTypeLinks l

-- what is written keeps the limits of one record
abbrev pub KeepsLimits : Purpose → Type 0
KeepsLimits (ToFind key) = ⊤
KeepsLimits (ToInsert r) = IsSpelled r
KeepsLimits (ToWrite (Replace r)) = IsSpelled r
KeepsLimits (ToWrite (Relink key links)) = AreLinksInRange links × FitLinks links
KeepsLimits (ToWrite (Delete key)) = ⊤

-- ---- what stands at a key

-- the file holds the value of this record there, or nothing where there is none
pub record StandsAt (s : Store) (key : RecordKey) (found : Option Record) : Type 0 where
  pub holds : contents s key ≡ option_map value_of found
  pub spelled : IfSome found (λ (r : Record). SpellsRecord r key (value_of r))

-- the write can be carried out on it
abbrev pub CanBeOn : Write → Option Record → Type 0
CanBeOn write found = CanBe write (λ (key : RecordKey). found)

-- it can be begun
abbrev pub CanBegin : Purpose → Option Record → Type 0
CanBegin (ToFind key) found = ⊤
CanBegin (ToInsert r) found = found ≡ None
CanBegin (ToWrite write) found = CanBeOn write found
