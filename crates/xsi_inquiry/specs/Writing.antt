-- Records at their keys, and what writes make of them.
-- docs/STEPS.md, "What a call writes".
use Rattle.std.specs.Prelude.{◌≡◌, ℕ, ◌≤◌, List, [], ◌∷◌, length, Option, Some, None, IsSome, ⊤, if◌then◌else◌}
use Rattle.std.specs.List.{All}
use Rattle.std.specs.Option.{option_map}
use Rattle.type_chains.specs.bucket_page.declared.record_key.RecordKey.{RecordKey}
use Rattle.type_chains.specs.bucket_page.Keys.{is_same}
use Rattle.type_chains.specs.queue_records.declared.record.Record.{Record}
use Rattle.type_chains.specs.queue_records.Range.{IsInRange}
use Rattle.type_chains.specs.queue_records.Relinking.{AreLinksInRange, HasSuch, relinked}
use Rattle.type_chains.specs.queue_records.Spelling.{key_of, value_of}
use Rattle.xsi_inquiry.specs.declared.write.TheConstants.{MAX_TRIALS, MAX_WRITES}
use Rattle.xsi_inquiry.specs.declared.write.Write.{Write}
use Rattle.xsi_inquiry.specs.declared.write.Write.TheVariants.{Replace, Relink, Delete}

-- the record at each key
abbrev pub Records : Type 0
Records = RecordKey → Option Record

-- at one key this stands
abbrev pub with_at : RecordKey → Option Record → Records → Records
with_at key found records other = if is_same other key then found else records other

-- ---- plans

-- what a decision writes: records inserted on trial before it, and writes behind it, each in a slot of its own, which
-- is empty where there is nothing to write
pub record Plan : Type 0 where
  pub trials : List Record
  pub slots : List (Option Write)

-- the plan that writes nothing
abbrev pub nothing : Plan
nothing = record { trials = []; slots = [] }

-- what stands in slots
abbrev pub somes : {X : Type 0} → List (Option X) → List X
somes [] = []
somes (None ∷ os) = somes os
somes (Some x ∷ os) = x ∷ somes os

abbrev pub writes_of : Plan → List Write
writes_of p = somes p.slots

pub record IsSmall (p : Plan) : Type 0 where
  pub trials : length p.trials ≤ MAX_TRIALS
  pub slots : length p.slots ≤ MAX_WRITES

-- ---- insertions on trial

-- records inserted one after the other
abbrev pub inserted : List Record → Records → Records
inserted [] records = records
inserted (r ∷ rs) records = inserted rs (with_at (key_of r) (Some r) records)

-- at the key of each there is nothing when it is inserted
abbrev pub AreAbsent : List Record → Records → Type 0
AreAbsent [] records = ⊤
AreAbsent (r ∷ rs) records = (records (key_of r) ≡ None) × AreAbsent rs (with_at (key_of r) (Some r) records)

-- ---- changes of records that stand

-- the key at which it writes
abbrev pub key_written : Write → RecordKey
key_written (Replace r) = key_of r
key_written (Relink key links) = key
key_written (Delete key) = key

-- what it makes of the record there
abbrev pub turned : Write → Option Record → Option Record
turned (Replace r) found = Some r
turned (Relink key links) found = option_map (relinked links) found
turned (Delete key) found = None

abbrev pub written_by : Write → Records → Records
written_by w records = with_at (key_written w) (turned w (records (key_written w))) records

-- writes one after the other
abbrev pub written : List Write → Records → Records
written [] records = records
written (w ∷ ws) records = written ws (written_by w records)

abbrev pub value_length : Record → ℕ
value_length r = length (value_of r)

-- what a write changes stands there: a replacement is as long, and links are those of a record of that kind
abbrev pub CanBe : Write → Records → Type 0
CanBe (Replace r) records = option_map value_length (records (key_of r)) ≡ Some (value_length r)
CanBe (Relink key links) records = HasSuch links (records key)
CanBe (Delete key) records = IsSome (records key)

-- each write can be carried out behind those before it
abbrev pub CanAllBe : List Write → Records → Type 0
CanAllBe [] records = ⊤
CanAllBe (w ∷ ws) records = CanBe w records × CanAllBe ws (written_by w records)

-- what is written keeps the limits of one record
abbrev pub HasRange : Write → Type 0
HasRange (Replace r) = IsInRange r
HasRange (Relink key links) = AreLinksInRange links
HasRange (Delete key) = ⊤

-- a slot in which nothing is deleted
abbrev pub KeepsAll : Option Write → Type 0
KeepsAll None = ⊤
KeepsAll (Some (Replace r)) = ⊤
KeepsAll (Some (Relink key links)) = ⊤
KeepsAll (Some (Delete key)) = ⊥

-- ---- what a plan does

-- the records after a plan
abbrev pub planned : Plan → Records → Records
planned p records = written (writes_of p) (inserted p.trials records)

-- the plan takes these records to those
pub record Leads (p : Plan) (old new : Records) : Type 0 where
  -- there is room for what is inserted on trial
  pub absent : AreAbsent p.trials old
  pub trials_in_range : All IsInRange p.trials
  -- what follows can't be refused
  pub can : CanAllBe (writes_of p) (inserted p.trials old)
  pub in_range : All HasRange (writes_of p)
  -- and then the records are those
  pub leads : (key : RecordKey) → planned p old key ≡ new key
