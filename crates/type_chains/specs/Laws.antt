-- The laws of the records of a system.
use Rattle.std.specs.Prelude.{◌≡◌, ◌≢◌, ◌↔◌, Some}
use Rattle.std.specs.List.{AllPairs, Contains}
use Rattle.queue_records.specs.bucket_page.declared.record_key.RecordKey.{RecordKey}
use Rattle.queue_model.specs.declared.queue.Queue.{Queue}
use Rattle.queue_model.specs.Lawful.{IsLawful}
use Rattle.queue_model.specs.State.{State}
use Rattle.queue_records.specs.declared.record.Record.{Record}
use Rattle.queue_records.specs.Range.{IsInRange}
use Rattle.queue_records.specs.Records.{SpellsRecord}
use Rattle.queue_records.specs.Spelling.{key_of, value_of}
use Rattle.type_chains.specs.Fits.{HasFittingNumbers}
use Rattle.type_chains.specs.Image.{image, queue_records}
use Rattle.type_chains.specs.RecordOf.{record_of}

-- a record stands at its own key
abbrev pub StandsAtItsKey : Type 0
StandsAtItsKey = (s : State) (key : RecordKey) (r : Record) → record_of s key ≡ Some r → key_of r ≡ key

-- each record of a lawful system keeps its limits
abbrev pub KeepsLimits : Type 0
KeepsLimits = (s : State) (key : RecordKey) (r : Record) → IsLawful s → record_of s key ≡ Some r → IsInRange r

-- a record is in the image of a lawful system and has a key exactly where the system has it at that key;
-- so a key is of at most one record of the image
abbrev pub AgreesWithImage : Type 0
AgreesWithImage = (s : State) → IsLawful s → (key : RecordKey) (r : Record) →
    (record_of s key ≡ Some r) ↔ (Contains (image s) r × (key_of r ≡ key))

-- no two records of the image have one key
abbrev pub HasDistinctKeys : Type 0
HasDistinctKeys = (s : State) → IsLawful s → AllPairs (λ (a b : Record). key_of a ≢ key_of b) (image s)

-- a record's key tells its queue: records of two queues have no key in common
abbrev pub TellsQueue : Type 0
TellsQueue = (s : State) → IsLawful s → (p q : Queue) (a b : Record) →
    Contains s.queues p → Contains s.queues q →
    Contains (queue_records p) a → Contains (queue_records q) b → key_of a ≡ key_of b → p ≡ q

-- where its numbers fit their fields, each record of a lawful system is spelled by its key and its value
abbrev pub AreSpelled : Type 0
AreSpelled = (s : State) (key : RecordKey) (r : Record) → IsLawful s → HasFittingNumbers s →
    record_of s key ≡ Some r → SpellsRecord r key (value_of r)
