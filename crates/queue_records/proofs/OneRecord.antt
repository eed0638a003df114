-- A key and a value spell at most one record.
use Rattle.std.proofs.Common.{◌≡◌, ℕ, zero, suc, List, sym, ap, ◌∙◌}
use Rattle.bucket_page.specs.declared.record_key.RecordKey.{RecordKey}
use Rattle.queue_records.specs.declared.record.Record.{Record}
use Rattle.queue_records.specs.declared.record.Record.TheVariants as records
use Rattle.queue_records.specs.Reading.{counter_at, key_at, queue_at, type_at, message_at}
use Rattle.queue_records.specs.Records.{SpellsRecord}
use Rattle.queue_records.proofs.SpellingLaws.{counter_again, key_entry_again, queue_again, type_entry_again, message_again}

-- the record of a kind that a key and a value say
abbrev record_at : ℕ → RecordKey → List ℕ → Record
record_at zero key value = records.Counter (counter_at value)
record_at (suc zero) key value = records.Counter (counter_at value)
record_at (suc (suc zero)) key value = records.Key (key_at key value)
record_at (suc (suc (suc zero))) key value = records.Queue (queue_at key value)
record_at (suc (suc (suc (suc zero)))) key value = records.Type (type_at key value)
record_at (suc (suc (suc (suc (suc n))))) key value = records.Message (message_at key value)

spelled_at : (r : Record) (key : RecordKey) (value : List ℕ) → SpellsRecord r key value
    → record_at key.kind key value ≡ r
spelled_at (records.Counter c) key value is =
    let kind : key.kind ≡ 1 = ap (λ (k : RecordKey). k.kind) is.keyed in
    ap (λ (n : ℕ). record_at n key value) kind ∙ ap records.Counter (counter_again key value c is).1
spelled_at (records.Key k) key value is =
    let kind : key.kind ≡ 2 = ap (λ (k : RecordKey). k.kind) is.keyed in
    ap (λ (n : ℕ). record_at n key value) kind ∙ ap records.Key (key_entry_again key value k is).1
spelled_at (records.Queue q) key value is =
    let kind : key.kind ≡ 3 = ap (λ (k : RecordKey). k.kind) is.keyed in
    ap (λ (n : ℕ). record_at n key value) kind ∙ ap records.Queue (queue_again key value q is).1
spelled_at (records.Type t) key value is =
    let kind : key.kind ≡ 4 = ap (λ (k : RecordKey). k.kind) is.keyed in
    ap (λ (n : ℕ). record_at n key value) kind ∙ ap records.Type (type_entry_again key value t is).1
spelled_at (records.Message m) key value is =
    let kind : key.kind ≡ 5 = ap (λ (k : RecordKey). k.kind) is.keyed in
    ap (λ (n : ℕ). record_at n key value) kind ∙ ap records.Message (message_again key value m is).1

pub one_record : (a b : Record) (key : RecordKey) (value : List ℕ) → SpellsRecord a key value
    → SpellsRecord b key value → a ≡ b
one_record a b key value first second = sym (spelled_at a key value first) ∙ spelled_at b key value second
