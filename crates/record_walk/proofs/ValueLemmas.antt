-- The value at a key is the spelling of the record that stands there.
use Rattle.std.proofs.Common.{◌≡◌, ℕ, ℤ, List, Option, Some, None, Result, Ok, sym, ap, subst, ◌∙◌}
use Rattle.queue_records.specs.declared.bad_record.BadRecord.{BadRecord}
use Rattle.queue_records.specs.declared.record.Record.TheVariants as records
use Rattle.queue_records.specs.Keys.{key_of_message}
use Rattle.record_walk.specs.Held.{IsMessageAt, entry_with}
use Rattle.record_walk.specs.Answers.{AnswersFor, IsRecordAt, StandsAt}
use Rattle.record_walk.specs.LookupWords.{Layout, RecordKey, Holds, Linked, MessageEntry, Record, SpellsRecord, key_of, linked_of}

module _ (held : RecordKey → Option (List ℕ)) (key : RecordKey) where
  pub none_at : held key ≡ None → IsRecordAt held key None
  none_at none r keyed = (
    (λ e. absurd cc),
    (λ h.
        let found = subst (λ (k : RecordKey). held k ≡ Some h.value) keyed h.found in
        let clash : ◌≡◌ {A = Option (List ℕ)} None (Some h.value) = sym none ∙ found in
        absurd cc),
  )

  pub some_at : (value : List ℕ) (found : Record) → held key ≡ Some value → SpellsRecord found key value →
      ((r : Record) → SpellsRecord r key value → found ≡ r) → IsRecordAt held key (Some found)
  some_at value found is spelled only r keyed = (
    (λ e.
        let same : found ≡ r = cc in
        record {
          value = value;
          found = subst (λ (k : RecordKey). held k ≡ Some value) (sym keyed) is;
          spelled = subst (λ (k : RecordKey). SpellsRecord r k value) (sym keyed)
              (subst (λ (x : Record). SpellsRecord x key value) same spelled);
        }),
    (λ h.
        let there = subst (λ (k : RecordKey). held k ≡ Some h.value) keyed h.found in
        let both : ◌≡◌ {A = Option (List ℕ)} (Some h.value) (Some value) = sym there ∙ is in
        let same : h.value ≡ value = cc in
        let so = subst (λ (k : RecordKey). SpellsRecord r k h.value) keyed h.spelled in
        ap (λ (x : Record). Some x) (only r (subst (SpellsRecord r key) same so))),
  )

  -- what is read at the key stands there
  pub read_stands : (value : List ℕ) (found : Record) → held key ≡ Some value → SpellsRecord found key value →
      StandsAt held key found
  read_stands value found is spelled = record {
    keyed = sym spelled.keyed;
    stands = record {
      value = value;
      found = subst (λ (k : RecordKey). held k ≡ Some value) spelled.keyed is;
      spelled = subst (λ (k : RecordKey). SpellsRecord found k value) spelled.keyed spelled;
    };
  }

pub only_one : (key : RecordKey) (value : List ℕ) (found : Record) →
    ((r : Record) → SpellsRecord r key value → ◌≡◌ {A = Result Record BadRecord} (Ok found) (Ok r)) → (r : Record) →
    SpellsRecord r key value → found ≡ r
only_one key value found only r spelled =
    let e : ◌≡◌ {A = Result Record BadRecord} (Ok found) (Ok r) = only r spelled in
    let same : found ≡ r = cc in
    same

-- where a record of this key stands, it is what is found
pub found_is : (held : RecordKey → Option (List ℕ)) (key : RecordKey) (found : Option Record) (here r : Record) →
    IsRecordAt held key found → found ≡ Some here → key_of r ≡ key → Holds held r → here ≡ r
found_is held key found here r at is keyed h =
    let both : ◌≡◌ {A = Option Record} (Some here) (Some r) = sym is ∙ (at r keyed).1 h in
    let same : here ≡ r = cc in
    same

abbrev pub linked : MessageEntry → ℤ → List ℕ → Linked
linked m mtype bytes = record {
  message = record { serial = m.serial; sender = m.sender; mtype = mtype; bytes = bytes };
  links = record { previous = m.previous; next = m.next; next_of_type = m.next_of_type };
}

-- a message is told with its bytes copied
pub linked_is : (m other : MessageEntry) (mtype : ℤ) (bytes : List ℕ) → m ≡ other → mtype ≡ m.mtype → bytes ≡ m.body →
    Some (linked m mtype bytes) ≡ Some (linked_of other)
linked_is m other mtype bytes same typed copied =
    ap (λ (t : ℤ). Some (linked m t bytes)) typed ∙ ap (λ (b : List ℕ). Some (linked m m.mtype b)) copied
    ∙ ap (λ (e : MessageEntry). Some (linked_of e)) same

-- and stands so at its key
pub linked_at : (held : RecordKey → Option (List ℕ)) (id serial : ℕ) (m : MessageEntry) (mtype : ℤ) (bytes : List ℕ) →
    StandsAt held (key_of_message id serial) (records.Message m) → mtype ≡ m.mtype → bytes ≡ m.body →
    IsMessageAt held id serial (linked m mtype bytes)
linked_at held id serial m mtype bytes at typed copied =
    let its : m.id ≡ id = ap (λ (k : RecordKey). k.queue) at.keyed in
    let e : MessageEntry = entry_with id (linked m mtype bytes).message (linked m mtype bytes).links in
    let same : m ≡ e = λ i. record {
      id = its i;
      serial = m.serial;
      mtype = sym typed i;
      sender = m.sender;
      previous = m.previous;
      next = m.next;
      next_of_type = m.next_of_type;
      body = sym copied i;
    } in
    record {
      its = ap (λ (k : RecordKey). k.number) at.keyed;
      stands = subst (λ (x : MessageEntry). Holds held (records.Message x)) same at.stands;
    }

-- a page answers in the layout that it is read in
pub answers_in : (l read : Layout) (held : RecordKey → Option (List ℕ)) (key : RecordKey) (page : List ℕ) → read ≡ l →
    AnswersFor l held key page → AnswersFor read held key page
answers_in l read held key page is a = subst (λ (x : Layout). AnswersFor x held key page) (sym is) a
