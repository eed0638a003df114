-- What a decision owes.
use Rattle.std.proofs.Common.{◌≡◌, ℕ, Bool, true, false, List, [], ◌∷◌, length, Option, Some, None, refl, sym, ap, ◌∙◌, subst}
use Rattle.std.specs.Prelude.{◌==◌, ◌||◌, option_and_then, if◌then◌else◌}
use Rattle.std.specs.List.{All, Contains, find, list_any}
use Rattle.std.proofs.Math.Seq.{drop-length}
use Rattle.std.proofs.lemmas.Bool.{eqb-true}
use Rattle.std.proofs.lemmas.List.Elements.{All-head, All-tail}
use Rattle.numbers.proofs.Tests.{both_true}
use Rattle.page_locks.specs.declared.lock.LockName.TheVariants as names
use Rattle.call_decisions.proofs.OwedNames.{Call, Caller, IsAnswered, IsSwept, LockName, MESSAGE, Message, Plan, Queue, Record, RecordKey, Records, State, Sweep, TYPE, Verdict, Write, guard_of, has_id, has_serial, has_type_number, inserted, is_same, key_of, key_written, message_left, message_record, record_of, same_keys, swept, type_left, type_record, with_at, writes_of, written}
use Rattle.call_decisions.specs.OwedLaws.{OwesAfter}
use Rattle.call_decisions.specs.Owing.{Sweeps, Writes, is_swept, is_written, without_swept}
use Rattle.call_decisions.proofs.OverlayLemmas.{written_local, written_rest}

module _ (held : List LockName) where
  abbrev IsOwn : Write → Type 0
  IsOwn w = Contains held (guard_of (key_written w))

  abbrev IsOwnTrial : Record → Type 0
  IsOwnTrial r = Contains held (guard_of (key_of r))

  own_writes : (ws : List Write) (key : RecordKey) → All IsOwn ws → is_written ws key ≡ true →
      Contains held (guard_of key)
  own_writes [] key own is = absurd cc
  own_writes (w ∷ ws) key own is =
      by (is_same key (key_written w)) refl is (own_writes ws key (All-tail IsOwn w ws own))
    where
      by : (b : Bool) → is_same key (key_written w) ≡ b → (b || is_written ws key) ≡ true →
          (is_written ws key ≡ true → Contains held (guard_of key)) → Contains held (guard_of key)
      by true same more rest = subst (λ (k : RecordKey). Contains held (guard_of k))
          (sym (same_keys key (key_written w) same)) (All-head IsOwn w ws own)
      by false other more rest = rest more

  not_written : (ws : List Write) (key : RecordKey) → All IsOwn ws → (Contains held (guard_of key) → ⊥) →
      is_written ws key ≡ false
  not_written ws key own none = by (is_written ws key) refl
    where
      by : (b : Bool) → is_written ws key ≡ b → b ≡ false
      by true is = absurd (none (own_writes ws key own is))
      by false is = refl

  rest_inserted : (rs : List Record) (records : Records) (key : RecordKey) → All IsOwnTrial rs →
      (Contains held (guard_of key) → ⊥) → inserted rs records key ≡ records key
  rest_inserted [] records key own none = refl
  rest_inserted (r ∷ rs) records key own none =
      rest_inserted rs (with_at (key_of r) (Some r) records) key (All-tail IsOwnTrial r rs own) none
      ∙ by (is_same key (key_of r)) refl
    where
      by : (b : Bool) → is_same key (key_of r) ≡ b → with_at (key_of r) (Some r) records key ≡ records key
      by true same = absurd (none (subst (λ (k : RecordKey). Contains held (guard_of k))
          (sym (same_keys key (key_of r) same)) (All-head IsOwnTrial r rs own)))
      by false other = rw other refl

-- ---- an answer

pub answers_owe : (c : Caller) (call : Call) (held : List LockName) (bytes : List ℕ) (s : State) (verdict : Verdict)
    (p : Plan) (answered : IsAnswered c call held bytes s verdict p) →
    OwesAfter held p.trials (Writes (writes_of p)) s answered.after
answers_owe c call held bytes s verdict p answered = record {
  leads = answered.leads.leads;
  own = λ key is. own_writes held (writes_of p) key answered.own.writes is;
  rest = λ key none.
      sym (answered.leads.leads key)
      ∙ written_rest (writes_of p) (inserted p.trials (record_of s)) key
      (not_written held (writes_of p) key answered.own.writes none)
      ∙ rest_inserted held p.trials (record_of s) key answered.own.trials none;
}

-- ---- a sweep

no_type_left : (number : ℕ) (q : Queue) → type_left (length q.messages) number q ≡ None
no_type_left number q = ap
    (λ (ms : List Message). if list_any (has_type_number number) ms then type_record number q else None)
    (drop-length q.messages)

no_message_left : (serial : ℕ) (q : Queue) → message_left (length q.messages) serial q ≡ None
no_message_left serial q = ap
    (λ (ms : List Message). if list_any (has_serial serial) ms then message_record serial q else None)
    (drop-length q.messages)

-- a part of which this queue has nothing
nothing_of : (part : Queue → Option Record) (id : ℕ) (s : State) (q : Queue) (key : RecordKey) →
    find (has_id id) s.queues ≡ Some q → key.queue ≡ id → part q ≡ None →
    None ≡ option_and_then part (find (has_id key.queue) s.queues)
nothing_of part id s q key found its none =
    sym (ap (λ (n : ℕ). option_and_then part (find (has_id n) s.queues)) its ∙ ap (option_and_then part) found ∙ none)

-- once all messages were swept, none of them and no type is left
pub none_left : (id : ℕ) (s : State) (q : Queue) (key : RecordKey) → find (has_id id) s.queues ≡ Some q →
    without_swept id (record_of s) key ≡ swept id (length q.messages) s key
none_left id s q key found = by (key.queue == id) (key.kind == TYPE) (key.kind == MESSAGE) refl refl refl
  where
    by : (a b m : Bool) → (key.queue == id) ≡ a → (key.kind == TYPE) ≡ b → (key.kind == MESSAGE) ≡ m →
        without_swept id (record_of s) key ≡ swept id (length q.messages) s key
    by true true m its kind other = rw (its, kind) (nothing_of (type_left (length q.messages) key.number) id s q key
        found (eqb-true key.queue id its) (no_type_left key.number q))
    by true false true its kind other = rw (its, kind, other) (nothing_of
        (message_left (length q.messages) key.number) id s q key found (eqb-true key.queue id its)
        (no_message_left key.number q))
    by true false false its kind other = rw (its, kind, other) refl
    by false b m its kind other = rw its refl

swept_guard : (id : ℕ) (key : RecordKey) → is_swept id key ≡ true → guard_of key ≡ names.Queue id
swept_guard id key is = by (key.kind == TYPE) (key.kind == MESSAGE) refl refl parts.1
  where
    parts : (key.queue == id ≡ true) × ((key.kind == TYPE || key.kind == MESSAGE) ≡ true)
    parts = both_true (key.queue == id) (key.kind == TYPE || key.kind == MESSAGE) is

    at_kind : (kind : ℕ) → key.kind ≡ kind →
        guard_of key ≡ guard_of (record { kind = kind; queue = key.queue; number = key.number })
    at_kind kind same =
        ap (λ (k : ℕ). guard_of (record { kind = k; queue = key.queue; number = key.number })) same

    its : names.Queue key.queue ≡ names.Queue id
    its = ap names.Queue (eqb-true key.queue id parts.0)

    by : (b m : Bool) → (key.kind == TYPE) ≡ b → (key.kind == MESSAGE) ≡ m → (b || m) ≡ true →
        guard_of key ≡ names.Queue id
    by true m kind other one = at_kind TYPE (eqb-true key.kind TYPE kind) ∙ its
    by false true kind other one = at_kind MESSAGE (eqb-true key.kind MESSAGE other) ∙ its
    by false false kind other one = absurd cc

pub sweeps_owe : (c : Caller) (call : Call) (held : List LockName) (s : State) (sweep : Sweep) (p : Plan)
    (is : IsSwept c call held s sweep p) → Contains held (names.Queue sweep.id) →
    OwesAfter held [] (Sweeps sweep.id (writes_of p)) s is.after
sweeps_owe c call held s sweep p is own = record {
  leads = leads;
  own = λ key owed. by_part key (is_swept sweep.id key) refl owed;
  rest = λ key none.
      sym (leads key)
      ∙ written_rest (writes_of p) (without_swept sweep.id (record_of s)) key
      (not_written held (writes_of p) key is.own.writes none)
      ∙ unswept_there key none (is_swept sweep.id key) refl;
}
  where
    leads : (key : RecordKey) →
        written (writes_of p) (without_swept sweep.id (record_of s)) key ≡ record_of is.after key
    leads key =
        written_local (writes_of p) (without_swept sweep.id (record_of s))
        (swept sweep.id (length is.queue.messages) s) key (none_left sweep.id s is.queue key is.alive)
        ∙ sym (ap (λ (trials : List Record). written (writes_of p)
        (inserted trials (swept sweep.id (length is.queue.messages) s)) key) is.no_trials)
        ∙ is.leads.leads key

    under : (key : RecordKey) → is_swept sweep.id key ≡ true → Contains held (guard_of key)
    under key swept_there = subst (Contains held) (sym (swept_guard sweep.id key swept_there)) own

    by_part : (key : RecordKey) (b : Bool) → is_swept sweep.id key ≡ b → (b || is_written (writes_of p) key) ≡ true →
        Contains held (guard_of key)
    by_part key true there owed = under key there
    by_part key false there owed = own_writes held (writes_of p) key is.own.writes owed

    unswept_there : (key : RecordKey) → (Contains held (guard_of key) → ⊥) → (b : Bool) → is_swept sweep.id key ≡ b →
        without_swept sweep.id (record_of s) key ≡ record_of s key
    unswept_there key none true there = absurd (none (under key there))
    unswept_there key none false there = rw there refl
