-- Records of a queue that is swept: where they stand, and what is left of them.
use Rattle.std.proofs.Common.{◌≡◌, refl, sym, ap, ◌∙◌, subst, ℕ, Bool, true, false, List, Option, Some, None}
use Rattle.std.specs.Prelude.{◌==◌, ◌||◌, if◌then◌else◌}
use Rattle.std.proofs.lemmas.Bool.{eqb-true, true≢false}
use Rattle.bucket_page.specs.Keys.{is_same}
use Rattle.queue_records.proofs.of_numbers.Tests.{both_true}
use Rattle.call_decisions.proofs.OverlayLemmas.{written_local}
use Rattle.call_decisions.specs.Owing.{Sweeps, is_swept}
use Rattle.page_locks.specs.declared.lock.LockName.TheVariants as names
use Rattle.queue_records.specs.declared.layout.TheConstants.{TYPE, MESSAGE}
use Rattle.queue_records.specs.declared.record.Record.{Record}
use Rattle.xsi_inquiry.proofs.LeadLemmas.{same_keys}
use Rattle.xsi_inquiry.specs.Writing.{with_at}
use Rattle.xsi_inquiry.specs.declared.write.Write.{Write}
use Rattle.call_writes.specs.PaymentWords.{RecordKey, Store, StandsAt, guard_of, Records, overlaid, without_swept}

-- a Message or a Type of a queue stands under the queue's name
pub swept_guard : (id : ℕ) (key : RecordKey) → is_swept id key ≡ true → guard_of key ≡ names.Queue id
swept_guard id key is = by (key.kind == TYPE) (key.kind == MESSAGE) refl refl parts.1
  where
    parts : (key.queue == id ≡ true) × ((key.kind == TYPE || key.kind == MESSAGE) ≡ true)
    parts = both_true (key.queue == id) (key.kind == TYPE || key.kind == MESSAGE) is

    at_kind : (kind : ℕ) → key.kind ≡ kind →
        guard_of key ≡ guard_of (record { kind = kind; queue = key.queue; number = key.number })
    at_kind kind same =
        ap (λ (k : ℕ). guard_of (record { kind = k; queue = key.queue; number = key.number })) same

    its : names.Queue key.queue ≡ names.Queue id
    its = ap names.Queue (eqb-true key.queue id parts.0)

    by : (b m : Bool) → (key.kind == TYPE) ≡ b → (key.kind == MESSAGE) ≡ m → (b || m) ≡ true →
        guard_of key ≡ names.Queue id
    by true m kind other one = at_kind TYPE (eqb-true key.kind TYPE kind) ∙ its
    by false true kind other one = at_kind MESSAGE (eqb-true key.kind MESSAGE other) ∙ its
    by false false kind other one = absurd cc

-- at one key one record stands, or none
pub stands_none : (s : Store) (key : RecordKey) (found : Option Record) → StandsAt s key None → StandsAt s key found →
    found ≡ None
stands_none s key None none there = refl
stands_none s key (Some r) none there = absurd (let clash = sym none.holds ∙ there.holds in cc)

pub without_at : (id : ℕ) (r t : Records) (key : RecordKey) → r key ≡ t key →
    without_swept id r key ≡ without_swept id t key
without_at id r t key same = ap (λ (found : Option Record). if is_swept id key then None else found) same

-- where none of them stands there is none to be swept
pub none_swept : (id : ℕ) (r : Records) (key : RecordKey) → (is_swept id key ≡ true → r key ≡ None) →
    r key ≡ without_swept id r key
none_swept id r key gone = by (is_swept id key) refl
  where
    by : (b : Bool) → is_swept id key ≡ b → r key ≡ without_swept id r key
    by true its = gone its ∙ sym (rw its refl)
    by false other = sym (rw other refl)

-- and what stands elsewhere is left
pub same_without : (id : ℕ) (r t : Records) (key : RecordKey) → ((is_swept id key ≡ true → ⊥) → r key ≡ t key) →
    without_swept id r key ≡ without_swept id t key
same_without id r t key elsewhere = by (is_swept id key) refl
  where
    by : (b : Bool) → is_swept id key ≡ b → without_swept id r key ≡ without_swept id t key
    by true its = rw its refl
    by false other = without_at id r t key (elsewhere (λ its. true≢false (sym its ∙ other)))

-- keys that are one are so either way round
pub same_round : (k j : RecordKey) → is_same k j ≡ true → is_same j k ≡ true
same_round k j is =
    let one = same_keys k j is in
    subst (λ (x : RecordKey). is_same x k ≡ true) one (subst (λ (x : RecordKey). is_same k x ≡ true) (sym one) is)

pub apart_round : (k j : RecordKey) → is_same k j ≡ false → is_same j k ≡ false
apart_round k j apart = by (is_same j k) refl
  where
    by : (b : Bool) → is_same j k ≡ b → b ≡ false
    by false is = refl
    by true is = absurd (true≢false (sym (same_round j k is) ∙ apart))

-- ---- one of them is deleted

module _ (id : ℕ) (swept : RecordKey) (its : is_swept id swept ≡ true) (records : Records) where
  -- the records at other keys stay
  pub deleted_elsewhere : (key : RecordKey) → (is_swept id key ≡ true → ⊥) →
      with_at swept None records key ≡ records key
  deleted_elsewhere key other = by (is_same key swept) refl
    where
      by : (b : Bool) → is_same key swept ≡ b → with_at swept None records key ≡ records key
      by true is = absurd (other (subst (λ (k : RecordKey). is_swept id k ≡ true) (sym (same_keys key swept is)) its))
      by false apart = rw apart refl

  deleted_without : (key : RecordKey) →
      without_swept id (with_at swept None records) key ≡ without_swept id records key
  deleted_without key = same_without id (with_at swept None records) records key (deleted_elsewhere key)

  -- and what will stand is the same
  pub deleted_owed : (ws : List Write) (key : RecordKey) →
      overlaid (Sweeps id ws) (with_at swept None records) key ≡ overlaid (Sweeps id ws) records key
  deleted_owed ws key = written_local ws (without_swept id (with_at swept None records)) (without_swept id records) key
      (deleted_without key)
