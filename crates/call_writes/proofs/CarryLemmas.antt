-- What a step of an access leaves of the plan that is carried out.
use Rattle.std.proofs.Common.{◌≡◌, refl, sym, ap, ◌∙◌, subst, ℕ, Bool, true, false, not, ◌&&◌, List, Option, Some, None, IsSome, IsTrue, if◌then◌else◌}
use Rattle.std.specs.Prelude.{unwrap_or}
use Rattle.std.specs.Option.{option_map}
use Rattle.std.proofs.lemmas.Bool.{true≢false}
use Rattle.page_locks.proofs.TableLemmas.{row_of-same}
use Rattle.queue_records.specs.declared.links.Link.{Link}
use Rattle.queue_records.specs.declared.links.Link.TheVariants.{Stays, Ends, LeadsTo}
use Rattle.queue_records.specs.declared.links.Links.{Links}
use Rattle.queue_records.specs.declared.links.Links.TheVariants as kinds
use Rattle.queue_records.specs.declared.record.Record.TheVariants as entries
use Rattle.queue_records.specs.Relinking.{HasSuch, linked, relinked}
use Rattle.record_file.proofs.OperationLemmas.{owns_any}
use Rattle.record_file.specs.OperationSteps.{TurnsAwayOf}
use Rattle.xsi_inquiry.proofs.LeadLemmas.{same_keys}
use Rattle.call_writes.proofs.WriteNames.{Faces, FileFault, IsKnown, Stepped, TellsOf, Told, contents, keeps_told, left_by, operation_aside, tells_written, wrote_not, wrote_of}
use Rattle.call_writes.specs.declared.deed.Deed.TheVariants as deeds
use Rattle.call_writes.specs.WriteWords.{RecordKey, is_same, Record, guard_of, Replace, Relink, Delete, IsSmall, Plan, Records, with_at, overlaid, kind_of, Owns, PoolState, Table, Lock, Change, row_of, store_of, pair, IsSeat, HasNoRoom, Progress, is_fault, HasNoFileLock, Sees, Step, world, StandsAt, made, is_write, has_no_room, AccessView, Allows, access_facts, access_key, access_locks, access_turn, MakesAccess, Deed, Due}
use Rattle.call_writes.specs.Dues.{CanGoOn, IsBehind, after_deed, deed_key, next_deed, owes, purpose_of}
use Rattle.call_writes.specs.Carrying.{IsDoing}
use Rattle.call_writes.specs.CarrySteps.{AsMade, AsTheyWere, Leaves}
use Rattle.call_writes.specs.MakeSteps.{PaysDue}
use Rattle.call_writes.proofs.DueLemmas.{as_it_was, at_its_key, paid_for, same_self}

-- ---- bools

not_paid : (p : Plan) (due due' : Due) (b b' : Bool) → PaysDue p (not b && b') due due' → b' ≡ false → due' ≡ due
not_paid p due due' true b' pays none = pays
not_paid p due due' false true pays none = absurd (true≢false none)
not_paid p due due' false false pays none = pays

pub neither : (w b b' : Bool) → b' ≡ (if w then true else b) → b' ≡ false → (w ≡ false) × (b ≡ false)
neither true b b' is none = absurd (true≢false (sym is ∙ none))
neither false b b' is none = (refl, sym is ∙ none)

-- ---- deeds

made_is : (d : Deed) (records : Records) →
    with_at (deed_key d) (made (purpose_of d) (records (deed_key d))) records ≡ after_deed d records
made_is (deeds.Trial r) records = refl
made_is (deeds.Write (Replace r)) records = refl
made_is (deeds.Write (Relink key links)) records = refl
made_is (deeds.Write (Delete key)) records = refl

-- ---- links set twice

linked_twice : {T : Type 0} (link : Link T) (old : Option T) → linked link (linked link old) ≡ linked link old
linked_twice Stays old = refl
linked_twice Ends old = refl
linked_twice (LeadsTo there) old = refl

set_twice : (new : Option ℕ) (old : ℕ) → unwrap_or new (unwrap_or new old) ≡ unwrap_or new old
set_twice None old = refl
set_twice (Some n) old = refl

relinked_twice : (links : Links) (found : Option Record) → HasSuch links found →
    option_map (relinked links) (option_map (relinked links) found) ≡ option_map (relinked links) found
relinked_twice (kinds.Message l) found (m, is) =
    ap (λ (o : Option Record). option_map (relinked (kinds.Message l)) (option_map (relinked (kinds.Message l)) o)) is
    ∙ (λ i. Some (entries.Message (record m {
      previous = linked_twice l.previous m.previous i;
      next = linked_twice l.next m.next i;
      next_of_type = linked_twice l.next_of_type m.next_of_type i;
    })))
    ∙ sym (ap (option_map (relinked (kinds.Message l))) is)
relinked_twice (kinds.Type l) found (t, is) =
    ap (λ (o : Option Record). option_map (relinked (kinds.Type l)) (option_map (relinked (kinds.Type l)) o)) is
    ∙ (λ i. Some (entries.Type (record t {
      first = set_twice l.first t.first i;
      last = set_twice l.last t.last i;
      lower = linked_twice l.lower t.lower i;
      higher = linked_twice l.higher t.higher i;
    })))
    ∙ sym (ap (option_map (relinked (kinds.Type l))) is)

made_twice : (d : Deed) (a : AccessView) (found : Option Record) → Allows (purpose_of d) a found →
    made (purpose_of d) (made (purpose_of d) found) ≡ made (purpose_of d) found
made_twice (deeds.Trial r) a found allows = refl
made_twice (deeds.Write (Replace r)) a found allows = refl
made_twice (deeds.Write (Relink key links)) a found allows = relinked_twice links found allows.fits.0
made_twice (deeds.Write (Delete key)) a found allows = refl

-- ---- what is left

pub record IsLeft (p : Plan) (due due' : Due) (records after : Records) : Type 0 where
  pub leaves : Leaves p due due' records after
  pub can : CanGoOn p due' after
  pub owed : (key : RecordKey) → overlaid (owes p due') after key ≡ overlaid (owes p due) records key

module _ (p : Plan) (due due' : Due) (records : Records) (d : Deed) (small : IsSmall p) (can : CanGoOn p due records)
  where
    left_same : due' ≡ due → (after : Records) → after ≡ records → IsLeft p due due' records after
    left_same stays after same = record {
      leaves = AsTheyWere same;
      can = subst (λ (x : Due). CanGoOn p x after) (sym stays)
          (subst (λ (x : Records). CanGoOn p due x) (sym same) can);
      owed = λ key. ap (λ (x : Due). overlaid (owes p x) after key) stays
          ∙ ap (λ (x : Records). overlaid (owes p due) x key) same;
    }

    left_paid : next_deed p due ≡ Some d → IsBehind p due due' → (after : Records) → after ≡ after_deed d records →
        IsLeft p due due' records after
    left_paid next behind after is =
        let paid = paid_for p records due due' d next small behind can in
        record {
          leaves = AsMade d next is behind;
          can = subst (λ (x : Records). CanGoOn p due' x) (sym is) paid.can;
          owed = λ key. ap (λ (x : Records). overlaid (owes p due') x key) is ∙ paid.owed key;
        }

    -- by whether it wrote, had written, and has written
    pub left_on : (w b b' : Bool) → b' ≡ (if w then true else b) → PaysDue p (not b && b') due due' →
        (key : RecordKey) → key ≡ deed_key d → (b ≡ false → next_deed p due ≡ Some d) →
        (b ≡ true → made (purpose_of d) (records key) ≡ records key) →
        IsLeft p due due' records (if w then with_at key (made (purpose_of d) (records key)) records else records)
    left_on true true true is pays key its next paid =
        left_same pays (with_at key (made (purpose_of d) (records key)) records)
        (as_it_was key (made (purpose_of d) (records key)) records (paid refl))
    left_on true false true is pays key its next paid =
        left_paid (next refl) pays (with_at key (made (purpose_of d) (records key)) records)
        (ap (λ (k : RecordKey). with_at k (made (purpose_of d) (records k)) records) its ∙ made_is d records)
    left_on true b false is pays key its next paid = absurd (true≢false (sym is))
    left_on false true true is pays key its next paid = left_same pays records refl
    left_on false true false is pays key its next paid = absurd (true≢false (sym is))
    left_on false false true is pays key its next paid = absurd (true≢false is)
    left_on false false false is pays key its next paid = left_same pays records refl

-- ---- one step

-- after the step of the access these records stand, and it goes on over them
pub record IsMade (hash : RecordKey → ℕ) (seat : ℕ) (names : List Lock) (p : Plan) (did : Progress FileFault)
    (a a' : AccessView) (due due' : Due) (records : Records) (pool pool' : PoolState) (locks locks' : Table)
    (change : Change) (d : Deed) : Type 0 where
  pub step : Step hash seat (access_turn a (store_of pool.images)) did (access_facts a') pool pool' locks locks' change
  pub after : Records
  pub still : is_write did ≡ false → after ≡ records
  pub left : IsLeft p due due' records after
  pub sees : Sees hash seat (access_facts a') pool' locks' step.after
  pub row : row_of locks' seat ≡ access_locks a' names
  pub stands : (key : RecordKey) → IsSome (kind_of names (guard_of key)) →
      StandsAt (store_of pool'.images) key (after key)
  pub doing : IsDoing hash names p due' after d a'
  pub lacks : has_no_room a ≡ false → has_no_room a' ≡ true →
      HasNoRoom hash (pair (access_key a) a.bytes) (world pool'.images locks' change)
  pub turns_away : TurnsAwayOf hash seat a.operation a'.operation (world pool'.images locks' change)

module _ (hash : RecordKey → ℕ) (seat : ℕ) (names : List Lock) (did : Progress FileFault) (a a' : AccessView)
    (pool pool' : PoolState) (locks locks' : Table) (seated : IsSeat locks seat)
    (step : MakesAccess hash seat did a a' pool pool' locks locks') (p : Plan) (due due' : Due)
    (pays : PaysDue p (not a.written && a'.written) due due') (records : Records) (change : Change) (d : Deed)
    (small : IsSmall p) (can : CanGoOn p due records) (doing : IsDoing hash names p due records d a)
    (sees : Sees hash seat (access_facts a) pool locks change)
    (bare : HasNoFileLock names) (row : row_of locks seat ≡ access_locks a names)
    (owned : IsSome (kind_of names (guard_of (access_key a))))
    (stands : (key : RecordKey) → IsSome (kind_of names (guard_of key)) →
    StandsAt (store_of pool.images) key (records key)) where
  abbrev pub found : Option Record
  found = records (access_key a)

  pub faces : Faces hash seat (purpose_of d) (records (access_key a)) a pool locks change
  faces = record {
    serves = doing.serves;
    keyed = doing.keyed;
    sees = sees;
    before = names;
    bare = bare;
    owns = owns_any a.operation names doing.owns;
    row = row;
    stands = stands (access_key a) owned;
    allows = doing.allows;
  }

  abbrev pub after : Records
  after = if is_write did then with_at (access_key a) (made (purpose_of d) (records (access_key a))) records
      else records

  module _ (fine : is_fault did ≡ false) where
    pub stepped : Step hash seat (access_turn a (store_of pool.images)) did (access_facts a') pool pool' locks locks'
        change
    stepped = step.step (purpose_of d) (records (access_key a)) change faces fine

    pub tells : TellsOf hash seat did (purpose_of d) (records (access_key a)) a a' (world pool.images locks change)
        (world pool'.images locks' change)
    tells = step.answer (purpose_of d) (records (access_key a)) change faces fine

    in_table : Stepped hash seat a.bytes did a.operation a'.operation pool pool' locks locks' change
    in_table = record {
      seated = seated;
      sound = sees.sound;
      fine = fine;
      before = names;
      row = row;
      follows = step.row names bare row;
      step = stepped;
    }

    known : (key : RecordKey) → IsSome (kind_of names (guard_of key)) →
        IsKnown seat (world pool.images locks change) (Told key (contents (store_of pool.images) key))
    known key held = (
      subst IsSome (sym (ap (λ (xs : List Lock). kind_of xs (guard_of key)) row
          ∙ operation_aside a.operation names key)) held,
      refl,
    )

    -- a key at which it does not write
    elsewhere : (key : RecordKey) → IsSome (kind_of names (guard_of key)) → is_same (access_key a) key ≡ false →
        (w : Bool) → is_write did ≡ w → contents (store_of pool'.images) key ≡ contents (store_of pool.images) key
    elsewhere key held other true wrote =
        (tells_written hash seat a.bytes did a.operation a'.operation pool pool' locks locks' change in_table key
        (contents (store_of pool.images) key) (wrote_of did wrote) (known key held)).1
        ∙ rw other refl
    elsewhere key held other false unwritten =
        (keeps_told hash seat a.bytes did a.operation a'.operation pool pool' locks locks' change in_table key
        (contents (store_of pool.images) key) (wrote_not did unwritten) (known key held)).1

    -- the key turned round
    turned_round : (key : RecordKey) → is_same key (access_key a) ≡ false → is_same (access_key a) key ≡ false
    turned_round key other = by (is_same (access_key a) key) refl
      where
        by : (b : Bool) → is_same (access_key a) key ≡ b → b ≡ false
        by true is = absurd (true≢false (sym (ap (λ (k : RecordKey). is_same k (access_key a))
            (sym (same_keys (access_key a) key is)) ∙ same_self (access_key a)) ∙ other))
        by false is = refl

    at_key : (w : Bool) → is_write did ≡ w →
        (if w then with_at (access_key a) (made (purpose_of d) found) records else records) (access_key a)
        ≡ left_by did (purpose_of d) found
    at_key true wrote = rw wrote (at_its_key (access_key a) (made (purpose_of d) found) records)
    at_key false unwritten = rw unwritten refl

    pub left_there : after (access_key a) ≡ left_by did (purpose_of d) found
    left_there = at_key (is_write did) refl

    as_before : (key : RecordKey) → is_same key (access_key a) ≡ false → (w : Bool) →
        (if w then with_at (access_key a) (made (purpose_of d) found) records else records) key ≡ records key
    as_before key other true = rw other refl
    as_before key other false = refl

    pub stands_on : (key : RecordKey) → IsSome (kind_of names (guard_of key)) →
        StandsAt (store_of pool'.images) key (after key)
    stands_on key held = by (is_same key (access_key a)) refl
      where
        by : (b : Bool) → is_same key (access_key a) ≡ b → StandsAt (store_of pool'.images) key (after key)
        by true is = subst (λ (k : RecordKey). StandsAt (store_of pool'.images) k (after k))
            (sym (same_keys key (access_key a) is))
            (subst (StandsAt (store_of pool'.images) (access_key a)) (sym left_there) tells.stands)
        by false other =
            let there = stands key held in
            subst (StandsAt (store_of pool'.images) key) (sym (as_before key other (is_write did))) (record {
              holds = elsewhere key held (turned_round key other) (is_write did) refl ∙ there.holds;
              spelled = there.spelled;
            })

    pub is_left : IsLeft p due due' records after
    is_left = left_on p due due' records d small can (is_write did) a.written a'.written step.aim.written
        pays (access_key a) doing.serves.key doing.next doing.paid

    paid_on : (w b : Bool) → is_write did ≡ w → a.written ≡ b → a'.written ≡ (if w then true else b) →
        a'.written ≡ true → made (purpose_of d) (left_by did (purpose_of d) found) ≡ left_by did (purpose_of d) found
    paid_on true b wrote was is written = rw wrote (made_twice d a found doing.allows)
    paid_on false true unwrote was is written = rw unwrote (doing.paid was)
    paid_on false false unwrote was is written = absurd (true≢false (sym written ∙ is))

    pub doing_on : IsDoing hash names p due' after d a'
    doing_on = record {
      serves = step.aim.serves (purpose_of d) doing.serves;
      keyed = ap hash step.aim.key ∙ doing.keyed ∙ sym step.aim.pseudokey;
      owns = subst (Owns names) (sym step.aim.key) doing.owns;
      allows = subst (Allows (purpose_of d) a') (sym there) tells.allows;
      next = λ unwritten.
          let both = neither (is_write did) a.written a'.written step.aim.written unwritten in
          subst (λ (x : Due). next_deed p x ≡ Some d)
          (sym (not_paid p due due' a.written a'.written pays unwritten)) (doing.next both.1);
      paid = λ written. ap (made (purpose_of d)) there
          ∙ paid_on (is_write did) a.written refl refl step.aim.written written ∙ sym there;
    }
      where
        there : after (access_key a') ≡ left_by did (purpose_of d) found
        there = ap after step.aim.key ∙ left_there

    pub all_made : IsMade hash seat names p did a a' due due' records pool pool' locks locks' change d
    all_made = record {
      step = stepped;
      after = after;
      still = λ unwritten. rw unwritten refl;
      left = is_left;
      sees = record {
        honest = subst IsTrue (sym step.writes.honest) sees.honest;
        file = stepped.file;
        sound = stepped.others.sound;
        known = stepped.known;
      };
      row = ap (λ (t : Table). row_of t seat) (step.row names bare row)
          ∙ row_of-same locks seat (access_locks a' names) seated;
      stands = stands_on;
      doing = doing_on;
      lacks = tells.lacks;
      turns_away = tells.turns_away;
    }
