-- What is so of a turn after a step of its access.
use Rattle.std.proofs.Common.{◌≡◌, refl, sym, ap, ◌∙◌, subst, ℕ, ℤ, ◌+◌, ◌≤◌, Bool, true, false, List, length, Option, Some, None, IsSome, inl, inr}
use Rattle.std.proofs.lemmas.Bool.{true≢false}
use Rattle.bucket_page.specs.Keys.{is_same}
use Rattle.file_pages.specs.declared.fault.FileFault.{FileFault}
use Rattle.queue_records.specs.Keys.{guard_of}
use Rattle.queue_records.specs.declared.message_entry.MessageEntry.{MessageEntry}
use Rattle.queue_records.specs.declared.record.Record.TheVariants as records
use Rattle.record_file.specs.AccessSteps.{Faces as FacesAccess, MakesAccess, TellsOf}
use Rattle.record_file.specs.Purposes.{left_by}
use Rattle.type_chains.specs.Entries.{message_entry}
use Rattle.xsi_inquiry.proofs.LeadLemmas.{same_keys}
use Rattle.xsi_control.proofs.TurnLemmas.{turn_read, turn_taken}
use Rattle.record_file.proofs.OperationLemmas.{others_hold, owns_any}
use Rattle.xsi_remove.proofs.LeftLemmas.{guard_is, left_other, left_reading, left_there, same_left, same_purpose, swept_key}
use Rattle.xsi_remove.specs.declared.work.Deed.{Deed}
use Rattle.xsi_remove.specs.declared.work.Deed.TheVariants.{Reading, DeletingMessage, DeletingType}
use Rattle.xsi_remove.specs.declared.work.Work.{Work}
use Rattle.xsi_remove.specs.Deeds.{last_type, message_of, purpose_of}
use Rattle.xsi_remove.specs.Sweeps.{Faces, IsAtWork, IsRead, left_in, records_left}
use Rattle.xsi_remove.specs.Works.{HearsBy, IsNoMessage, heard_with}
use Rattle.xsi_remove.specs.Words.{RecordKey, PoolState, Table, Lock, Change, Store, store_of, Progress, Moved, Look, is_fault, Step, world, IsKeyed, Record, kind_of, Purpose, StandsAt, aimed_at, is_write, AccessView, Allows, HasFound, Serves, access_answer, access_facts, access_key, access_turn, Queue, State, is_swept, IsTurn, swept, IsAtTurn, MessageRead, read_of, turn_next, turn_plan}

-- a turn under way, of which the access may have ended
pub record IsDriven (hash : RecordKey → ℕ) (id count : ℕ) (q : Queue) (s : State) (w : Work) (file : Store)
    : Type 0 where
  pub its : w.turn.id ≡ id
  pub at : IsAtTurn count q s w.turn
  pub read : IsRead w.deed w
  pub told : IsSome w.turn.read → IsTurn id count q s (turn_next w.turn) (turn_plan w.turn)
  pub enough : length q.messages ≤ count + 1 + w.turns
  pub serves : Serves (purpose_of w.deed w.turn) w.access
  pub keyed : IsKeyed hash w.access.operation
  pub allows : Allows (purpose_of w.deed w.turn) w.access
      (records_left id count s (Some w) (aimed_at (purpose_of w.deed w.turn)))
  pub stands : (key : RecordKey) → is_swept id key ≡ true → StandsAt file key (records_left id count s (Some w) key)

pub some_none : {X : Type 0} (o : Option X) → IsSome o → o ≡ None → ⊥
some_none None some none = absurd cc
some_none (Some x) some none = absurd cc

module _ (hash : RecordKey → ℕ) (seat : ℕ) (did : Progress FileFault) (w : Work) (a : AccessView)
    (pool pool' : PoolState) (locks locks' : Table)
    (e : MakesAccess hash seat did w.access a pool pool' locks locks') (held : List Lock) (id count : ℕ) (q : Queue)
    (s : State) (change : Change) (f : Faces hash seat held id count q s (Some w) pool locks change) where
  work : IsAtWork hash id count q s w
  work = f.sweeps.works

  abbrev aim : Purpose
  aim = purpose_of w.deed w.turn

  abbrev its_key : RecordKey
  its_key = aimed_at aim

  abbrev left : RecordKey → Option Record
  left = records_left id count s (Some w)

  pub faced : FacesAccess hash seat aim (left its_key) w.access pool locks change
  faced = record {
    serves = work.serves;
    keyed = work.keyed;
    sees = f.sees;
    before = held;
    bare = f.bare;
    owns = owns_any w.access.operation held (ap (λ (k : RecordKey). kind_of held (guard_of k)) work.serves.key
        ∙ ap (kind_of held) (guard_is w.deed w.turn id work.its) ∙ f.owns);
    row = f.row;
    stands = subst (λ (k : RecordKey). StandsAt (store_of pool.images) k (left its_key)) (sym work.serves.key)
        (f.sweeps.stands its_key (swept_key w.deed w.turn id work.its));
    allows = work.allows;
  }

  module _ (fine : is_fault did ≡ false) where
    pub stepped : Step hash seat (access_turn w.access (store_of pool.images)) did (access_facts a) pool pool' locks
        locks' change
    stepped = e.step aim (left its_key) change faced fine

    pub tells : TellsOf hash seat did aim (left its_key) w.access a (world pool.images locks change)
        (world pool'.images locks' change)
    tells = e.answer aim (left its_key) change faced fine

    -- ---- what stands behind it

    abbrev after : RecordKey → Option Record
    after = left_in a.written w.deed w.turn (swept id count s)

    there : after its_key ≡ left_by did aim (left its_key)
    there = ap (λ (b : Bool). left_in b w.deed w.turn (swept id count s) its_key) e.aim.written
        ∙ left_there w.turn (swept id count s) w.deed (is_write did) w.access.written

    other : (key : RecordKey) → is_same key its_key ≡ false → after key ≡ left key
    other key apart = ap (λ (b : Bool). left_in b w.deed w.turn (swept id count s) key) e.aim.written
        ∙ left_other w.turn (swept id count s) w.deed (is_write did) w.access.written key apart

    turn_round : (k j : RecordKey) → is_same k j ≡ false → is_same j k ≡ false
    turn_round k j apart = by (is_same j k) refl
      where
        by : (b : Bool) → is_same j k ≡ b → b ≡ false
        by false is = refl
        by true is = absurd (true≢false (sym (subst (λ (x : RecordKey). is_same k x ≡ true)
            (sym (same_keys j k is)) (ap (λ (x : RecordKey). is_same x k) (sym (same_keys j k is)) ∙ is)) ∙ apart))

    pub stands_after : (key : RecordKey) → is_swept id key ≡ true → StandsAt (store_of pool'.images) key (after key)
    stands_after key its = by (is_same key its_key) refl
      where
        by : (b : Bool) → is_same key its_key ≡ b → StandsAt (store_of pool'.images) key (after key)
        by true same =
            let at : its_key ≡ key = sym (same_keys key its_key same) in
            subst (λ (k : RecordKey). StandsAt (store_of pool'.images) k (after k)) at
            (subst (StandsAt (store_of pool'.images) its_key) (sym there)
            (subst (λ (k : RecordKey). StandsAt (store_of pool'.images) k (left_by did aim (left its_key)))
            work.serves.key tells.stands))
        by false apart =
            let was = f.sweeps.stands key its in
            let apart' : is_same (access_key w.access) key ≡ false =
            ap (λ (k : RecordKey). is_same k key) work.serves.key ∙ turn_round key its_key apart in
            subst (StandsAt (store_of pool'.images) key) (sym (other key apart)) (record {
              holds = others_hold hash seat did (world pool.images locks change)
                  (world pool'.images locks' stepped.after) f.sees.sound fine w.access.operation w.access.bytes
                  stepped.does key apart' ∙ was.holds;
              spelled = was.spelled;
            })

    allows_after : Allows aim a (after its_key)
    allows_after = subst (Allows aim a) (sym there) tells.allows

    -- ---- what the turn has heard

    entry : (m : MessageEntry) × (swept id count s (message_of w.turn) ≡ Some (records.Message m))
    entry =
        let (m, at, is) = turn_read count q s w.turn f.sweeps.filed work.at in (
          message_entry q m,
          subst (λ (n : ℕ). swept n count s (message_of w.turn) ≡ Some (records.Message (message_entry q m))) work.its
              is,
        )

    -- a find finds the Message as it stands
    found_of : w.deed ≡ Reading → HasFound a (left its_key) → HasFound a (Some (records.Message entry.0))
    found_of reading has =
        let is : left its_key ≡ Some (records.Message entry.0) =
        subst (λ (d : Deed). left_in w.access.written d w.turn (swept id count s) (aimed_at (purpose_of d w.turn))
        ≡ Some (records.Message entry.0)) (sym reading)
        (left_reading w.turn (swept id count s) w.access.written (message_of w.turn) ∙ entry.1) in
        subst (HasFound a) is has

    -- so a turn is never told of something else
    pub hears_well : did ≡ Moved Look → w.turn.read ≡ None → IsNoMessage a → ⊥
    hears_well looked none wrong = by w.deed refl work.read
      where
        by : (d : Deed) → w.deed ≡ d → IsRead d w → ⊥
        by Reading reading unread = elim tells.finds [
          | inl same ↦ wrong.answered (same ∙ unread none)
          | inr (looked', was', has') ↦ wrong.other entry.0 (found_of reading has')
        ]
        by DeletingMessage reading some = some_none w.turn.read some none
        by (DeletingType mtype) reading last = absurd (let gone : last_type w.turn.read ≡ None = ap last_type none in
            let clash : ◌≡◌ {A = Option ℤ} None (Some mtype) = sym gone ∙ last in cc)

    module _ (read : Option MessageRead) (h : HearsBy did a w.turn.read read) where
      -- the same where it was read before
      read_on : (d : Deed) → w.deed ≡ d → IsRead d w → IsRead d (heard_with read a w)
      read_on Reading reading unread = λ none. by w.turn.read refl none
        where
          by : (o : Option MessageRead) → w.turn.read ≡ o → read ≡ None → access_answer a ≡ None
          by (Some m) was none =
              absurd (some_none w.turn.read (subst IsSome (sym was) refl)
              (sym (h.once (subst IsSome (sym was) refl)) ∙ none))
          by None was none = elim tells.finds [
            | inl same ↦ same ∙ unread was
            | inr (looked', was', has') ↦
                let is : read ≡ Some (read_of entry.0) =
                h.told entry.0 looked' was (found_of reading has') in
                absurd (let clash : ◌≡◌ {A = Option MessageRead} None (Some (read_of entry.0)) = sym none ∙ is in cc)
          ]
      read_on DeletingMessage reading some = subst IsSome (sym (h.once some)) some
      read_on (DeletingType mtype) reading last = ap last_type (h.once (is_read w.turn.read last)) ∙ last
        where
          is_read : (o : Option MessageRead) → last_type o ≡ Some mtype → IsSome o
          is_read None is = absurd cc
          is_read (Some m) is = refl

      -- what was heard is the turn
      told_on : IsSome read →
          IsTurn id count q s (turn_next (record w.turn { read = read })) (turn_plan (record w.turn { read = read }))
      told_on some = by w.turn.read refl
        where
          Is : Option MessageRead → Type 0
          Is o = IsTurn id count q s (turn_next (record w.turn { read = o })) (turn_plan (record w.turn { read = o }))

          by_deed : (d : Deed) → w.deed ≡ d → IsRead d w → w.turn.read ≡ None → Is read
          by_deed Reading reading unread none = elim tells.finds [
            | inl same ↦ absurd (some_none read some (h.unanswered none (same ∙ unread none)))
            | inr (looked', was', has') ↦
                let is : read ≡ Some (read_of entry.0) =
                h.told entry.0 looked' none (found_of reading has') in
                let told : Some (records.Message entry.0) ≡ swept w.turn.id count s (message_of w.turn) =
                sym entry.1 ∙ ap (λ (n : ℕ). swept n count s (message_of w.turn)) (sym work.its) in
                subst Is (sym is) (subst (λ (n : ℕ). IsTurn n count q s (read_of entry.0).next
                (turn_plan (record w.turn { read = Some (read_of entry.0) }))) work.its
                (turn_taken count q s w.turn f.sweeps.filed work.at entry.0 told))
          ]
          by_deed DeletingMessage reading heard none = absurd (some_none w.turn.read heard none)
          by_deed (DeletingType mtype) reading last none =
              absurd (let clash : ◌≡◌ {A = Option ℤ} None (Some mtype) = sym (ap last_type none) ∙ last in cc)

          by : (o : Option MessageRead) → w.turn.read ≡ o → Is read
          by (Some m) was =
              let some' : IsSome w.turn.read = subst IsSome (sym was) refl in
              subst Is (sym (h.once some')) (work.told some')
          by None none = by_deed w.deed refl work.read none

      pub driven : IsDriven hash id count q s (heard_with read a w) (store_of pool'.images)
      driven = record {
        its = work.its;
        at = record { alive = work.at.alive; first = work.at.first };
        read = read_on w.deed refl work.read;
        told = told_on;
        enough = work.enough;
        serves = subst (λ (p : Purpose). Serves p a) (sym (same_purpose w.deed w.turn read))
            (e.aim.serves aim work.serves);
        keyed = ap hash e.aim.key ∙ work.keyed ∙ sym e.aim.pseudokey;
        allows = subst (λ (p : Purpose). Allows p a
            (left_in a.written w.deed (record w.turn { read = read }) (swept id count s) (aimed_at p)))
            (sym (same_purpose w.deed w.turn read)) (subst (Allows aim a)
            (sym (same_left a.written w.deed w.turn read (swept id count s) its_key)) allows_after);
        stands = λ key its. subst (StandsAt (store_of pool'.images) key)
            (sym (same_left a.written w.deed w.turn read (swept id count s) key)) (stands_after key its);
      }
