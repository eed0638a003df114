-- The writes of a Receive lead from the records of a system to those of the system after it.
use Rattle.xsi_receive.proofs.Names.{All, All-nil, Ascend, Begins, Bool, Climb, Decides-int_eq, Delete, Fills, Goes, InSlot, IsFiled, IsLawfulQueue, Leads, List, Message, MessageEntry, Misses, None, Option, Queue, RecordKey, Relink, Removal, Replace, Some, State, TypeEntry, TypeLeft, Write, [], agree_but, ap, arith, before_place, deletion_by, each_all, eqb-true, false, find, find-Some, fine, first_of, has_id, has_number, head_of, higher_by, in_range, inl, inr, int_eq, key_is, key_of_message, key_of_type, leads_by, left_by, message_entry, message_record, next_write, numbers_ascend, option_map, own_by, previous_write, queue_entry, ranked_ascend, record_of, refl, removal_plan, remove, serials, serials_of_type, slice_get, slice_get-map, slot_all, slots_of, somes, somes_each, subst, suc, sym, to_higher, to_lower, to_next, to_previous, true, type_entry, type_number, type_record, typed, types, types_ascend, with_queue, write_rank, zero, ℕ, ℤ, ◌<ℤ◌, ◌<◌, ◌∙◌, ◌∷◌, ◌≡◌, ◌≢◌, ◌⊎◌}
use Rattle.queue_records.specs.declared.record.Record.TheVariants as records
use Rattle.type_chains.proofs.FirstOfType.{IsTakenAt}
use Rattle.type_chains.proofs.Looked.{all_kept}
use Rattle.type_chains.proofs.Without.{around, stands_before}
use Rattle.xsi_receive.proofs.FitLemmas.{go, higher_fits, lawful_after, lower_fits, message_goes, next_fits, own_fits, place_of, previous_fits, queue_fits, type_goes}
use Rattle.type_chains.proofs.MessagesWithout.{serials_rise, entry_far, next_is, next_of_type_is, previous_is, without}
use Rattle.type_chains.proofs.TypeWithout.{entry_stays, higher_is, lower_is, type_far, types_stay}
use Rattle.type_chains.proofs.TypesWithout.{its_type_stands}
use Rattle.xsi_receive.proofs.RankLemmas.{WritesAt, deletion_rank, higher_rank, missed, not_at, own_rank}

module _ (s : State) (filed : IsFiled s) (id : ℕ) (q : Queue) (found : find (has_id id) s.queues ≡ Some q)
    (its : q.id ≡ id) (pid moment i : ℕ) (m : Message) (taken : IsTakenAt m q.messages i) where
  abbrev new : Queue
  new = without pid moment i q

  abbrev after : State
  after = with_queue id new s

  abbrev Right : Write → Type 0
  Right w = Fills (record_of s) (record_of after) w

  abbrev entry : MessageEntry
  entry = message_entry q m

  abbrev own : TypeEntry
  own = type_entry q m.mtype

  abbrev left : TypeLeft
  left = left_by entry.next_of_type own

  abbrev removal : Removal
  removal = record { queue = queue_entry new; message = head_of entry; type_left = left }

  abbrev slots : List (Option Write)
  slots = slots_of id removal

  lawful_queue : IsLawfulQueue q
  lawful_queue = fine s filed.lawful id q found

  -- ---- each write fits

  previous_slot : InSlot Right (previous_write id removal)
  previous_slot = previous_fits s filed id q found its pid moment i m taken i refl entry.previous
      (sym (previous_is q lawful_queue pid moment i m taken))

  next_slot : InSlot Right (next_write id removal)
  next_slot = next_fits s filed id q found its pid moment i m taken entry.next
      (sym (next_is q lawful_queue pid moment i m taken))

  next_by : entry.next_of_type ≡ first_of (serials_of_type m.mtype (remove q.messages i))
  next_by = next_of_type_is q lawful_queue pid moment i m taken

  its_place : (j : ℕ) × (slice_get (types q.messages) j ≡ Some m.mtype)
  its_place = place_of (types q.messages) m.mtype (its_type_stands q.messages i m taken)

  -- those of Types
  record TypeSlots (t : TypeLeft) : Type 0 where
    first : InSlot Right (own_by id m.mtype t)
    second : InSlot Right (higher_by id t)
    last : InSlot Right (deletion_by id m.mtype t)

  type_slots : (o : Option ℕ) → entry.next_of_type ≡ o → TypeSlots (left_by o own)
  type_slots (Some f) is = record {
    first = own_fits s filed id q found its pid moment i m taken f (sym next_by ∙ is);
    second = tt;
    last = tt;
  }
  type_slots None is =
      let (j, at_j) = its_place in
      let none = sym next_by ∙ is in
      record {
        first = lower_fits s filed id q found its pid moment i m taken none j at_j j refl own.lower
            (sym (lower_is q pid moment i m taken none j at_j));
        second = higher_fits s filed id q found its pid moment i m taken none j at_j own.higher
            (sym (higher_is q pid moment i m taken none j at_j));
        last = type_goes s filed id q found its pid moment i m taken none j at_j;
      }

  all_right : All Right (somes slots)
  all_right =
      let of_types = type_slots entry.next_of_type refl in
      each_all Right slots (
        queue_fits s filed id q found its pid moment i m taken,
        (
          previous_slot,
          (
            next_slot,
            (
              of_types.first,
              (of_types.second, (message_goes s filed id q found its pid moment i m taken, (of_types.last, tt))),
            ),
          ),
        ),
      )

  -- ---- they stand in order

  messages_order : Climb (previous_write id removal) (next_write id removal)
  messages_order = by entry.previous entry.next refl refl
    where
      by : (p n : Option ℕ) → entry.previous ≡ p → entry.next ≡ n →
          Climb (option_map (λ (serial : ℕ). Relink (key_of_message id serial) (to_next entry.next)) p)
          (option_map (λ (serial : ℕ). Relink (key_of_message id serial) (to_previous entry.previous)) n)
      by None n was now = tt
      by (Some p) None was now = tt
      by (Some p) (Some n) was now = around (λ (a b : ℕ). a < b) (serials q.messages)
          (serials_rise q.messages m lawful_queue.serials_ascend) i p n
          (sym (previous_is q lawful_queue pid moment i m taken) ∙ was)
          (sym (next_is q lawful_queue pid moment i m taken) ∙ now)

  types_in_order : (o : Option ℕ) → entry.next_of_type ≡ o → Climb (own_by id m.mtype (left_by o own))
      (higher_by id (left_by o own))
  types_in_order (Some f) is = tt
  types_in_order None is = by own.lower own.higher refl refl
    where
      by : (l h : Option ℤ) → own.lower ≡ l → own.higher ≡ h →
          Climb (option_map (λ (t : ℤ). Relink (key_of_type id t) (to_higher own.higher)) l)
          (option_map (λ (t : ℤ). Relink (key_of_type id t) (to_lower own.lower)) h)
      by None h was now = tt
      by (Some l) None was now = tt
      by (Some l) (Some h) was now =
          let (j, at_j) = its_place in
          let none = sym next_by ∙ is in
          let before_j = sym (lower_is q pid moment i m taken none j at_j) ∙ was in
          numbers_ascend l h (typed s filed.lawful id q found l (stands_before (types q.messages) j l before_j))
          (around (λ (t u : ℤ). t <ℤ u) (types q.messages) (types_ascend q.messages) j l h before_j
          (sym (higher_is q pid moment i m taken none j at_j) ∙ now))

  -- what stands in two slots of one rank ascends by number
  pub in_order : Ascend (somes slots)
  in_order = ranked_ascend (0 ∷ 1 ∷ 1 ∷ 2 ∷ 2 ∷ 3 ∷ 4 ∷ []) slots refl (
    refl,
    tt,
    (
      slot_all (λ (w : Write). write_rank w ≡ 1)
          (λ (serial : ℕ). Relink (key_of_message id serial) (to_next entry.next)) entry.previous (λ serial is. refl),
      messages_order,
      (
        slot_all (λ (w : Write). write_rank w ≡ 1)
            (λ (serial : ℕ). Relink (key_of_message id serial) (to_previous entry.previous)) entry.next
            (λ serial is. refl),
        tt,
        (
          own_rank id m.mtype left,
          types_in_order entry.next_of_type refl,
          (higher_rank id left, tt, (refl, tt, (deletion_rank id m.mtype left, tt, tt))),
        ),
      ),
    ),
  )

  -- ---- at all other keys the records stay

  abbrev MessageStays : ℕ → Type 0
  MessageStays n = (message_record n q ≡ message_record n new)
      ⊎ WritesAt (key_of_message id n) (previous_write id removal)
      ⊎ WritesAt (key_of_message id n) (next_write id removal)
      ⊎ (m.serial ≡ n)

  previous_at : (place : ℕ) → place ≡ i → (x : Message) (n : ℕ) → before_place q.messages place ≡ Some x
      → x.serial ≡ n →
      WritesAt (key_of_message id n) (previous_write id removal)
  previous_at zero here x n at number = absurd cc
  previous_at (suc k) here x n at number =
      let link : entry.previous ≡ Some x.serial = previous_is q lawful_queue pid moment i m taken
      ∙ ap (before_place (serials q.messages)) (sym here)
      ∙ slice_get-map (λ (y : Message). y.serial) q.messages k ∙ ap (option_map (λ (y : Message). y.serial)) at in
      subst (λ (o : Option ℕ). WritesAt (key_of_message id n)
      (option_map (λ (serial : ℕ). Relink (key_of_message id serial) (to_next entry.next)) o)) (sym link)
      (ap (key_of_message id) number)

  next_at : (x : Message) (n : ℕ) → slice_get q.messages (suc i) ≡ Some x → x.serial ≡ n →
      WritesAt (key_of_message id n) (next_write id removal)
  next_at x n at number =
      let link : entry.next ≡ Some x.serial = next_is q lawful_queue pid moment i m taken
      ∙ slice_get-map (λ (y : Message). y.serial) q.messages (suc i)
      ∙ ap (option_map (λ (y : Message). y.serial)) at in
      subst (λ (o : Option ℕ). WritesAt (key_of_message id n)
      (option_map (λ (serial : ℕ). Relink (key_of_message id serial) (to_previous entry.previous)) o)) (sym link)
      (ap (key_of_message id) number)

  at_messages : (n : ℕ) → MessageStays n
  at_messages n = elim (all_kept (λ (x : Message). x.serial) q.messages i m taken.at
      (λ (x : Message). records.Message (message_entry q x)) (λ (x : Message). records.Message (message_entry new x))
      (λ k x at other next previous.
      ap records.Message (entry_far q lawful_queue pid moment i m taken k x at other next previous)) n) [
        | inl same ↦ inl same
        | inr (inl number) ↦ inr (inr (inr number))
        | inr (inr (inl (k, x, here, at, number))) ↦ inr (inl (previous_at (suc k) here x n at number))
        | inr (inr (inr (x, at, number))) ↦ inr (inr (inl (next_at x n at number)))
      ]

  -- the key of the Type of a number
  abbrev key_of_number : ℕ → RecordKey
  key_of_number number = record { kind = 4; queue = id; number = number }

  abbrev TypeStays : ℕ → TypeLeft → Type 0
  TypeStays n t = (type_record n q ≡ type_record n new)
      ⊎ WritesAt (key_of_number n) (own_by id m.mtype t)
      ⊎ WritesAt (key_of_number n) (higher_by id t)
      ⊎ WritesAt (key_of_number n) (deletion_by id m.mtype t)

  same_type : (n : ℕ) (o : Option ℤ) → find (has_number n) (types q.messages) ≡ o →
      find (has_number n) (types new.messages) ≡ o →
      option_map (λ (t : ℤ). records.Type (type_entry q t)) o
      ≡ option_map (λ (t : ℤ). records.Type (type_entry new t)) o → type_record n q ≡ type_record n new
  same_type n o was now same =
      ap (option_map (λ (t : ℤ). records.Type (type_entry q t))) was
      ∙ same
      ∙ sym (ap (option_map (λ (t : ℤ). records.Type (type_entry new t))) now)

  -- a message of its type is left
  begins_at : (f : ℕ) → first_of (serials_of_type m.mtype (remove q.messages i)) ≡ Some f → (n : ℕ) (o : Option ℤ) →
      find (has_number n) (types q.messages) ≡ o → TypeStays n (Begins f)
  begins_at f first n None was =
      inl (same_type n None was (ap (find (has_number n)) (types_stay q pid moment i m taken f first) ∙ was) refl)
  begins_at f first n (Some t) was = by (int_eq m.mtype t) refl
    where
      number : type_number t ≡ n
      number = eqb-true (type_number t) n (find-Some (has_number n) (types q.messages) t was).0

      by : (b : Bool) → int_eq m.mtype t ≡ b → TypeStays n (Begins f)
      by true e =
          let same = (Decides-int_eq m.mtype t).0 e in
          inr (inl (ap key_of_number (ap type_number same ∙ number)))
      by false e =
          let other : m.mtype ≢ t = λ same. let clash : true ≡ false = sym ((Decides-int_eq m.mtype t).1 same)
          ∙ e in absurd cc in
          inl (same_type n (Some t) was
          (ap (find (has_number n)) (types_stay q pid moment i m taken f first) ∙ was)
          (ap (λ (x : TypeEntry). Some (records.Type x)) (sym (entry_stays q pid moment i m taken f first t other))))

  -- it was the last of its type
  module _ (none : first_of (serials_of_type m.mtype (remove q.messages i)) ≡ None) (j : ℕ)
      (at_j : slice_get (types q.messages) j ≡ Some m.mtype) where
    abbrev GoesAt : ℕ → Type 0
    GoesAt n = TypeStays n (Goes own.lower own.higher)

    lower_at : (place : ℕ) → place ≡ j → (t : ℤ) (n : ℕ) → before_place (types q.messages) place ≡ Some t →
        type_number t ≡ n → WritesAt (key_of_number n) (own_by id m.mtype (Goes own.lower own.higher))
    lower_at place here t n at number =
        let link = lower_is q pid moment i m taken none j at_j ∙ ap (before_place (types q.messages)) (sym here) ∙ at in
        subst (λ (o : Option ℤ). WritesAt (key_of_number n)
        (option_map (λ (t : ℤ). Relink (key_of_type id t) (to_higher own.higher)) o)) (sym link)
        (ap key_of_number number)

    higher_at : (t : ℤ) (n : ℕ) → slice_get (types q.messages) (suc j) ≡ Some t → type_number t ≡ n →
        WritesAt (key_of_number n) (higher_by id (Goes own.lower own.higher))
    higher_at t n at number =
        let link = higher_is q pid moment i m taken none j at_j ∙ at in
        subst (λ (o : Option ℤ). WritesAt (key_of_number n)
        (option_map (λ (t : ℤ). Relink (key_of_type id t) (to_lower own.lower)) o)) (sym link)
        (ap key_of_number number)

    goes_at : (n : ℕ) → GoesAt n
    goes_at n = elim (all_kept type_number (types q.messages) j m.mtype at_j
        (λ (t : ℤ). records.Type (type_entry q t)) (λ (t : ℤ). records.Type (type_entry new t))
        (λ k t at other next previous.
        ap records.Type (type_far q pid moment i m taken none j at_j k t at other next previous)) n) [
          | inl same ↦ inl (same ∙ sym (ap (λ (ts : List ℤ). option_map (λ (t : ℤ). records.Type (type_entry new t))
              (find (has_number n) ts)) (go s filed id q found its pid moment i m taken none j at_j)))
          | inr (inl number) ↦ inr (inr (inr (ap key_of_number number)))
          | inr (inr (inl (k, t, here, at, number))) ↦ inr (inl (lower_at (suc k) here t n at number))
          | inr (inr (inr (t, at, number))) ↦ inr (inr (inl (higher_at t n at number)))
        ]

  at_types : (o : Option ℕ) → entry.next_of_type ≡ o → (n : ℕ) → TypeStays n (left_by o own)
  at_types (Some f) is n = begins_at f (sym next_by ∙ is) n (find (has_number n) (types q.messages)) refl
  at_types None is n = let (j, at_j) = its_place in goes_at (sym next_by ∙ is) j at_j n

  -- where nothing is written the record stays
  module _ (key : RecordKey) (misses : All (InSlot (Misses key)) slots) where
    here_kind : (n : ℕ) → key.kind ≡ n → key.queue ≡ id → record { kind = n; queue = id; number = key.number } ≡ key
    here_kind n kind queue = key_is key n id key.number (sym kind) (sym queue) refl

    no_queue : key.kind ≡ 3 → key.queue ≡ id → key.number ≡ 0 → ⊥
    no_queue kind queue number =
        missed key (Replace (records.Queue (queue_entry new)))
        (key_is key 3 q.id 0 (sym kind) (its ∙ sym queue) (sym number)) (misses 0 None (omega arith))

    same_type_record_at : key.kind ≡ 4 → key.queue ≡ id → type_record key.number q ≡ type_record key.number new
    same_type_record_at kind queue =
        let it = here_kind 4 kind queue in
        elim (at_types entry.next_of_type refl key.number) [
          | inl same ↦ same
          | inr (inl at) ↦ absurd (not_at key _ (misses 3 None (omega arith))
              (subst (λ (k : RecordKey). WritesAt k (own_by id m.mtype left)) it at))
          | inr (inr (inl at)) ↦ absurd (not_at key _ (misses 4 None (omega arith))
              (subst (λ (k : RecordKey). WritesAt k (higher_by id left)) it at))
          | inr (inr (inr at)) ↦ absurd (not_at key _ (misses 6 None (omega arith))
              (subst (λ (k : RecordKey). WritesAt k (deletion_by id m.mtype left)) it at))
        ]

    same_message_record_at : key.kind ≡ 5 → key.queue ≡ id → message_record key.number q ≡ message_record key.number new
    same_message_record_at kind queue =
        let it = here_kind 5 kind queue in
        elim (at_messages key.number) [
          | inl same ↦ same
          | inr (inl at) ↦ absurd (not_at key _ (misses 1 None (omega arith))
              (subst (λ (k : RecordKey). WritesAt k (previous_write id removal)) it at))
          | inr (inr (inl at)) ↦ absurd (not_at key _ (misses 2 None (omega arith))
              (subst (λ (k : RecordKey). WritesAt k (next_write id removal)) it at))
          | inr (inr (inr number)) ↦ absurd (missed key (Delete (key_of_message id m.serial))
              (ap (key_of_message id) number ∙ it) (misses 5 None (omega arith)))
        ]

    stays : record_of s key ≡ record_of after key
    stays = agree_but id s q new found refl refl key no_queue same_type_record_at same_message_record_at

  -- ---- the plan

  pub leads : Leads (removal_plan id removal) (record_of s) (record_of after)
  leads = leads_by (record_of s) (record_of after) (removal_plan id removal) tt (All-nil _)
      in_order
      all_right
      (λ key r is. in_range after key r (lawful_after s filed id q found its pid moment i m taken) is)
      (λ key none misses. stays key (somes_each (Misses key) slots misses))
