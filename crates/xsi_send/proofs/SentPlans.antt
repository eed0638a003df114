-- The plan of a Send, of a type that stands on the queue and of one that does not.
use Rattle.xsi_send.proofs.Names.{All, All-cons, All-contains, All-nil, Ascend, Bool, Caller, Contains, Contains-append_left, Contains-append_right, Decides-eqb, Decides-int_eq, Fills, InSlot, IsBetween, IsFiled, IsNew, IsOpen, IsOrdered, LeadsTo, List, MESSAGE, Message, Misses, MissesRecord, None, Option, Plan, Queue, QueueEntry, Record, RecordKey, Relink, Replace, SendArguments, Some, State, Stays, TYPE, TypeEntry, Write, [], agree_but, all_each, all_of, ap, arith, behind_end, cond, each_all, eqb-true, false, filter, find, first_of, guard_of, has_number, higher_write, ints, is_of_type, key_of, key_of_message, key_written, last_message, last_of, leads_by, links_behind, lower_write, new_type, numbers_ascend, option_and_then, option_map, queue_entry, ranked_ascend, record_of, refl, same_Some, same_number, serial_tells, serials, serials_of_type, slot_all, somes, subst, sym, trial_rank, true, type_entry, type_number, type_record, type_stands, type_write, types, with_message, with_one_more, with_queue, write_rank, ℕ, ℤ, ◌++◌, ◌<ℤ◌, ◌<◌, ◌==◌, ◌∙◌, ◌∷◌, ◌≡◌}
use Rattle.type_chains.proofs.Beside.{contains_at, in_first, in_last}
use Rattle.xsi_send.proofs.SentParts.{IsRightPlan, empty_filter, find_nothing, find_over, found_then, lawful_q, lawful_t, less_than_last, linked_fills, message_hit, message_new, messages_same, mine, misses_key, new_in_range, no_message, of_type_stands, queue_fills, queue_missed, type_fills, type_hit, types_of_q, types_same}
use Rattle.xsi_send.proofs.Told.{has_first, of_filter, typed}
use Rattle.type_chains.proofs.TypesWith.{IsSplitAt, entry_higher, entry_lower, entry_new, entry_other, is_new, other_entry, same_types, standing_entry, still_there, types_after}
use Rattle.page_locks.specs.declared.lock.LockName.TheVariants as names
use Rattle.queue_records.specs.declared.record.Record.TheVariants as records

module _ (c : Caller) (a : SendArguments) (e : QueueEntry) (s : State) (filed : IsFiled s) (known : IsOpen c a e s)
  where
    abbrev q : Queue
    q = known.queue

    abbrev new : Queue
    new = with_message c.pid a known.queue

    abbrev t : State
    t = with_queue a.id (with_message c.pid a known.queue) s

    abbrev old_records : RecordKey → Option Record
    old_records = record_of s

    abbrev new_records : RecordKey → Option Record
    new_records = record_of t

    abbrev message_trial : Record
    message_trial = records.Message (last_message c.pid a (queue_entry q))

    abbrev queue_record : Write
    queue_record = Replace (records.Queue (with_one_more c.pid a (queue_entry q)))

    abbrev under : Write → Type 0
    under w = Contains (names.Queue a.id ∷ []) (guard_of (key_written w))

    -- ---- the type stands

    module _ (x y : Message) (stands : Contains (types q.messages) a.mtype) (last : last_of q.messages ≡ Some x)
        (of_type : last_of (filter (is_of_type a.mtype) q.messages) ≡ Some y) (its_type : y.mtype ≡ a.mtype) where
      abbrev typed_end : Write
      typed_end = Relink (key_of_message q.id y.serial) (links_behind q.next_serial false true)

      abbrev queue_end : Bool → Write
      queue_end b = behind_end (queue_entry q) b x.serial

      abbrev its_write : Write
      its_write = type_write a (queue_entry q)

      abbrev first : Bool → Option Write
      first b = cond b None (Some typed_end)

      abbrev slots : Bool → List (Option Write)
      slots b = Some queue_record ∷ first b ∷ Some (queue_end b) ∷ Some its_write ∷ []

      abbrev plan : Bool → Plan
      plan b = record { trials = message_trial ∷ []; slots = slots b }

      x_there : Contains q.messages x
      x_there = in_last q.messages x last

      y_there : Contains q.messages y
      y_there = of_filter (is_of_type a.mtype) q.messages y (in_last (filter (is_of_type a.mtype) q.messages) y of_type)

      -- the last of the queue is the last of the type where their serials are one
      one : (x.serial == y.serial) ≡ true → y ≡ x
      one same = serial_tells q (lawful_q c a e s filed known) y x y_there x_there
          (sym (eqb-true x.serial y.serial same))

      apart : (x.serial == y.serial) ≡ false → x ≡ y → ⊥
      apart other same =
          let equal : (x.serial == y.serial) ≡ true =
          (Decides-eqb x.serial y.serial).1 (ap (λ (m : Message). m.serial) same) in
          let clash : ◌≡◌ {A = Bool} false true = sym other ∙ equal in
          absurd cc

      end_fills : (b : Bool) → (x.serial == y.serial) ≡ b → Fills old_records new_records (queue_end b)
      end_fills true same = linked_fills c a e s filed known x x_there true true (λ _. last) (λ never. absurd cc)
          (λ _. (ap (λ (m : Message). m.mtype) (sym (one same)) ∙ its_type, of_type ∙ ap Some (one same)))
          (λ never. absurd cc)
      end_fills false other = linked_fills c a e s filed known x x_there true false (λ _. last) (λ never. absurd cc)
          (λ never. absurd cc) (λ _ is. apart other (same_Some x y (sym is.1 ∙ of_type)))

      first_fills : (b : Bool) → (x.serial == y.serial) ≡ b → InSlot (Fills old_records new_records) (first b)
      first_fills true same = tt
      first_fills false other = linked_fills c a e s filed known y y_there false true (λ never. absurd cc)
          (λ _ is. apart other (same_Some x y (sym last ∙ is))) (λ _. (its_type, of_type)) (λ never. absurd cc)

      still : Contains (types new.messages) a.mtype
      still = subst (λ ts. Contains ts a.mtype) (sym (same_types c.pid a q stands)) stands

      all_fill : (b : Bool) → (x.serial == y.serial) ≡ b → All (Fills old_records new_records) (somes (slots b))
      all_fill b is = each_all (Fills old_records new_records) (slots b) (
        queue_fills c a e s filed known,
        (
          first_fills b is,
          (
            end_fills b is,
            (
              type_fills c a e s filed known a.mtype
                  (record { first = None; last = Some q.next_serial; lower = Stays; higher = Stays })
                  (standing_entry c.pid a q stands (has_first c a e s filed known stands)) stands still,
              tt,
            ),
          ),
        ),
      )

      no_other : (b : Bool) → (x.serial == y.serial) ≡ b → (key : RecordKey) →
          All (MissesRecord key) (message_trial ∷ []) → All (Misses key) (somes (slots b)) →
          record_of s key ≡ record_of t key
      no_other b is key trials writes =
          let (no_queue, (no_first, (no_second, (no_type, end)))) = all_each (Misses key) (slots b) writes in
          agree_but a.id s q new known.found refl refl key (queue_missed c a e s filed known key no_queue)
          (λ kind queue. types_same c a e s filed known key (types q.messages) (same_types c.pid a q stands) refl
          (λ u has number. sym (other_entry c.pid a q stands u
          (λ same. type_hit c a e s filed known key a.mtype no_type kind queue (ap type_number same ∙ number)))))
          (λ kind queue. messages_same c a e s filed known key kind queue
          (All-contains (MissesRecord key) (message_trial ∷ []) message_trial trials (contains_at [] [] message_trial))
          (λ z has number end. message_hit c a e s filed known key x no_second kind queue
          (ap (λ (m : Message). m.serial) (same_Some x z (sym last ∙ end)) ∙ number))
          (λ z has number mtype end. typed_hit b is no_first no_second kind queue
          (ap (λ (m : Message). m.serial) (same_Some y z (sym of_type ∙ end)) ∙ number)))
        where
          typed_hit : (b : Bool) → (x.serial == y.serial) ≡ b → InSlot (Misses key) (first b) →
              Misses key (queue_end b) → key.kind ≡ MESSAGE → key.queue ≡ a.id → y.serial ≡ key.number → ⊥
          typed_hit true same no_first no_second kind queue number =
              message_hit c a e s filed known key x no_second kind queue (eqb-true x.serial y.serial same ∙ number)
          typed_hit false other no_first no_second kind queue number =
              message_hit c a e s filed known key y no_first kind queue number

      first_is : (b : Bool) → InSlot under (first b)
      first_is true = tt
      first_is false = mine c a e s filed known

      -- the last of the type has a lower serial than the last of the queue
      in_order : (b : Bool) → (x.serial == y.serial) ≡ b → Ascend (somes (slots b))
      in_order true is = ranked_ascend (0 ∷ 1 ∷ 1 ∷ 2 ∷ []) (slots true) refl
          (refl, tt, (tt, tt, (refl, tt, (refl, tt, tt))))
      in_order false other = ranked_ascend (0 ∷ 1 ∷ 1 ∷ 2 ∷ []) (slots false) refl (
        refl,
        tt,
        (
          refl,
          less_than_last c a e s filed known x y y_there last (λ same. apart other (sym
              (serial_tells q (lawful_q c a e s filed known) y x y_there x_there same))),
          (refl, tt, (refl, tt, tt)),
        ),
      )

      pub right_standing : (b : Bool) → (x.serial == y.serial) ≡ b
          → IsRightPlan a.id (plan b) (record_of s) (record_of t)
      right_standing b is = record {
        leads = leads_by old_records new_records (plan b) (no_message c a e s filed known, tt)
            (All-cons (IsNew old_records new_records) message_trial [] (message_new c a e s filed known) (All-nil _))
            (in_order b is) (all_fill b is) (new_in_range c a e s filed known) (no_other b is);
        own = record {
          trials = All-cons (λ (r : Record). Contains (names.Queue a.id ∷ []) (guard_of (key_of r))) message_trial []
              (mine c a e s filed known) (All-nil _);
          writes = each_all under (slots b) (
            mine c a e s filed known,
            (first_is b, (mine c a e s filed known, (mine c a e s filed known, tt))),
          );
        };
        ordered = record { trials = (All-nil _, tt); writes = in_order b is };
      }

    -- ---- it does not

    module _ (low high : Option ℤ) (between : IsBetween a.mtype low high q) (ends : Option ℕ)
        (end_is : (n : ℕ) → ends ≡ Some n → (x : Message) × (last_of q.messages ≡ Some x) × (x.serial ≡ n))
        (end_has : (x : Message) → last_of q.messages ≡ Some x → ends ≡ Some x.serial) where
      abbrev entry : TypeEntry
      entry = new_type q.id a.mtype q.next_serial low high

      abbrev end_write : ℕ → Write
      end_write n = behind_end (queue_entry q) false n

      abbrev links : Option Write
      links = option_map end_write ends

      abbrev below_write : ℤ → Write
      below_write u = lower_write a (queue_entry q) u

      abbrev above_write : ℤ → Write
      above_write u = higher_write a (queue_entry q) u

      abbrev lowers : Option Write
      lowers = option_map below_write low

      abbrev highers : Option Write
      highers = option_map above_write high

      abbrev new_slots : List (Option Write)
      new_slots = Some queue_record ∷ links ∷ lowers ∷ highers ∷ []

      abbrev new_plan : Plan
      new_plan = record { trials = message_trial ∷ records.Type entry ∷ []; slots = new_slots }

      in_below : (u : ℤ) → Contains between.below u → Contains (types q.messages) u
      in_below u has = subst (λ ts. Contains ts u) (sym between.split) (Contains-append_left between.below between.above
          u has)

      in_above : (u : ℤ) → Contains between.above u → Contains (types q.messages) u
      in_above u has = subst (λ ts. Contains ts u) (sym between.split) (Contains-append_right between.below
          between.above u has)

      -- its type stands between those below it and those above it
      abbrev parts : IsSplitAt a.mtype (types q.messages)
      parts = record {
        below = between.below;
        above = between.above;
        split = between.split;
        less = between.less;
        more = between.more;
      }

      other_type : (u : ℤ) → Contains (types q.messages) u → u ≡ a.mtype → ⊥
      other_type u has same = is_new c.pid a q parts u has (sym same)

      new_there : Contains (types new.messages) a.mtype
      new_there = subst (λ ts. Contains ts a.mtype) (sym (types_after c.pid a q parts))
          (contains_at between.below between.above a.mtype)

      no_serials : serials_of_type a.mtype q.messages ≡ []
      no_serials = ap serials (empty_filter (is_of_type a.mtype) q.messages (λ x has passes.
          other_type x.mtype ((of_type_stands c a e s filed known) x has) ((Decides-int_eq x.mtype a.mtype).0 passes)))

      type_new : IsNew old_records new_records (records.Type entry)
      type_new = subst (λ x. new_records (key_of (records.Type x)) ≡ Some (records.Type x))
          (entry_new c.pid a q parts no_serials ∙ λ i. new_type q.id a.mtype q.next_serial (sym between.lower i)
          (sym between.higher i)) (type_stands t
          (lawful_t c a e s filed known) q.id new (found_then c a e s filed known) a.mtype new_there)

      other_number : (u : ℤ) → Contains (types q.messages) u → has_number (type_number a.mtype) u ≡ false
      other_number u has = by (has_number (type_number a.mtype) u) refl
        where
          by : (b : Bool) → has_number (type_number a.mtype) u ≡ b → b ≡ false
          by true passes = absurd (other_type u has (same_number u a.mtype (types_of_q c a e s filed known u has)
              (typed c a e s filed known) (eqb-true (type_number u) (type_number a.mtype) passes)))
          by false passes = refl

      no_type : old_records (key_of (records.Type entry)) ≡ None
      no_type =
          ap (λ n. old_records (record { kind = TYPE; queue = n; number = type_number a.mtype })) known.its_id
          ∙ ap (option_and_then (type_record (type_number a.mtype))) known.found
          ∙ ap (option_map (λ (u : ℤ). records.Type (type_entry q u)))
          (find_nothing (has_number (type_number a.mtype)) (types q.messages)
          (all_of (λ (u : ℤ). has_number (type_number a.mtype) u ≡ false) (types q.messages) other_number))

      last_low : (u : ℤ) → low ≡ Some u → last_of between.below ≡ Some u
      last_low u is = sym between.lower ∙ is

      first_high : (u : ℤ) → high ≡ Some u → first_of between.above ≡ Some u
      first_high u is = sym between.higher ∙ is

      lower_fills : (u : ℤ) → low ≡ Some u → Fills old_records new_records (below_write u)
      lower_fills u is =
          let last = last_low u is in
          let has = in_below u (in_last between.below u last) in
          type_fills c a e s filed known u
          (record { first = None; last = None; lower = Stays; higher = LeadsTo a.mtype })
          (entry_lower c.pid a q parts u has last) has (still_there c.pid a q parts u has)

      higher_fills : (u : ℤ) → high ≡ Some u → Fills old_records new_records (above_write u)
      higher_fills u is =
          let first = first_high u is in
          let has = in_above u (in_first between.above u first) in
          type_fills c a e s filed known u
          (record { first = None; last = None; lower = LeadsTo a.mtype; higher = Stays })
          (entry_higher c.pid a q parts u has first) has (still_there c.pid a q parts u has)

      last_fills : (n : ℕ) → ends ≡ Some n → Fills old_records new_records (end_write n)
      last_fills n is =
          let (x, last, same) = end_is n is in
          let there = in_last q.messages x last in
          subst (λ (k : ℕ). Fills old_records new_records (end_write k)) same
          (linked_fills c a e s filed known x there true false (λ _. last) (λ never. absurd cc) (λ never. absurd cc)
          (λ _ its. other_type x.mtype (of_type_stands c a e s filed known x there) its.0))

      every_fill : All (Fills old_records new_records) (somes new_slots)
      every_fill = each_all (Fills old_records new_records) new_slots (
        queue_fills c a e s filed known,
        (
          slot_all (Fills old_records new_records) end_write ends last_fills,
          (
            slot_all (Fills old_records new_records) below_write low lower_fills,
            (slot_all (Fills old_records new_records) above_write high higher_fills, tt),
          ),
        ),
      )

      -- what stands in a slot is missed by no write
      in_slot : {X : Type 0} (P : Write → Type 0) (f : X → Write) (o : Option X) (x : X) → InSlot P (option_map f o) →
          o ≡ Some x → P (f x)
      in_slot {X} P f o x all is = subst (λ (p : Option X). InSlot P (option_map f p)) is all

      nothing_else : (key : RecordKey) → All (MissesRecord key) (message_trial ∷ records.Type entry ∷ []) →
          All (Misses key) (somes new_slots) → record_of s key ≡ record_of t key
      nothing_else key trials writes =
          let (no_queue, (no_links, (no_lowers, (no_highers, end)))) = all_each (Misses key) new_slots writes in
          agree_but a.id s q new known.found refl refl key
          (queue_missed c a e s filed known key no_queue)
          (λ kind queue. types_same c a e s filed known key (between.below ++ a.mtype ∷ between.above)
          (types_after c.pid a q parts)
          (find_over (has_number key.number) between.below between.above a.mtype (over kind queue)
          ∙ ap (find (has_number key.number)) (sym between.split))
          (λ u has number. sym (entry_other c.pid a q parts u has
          (λ last. type_hit c a e s filed known key u
          (in_slot (Misses key) below_write low u no_lowers (between.lower ∙ last)) kind queue number)
          (λ first. type_hit c a e s filed known key u
          (in_slot (Misses key) above_write high u no_highers (between.higher ∙ first)) kind queue number))))
          (λ kind queue. messages_same c a e s filed known key kind queue
          (All-contains (MissesRecord key) (message_trial ∷ records.Type entry ∷ []) message_trial trials
          (contains_at [] (records.Type entry ∷ []) message_trial))
          (λ x has number last. message_hit c a e s filed known key x
          (in_slot (Misses key) end_write ends x.serial no_links (end_has x last)) kind queue number)
          (λ x has number mtype last. other_type x.mtype (of_type_stands c a e s filed known x has) mtype))
        where
          over : key.kind ≡ TYPE → key.queue ≡ a.id → has_number key.number a.mtype ≡ false
          over kind queue = by (has_number key.number a.mtype) refl
            where
              by : (b : Bool) → has_number key.number a.mtype ≡ b → b ≡ false
              by true passes = absurd (misses_key key (key_of (records.Type entry))
                  (All-contains (MissesRecord key) (message_trial ∷ records.Type entry ∷ []) (records.Type entry) trials
                  (contains_at (message_trial ∷ []) [] (records.Type entry))) kind
                  (queue ∙ sym known.its_id) (sym (eqb-true (type_number a.mtype) key.number passes)))
              by false passes = refl

      -- the lower type's number is the lesser one
      types_less : (u v : ℤ) → low ≡ Some u → high ≡ Some v → type_number u < type_number v
      types_less u v lower higher =
          let first = in_last between.below u (last_low u lower) in
          let second = in_first between.above v (first_high v higher) in
          let one = All-contains (λ (t : ℤ). t <ℤ a.mtype) between.below u between.less first in
          let two = All-contains (λ (t : ℤ). a.mtype <ℤ t) between.above v between.more second in
          numbers_ascend u v (types_of_q c a e s filed known u (in_below u first)) (omega (arith, ints, one, two))

      ordered : IsOrdered new_plan
      ordered = record {
        trials = (
          All-cons (λ (x : Record). trial_rank (key_of message_trial) < trial_rank (key_of x))
              (records.Type entry) [] (omega arith) (All-nil _),
          (All-nil _, tt),
        );
        writes = ranked_ascend (0 ∷ 1 ∷ 2 ∷ 2 ∷ []) new_slots refl (
          refl,
          tt,
          (
            slot_all (λ (w : Write). write_rank w ≡ 1) end_write ends (λ n is. refl),
            tt,
            (
              slot_all (λ (w : Write). write_rank w ≡ 2) below_write low (λ u is. refl),
              slot_all (λ (w : Write). InSlot (λ (v : Write). (key_written w).number < (key_written v).number) highers)
                  below_write low (λ u is. slot_all _ above_write high (λ v at. types_less u v is at)),
              (slot_all (λ (w : Write). write_rank w ≡ 2) above_write high (λ u is. refl), tt, tt),
            ),
          ),
        );
      }

      pub right_between : IsRightPlan a.id new_plan (record_of s) (record_of t)
      right_between = record {
        leads = leads_by old_records new_records new_plan (no_message c a e s filed known, (no_type, tt))
            (All-cons (IsNew old_records new_records) message_trial (records.Type entry ∷ [])
            (message_new c a e s filed known)
            (All-cons (IsNew old_records new_records) (records.Type entry) [] type_new (All-nil _)))
            ordered.writes every_fill (new_in_range c a e s filed known) nothing_else;
        own = record {
          trials = All-cons trial_under message_trial (records.Type entry ∷ []) (mine c a e s filed known)
              (All-cons trial_under (records.Type entry) [] (mine c a e s filed known) (All-nil trial_under));
          writes = each_all under new_slots (
            mine c a e s filed known,
            (
              slot_all under end_write ends (λ n is. mine c a e s filed known),
              (
                slot_all under below_write low (λ u is. mine c a e s filed known),
                (slot_all under above_write high (λ u is. mine c a e s filed known), tt),
              ),
            ),
          );
        };
        ordered = ordered;
      }
        where
          trial_under : Record → Type 0
          trial_under r = Contains (names.Queue a.id ∷ []) (guard_of (key_of r))
