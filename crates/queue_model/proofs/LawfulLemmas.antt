-- What calls change keeps systems lawful.
use Rattle.std.proofs.Common.{◌≡◌, ℕ, inl, inr, ◌+◌, ◌<◌, ◌≤◌, List, [], ◌∷◌, ◌++◌, length, map, Option, Some, None, pos, ◌≤ℤ◌, arith, refl, sym, ap, ◌∙◌, subst, get_or, false, lit<, mod-lt}
use Rattle.std.specs.Prelude.{slice_set, slice_index_or, ◌≢◌, nat_lt, int_lt, unwrap_or}
use Rattle.std.specs.List.{All, find, position_or_len, remove}
use Rattle.std.proofs.lemmas.List.{get_or-map, length-set, length-map, map-append}
use Rattle.std.proofs.lemmas.List.Edits.{length-remove}
use Rattle.std.proofs.lemmas.List.Elements.{All-nil, All-push, All-set, All-weaker}
use Rattle.std.proofs.lemmas.List.Quantifiers.{all_pairs_push, all_pairs_remove}
use Rattle.std.proofs.lemmas.List.Sums.{sum_by-remove, sum_by-append}
use Rattle.std.proofs.lemmas.List.{length-append}
use Rattle.std.proofs.Math.Seq.{map-set_same}
use Rattle.numbers.specs.declared.limits.TheConstants.{MAX_QUEUES, MAX_MESSAGES, MAX_BODY, MAX_QBYTES, END_OF_IDS, END_OF_SERIALS}
use Rattle.queue_model.proofs.Words.{Answer, Id, Sent, Received, Info, Done, Refused, Call, Get, Send, Receive, Stat, Set, Remove, SendArguments, SetArguments, Entry, Decided, Stopped, GetArguments, Caller, Message, Queue, State}
use Rattle.queue_model.specs.Journal.{Leads, LeadsAlong, caller_at, outcome_for}
use Rattle.queue_model.specs.Lawful.{IsLawful, IsLawfulQueue, IsLawfulMessage, AreKeysApart}
use Rattle.queue_model.specs.Places.{IsFreshKey}
use Rattle.queue_model.specs.Rules.{new_queue, has_key, is_key, lacks_room, with_message, without_message, with_settings}
use Rattle.queue_model.specs.Selection.{total_bytes, selects}
use Rattle.std.proofs.lemmas.Int.{ints}
use Rattle.std.proofs.lemmas.Option.{slice_get_within}
use Rattle.std.proofs.lemmas.List.Folds.{find_at}
use Rattle.queue_model.proofs.EffectLemmas.{Effect, Effect-outcome, Stands, Changes}
use Rattle.queue_model.proofs.ListLemmas.{All-remove, map-remove, find-None-All}

-- a message is given away, and the process and moment are kept
pub IsLawfulQueue-remove : (q : Queue) (i pid moment : ℕ) → i < length q.messages → IsLawfulQueue q →
    IsLawfulQueue (record q { lrpid = pid; rtime = moment; messages = remove q.messages i })
IsLawfulQueue-remove q i pid moment within lawful =
    let none : Message = record { serial = 0; sender = 0; mtype = pos 0; bytes = [] } in
    let fewer = length-remove q.messages i within in
    let less = sum_by-remove (λ (m : Message). length m.bytes) q.messages i none within in
    record {
      few_messages = omega (arith, lawful.few_messages);
      few_bytes = omega (arith, lawful.few_bytes);
      small_limit = lawful.small_limit;
      mode = lawful.mode;
      serial_begun = lawful.serial_begun;
      serials_end = lawful.serials_end;
      messages_lawful = All-remove (IsLawfulMessage q.next_serial) q.messages i lawful.messages_lawful;
      serials_ascend = all_pairs_remove (λ
          (m n : Message). m.serial < n.serial) q.messages i within lawful.serials_ascend;
    }

-- a queue becomes another of its id and key
pub IsLawful-set : (s : State) (i : ℕ) (old new : Queue) → slice_index_or s.queues i old ≡ old → new.id ≡ old.id →
    new.key ≡ old.key →
    IsLawfulQueue new → IsLawful s → IsLawful (record s { queues = slice_set s.queues i new })
IsLawful-set s i old new at same_id same_key lawful_queue lawful =
    let ids = map-set_same (λ (q : Queue). q.id) s.queues i new old (same_id ∙ ap (λ (q : Queue). q.id) (sym at)) in
    let keys = map-set_same (λ (q : Queue). q.key) s.queues i new old (same_key ∙ ap (λ (q : Queue). q.key) (sym at)) in
    record {
      few_queues = rw (length-set s.queues i new) lawful.few_queues;
      id_begun = lawful.id_begun;
      ids_end = lawful.ids_end;
      queues_lawful = All-set IsLawfulQueue s.queues i new lawful_queue lawful.queues_lawful;
      ids_given = rw ids lawful.ids_given;
      ids_ascend = rw ids lawful.ids_ascend;
      keys_apart = rw keys lawful.keys_apart;
    }

-- a queue is removed
pub IsLawful-remove : (s : State) (i : ℕ) → i < length s.queues → IsLawful s →
    IsLawful (record s { queues = remove s.queues i })
IsLawful-remove s i within lawful =
    let fewer = length-remove s.queues i within in
    let ids = map-remove (λ (q : Queue). q.id) s.queues i in
    let keys = map-remove (λ (q : Queue). q.key) s.queues i in
    let as_many = length-map s.queues (λ (q : Queue). q.id) in
    let as_many_keys = length-map s.queues (λ (q : Queue). q.key) in
    record {
      few_queues = omega (arith, lawful.few_queues);
      id_begun = lawful.id_begun;
      ids_end = lawful.ids_end;
      queues_lawful = All-remove IsLawfulQueue s.queues i lawful.queues_lawful;
      ids_given = rw ids (All-remove (λ (id : ℕ). (1 ≤ id) × (id < s.next_id))
          (map (λ (q : Queue). q.id) s.queues) i lawful.ids_given);
      ids_ascend = rw ids (all_pairs_remove (λ (a b : ℕ). a < b)
          (map (λ (q : Queue). q.id) s.queues) i (omega (arith, as_many)) lawful.ids_ascend);
      keys_apart = rw keys (all_pairs_remove AreKeysApart (map (λ (q : Queue). q.key) s.queues) i (omega
          (arith, as_many_keys)) lawful.keys_apart);
    }

-- a new queue is lawful
IsLawfulQueue-new : (id : ℕ) (c : Caller) (a : GetArguments) → IsLawfulQueue (new_queue id c a)
IsLawfulQueue-new id c a = record {
  few_messages = omega arith;
  few_bytes = omega arith;
  small_limit = omega arith;
  mode = mod-lt a.mode (lit< tt);
  serial_begun = omega arith;
  serials_end = omega arith;
  messages_lawful = All-nil (IsLawfulMessage 1);
  serials_ascend = λ i j d before within. absurd (omega (arith, within));
}

-- where no queue has a key, no key on the list is it
is_apart : (qs : List Queue) (key k : ℕ) (q : Queue) (d : Option ℕ) → k < length qs → find (has_key key) qs ≡ None →
    get_or (map (λ (q : Queue). q.key) qs) k d ≡ Some key → ⊥
is_apart qs key k q d within none at =
    let its = sym (get_or-map (λ (q : Queue). q.key) qs k q d within) ∙ at in
    let no = find-None-All (has_key key) qs none k q within in
    let never : is_key key (Some key) ≡ false = ap (is_key key) (sym its) ∙ no in
    absurd (grind (arith, never))

-- a queue is made, with a key that no queue has
pub IsLawful-create : (s : State) (c : Caller) (a : GetArguments) → length s.queues ≢ MAX_QUEUES →
    s.next_id ≢ END_OF_IDS →
    IsFreshKey a.key s → IsLawful s →
    IsLawful (record s { queues = s.queues ++ new_queue s.next_id c a ∷ []; next_id = s.next_id + 1 })
IsLawful-create s c a few more fresh lawful =
    let new = new_queue s.next_id c a in
    let ids = map-append (λ (q : Queue). q.id) s.queues (new ∷ []) in
    let keys = map-append (λ (q : Queue). q.key) s.queues (new ∷ []) in
    let old_ids = map (λ (q : Queue). q.id) s.queues in
    let old_keys = map (λ (q : Queue). q.key) s.queues in
    let longer = length-append s.queues (new ∷ []) in
    let as_many = length-map s.queues (λ (q : Queue). q.key) in
    let given : All (λ (id : ℕ). (1 ≤ id) × (id < s.next_id + 1)) old_ids =
    All-weaker (λ (id : ℕ). (1 ≤ id) × (id < s.next_id)) (λ (id : ℕ). (1 ≤ id) × (id < s.next_id + 1))
    (λ id h. (h.0, omega (arith, h.1))) old_ids lawful.ids_given in
    record {
      few_queues = omega (arith, longer, few, lawful.few_queues);
      id_begun = omega arith;
      ids_end = omega (arith, more, lawful.ids_end);
      queues_lawful = All-push IsLawfulQueue s.queues new lawful.queues_lawful (IsLawfulQueue-new s.next_id c a);
      ids_given = rw ids (All-push (λ (id : ℕ). (1 ≤ id) × (id < s.next_id + 1)) old_ids s.next_id given
          (lawful.id_begun, omega arith));
      ids_ascend = rw ids (all_pairs_push (λ (x y : ℕ). x < y) old_ids s.next_id lawful.ids_ascend (λ k d h.
          (lawful.ids_given k d h).1));
      keys_apart = rw keys (all_pairs_push AreKeysApart old_keys a.key lawful.keys_apart
          (λ k d h key old now. is_apart s.queues key k new d (omega (arith, h, as_many)) (fresh key now) old));
    }

-- a message is accepted
pub IsLawfulQueue-accept : (pid : ℕ) (a : SendArguments) (q : Queue) → int_lt a.mtype (pos 1) ≡ false →
    nat_lt MAX_BODY (length a.body) ≡ false →
    lacks_room (length a.body) q ≡ false → IsLawfulQueue q → IsLawfulQueue (with_message pid a q)
IsLawfulQueue-accept pid a q typed short room lawful =
    let new : Message = record { serial = q.next_serial; sender = pid; mtype = a.mtype; bytes = a.body } in
    let longer = length-append q.messages (new ∷ []) in
    let sum = sum_by-append (λ (m : Message). length m.bytes) q.messages (new ∷ []) in
    let begun : pos 1 ≤ℤ a.mtype = grind (arith, ints, typed) in
    let short_body : length a.body ≤ MAX_BODY = grind (arith, short) in
    let bytes : nat_lt q.qbytes (total_bytes q.messages + length a.body) ≡ false = grind (arith, room) in
    let few : length q.messages ≢ MAX_MESSAGES = λ full. grind (arith, room, full) in
    let more : q.next_serial ≢ END_OF_SERIALS = λ last. grind (arith, room, last) in
    let within : total_bytes q.messages + length a.body ≤ q.qbytes = grind (arith, bytes) in
    record {
      few_messages = omega (arith, longer, few, lawful.few_messages);
      few_bytes = omega (arith, sum, within, lawful.small_limit);
      small_limit = lawful.small_limit;
      mode = lawful.mode;
      serial_begun = omega arith;
      serials_end = omega (arith, more, lawful.serials_end);
      messages_lawful = All-push (IsLawfulMessage (q.next_serial + 1)) q.messages new
          (All-weaker (IsLawfulMessage q.next_serial)
          (IsLawfulMessage (q.next_serial + 1)) later q.messages lawful.messages_lawful)
          (record {
            serial_begun = lawful.serial_begun;
            serial_given = omega arith;
            typed = begun;
            short = short_body;
          });
      serials_ascend = all_pairs_push (λ (m n : Message). m.serial < n.serial) q.messages new lawful.serials_ascend
          (λ k d h. (lawful.messages_lawful k d h).serial_given);
    }
  where
    later : (m : Message) → IsLawfulMessage q.next_serial m → IsLawfulMessage (q.next_serial + 1) m
    later m l = record {
      serial_begun = l.serial_begun;
      serial_given = omega
          (arith, l.serial_given);
      typed = l.typed;
      short = l.short;
    }

-- a queue is set
pub IsLawfulQueue-set : (a : SetArguments) (q : Queue) → nat_lt MAX_QBYTES a.qbytes ≡ false → IsLawfulQueue q →
    IsLawfulQueue (with_settings a q)
IsLawfulQueue-set a q small lawful = record {
  few_messages = lawful.few_messages;
  few_bytes = lawful.few_bytes;
  small_limit = grind (arith, small);
  mode = mod-lt (unwrap_or a.mode q.permissions.mode) (lit< tt);
  serial_begun = lawful.serial_begun;
  serials_end = lawful.serials_end;
  messages_lawful = lawful.messages_lawful;
  serials_ascend = lawful.serials_ascend;
}

-- the queue at a place is lawful
pub of_queue : (id : ℕ) (s : State) (place : ℕ) (q : Queue) → Stands id s place q → IsLawful s → IsLawfulQueue q
of_queue id s place q stands lawful = subst IsLawfulQueue (stands.is_it q)
    (lawful.queues_lawful place q stands.place_of.within)

-- a queue became a lawful one of its id and key
changed : (id : ℕ) (s : State) (place : ℕ) (q new : Queue) (t : State) → Changes id s place q new t → new.id ≡ q.id →
    new.key ≡ q.key →
    IsLawfulQueue new → IsLawful s → IsLawful t
changed id s place q new t did same_id same_key lawful_queue lawful =
    rw did.after (IsLawful-set s place q new (did.stands.is_it q) same_id same_key lawful_queue lawful)

-- what an answered call did keeps the system lawful
pub IsLawful-Effect : (c : Caller) (call : Call) (a : Answer) (s t : State) → Effect c call a s t → IsLawful s →
    IsLawful t
IsLawful-Effect c (Get x) a s t (inl same) lawful = rw same lawful
IsLawful-Effect c (Get x) a s t (inr made) lawful = rw made.after
    (IsLawful-create s c x made.few made.more made.fresh lawful)
IsLawful-Effect c (Send x) (Sent serial) s t did lawful =
    changed x.id s did.place did.q (with_message c.pid x did.q) t did.changes refl refl
    (IsLawfulQueue-accept c.pid x did.q did.typed did.short did.room
    (of_queue x.id s did.place did.q did.changes.stands lawful)) lawful
IsLawful-Effect c (Send x) (Id n) s t did lawful = rw did lawful
IsLawful-Effect c (Send x) (Received m) s t did lawful = rw did lawful
IsLawful-Effect c (Send x) (Info i) s t did lawful = rw did lawful
IsLawful-Effect c (Send x) Done s t did lawful = rw did lawful
IsLawful-Effect c (Send x) (Refused e) s t did lawful = rw did lawful
IsLawful-Effect c (Receive x) (Received m) s t did lawful =
    let q = did.q in
    let place = position_or_len (selects x.mtype q.messages) q.messages in
    let within : place < length q.messages =
    slice_get_within q.messages place did.m (sym (find_at (selects x.mtype q.messages) q.messages) ∙ did.selects) in
    changed x.id s did.place q (without_message c.pid x q) t did.changes refl refl
    (IsLawfulQueue-remove q place c.pid x.moment within (of_queue x.id s did.place q did.changes.stands lawful)) lawful
IsLawful-Effect c (Receive x) (Id n) s t did lawful = rw did lawful
IsLawful-Effect c (Receive x) (Sent n) s t did lawful = rw did lawful
IsLawful-Effect c (Receive x) (Info i) s t did lawful = rw did lawful
IsLawful-Effect c (Receive x) Done s t did lawful = rw did lawful
IsLawful-Effect c (Receive x) (Refused e) s t did lawful = rw did lawful
IsLawful-Effect c (Stat id) a s t did lawful = rw did lawful
IsLawful-Effect c (Set x) a s t (inl same) lawful = rw same lawful
IsLawful-Effect c (Set x) a s t (inr did) lawful =
    changed x.id s did.place did.q (with_settings x did.q) t did.changes refl refl
    (IsLawfulQueue-set x did.q did.small (of_queue x.id s did.place did.q did.changes.stands lawful)) lawful
IsLawful-Effect c (Remove id) Done s t did lawful = rw did.after
    (IsLawful-remove s did.place did.stands.place_of.within lawful)
IsLawful-Effect c (Remove id) (Id n) s t did lawful = rw did lawful
IsLawful-Effect c (Remove id) (Sent n) s t did lawful = rw did lawful
IsLawful-Effect c (Remove id) (Received m) s t did lawful = rw did lawful
IsLawful-Effect c (Remove id) (Info i) s t did lawful = rw did lawful
IsLawful-Effect c (Remove id) (Refused e) s t did lawful = rw did lawful

pub IsLawful-Leads : (callers : List Caller) (e : Entry) (s t : State) → IsLawful s → Leads callers e s t → IsLawful t
IsLawful-Leads callers (Decided seat call answer) s t lawful leads = of_caller (caller_at callers seat) leads
  where
    of_caller : (o : Option Caller) → outcome_for o call s ≡ Some (answer, t) → IsLawful t
    of_caller None at = absurd cc
    of_caller (Some c) at = IsLawful-Effect c call answer s t (Effect-outcome c call answer s t at) lawful
IsLawful-Leads callers Stopped s t lawful (running, now) = rw now (record {
  few_queues = lawful.few_queues;
  id_begun = lawful.id_begun;
  ids_end = lawful.ids_end;
  queues_lawful = lawful.queues_lawful;
  ids_given = lawful.ids_given;
  ids_ascend = lawful.ids_ascend;
  keys_apart = lawful.keys_apart;
})

pub IsLawful-LeadsAlong : (callers : List Caller) (es : List Entry) (s t : State) → IsLawful s →
    LeadsAlong callers es s t → IsLawful t
IsLawful-LeadsAlong callers [] s t lawful same = rw same lawful
IsLawful-LeadsAlong callers (e ∷ es) s t lawful (m, first, rest) =
    IsLawful-LeadsAlong callers es m t (IsLawful-Leads callers e s m lawful first) rest
