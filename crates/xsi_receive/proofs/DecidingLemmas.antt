-- What becomes of a message that is taken, and what is decided then.
use Rattle.xsi_receive.proofs.Names.{All, All-nil, Answers, Begins, Bool, Caller, Contains, Decides, Goes, InSlot, IsAnswered, IsFiled, IsItsType, IsLawfulQueue, KnowsHead, KnowsRemoval, List, LockName, Message, MessageHead, None, Option, Queue, QueueEntry, Receive, ReceiveArguments, Relink, Removal, Roomful, Some, State, TypeEntry, TypeLeft, Write, [], ap, arith, deletion_by, each_all, fine, first_of, guard_of, head_of, higher_by, is_counted, key_of_message, key_of_type, key_written, left_by, lowest_left, message_entry, nat_le, own_by, position_or_len, queue_entry, queue_left, receive_found, received, refl, removal_plan, remove, selects, serials_of_type, slot_all, slots_of, somes, subst, sym, to_higher, to_lower, to_next, to_previous, true, type_entry, types, where_none, with_queue, without_message, ℕ, ℤ, ◌&&◌, ◌∙◌, ◌∷◌, ◌≡◌}
use Rattle.page_locks.specs.declared.lock.LockName.TheVariants as names
use Rattle.queue_model.specs.declared.answer.Answer.TheVariants as answers
use Rattle.type_chains.proofs.FirstOfType.{IsTakenAt, taken_at}
use Rattle.xsi_receive.proofs.FitLemmas.{place_of}
use Rattle.xsi_receive.proofs.KnowingLemmas.{on_selected}
use Rattle.xsi_receive.proofs.LeadLemmas.{in_order, leads}
use Rattle.type_chains.proofs.MessagesWithout.{next_of_type_is}
use Rattle.xsi_receive.proofs.QueueLemmas.{counted, fewer_bytes, lowest_without, queue_without}
use Rattle.type_chains.proofs.TypeWithout.{types_stay}
use Rattle.type_chains.proofs.TypesWithout.{its_type_stands}

both_pass : (a b : Bool) → a ≡ true → b ≡ true → (a && b) ≡ true
both_pass a b one two = rw (one, two) refl

lowest_same : (lower higher lowest : Option ℤ) →
    where_none lower higher lowest ≡ lowest_left (Goes lower higher) lowest
lowest_same None higher lowest = refl
lowest_same (Some t) higher lowest = refl

-- ---- what becomes of its queue

module _ (c : Caller) (a : ReceiveArguments) (e : QueueEntry) (m : MessageHead) (t : Option TypeEntry) (room : Roomful)
    (s : State) (filed : IsFiled s) (known : KnowsHead c a e m t room s) where
  abbrev q : Queue
  q = known.selects.its.queue

  abbrev x : Message
  x = known.selects.message

  abbrev i : ℕ
  i = position_or_len (selects a.mtype q.messages) q.messages

  its_taken : IsTakenAt x q.messages i
  its_taken = taken_at a.mtype q.messages x known.selects.is_selected

  lawful : IsLawfulQueue q
  lawful = fine s filed.lawful a.id q known.selects.its.found

  -- the Queue counts the message
  pub is_counted_here : is_counted e m ≡ true
  is_counted_here =
      let body = ap (λ (h : MessageHead). h.bytes) known.entry in
      let bytes = ap (λ (x : QueueEntry). x.cbytes) known.selects.its.entry in
      let number = ap (λ (x : QueueEntry). x.qnum) known.selects.its.entry in
      let fewer = fewer_bytes q lawful c.pid a.moment i x its_taken in
      let some = counted q lawful c.pid a.moment i x its_taken in
      let one : nat_le m.bytes e.cbytes ≡ true = grind (arith, body, bytes, fewer) in
      let two : nat_le 1 e.qnum ≡ true = grind (arith, number, some) in
      both_pass _ _ one two

  abbrev made : TypeLeft → Removal
  made left = record { queue = queue_left c.pid a e m left; message = m; type_left = left }

  same_queue : (left : TypeLeft) → queue_left c.pid a e m left
      ≡ queue_left c.pid a (queue_entry q) (head_of (message_entry q x)) left
  same_queue left = ap (λ (y : QueueEntry). queue_left c.pid a y m left) known.selects.its.entry
      ∙ ap (λ (y : MessageHead). queue_left c.pid a (queue_entry q) y left) known.entry

  next_by : m.next_of_type ≡ first_of (serials_of_type x.mtype (remove q.messages i))
  next_by = ap (λ (h : MessageHead). h.next_of_type) known.entry
      ∙ next_of_type_is q lawful c.pid a.moment i x its_taken

  -- its Type is not needed, or is still to be read
  abbrev pub known_alone : KnowsHead c a e m None room s
  known_alone = record {
    selects = known.selects;
    entry = known.entry;
    mtype = tt;
    fits = known.fits;
    bytes = known.bytes;
  }

  -- a message of its type is left
  pub begins : (f : ℕ) → m.next_of_type ≡ Some f → KnowsRemoval c a (made (Begins f)) room s
  begins f some = record {
    before = e;
    known = known_alone;
    queue = same_queue (Begins f)
        ∙ sym (queue_without q lawful c.pid a.moment i x its_taken (first_of (types q.messages))
        (ap first_of (types_stay q c.pid a.moment i x its_taken f (sym next_by ∙ some))));
    type_left = ap (λ (o : Option ℕ). left_by o (type_entry q x.mtype)) (sym some);
  }

  -- it was the last of its type
  pub goes : m.next_of_type ≡ None → (entry : TypeEntry) → t ≡ Some entry →
      KnowsRemoval c a (made (Goes entry.lower entry.higher)) room s
  goes none entry is =
      let (j, at_j) = place_of (types q.messages) x.mtype (its_type_stands q.messages i x its_taken) in
      let own : entry ≡ type_entry q x.mtype = subst (λ (o : Option TypeEntry). IsItsType o (type_entry q x.mtype))
      is known.mtype in
      let type_is = type_entry q x.mtype in
      let lefts : Goes entry.lower entry.higher ≡ Goes type_is.lower type_is.higher =
      ap (λ (y : TypeEntry). Goes y.lower y.higher) own in
      record {
        before = e;
        known = known_alone;
        queue = same_queue (Goes entry.lower entry.higher)
            ∙ ap (queue_left c.pid a (queue_entry q) (head_of (message_entry q x))) lefts
            ∙ ap (λ (o : Option ℤ). record (queue_left c.pid a (queue_entry q) (head_of (message_entry q x))
            (Goes type_is.lower type_is.higher)) { lowest = o })
            (sym (lowest_same type_is.lower type_is.higher (first_of (types q.messages))))
            ∙ sym (queue_without q lawful c.pid a.moment i x its_taken _
            (lowest_without q lawful c.pid a.moment i x its_taken (sym next_by ∙ none) j at_j));
        type_left = lefts ∙ ap (λ (o : Option ℕ). left_by o type_is) (sym none);
      }

-- ---- the decision

module _ (c : Caller) (a : ReceiveArguments) (r : Removal) (room : Roomful) (s : State) (filed : IsFiled s)
    (known : KnowsRemoval c a r room s) where
  abbrev queue : Queue
  queue = known.known.selects.its.queue

  abbrev message : Message
  message = known.known.selects.message

  abbrev place : ℕ
  place = position_or_len (selects a.mtype queue.messages) queue.messages

  abbrev whole : Removal
  whole = record {
    queue = queue_entry (without_message c.pid a queue);
    message = head_of (message_entry queue message);
    type_left = left_by (message_entry queue message).next_of_type (type_entry queue message.mtype);
  }

  is_whole : whole ≡ r
  is_whole =
      let one = sym known.queue in
      let two = sym known.known.entry in
      let three = ap (λ (o : Option ℕ). left_by o (type_entry queue message.mtype))
      (ap (λ (h : MessageHead). h.next_of_type) two) ∙ sym known.type_left in
      λ l. record { queue = one l; message = two l; type_left = three l }

  abbrev names_held : List LockName
  names_held = names.Queue a.id ∷ []

  abbrev IsHis : Write → Type 0
  IsHis w = Contains names_held (guard_of (key_written w))

  held : (n : ℕ) → n ≡ a.id → Contains names_held (names.Queue n)
  held n same = (0, omega arith, ap names.Queue (sym same))

  own_his : (mtype : ℤ) (left : TypeLeft) → InSlot IsHis (own_by a.id mtype left)
  own_his mtype (Begins f) = held a.id refl
  own_his mtype (Goes lower higher) = slot_all IsHis (λ (t : ℤ). Relink (key_of_type a.id t) (to_higher higher))
      lower (λ t is. held a.id refl)

  higher_his : (left : TypeLeft) → InSlot IsHis (higher_by a.id left)
  higher_his (Begins f) = tt
  higher_his (Goes lower higher) = slot_all IsHis (λ (t : ℤ). Relink (key_of_type a.id t) (to_lower lower))
      higher (λ t is. held a.id refl)

  deletion_his : (mtype : ℤ) (left : TypeLeft) → InSlot IsHis (deletion_by a.id mtype left)
  deletion_his mtype (Begins f) = tt
  deletion_his mtype (Goes lower higher) = held a.id refl

  all_his : All IsHis (somes (slots_of a.id whole))
  all_his = each_all IsHis (slots_of a.id whole) (
    held queue.id known.known.selects.its.its_id,
    (
      slot_all IsHis (λ (serial : ℕ). Relink (key_of_message a.id serial) (to_next whole.message.next))
          whole.message.previous (λ n is. held a.id refl),
      (
        slot_all IsHis (λ (serial : ℕ). Relink (key_of_message a.id serial) (to_previous whole.message.previous))
            whole.message.next (λ n is. held a.id refl),
        (
          own_his message.mtype whole.type_left,
          (higher_his whole.type_left, (held a.id refl, (deletion_his message.mtype whole.type_left, tt))),
        ),
      ),
    ),
  )

  answered : IsAnswered c (Receive a) names_held room.bytes s (received whole) (removal_plan a.id whole)
  answered =
      let k = known.known in
      let taken = taken_at a.mtype queue.messages message k.selects.is_selected in
      let after = with_queue a.id (without_message c.pid a queue) s in
      let now = on_selected c a known.before s k.selects.its k.selects.may_read
      ∙ ap (λ (o : Option Message). receive_found o c a s queue) k.selects.is_selected
      ∙ rw k.fits refl in
      record {
        after = after;
        outcome = now ∙ ap (λ (bytes : List ℕ). Some (
          answers.Received (record {
            serial = message.serial;
            sender = message.sender;
            mtype = message.mtype;
            bytes =
                bytes;
          }),
          after,
        )) (sym k.bytes);
        leads = leads s filed a.id queue k.selects.its.found k.selects.its.its_id c.pid a.moment place message taken;
        own = record {
          trials = All-nil _;
          writes = all_his;
        };
        idle = λ never. absurd never;
        ordered = record {
          trials = tt;
          writes = in_order s filed a.id queue k.selects.its.found k.selects.its.its_id c.pid a.moment place message
              taken;
        };
      }

  pub decides_taken : Decides c (Receive a) names_held room.bytes s (Answers (received r)) (removal_plan a.id r)
  decides_taken = subst (λ (x : Removal). IsAnswered c (Receive a) names_held room.bytes s (received x)
      (removal_plan a.id x))
      is_whole answered
