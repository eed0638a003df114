-- The Queue without the message that a receive takes.
use Rattle.xsi_receive.proofs.Names.{IsLawfulQueue, List, Message, None, Option, Queue, Some, [], ap, arith, before_place, first_of, get_or_from_slice_get, last_of, length, length-map, length-remove, message_entry, queue_entry, refl, remove, serials, serials_of_type, slice_get, slice_get_within, suc, sum_by-remove, sym, total_bytes, type_entry, types, where_none, zero, ℕ, ℤ, ◌+◌, ◌-◌, ◌<◌, ◌∙◌, ◌∷◌, ◌≡◌, ◌≤◌}
use Rattle.type_chains.proofs.FirstOfType.{IsTakenAt}
use Rattle.type_chains.proofs.Without.{first_after, first_left, last_before, last_left}
use Rattle.type_chains.proofs.MessagesWithout.{next_is, previous_is, serials_left, without}
use Rattle.type_chains.proofs.TypeWithout.{higher_is, lower_is, types_go}

-- ---- both ends of a list without one

beyond : {X : Type 0} (xs : List X) (i : ℕ) → i < length xs → slice_get xs i ≡ None → ⊥
beyond [] i within none = omega (arith, within)
beyond (x ∷ xs) zero within none = absurd cc
beyond (x ∷ xs) (suc i) within none = beyond xs i (omega (arith, within)) none

end : {X : Type 0} (xs : List X) (i : ℕ) → i < length xs → slice_get xs (suc i) ≡ None → suc i ≡ length xs
end [] i within none = absurd (omega (arith, within))
end (x ∷ []) zero within none = refl
end (x ∷ y ∷ ys) zero within none = absurd cc
end (x ∷ []) (suc i) within none = absurd (omega (arith, within))
end (x ∷ y ∷ ys) (suc i) within none = ap suc (end (y ∷ ys) i (omega (arith, within)) none)

first_now : {X : Type 0} (xs : List X) (i : ℕ) → i < length xs →
    first_of (remove xs i) ≡ where_none (before_place xs i) (slice_get xs (suc i)) (first_of xs)
first_now xs zero within = first_after xs
first_now {X} xs (suc i) within = by (slice_get xs i) refl
  where
    by : (o : Option X) → slice_get xs i ≡ o →
        first_of (remove xs (suc i)) ≡ where_none (slice_get xs i) (slice_get xs (suc (suc i))) (first_of xs)
    by None none = absurd (beyond xs i (omega (arith, within)) none)
    by (Some x) is = rw is (first_left xs (suc i) (omega arith))

last_now : {X : Type 0} (xs : List X) (i : ℕ) → i < length xs →
    last_of (remove xs i) ≡ where_none (slice_get xs (suc i)) (before_place xs i) (last_of xs)
last_now {X} xs i within = by (slice_get xs (suc i)) refl
  where
    by : (o : Option X) → slice_get xs (suc i) ≡ o →
        last_of (remove xs i) ≡ where_none (slice_get xs (suc i)) (before_place xs i) (last_of xs)
    by None none = rw none (last_before xs i within (end xs i within none))
    by (Some x) is = rw is (last_left xs i (slice_get_within xs (suc i) x is))

module _ (q : Queue) (lawful : IsLawfulQueue q) (pid moment i : ℕ) (m : Message)
    (taken : IsTakenAt m q.messages i) where
  within : i < length q.messages
  within = slice_get_within q.messages i m taken.at

  -- the message is counted, and so are its bytes
  pub counted : 1 ≤ length q.messages
  counted = omega (arith, within)

  pub fewer_bytes : total_bytes (remove q.messages i) + length m.bytes ≡ total_bytes q.messages
  fewer_bytes =
      let sum = sum_by-remove (λ (m : Message). length m.bytes) q.messages i m within in
      let its = ap (λ (x : Message). length x.bytes) (get_or_from_slice_get q.messages i m m taken.at) in
      omega (arith, sum, its)

  first_is : first_of (serials (remove q.messages i))
      ≡ where_none (message_entry q m).previous (message_entry q m).next (first_of (serials q.messages))
  first_is =
      let long = length-map q.messages (λ (n : Message). n.serial) in
      ap first_of (serials_left q lawful pid moment i m taken)
      ∙ first_now (serials q.messages) i (omega (arith, within, long))
      ∙ sym (ap (λ (o : Option ℕ). where_none o (message_entry q m).next (first_of (serials q.messages)))
      (previous_is q lawful pid moment i m taken)
      ∙ ap (λ (o : Option ℕ). where_none (before_place (serials q.messages) i) o (first_of (serials q.messages)))
      (next_is q lawful pid moment i m taken))

  last_is : last_of (serials (remove q.messages i))
      ≡ where_none (message_entry q m).next (message_entry q m).previous (last_of (serials q.messages))
  last_is =
      let long = length-map q.messages (λ (n : Message). n.serial) in
      ap last_of (serials_left q lawful pid moment i m taken)
      ∙ last_now (serials q.messages) i (omega (arith, within, long))
      ∙ sym (ap (λ (o : Option ℕ). where_none o (message_entry q m).previous (last_of (serials q.messages)))
      (next_is q lawful pid moment i m taken)
      ∙ ap (λ (o : Option ℕ). where_none (slice_get (serials q.messages) (suc i)) o (last_of (serials q.messages)))
      (previous_is q lawful pid moment i m taken))

  -- the Queue with another lowest type
  pub queue_without : (lowest : Option ℤ) → first_of (types (remove q.messages i)) ≡ lowest →
      queue_entry (without pid moment i q) ≡ record (queue_entry q) {
        cbytes = total_bytes q.messages - length m.bytes;
        qnum = length q.messages - 1;
        lrpid = pid;
        rtime = moment;
        first = where_none (message_entry q m).previous (message_entry q m).next (first_of (serials q.messages));
        last = where_none (message_entry q m).next (message_entry q m).previous (last_of (serials q.messages));
        lowest = lowest;
      }
  queue_without lowest is =
      let bytes : total_bytes (remove q.messages i) ≡ total_bytes q.messages - length m.bytes =
      omega (arith, fewer_bytes) in
      let fewer = length-remove q.messages i within in
      let number : length (remove q.messages i) ≡ length q.messages - 1 = omega (arith, fewer) in
      λ l. record {
        id = q.id;
        key = q.key;
        qbytes = q.qbytes;
        cbytes = bytes l;
        qnum = number l;
        lspid = q.lspid;
        lrpid = pid;
        stime = q.stime;
        rtime = moment;
        ctime = q.ctime;
        next_serial = q.next_serial;
        first = first_is l;
        last = last_is l;
        lowest = is l;
        uid = q.permissions.uid;
        gid = q.permissions.gid;
        cuid = q.permissions.cuid;
        cgid = q.permissions.cgid;
        mode = q.permissions.mode;
      }

  -- it is raised where it was the message's own, and the last of it goes
  pub lowest_without : first_of (serials_of_type m.mtype (remove q.messages i)) ≡ None → (j : ℕ) →
      slice_get (types q.messages) j ≡ Some m.mtype → first_of (types (remove q.messages i))
      ≡ where_none (type_entry q m.mtype).lower (type_entry q m.mtype).higher (first_of (types q.messages))
  lowest_without none j at_j = ap first_of (types_go q pid moment i m taken none j at_j)
      ∙ first_now (types q.messages) j (slice_get_within (types q.messages) j m.mtype at_j)
      ∙ sym (ap (λ (o : Option ℤ). where_none o (type_entry q m.mtype).higher (first_of (types q.messages)))
      (lower_is q pid moment i m taken none j at_j)
      ∙ ap (λ (o : Option ℤ). where_none (before_place (types q.messages) j) o (first_of (types q.messages)))
      (higher_is q pid moment i m taken none j at_j))
