-- The Messages of a queue without the message that a receive takes.
use Rattle.queue_model.proofs.ListLemmas.{map-remove}
use Rattle.queue_model.specs.Lawful.{IsLawfulQueue}
use Rattle.queue_model.specs.declared.message.Message.{Message}
use Rattle.queue_model.specs.declared.queue.Queue.{Queue}
use Rattle.queue_records.specs.declared.message_entry.MessageEntry.{MessageEntry}
use Rattle.std.proofs.Common.{Bool, List, None, Option, Some, ap, arith, false, get_or, inl, inr, length, refl, subst, suc, sym, true, ℕ, ℤ, ◌+◌, ◌<◌, ◌∙◌, ◌∷◌, ◌≡◌, ◌≤◌, ◌⊎◌}
use Rattle.std.proofs.lemmas.Bool.{cases_lt}
use Rattle.std.proofs.lemmas.Bool.Decides.{Decides-eqb, Decides-int_eq, nat_tests}
use Rattle.std.proofs.lemmas.List.{get_or-map, length-map}
use Rattle.std.proofs.lemmas.Option.{get_or_from_slice_get, slice_get-get_or, slice_get-map, slice_get_within}
use Rattle.std.specs.List.{AllPairs, find, position_or_len, remove}
use Rattle.std.specs.Ordering.{int_eq}
use Rattle.std.specs.Prelude.{option_map, slice_get, ◌==◌, ◌≢◌}
use Rattle.type_chains.proofs.FirstOfType.{IsTakenAt, serials_of_its_type, serials_of_other_type}
use Rattle.type_chains.proofs.Without.{AreToldApart, before_it, before_next, before_other, behind_it, behind_other, behind_previous, find_none_left, find_without}
use Rattle.type_chains.specs.Entries.{is_number, message_entry}
use Rattle.type_chains.specs.Lists.{serials, serials_of_type}
use Rattle.type_chains.specs.Neighbours.{before, before_place, behind, first_of}
use Rattle.type_chains.specs.RecordOf.{has_serial}

-- the queue without the message at a place
abbrev pub without : ℕ → ℕ → ℕ → Queue → Queue
without pid moment i q = record q { lrpid = pid; rtime = moment; messages = remove q.messages i }

other_number : (a b : ℕ) → a ≢ b → (a == b) ≡ false
other_number a b apart = grind (arith, nat_tests, apart)

-- behind an element, a list is as behind its other head
behind_head : (n x : ℕ) (xs : List ℕ) → x ≢ n → behind (is_number n) (x ∷ xs) ≡ behind (is_number n) xs
behind_head n x xs apart =
    let over : (x == n) ≡ false = other_number x n apart in
    let place : 1 + position_or_len (is_number n) xs ≡ suc (position_or_len (is_number n) xs) = omega arith in
    rw over (ap (slice_get xs) place)

-- serials ascend as their messages do
pub serials_rise : (ms : List Message) (n : Message) → AllPairs (λ (a b : Message). a.serial < b.serial) ms →
    AllPairs (λ (a b : ℕ). a < b) (serials ms)
serials_rise ms n rise k l d before within =
    let long = length-map ms (λ (n : Message). n.serial) in
    let inside : l < length ms = omega (arith, within, long) in
    let less = rise k l n before inside in
    let one = get_or-map (λ (n : Message). n.serial) ms k n d (omega (arith, before, inside)) in
    let two = get_or-map (λ (n : Message). n.serial) ms l n d inside in
    omega (arith, less, one, two)

pub told_apart : (ns : List ℕ) → AllPairs (λ (a b : ℕ). a < b) ns → AreToldApart is_number ns
told_apart ns rise k l d before within =
    let less = rise k l d before within in
    (other_number _ _ (λ same. omega (arith, less, same)), other_number _ _ (λ same. omega (arith, less, same)))

module _ (q : Queue) (lawful : IsLawfulQueue q) (pid moment i : ℕ) (m : Message)
    (taken : IsTakenAt m q.messages i) where
  abbrev left : Queue
  left = without pid moment i q

  abbrev entry : MessageEntry
  entry = message_entry q m

  pub serials_left : serials (remove q.messages i) ≡ remove (serials q.messages) i
  serials_left = map-remove (λ (n : Message). n.serial) q.messages i

  pub serial_at : (k : ℕ) (n : Message) → slice_get q.messages k ≡ Some n
      → slice_get (serials q.messages) k ≡ Some n.serial
  serial_at k n at = slice_get-map (λ (n : Message). n.serial) q.messages k
      ∙ ap (option_map (λ (n : Message). n.serial)) at

  rise : AllPairs (λ (a b : ℕ). a < b) (serials q.messages)
  rise = serials_rise q.messages m lawful.serials_ascend

  pub serials_apart : AreToldApart is_number (serials q.messages)
  serials_apart = told_apart (serials q.messages) rise

  own_number : (n : ℕ) → is_number n n ≡ true
  own_number n = (Decides-eqb n n).1 refl

  -- the next of its type is the same for each other message
  next_of_type_left : (n : Message) → n.serial ≢ m.serial →
      (message_entry left n).next_of_type ≡ (message_entry q n).next_of_type
  next_of_type_left n apart = by (int_eq m.mtype n.mtype) refl
    where
      by : (b : Bool) → int_eq m.mtype n.mtype ≡ b →
          behind (is_number n.serial) (serials_of_type n.mtype (remove q.messages i))
          ≡ behind (is_number n.serial) (serials_of_type n.mtype q.messages)
      by true e =
          let same : m.mtype ≡ n.mtype = (Decides-int_eq m.mtype n.mtype).0 e in
          let its = subst (λ (t : ℤ). serials_of_type t q.messages
          ≡ m.serial ∷ serials_of_type t (remove q.messages i)) same (serials_of_its_type q.messages i m taken) in
          sym (ap (behind (is_number n.serial)) its
          ∙ behind_head n.serial m.serial _ (λ is. apart (sym is)))
      by false e =
          let apart_types : m.mtype ≢ n.mtype = λ same.
          let clash : true ≡ false = sym ((Decides-int_eq m.mtype n.mtype).1 same) ∙ e in absurd cc in
          ap (behind (is_number n.serial)) (serials_of_other_type q.messages i m taken n.mtype apart_types)

  pub serials_other : (k : ℕ) (n : Message) → slice_get q.messages k ≡ Some n → k ≢ i → n.serial ≢ m.serial
  serials_other k n at other same =
      let inside = slice_get_within q.messages k n at in
      let its = slice_get_within q.messages i m taken.at in
      let here = get_or_from_slice_get q.messages k n m at in
      let there = get_or_from_slice_get q.messages i m m taken.at in
      let one = ap (λ (x : Message). x.serial) here in
      let two = ap (λ (x : Message). x.serial) there in
      by (cases_lt k i) inside its one two
    where
      by : (k < i) ⊎ (i ≤ k) → k < length q.messages → i < length q.messages →
          (get_or q.messages k m).serial ≡ n.serial → (get_or q.messages i m).serial ≡ m.serial → ⊥
      by (inl below) inside its one two =
          let less = lawful.serials_ascend k i m below its in omega (arith, less, one, two, same)
      by (inr above) inside its one two =
          let less = lawful.serials_ascend i k m (omega (arith, above, other)) inside in
          omega (arith, less, one, two, same)

  -- ---- the entries

  module _ (k : ℕ) (n : Message) (at : slice_get q.messages k ≡ Some n) where
    made : (previous next : Option ℕ) → k ≢ i →
        before (is_number n.serial) (serials (remove q.messages i)) ≡ previous →
        behind (is_number n.serial) (serials (remove q.messages i)) ≡ next →
        message_entry left n ≡ record (message_entry q n) { previous = previous; next = next }
    made previous next other one two =
        let three = next_of_type_left n (serials_other k n at other) in
        λ l. record {
          id = q.id;
          serial = n.serial;
          mtype = n.mtype;
          sender = n.sender;
          previous = one l;
          next = two l;
          next_of_type = three l;
          body = n.bytes;
        }

    abbrev numbers : List ℕ
    numbers = serials q.messages

    moved_before : before (is_number n.serial) (serials (remove q.messages i))
        ≡ before (is_number n.serial) (remove numbers i)
    moved_before = ap (before (is_number n.serial)) serials_left

    moved_behind : behind (is_number n.serial) (serials (remove q.messages i))
        ≡ behind (is_number n.serial) (remove numbers i)
    moved_behind = ap (behind (is_number n.serial)) serials_left

    at_n : slice_get numbers k ≡ Some n.serial
    at_n = serial_at k n at

    at_m : slice_get numbers i ≡ Some m.serial
    at_m = serial_at i m taken.at

    same_before : k ≢ i → k ≢ suc i → before (is_number n.serial) (remove numbers i)
        ≡ before (is_number n.serial) numbers
    same_before = before_other is_number numbers i m.serial serials_apart own_number at_m k n.serial at_n

    same_behind : k ≢ i → suc k ≢ i → behind (is_number n.serial) (remove numbers i)
        ≡ behind (is_number n.serial) numbers
    same_behind = behind_other is_number numbers i m.serial serials_apart own_number at_m k n.serial at_n

    -- one that does not stand beside it stays
    pub entry_far : k ≢ i → k ≢ suc i → suc k ≢ i → message_entry left n ≡ message_entry q n
    entry_far here next previous =
        made _ _ here (moved_before ∙ same_before here next) (moved_behind ∙ same_behind here previous)

    -- the one before it is followed by the one behind it
    pub entry_previous : suc k ≡ i → message_entry left n ≡ record (message_entry q n) { next = entry.next }
    entry_previous here = made _ _ (omega (arith, here))
        (moved_before ∙ same_before (omega (arith, here)) (omega (arith, here)))
        (moved_behind ∙ behind_previous is_number numbers i m.serial serials_apart own_number at_m k n.serial at_n here)

    -- the one behind it follows the one before it
    pub entry_next : k ≡ suc i → message_entry left n ≡ record (message_entry q n) { previous = entry.previous }
    entry_next here = made _ _ (omega (arith, here))
        (moved_before ∙ before_next is_number numbers i m.serial serials_apart own_number at_m k n.serial at_n here)
        (moved_behind ∙ same_behind (omega (arith, here)) (omega (arith, here)))

  -- ---- its own links

  pub previous_is : entry.previous ≡ before_place (serials q.messages) i
  previous_is = before_it is_number (serials q.messages) i m.serial serials_apart own_number (serial_at i m taken.at)

  pub next_is : entry.next ≡ slice_get (serials q.messages) (suc i)
  next_is = behind_it is_number (serials q.messages) i m.serial serials_apart own_number (serial_at i m taken.at)

  pub next_of_type_is : entry.next_of_type ≡ first_of (serials_of_type m.mtype (remove q.messages i))
  next_of_type_is = ap (behind (is_number m.serial)) (serials_of_its_type q.messages i m taken)
      ∙ at_head (serials_of_type m.mtype (remove q.messages i))
    where
      at_head : (xs : List ℕ) → behind (is_number m.serial) (m.serial ∷ xs) ≡ first_of xs
      at_head xs = let here : (m.serial == m.serial) ≡ true = own_number m.serial in rw here refl

  -- ---- searches by serial

  pub none_at_its_serial : find (has_serial m.serial) (remove q.messages i) ≡ None
  none_at_its_serial = find_none_left (has_serial m.serial) q.messages i (slice_get_within q.messages i m taken.at)
      (λ k d within other. other_number _ _ (serials_other k (get_or q.messages k d)
      (slice_get-get_or q.messages k d within) other))

  pub same_at_other_serial : (n : ℕ) → m.serial ≢ n → find (has_serial n) (remove q.messages i)
      ≡ find (has_serial n) q.messages
  same_at_other_serial n apart = find_without (has_serial n) q.messages i m taken.at (other_number m.serial n apart)
