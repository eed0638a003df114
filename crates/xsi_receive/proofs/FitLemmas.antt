-- Each write of a Receive makes the record that stands at its key afterwards.
use Rattle.xsi_receive.proofs.Names.{Contains, Delete, Fills, InSlot, IsFiled, IsLawful, IsLawful-set, IsLawfulQueue-remove, IsSome, List, Message, MessageEntry, MessageLinks, None, Option, Queue, Relink, Replace, Some, State, Stays, TypeEntry, TypeLinks, Write, ap, arith, before_place, by_number, by_serial, false, find, find_at, fine, first_of, found_new, get_or, get_or_from_slice_get, has_id, has_number, key_of_message, key_of_queue, key_of_type, length, length-queue, link_to, linked, mapped, message_entry, message_record, message_stands, nat_tests, option_and_then, option_map, pos, position_or_len, queue_entry, queue_stands, record_of, refl, relinked, remove, same_number, serials, serials_of_type, slice_get, slice_get-get_or, slice_get-map, slice_get_within, subst, suc, sym, to_first, to_higher, to_lower, to_next, to_previous, type_entry, type_number, type_record, type_stands, typed, types, value_length, with_message_links, with_queue, with_type_links, zero, ℕ, ℤ, ◌<◌, ◌==◌, ◌∙◌, ◌≡◌, ◌≢◌, ◌≤ℤ◌}
use Rattle.queue_records.specs.declared.links.Links.TheVariants as links
use Rattle.queue_records.specs.declared.record.Record.TheVariants as records
use Rattle.type_chains.proofs.FirstOfType.{IsTakenAt}
use Rattle.type_chains.proofs.Without.{find_none_left, find_without}
use Rattle.type_chains.proofs.MessagesWithout.{entry_next, entry_previous, none_at_its_serial, same_at_other_serial, serials_other, without}
use Rattle.type_chains.proofs.TypeWithout.{own_entry, place_other, type_higher, type_lower, types_go, types_stay}
use Rattle.type_chains.proofs.TypesWithout.{its_type_stands}

pub stands_at : {X : Type 0} (xs : List X) (k : ℕ) (x : X) → slice_get xs k ≡ Some x → Contains xs x
stands_at xs k x at = (k, slice_get_within xs k x at, get_or_from_slice_get xs k x x at)

pub place_of : {X : Type 0} (xs : List X) (x : X) → Contains xs x → (k : ℕ) × (slice_get xs k ≡ Some x)
place_of xs x (k, within, is) = (k, slice_get-get_or xs k x within ∙ ap Some is)

-- a number that is not another
pub apart_numbers : (a b : ℕ) → a ≢ b → (a == b) ≡ false
apart_numbers a b apart = grind (arith, nat_tests, apart)

pub swapped : (a b : ℕ) → (a == b) ≡ false → (b == a) ≡ false
swapped a b apart = grind (arith, nat_tests, apart)

-- a link that is set leads there
link_leads : {T : Type 0} (there before : Option T) → linked (link_to there) before ≡ there
link_leads None before = refl
link_leads (Some x) before = refl

-- what stands before a place, number by number
pub numbered : (ms : List Message) (k n : ℕ) → slice_get (serials ms) k ≡ Some n →
    (x : Message) × (slice_get ms k ≡ Some x) × (x.serial ≡ n)
numbered ms k n is = mapped (λ (x : Message). x.serial) (slice_get ms k) n
    (sym (slice_get-map (λ (x : Message). x.serial) ms k) ∙ is)

module _ (s : State) (filed : IsFiled s) (id : ℕ) (q : Queue) (found : find (has_id id) s.queues ≡ Some q)
    (its : q.id ≡ id) (pid moment i : ℕ) (m : Message) (taken : IsTakenAt m q.messages i) where
  abbrev new : Queue
  new = without pid moment i q

  abbrev after : State
  after = with_queue id new s

  abbrev Right : Write → Type 0
  Right w = Fills (record_of s) (record_of after) w

  pub lawful_after : IsLawful after
  lawful_after =
      let place = position_or_len (has_id id) s.queues in
      let at = get_or_from_slice_get s.queues place q q (sym (find_at (has_id id) s.queues) ∙ found) in
      IsLawful-set s place q new at refl refl
      (IsLawfulQueue-remove q i pid moment (slice_get_within q.messages i m taken.at) (fine s filed.lawful id q found))
      filed.lawful

  pub message_after : (serial : ℕ) → record_of after (key_of_message id serial) ≡ message_record serial new
  message_after serial = ap (option_and_then (message_record serial)) (found_new id s q new found refl refl)

  pub type_after : (t : ℤ) → record_of after (key_of_type id t) ≡ type_record (type_number t) new
  type_after t = ap (option_and_then (type_record (type_number t))) (found_new id s q new found refl refl)

  -- ---- the Queue

  pub queue_fits : Right (Replace (records.Queue (queue_entry new)))
  queue_fits = (
    ap (λ (n : ℕ). record_of after (key_of_queue n)) its
        ∙ queue_stands after lawful_after id new (found_new id s q new found refl refl),
    ap (option_map value_length)
        (ap (λ (n : ℕ). record_of s (key_of_queue n)) its ∙ queue_stands s filed.lawful id q found)
        ∙ ap Some (length-queue (queue_entry q) ∙ sym (length-queue (queue_entry new))),
  )

  -- ---- Messages

  message_fits : (k : ℕ) (n : Message) → slice_get q.messages k ≡ Some n → k ≢ i → (l : MessageLinks) →
      message_entry new n ≡ with_message_links l (message_entry q n) →
      Right (Relink (key_of_message id n.serial) (links.Message l))
  message_fits k n at other l same =
      let lawful = fine s filed.lawful id q found in
      let stands = stands_at q.messages k n at in
      let was = message_stands s filed.lawful id q found n stands in
      let apart = serials_other q lawful pid moment i m taken k n at other in
      let kept = same_at_other_serial q lawful pid moment i m taken n.serial (λ same. apart (sym same))
      ∙ by_serial s filed.lawful id q found n stands in
      let now = message_after n.serial
      ∙ ap (option_map (λ (x : Message). records.Message (message_entry new x))) kept
      ∙ ap (λ (e : MessageEntry). Some (records.Message e)) same in
      ((message_entry q n, was), now ∙ sym (ap (option_map (relinked (links.Message l))) was))

  pub previous_fits : (place : ℕ) → place ≡ i → (o : Option ℕ) → before_place (serials q.messages) place ≡ o →
      InSlot Right (option_map (λ (serial : ℕ). Relink (key_of_message id serial) (to_next (message_entry q m).next)) o)
  previous_fits place here None is = tt
  previous_fits zero here (Some n) is = absurd cc
  previous_fits (suc k) here (Some n) is =
      let (x, at, same) = numbered q.messages k n is in
      let next = (message_entry q m).next in
      subst (λ (y : ℕ). Right (Relink (key_of_message id y) (to_next next))) same
      (message_fits k x at (omega (arith, here)) (record
      { previous = Stays; next = link_to next; next_of_type = Stays })
      (entry_previous q (fine s filed.lawful id q found) pid moment i m taken k x at here
      ∙ sym (ap (λ (o : Option ℕ). record (message_entry q x) { next = o })
      (link_leads next (message_entry q x).next))))

  pub next_fits : (o : Option ℕ) → slice_get (serials q.messages) (suc i) ≡ o →
      InSlot Right (option_map (λ (serial : ℕ). Relink (key_of_message id serial)
      (to_previous (message_entry q m).previous)) o)
  next_fits None is = tt
  next_fits (Some n) is =
      let (x, at, same) = numbered q.messages (suc i) n is in
      let previous = (message_entry q m).previous in
      subst (λ (y : ℕ). Right (Relink (key_of_message id y) (to_previous previous))) same
      (message_fits (suc i) x at (omega arith)
      (record { previous = link_to previous; next = Stays; next_of_type = Stays })
      (entry_next q (fine s filed.lawful id q found) pid moment i m taken (suc i) x at refl
      ∙ sym (ap (λ (o : Option ℕ). record (message_entry q x) { previous = o })
      (link_leads previous (message_entry q x).previous))))

  pub message_goes : Right (Delete (key_of_message id m.serial))
  message_goes =
      let lawful = fine s filed.lawful id q found in
      let now = message_after m.serial ∙ ap (option_map (λ (x : Message). records.Message (message_entry new x)))
      (none_at_its_serial q lawful pid moment i m taken) in
      let was = message_stands s filed.lawful id q found m (stands_at q.messages i m taken.at) in
      (subst IsSome (sym was) refl, now)

  -- ---- Types

  type_fits : (t : ℤ) → Contains (types q.messages) t → find (has_number (type_number t)) (types new.messages)
      ≡ Some t →
      (l : TypeLinks) → type_entry new t ≡ with_type_links l (type_entry q t) →
      Right (Relink (key_of_type id t) (links.Type l))
  type_fits t stands left l same =
      let was = type_stands s filed.lawful id q found t stands in
      let now = type_after t ∙ ap (option_map (λ (u : ℤ). records.Type (type_entry new u))) left
      ∙ ap (λ (e : TypeEntry). Some (records.Type e)) same in
      ((type_entry q t, was), now ∙ sym (ap (option_map (relinked (links.Type l))) was))

  -- a message of its type is left: the Type begins with another
  pub own_fits : (f : ℕ) → first_of (serials_of_type m.mtype (remove q.messages i)) ≡ Some f →
      Right (Relink (key_of_type id m.mtype) (to_first f))
  own_fits f first =
      let stands = its_type_stands q.messages i m taken in
      let stay = types_stay q pid moment i m taken f first in
      let left = ap (find (has_number (type_number m.mtype))) stay
      ∙ by_number s filed.lawful id q found m.mtype stands in
      type_fits m.mtype stands left (record { first = Some f; last = None; lower = Stays; higher = Stays })
      (own_entry q pid moment i m taken f first)

  -- it was the last of its type: the Type goes, and those beside it are linked
  module _ (none : first_of (serials_of_type m.mtype (remove q.messages i)) ≡ None) (j : ℕ)
      (at_j : slice_get (types q.messages) j ≡ Some m.mtype) where
    pub go : types (remove q.messages i) ≡ remove (types q.messages) j
    go = types_go q pid moment i m taken none j at_j

    own_type_one : pos 1 ≤ℤ m.mtype
    own_type_one = typed s filed.lawful id q found m.mtype (its_type_stands q.messages i m taken)

    -- another type is found as before
    pub found_other : (n : ℕ) → (type_number m.mtype == n) ≡ false →
        find (has_number n) (types new.messages) ≡ find (has_number n) (types q.messages)
    found_other n over = ap (find (has_number n)) go ∙ find_without (has_number n) (types q.messages) j m.mtype at_j
        over

    other_number : (k : ℕ) (t : ℤ) → slice_get (types q.messages) k ≡ Some t → k ≢ j →
        (type_number m.mtype == type_number t) ≡ false
    other_number k t at other =
        let apart = place_other q pid moment i m taken none j at_j k t at other in
        let differ : type_number m.mtype ≢ type_number t = λ same.
        apart (same_number m.mtype t own_type_one
        (typed s filed.lawful id q found t (stands_at (types q.messages) k t at)) same) in
        apart_numbers (type_number m.mtype) (type_number t) differ

    beside_fits : (k : ℕ) (t : ℤ) → slice_get (types q.messages) k ≡ Some t → k ≢ j → (l : TypeLinks) →
        type_entry new t ≡ with_type_links l (type_entry q t) → Right (Relink (key_of_type id t) (links.Type l))
    beside_fits k t at other l same =
        let stands = stands_at (types q.messages) k t at in
        type_fits t stands
        (found_other (type_number t) (other_number k t at other) ∙ by_number s filed.lawful id q found t stands) l same

    pub lower_fits : (place : ℕ) → place ≡ j → (o : Option ℤ) → before_place (types q.messages) place ≡ o →
        InSlot Right (option_map (λ (t : ℤ). Relink (key_of_type id t) (to_higher (type_entry q m.mtype).higher)) o)
    lower_fits place here None is = tt
    lower_fits zero here (Some t) is = absurd cc
    lower_fits (suc k) here (Some t) is =
        let higher = (type_entry q m.mtype).higher in
        beside_fits k t is (omega (arith, here))
        (record { first = None; last = None; lower = Stays; higher = link_to higher })
        (type_lower q pid moment i m taken none j at_j k t is here
        ∙ sym (ap (λ (o : Option ℤ). record (type_entry q t) { higher = o })
        (link_leads higher (type_entry q t).higher)))

    pub higher_fits : (o : Option ℤ) → slice_get (types q.messages) (suc j) ≡ o →
        InSlot Right (option_map (λ (t : ℤ). Relink (key_of_type id t) (to_lower (type_entry q m.mtype).lower)) o)
    higher_fits None is = tt
    higher_fits (Some t) is =
        let lower = (type_entry q m.mtype).lower in
        beside_fits (suc j) t is (omega arith)
        (record { first = None; last = None; lower = link_to lower; higher = Stays })
        (type_higher q pid moment i m taken none j at_j (suc j) t is refl
        ∙ sym (ap (λ (o : Option ℤ). record (type_entry q t) { lower = o }) (link_leads lower (type_entry q t).lower)))

    pub type_goes : Right (Delete (key_of_type id m.mtype))
    type_goes =
        let fails : (k : ℕ) (d : ℤ) → k < length (types q.messages) → k ≢ j →
        has_number (type_number m.mtype) (get_or (types q.messages) k d) ≡ false =
        λ k d within other. swapped (type_number m.mtype) _
        (other_number k (get_or (types q.messages) k d) (slice_get-get_or (types q.messages) k d within) other) in
        let now = type_after m.mtype
        ∙ ap (option_map (λ (t : ℤ). records.Type (type_entry new t)))
        (ap (find (has_number (type_number m.mtype))) go
        ∙ find_none_left (has_number (type_number m.mtype)) (types q.messages) j
        (slice_get_within (types q.messages) j m.mtype at_j) fails) in
        let was = type_stands s filed.lawful id q found m.mtype (its_type_stands q.messages i m taken) in
        (subst IsSome (sym was) refl, now)
