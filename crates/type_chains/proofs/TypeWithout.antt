-- The Types of a queue without the message that a receive takes.
use Rattle.queue_model.specs.declared.message.Message.{Message}
use Rattle.queue_model.specs.declared.queue.Queue.{Queue}
use Rattle.queue_records.specs.declared.type_entry.TypeEntry.{TypeEntry}
use Rattle.std.proofs.Common.{Bool, List, None, Option, Some, [], ap, arith, false, get_or, length, refl, suc, sym, true, ℕ, ℤ, ◌-◌, ◌∙◌, ◌∷◌, ◌≡◌, ◌≤◌}
use Rattle.std.proofs.lemmas.Bool.Decides.{Decides-int_eq}
use Rattle.std.proofs.lemmas.Int.{ints}
use Rattle.std.specs.List.{Contains, filter, position_or_len, remove}
use Rattle.std.specs.Ordering.{int_eq}
use Rattle.std.specs.Prelude.{slice_get, slice_index, ◌≢◌}
use Rattle.type_chains.proofs.Elements.{filter_holds}
use Rattle.type_chains.proofs.FirstOfType.{IsTakenAt, its_type, other_type, serials_of_its_type, serials_of_other_type}
use Rattle.type_chains.proofs.Members.{contains_head, contains_tail}
use Rattle.type_chains.proofs.MessagesWithout.{without}
use Rattle.type_chains.proofs.TypesWithout.{types_kept, types_without}
use Rattle.type_chains.proofs.Unique.{types_ascend}
use Rattle.type_chains.proofs.Without.{AreToldApart, before_it, before_next, before_other, behind_it, behind_other, behind_previous, first_at}
use Rattle.type_chains.specs.Entries.{is_same_type, type_entry}
use Rattle.type_chains.specs.Lists.{is_of_type, serials, serials_of_type, types}
use Rattle.type_chains.specs.Neighbours.{before, before_place, behind, first_of}

-- ---- whether a message of a type is left

some_left : (t : ℤ) (ms : List Message) (f : ℕ) → first_of (serials_of_type t ms) ≡ Some f →
    (n : Message) × Contains ms n × (n.mtype ≡ t)
some_left t [] f is = absurd cc
some_left t (n ∷ ns) f is = by (int_eq n.mtype t) refl (some_left t ns f)
  where
    by : (b : Bool) → int_eq n.mtype t ≡ b →
        (first_of (serials_of_type t ns) ≡ Some f → (x : Message) × Contains ns x × (x.mtype ≡ t)) →
        (x : Message) × Contains (n ∷ ns) x × (x.mtype ≡ t)
    by true e rest = (n, contains_head n ns, (Decides-int_eq n.mtype t).0 e)
    by false e rest =
        let (x, stands, its) = rest (rw e at is) in
        (x, contains_tail n x ns stands, its)

none_left : (t : ℤ) (ms : List Message) → first_of (serials_of_type t ms) ≡ None → (n : Message) → Contains ms n →
    n.mtype ≡ t → ⊥
none_left t ms none n stands its =
    by (filter (is_of_type t) ms) none (filter_holds (is_of_type t) ms n stands ((Decides-int_eq n.mtype t).1 its))
  where
    by : (xs : List Message) → first_of (serials xs) ≡ None → 1 ≤ length xs → ⊥
    by [] none long = omega (arith, long)
    by (x ∷ xs) none long = absurd cc

-- the types of a queue are told apart
pub types_apart : (ms : List Message) → AreToldApart is_same_type (types ms)
types_apart ms k l d sooner within =
    let less = types_ascend ms k l d sooner within in (
      other_type (get_or (types ms) k d) (get_or (types ms) l d) (λ same. omega (arith, ints, less, same)),
      other_type (get_or (types ms) l d) (get_or (types ms) k d) (λ same. omega (arith, ints, less, same)),
    )

module _ (q : Queue) (pid moment i : ℕ) (m : Message) (taken : IsTakenAt m q.messages i) where
  abbrev left : Queue
  left = without pid moment i q

  abbrev entry : TypeEntry
  entry = type_entry q m.mtype

  -- the serials of another type stay
  made : (t : ℤ) (lower higher : Option ℤ) → m.mtype ≢ t
      → before (is_same_type t) (types (remove q.messages i)) ≡ lower →
      behind (is_same_type t) (types (remove q.messages i)) ≡ higher →
      type_entry left t ≡ record (type_entry q t) { lower = lower; higher = higher }
  made t lower higher other one two =
      let same = serials_of_other_type q.messages i m taken t other in
      let first = ap (λ (xs : List ℕ). slice_index xs 0) same in
      let last = ap (λ (xs : List ℕ). slice_index xs (length xs - 1)) same in
      λ l. record { id = q.id; mtype = t; first = first l; last = last l; lower = one l; higher = two l }

  -- ---- a message of its type is left

  module _ (f : ℕ) (first : first_of (serials_of_type m.mtype (remove q.messages i)) ≡ Some f) where
    pub types_stay : types (remove q.messages i) ≡ types q.messages
    types_stay =
        let (n, stands, its) = some_left m.mtype (remove q.messages i) f first in
        types_kept q.messages i m taken n stands its

    -- another type stays as it is
    pub entry_stays : (t : ℤ) → m.mtype ≢ t → type_entry left t ≡ type_entry q t
    entry_stays t other = made t _ _ other (ap (before (is_same_type t)) types_stay)
        (ap (behind (is_same_type t)) types_stay)

    -- its own gets the next of its messages as the first
    pub own_entry : type_entry left m.mtype ≡ record entry { first = f }
    own_entry =
        let same = serials_of_its_type q.messages i m taken in
        let lower = ap (before (is_same_type m.mtype)) types_stay in
        let higher = ap (behind (is_same_type m.mtype)) types_stay in
        let one = by_first (serials_of_type m.mtype (remove q.messages i)) first in
        let two = by_last m.serial (serials_of_type m.mtype (remove q.messages i)) first
        ∙ ap (λ (xs : List ℕ). slice_index xs (length xs - 1)) (sym same) in
        λ l. record { id = q.id; mtype = m.mtype; first = one l; last = two l; lower = lower l; higher = higher l }
      where
        by_first : (xs : List ℕ) → first_of xs ≡ Some f → slice_index xs 0 ≡ f
        by_first [] is = absurd cc
        by_first (x ∷ xs) is = cc

        by_last : (n : ℕ) (xs : List ℕ) → first_of xs ≡ Some f →
            slice_index xs (length xs - 1) ≡ slice_index (n ∷ xs) (length (n ∷ xs) - 1)
        by_last n [] is = absurd cc
        by_last n (x ∷ xs) is =
            let place : length (n ∷ x ∷ xs) - 1 ≡ suc (length (x ∷ xs) - 1) = omega arith in
            sym (ap (slice_index (n ∷ x ∷ xs)) place)

  -- ---- it was the last of its type

  module _ (none : first_of (serials_of_type m.mtype (remove q.messages i)) ≡ None) (j : ℕ)
      (at_j : slice_get (types q.messages) j ≡ Some m.mtype) where
    pub types_go : types (remove q.messages i) ≡ remove (types q.messages) j
    types_go = types_without q.messages i m taken j at_j (none_left m.mtype (remove q.messages i) none)

    apart : AreToldApart is_same_type (types q.messages)
    apart = types_apart q.messages

    moved_before : (t : ℤ) → before (is_same_type t) (types (remove q.messages i))
        ≡ before (is_same_type t) (remove (types q.messages) j)
    moved_before t = ap (before (is_same_type t)) types_go

    moved_behind : (t : ℤ) → behind (is_same_type t) (types (remove q.messages i))
        ≡ behind (is_same_type t) (remove (types q.messages) j)
    moved_behind t = ap (behind (is_same_type t)) types_go

    pub place_other : (k : ℕ) (t : ℤ) → slice_get (types q.messages) k ≡ Some t → k ≢ j → m.mtype ≢ t
    place_other k t at other same =
        other (sym (place k t at) ∙ ap (λ (u : ℤ). position_or_len (is_same_type u) (types q.messages)) (sym same)
        ∙ place j m.mtype at_j)
      where
        place : (k : ℕ) (t : ℤ) → slice_get (types q.messages) k ≡ Some t →
            position_or_len (is_same_type t) (types q.messages) ≡ k
        place k t at = first_at is_same_type (types q.messages) k t apart (its_type t) at

    module _ (k : ℕ) (t : ℤ) (at : slice_get (types q.messages) k ≡ Some t) where
      same_before : k ≢ j → k ≢ suc j → before (is_same_type t) (types (remove q.messages i))
          ≡ before (is_same_type t) (types q.messages)
      same_before here next = moved_before t
          ∙ before_other is_same_type (types q.messages) j m.mtype apart its_type at_j k t at here next

      same_behind : k ≢ j → suc k ≢ j → behind (is_same_type t) (types (remove q.messages i))
          ≡ behind (is_same_type t) (types q.messages)
      same_behind here previous = moved_behind t
          ∙ behind_other is_same_type (types q.messages) j m.mtype apart its_type at_j k t at here previous

      -- one that does not stand beside it stays
      pub type_far : k ≢ j → k ≢ suc j → suc k ≢ j → type_entry left t ≡ type_entry q t
      type_far here next previous =
          made t _ _ (place_other k t at here) (same_before here next) (same_behind here previous)

      -- the one below it is followed by the one above it
      pub type_lower : suc k ≡ j → type_entry left t ≡ record (type_entry q t) { higher = entry.higher }
      type_lower here = made t _ _ (place_other k t at (omega (arith, here)))
          (same_before (omega (arith, here)) (omega (arith, here)))
          (moved_behind t ∙ behind_previous is_same_type (types q.messages) j m.mtype apart its_type at_j k t at here)

      -- the one above it follows the one below it
      pub type_higher : k ≡ suc j → type_entry left t ≡ record (type_entry q t) { lower = entry.lower }
      type_higher here = made t _ _ (place_other k t at (omega (arith, here)))
          (moved_before t ∙ before_next is_same_type (types q.messages) j m.mtype apart its_type at_j k t at here)
          (same_behind (omega (arith, here)) (omega (arith, here)))

    pub lower_is : entry.lower ≡ before_place (types q.messages) j
    lower_is = before_it is_same_type (types q.messages) j m.mtype apart its_type at_j

    pub higher_is : entry.higher ≡ slice_get (types q.messages) (suc j)
    higher_is = behind_it is_same_type (types q.messages) j m.mtype apart its_type at_j
