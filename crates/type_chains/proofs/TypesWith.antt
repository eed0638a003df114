-- The Types of a queue once a message was sent to it.
use Rattle.queue_model.specs.Rules.{with_message}
use Rattle.queue_model.specs.declared.call.SendArguments.{SendArguments}
use Rattle.queue_model.specs.declared.message.Message.{Message}
use Rattle.queue_model.specs.declared.queue.Queue.{Queue}
use Rattle.std.proofs.Common.{Bool, List, Option, Some, [], ap, arith, cond, false, inl, inr, length, refl, subst, suc, sym, true, ℕ, ℤ, ◌++◌, ◌+◌, ◌-◌, ◌<ℤ◌, ◌∙◌, ◌∷◌, ◌≡◌, ◌≤◌}
use Rattle.std.proofs.lemmas.Bool.Decides.{Decides-int_eq}
use Rattle.std.proofs.lemmas.List.{append-nil, get_or-append-add, length-append, map-append}
use Rattle.std.proofs.lemmas.List.Elements.{All-contains, All-weaker, Contains-append_cases, filter-append}
use Rattle.std.proofs.lemmas.List.Sums.{fold_push}
use Rattle.std.proofs.lemmas.Option.{same_Some, slice_get-get_or, slice_get_within}
use Rattle.std.specs.List.{All, Contains, filter, position_or_len, remove}
use Rattle.std.specs.Ordering.{int_eq}
use Rattle.std.specs.Prelude.{slice_get, slice_index, ◌≢◌}
use Rattle.type_chains.proofs.Beside.{at_end_of, before_at, behind_at, behind_at_end, inside, remove_at}
use Rattle.type_chains.proofs.FirstOfType.{its_type}
use Rattle.type_chains.proofs.Sorted.{Ascend, with_type_between, with_type_same, less_apart, no_equal, pairs_front}
use Rattle.type_chains.proofs.TypeWithout.{types_apart}
use Rattle.type_chains.proofs.TypesWithout.{stood}
use Rattle.type_chains.proofs.Without.{before_other, behind_other, beside, first_at}
use Rattle.type_chains.proofs.Unique.{types_ascend}
use Rattle.type_chains.specs.Entries.{is_same_type, type_entry}
use Rattle.type_chains.specs.Lists.{is_of_type, serials, serials_of_type, types, with_type}
use Rattle.type_chains.specs.Neighbours.{before, before_place, behind, first_of, last_of}
use Rattle.type_chains.specs.Sending.{message_of}

-- ---- neighbours of a type where ascending types are split at it

module _ (a b : List ℤ) (u : ℤ) (ascend : Ascend (a ++ u ∷ b)) where
  others : All (λ (v : ℤ). is_same_type u v ≡ false) a
  others = All-weaker (λ (v : ℤ). v <ℤ u) (λ (v : ℤ). is_same_type u v ≡ false)
      (λ v l. no_equal v u (less_apart v u l)) a (pairs_front (λ (a b : ℤ). a <ℤ b) a b u ascend)

  itself : is_same_type u u ≡ true
  itself = (Decides-int_eq u u).1 refl

  pub lower_is : before (is_same_type u) (a ++ u ∷ b) ≡ last_of a
  lower_is = before_at (is_same_type u) a b u others itself

  pub higher_is : behind (is_same_type u) (a ++ u ∷ b) ≡ first_of b
  higher_is = behind_at (is_same_type u) a b u others itself

-- a type stands between those below it and those above it
pub record IsSplitAt (t : ℤ) (ts : List ℤ) : Type 0 where
  pub below : List ℤ
  pub above : List ℤ
  pub split : ts ≡ below ++ above
  pub less : All (λ (u : ℤ). u <ℤ t) below
  pub more : All (λ (u : ℤ). t <ℤ u) above

-- ---- the Types once a message was sent

module _ (pid : ℕ) (a : SendArguments) (q : Queue) where
  abbrev m : Message
  m = message_of pid a q

  abbrev new : Queue
  new = with_message pid a q

  pub more_types : types (with_message pid a q).messages ≡ with_type (types q.messages) a.mtype
  more_types = fold_push (λ (ts : List ℤ) (m : Message). with_type ts m.mtype) [] q.messages m

  serials_other : (u : ℤ) → (a.mtype ≡ u → ⊥) → serials_of_type u (q.messages ++ m ∷ []) ≡ serials_of_type u q.messages
  serials_other u apart =
      ap serials (filter-append (is_of_type u) q.messages (m ∷ [])
      ∙ ap (λ (v : Bool). filter (is_of_type u) q.messages ++ cond v (m ∷ []) []) (no_equal a.mtype u apart)
      ∙ append-nil (filter (is_of_type u) q.messages))

  serials_its : serials_of_type a.mtype (q.messages ++ m ∷ []) ≡ serials_of_type a.mtype q.messages ++ q.next_serial ∷
      []
  serials_its =
      let itself : int_eq a.mtype a.mtype ≡ true = (Decides-int_eq a.mtype a.mtype).1 refl in
      ap serials (filter-append (is_of_type a.mtype) q.messages (m ∷ [])
      ∙ ap (λ (v : Bool). filter (is_of_type a.mtype) q.messages ++ cond v (m ∷ []) []) itself)
      ∙ map-append (λ (m : Message). m.serial) (filter (is_of_type a.mtype) q.messages) (m ∷ [])

  -- both ends of the serials of a type
  abbrev first_in : List ℕ → ℕ
  first_in ns = slice_index ns 0

  abbrev last_in : List ℕ → ℕ
  last_in ns = slice_index ns (length ns - 1)

  last_in_push : (ns : List ℕ) (n : ℕ) → last_in (ns ++ n ∷ []) ≡ n
  last_in_push ns n =
      let long = length-append ns (n ∷ []) in
      let place : length (ns ++ n ∷ []) - 1 ≡ length ns + 0 = omega (arith, long) in
      ap (slice_index (ns ++ n ∷ [])) place ∙ get_or-append-add ns (n ∷ []) 0 0

  first_in_push : (ns : List ℕ) (n : ℕ) → 1 ≤ length ns → first_in (ns ++ n ∷ []) ≡ first_in ns
  first_in_push [] n some = absurd (omega (arith, some))
  first_in_push (k ∷ ns) n some = refl

  -- the parts of a Type are those of its serials and its neighbours
  made : (p : Queue) (u : ℤ) {first last : ℕ} {lower higher : Option ℤ} →
      first_in (serials_of_type u p.messages) ≡ first → last_in (serials_of_type u p.messages) ≡ last →
      before (is_same_type u) (types p.messages) ≡ lower → behind (is_same_type u) (types p.messages) ≡ higher →
      type_entry p u ≡ record { id = p.id; mtype = u; first = first; last = last; lower = lower; higher = higher }
  made p u first last lower higher =
      λ i. record { id = p.id; mtype = u; first = first i; last = last i; lower = lower i; higher = higher i }

  -- another type's serials stay
  moved : (u : ℤ) (lower higher : Option ℤ) → (a.mtype ≡ u → ⊥) →
      before (is_same_type u) (types new.messages) ≡ lower → behind (is_same_type u) (types new.messages) ≡ higher →
      type_entry new u ≡ record (type_entry q u) { lower = lower; higher = higher }
  moved u lower higher apart =
      let serials = serials_other u apart in made new u (ap first_in serials) (ap last_in serials)

  -- ---- where the type stands

  module _ (stands : Contains (types q.messages) a.mtype) where
    pub same_types : types (with_message pid a q).messages ≡ types q.messages
    same_types = more_types ∙ with_type_same (types q.messages) a.mtype (types_ascend q.messages) stands

    -- its last serial is the new one
    pub standing_entry : 1 ≤ length (serials_of_type a.mtype q.messages) →
        type_entry (with_message pid a q) a.mtype ≡ record (type_entry q a.mtype) { last = q.next_serial }
    standing_entry some =
        let first = ap first_in serials_its ∙ first_in_push (serials_of_type a.mtype q.messages) q.next_serial some in
        let last = ap last_in serials_its ∙ last_in_push (serials_of_type a.mtype q.messages) q.next_serial in
        made new a.mtype first last (ap (before (is_same_type a.mtype)) same_types)
        (ap (behind (is_same_type a.mtype)) same_types)

    -- the others stay
    pub other_entry : (u : ℤ) → (a.mtype ≡ u → ⊥) → type_entry (with_message pid a q) u ≡ type_entry q u
    other_entry u apart = moved u _ _ apart (ap (before (is_same_type u)) same_types)
        (ap (behind (is_same_type u)) same_types)

  -- ---- where it does not

  module _ (between : IsSplitAt a.mtype (types q.messages)) where
    abbrev below : List ℤ
    below = between.below

    abbrev above : List ℤ
    above = between.above

    abbrev place : ℕ
    place = length between.below

    pub types_after : types (with_message pid a q).messages ≡ between.below ++ a.mtype ∷ between.above
    types_after = more_types ∙ ap (λ ts. with_type ts a.mtype) between.split
        ∙ with_type_between below above a.mtype between.less between.more

    its_place : slice_get (types new.messages) place ≡ Some a.mtype
    its_place = ap (λ (ts : List ℤ). slice_get ts place) types_after ∙ at_end_of below (a.mtype ∷ above)

    -- without it they are as before
    types_before : remove (types new.messages) place ≡ types q.messages
    types_before = ap (λ (ts : List ℤ). remove ts place) types_after ∙ remove_at below above a.mtype ∙ sym between.split

    -- no type of the queue is the message's
    pub is_new : (u : ℤ) → Contains (types q.messages) u → a.mtype ≡ u → ⊥
    is_new u has same = elim (Contains-append_cases below above u (subst (λ ts. Contains ts u) between.split has)) [
      | inl first ↦ less_apart u a.mtype (All-contains (λ (v : ℤ). v <ℤ a.mtype) below u between.less first) (sym same)
      | inr later ↦ less_apart a.mtype u (All-contains (λ (v : ℤ). a.mtype <ℤ v) above u between.more later) same
    ]

    pub still_there : (u : ℤ) → Contains (types q.messages) u → Contains (types (with_message pid a q).messages) u
    still_there u has = stood (types new.messages) place a.mtype u its_place
        (subst (λ (ts : List ℤ). Contains ts u) (sym types_before) has)

    module _ (u : ℤ) (has : Contains (types q.messages) u) (k : ℕ)
        (at : slice_get (types new.messages) k ≡ Some u) where
      here : k ≢ place
      here same =
          let both : Some u ≡ Some a.mtype = sym at ∙ ap (slice_get (types new.messages)) same ∙ its_place in
          is_new u has (sym (same_Some u a.mtype both))

      lower_same : k ≢ suc place → before (is_same_type u) (types new.messages) ≡ (type_entry q u).lower
      lower_same next = sym (before_other is_same_type (types new.messages) place a.mtype (types_apart new.messages)
          its_type its_place k u at here next) ∙ ap (before (is_same_type u)) types_before

      higher_same : suc k ≢ place → behind (is_same_type u) (types new.messages) ≡ (type_entry q u).higher
      higher_same previous = sym (behind_other is_same_type (types new.messages) place a.mtype
          (types_apart new.messages) its_type its_place k u at here previous)
          ∙ ap (behind (is_same_type u)) types_before

      its_own_place : position_or_len (is_same_type u) (types new.messages) ≡ k
      its_own_place = first_at is_same_type (types new.messages) k u (types_apart new.messages) (its_type u) at

    -- the last below leads to the new one
    pub entry_lower : (u : ℤ) → Contains (types q.messages) u → last_of between.below ≡ Some u →
        type_entry (with_message pid a q) u ≡ record (type_entry q u) { higher = Some a.mtype }
    entry_lower u has last =
        let k = length below - 1 in
        let within = slice_get_within below k u last in
        let at = ap (λ (ts : List ℤ). slice_get ts k) types_after ∙ inside below (a.mtype ∷ above) k within ∙ last in
        let end : suc k ≡ place = omega (arith, within) in
        moved u _ _ (is_new u has) (lower_same u has k at (omega (arith, within)))
        (ap (λ (j : ℕ). slice_get (types new.messages) (suc j)) (its_own_place u has k at)
        ∙ ap (slice_get (types new.messages)) end ∙ its_place)

    -- the first above leads back to it
    pub entry_higher : (u : ℤ) → Contains (types q.messages) u → first_of between.above ≡ Some u →
        type_entry (with_message pid a q) u ≡ record (type_entry q u) { lower = Some a.mtype }
    entry_higher u has first =
        let at = ap (λ (ts : List ℤ). slice_get ts (suc place)) types_after ∙ behind_at_end below above a.mtype
        ∙ first in
        moved u _ _ (is_new u has)
        (ap (before_place (types new.messages)) (its_own_place u has (suc place) at) ∙ its_place)
        (higher_same u has (suc place) at (omega arith))

    -- all others stay
    pub entry_other : (u : ℤ) → Contains (types q.messages) u → (last_of between.below ≡ Some u → ⊥) →
        (first_of between.above ≡ Some u → ⊥) → type_entry (with_message pid a q) u ≡ type_entry q u
    entry_other u has no_last no_first =
        let (k, within, is) = still_there u has in
        let at = slice_get-get_or (types new.messages) k u within ∙ ap Some is in
        elim (beside place k (here u has k at)) [
          | inl end ↦ absurd (no_last (last_at k at end))
          | inr (inl next) ↦ absurd (no_first (sym (behind_at_end below above a.mtype)
              ∙ sym (ap (λ (ts : List ℤ). slice_get ts (suc place)) types_after)
              ∙ ap (slice_get (types new.messages)) (sym next) ∙ at))
          | inr (inr far) ↦ moved u _ _ (is_new u has) (lower_same u has k at far.0) (higher_same u has k at far.1)
        ]
      where
        last_at : (k : ℕ) → slice_get (types new.messages) k ≡ Some u → suc k ≡ place → last_of below ≡ Some u
        last_at k at end =
            let place_is : length below - 1 ≡ k = omega (arith, end) in
            ap (slice_get below) place_is ∙ sym (inside below (a.mtype ∷ above) k (omega (arith, end)))
            ∙ sym (ap (λ (ts : List ℤ). slice_get ts k) types_after) ∙ at

    -- the new Type stands between them
    pub entry_new : serials_of_type a.mtype q.messages ≡ [] → type_entry (with_message pid a q) a.mtype ≡ record {
      id = q.id;
      mtype = a.mtype;
      first = q.next_serial;
      last = q.next_serial;
      lower = last_of between.below;
      higher = first_of between.above;
    }
    entry_new none =
        let serials = serials_its ∙ ap (λ ns. ns ++ q.next_serial ∷ []) none in
        let ascend = subst Ascend types_after (types_ascend new.messages) in
        made new a.mtype (ap first_in serials) (ap last_in serials)
        (ap (before (is_same_type a.mtype)) types_after ∙ lower_is below above a.mtype ascend)
        (ap (behind (is_same_type a.mtype)) types_after ∙ higher_is below above a.mtype ascend)
