-- The records of a queue are made of its links in few bytes.
use Rattle.std.proofs.Common.{ℕ, zero, suc, ℤ, pos, ◌≡◌, ◌+◌, ◌-◌, ◌<◌, ◌<ℤ◌, ◌≤◌, List, length, map, Option, Some, None, refl, sym, ap, subst, ◌∙◌, arith}
use Rattle.std.specs.List.{AllPairs, Contains}
use Rattle.std.specs.Prelude.{slice_get, slice_index_or}
use Rattle.std.proofs.lemmas.List.{get_or_default, get_or-map, length-map}
use Rattle.std.proofs.lemmas.Option.{slice_get-get_or, slice_get-map, slice_get_past}
use Rattle.std.proofs.Common.{option_map}
use Rattle.queue_records.specs.declared.record.Record.TheVariants as records
use Rattle.type_chains.specs.Neighbours.{before_place}
use Rattle.type_chains.proofs.Members.{in_map}
use Rattle.type_chains.proofs.Unique.{types_ascend}
use Rattle.record_walk.specs.declared.queue_links.QueueLinks.{QueueLinks}
use Rattle.record_walk.specs.declared.queue_links.TypeEnds.{TypeEnds}
use Rattle.record_walk.specs.Links.{AreLinksOf, IsAscending, IsPlaceOf, ends_in, ends_of, link_of, next_of_type}
use Rattle.record_walk.specs.Words.{Message, MessageEntry, Queue, Record, TypeEntry, message_entry, message_records, serials, type_entry, type_records, types}
use Rattle.record_walk.proofs.LinkLemmas.{first_or, last_or, next_is, previous_is, type_before_is, type_behind_is}

-- ---- serials beside a place

pub serial_at : (ms : List Message) (i : ℕ) (m : Message) → i < length ms → m ≡ slice_index_or ms i m →
    Some m.serial ≡ slice_get (serials ms) i
serial_at ms i m within at =
    let f : Message → ℕ = λ x. x.serial in
    ap (λ (x : Message). Some x.serial) at
    ∙ sym (slice_get-map f ms i ∙ ap (option_map f) (slice_get-get_or ms i m within))

pub serial_below : (ms : List Message) (place : ℕ) (m : Message) → 0 < place → place < length ms →
    m ≡ slice_index_or ms (place - 1) m → Some m.serial ≡ before_place (serials ms) place
serial_below ms zero m some within at = absurd (omega (arith, some))
serial_below ms (suc k) m some within at =
    let one : suc k - 1 ≡ k = omega arith in
    serial_at ms k m (omega (arith, within)) (subst (λ n. m ≡ slice_index_or ms n m) one at)

pub none_behind : (ms : List Message) (place : ℕ) → length ms ≤ place + 1 → None ≡ slice_get (serials ms) (place + 1)
none_behind ms place ended =
    let long = length-map ms (λ (x : Message). x.serial) in
    sym (slice_get_past (serials ms) (place + 1) (omega (arith, long, ended)))

-- ---- a Message

no_link : Option ℕ
no_link = None

module _ (q : Queue) (links : QueueLinks) (are : AreLinksOf q.messages links) where
  module _ (place : ℕ) (m : Message) (within : place < length q.messages)
      (ascend : IsAscending q.messages) (at : m ≡ slice_index_or q.messages place m) where
    next_there : (n : ℕ) → n ≡ slice_index_or links.next.items place n → link_of n ≡ next_of_type q.messages m
    next_there n is =
        let ms = q.messages in
        let f = next_of_type ms in
        let long = length-map links.next.items link_of in
        let as_many = ap (λ (xs : List (Option ℕ)). length xs) are.next in
        let many = length-map ms f in
        let inside : place < length links.next.items = omega (arith, within, long, as_many, many) in
        ap link_of is ∙ sym (get_or-map link_of links.next.items place n no_link inside)
        ∙ ap (λ (xs : List (Option ℕ)). slice_index_or xs place no_link) are.next
        ∙ get_or-map f ms place m no_link within ∙ ap f (sym at)

    abbrev entry_of : (mtype : ℤ) (previous next next_of_type : Option ℕ) (body : List ℕ) → MessageEntry
    entry_of mtype previous next next_of_type body = record {
      id = q.id;
      serial = m.serial;
      mtype = mtype;
      sender = m.sender;
      previous = previous;
      next = next;
      next_of_type = next_of_type;
      body = body;
    }

    pub message_is : (mtype : ℤ) (previous next next_of_type : Option ℕ) (body : List ℕ) (n : ℕ) →
        mtype ≡ m.mtype → previous ≡ before_place (serials q.messages) place →
        next ≡ slice_get (serials q.messages) (place + 1) → n ≡ slice_index_or links.next.items place n →
        next_of_type ≡ link_of n → body ≡ m.bytes →
        message_entry q m ≡ entry_of mtype previous next next_of_type body
    message_is mtype previous next next_of_type body n t p x number y b =
        let e : MessageEntry = message_entry q (slice_index_or q.messages place m) in
        let here : before_place (serials q.messages) place ≡ e.previous =
        previous_is q.messages place m ascend within (serials q.messages) refl in
        let there : slice_get (serials q.messages) (place + 1) ≡ e.next =
        next_is q.messages place m ascend within (serials q.messages) refl in
        let same : e ≡ message_entry q m = ap (message_entry q) (sym at) in
        let first : (message_entry q m).previous ≡ previous =
        sym (p ∙ here ∙ ap (λ (z : MessageEntry). z.previous) same) in
        let second : (message_entry q m).next ≡ next =
        sym (x ∙ there ∙ ap (λ (z : MessageEntry). z.next) same) in
        let third : (message_entry q m).next_of_type ≡ next_of_type = sym (y ∙ next_there n number) in
        λ i. record {
          id = q.id;
          serial = m.serial;
          mtype = sym t i;
          sender = m.sender;
          previous = first i;
          next = second i;
          next_of_type = third i;
          body = sym b i;
        }

    pub message_there : (e : MessageEntry) → message_entry q m ≡ e → Contains (message_records q) (records.Message e)
    message_there e is = subst (λ (z : MessageEntry). Contains (message_records q) (records.Message z)) is
        (in_map (λ (z : Message). records.Message (message_entry q z)) q.messages m (place, within, sym at))

    -- whatever stands for a message past the last
    pub message_which : (e : MessageEntry) → message_entry q m ≡ e → (d : Message) →
        e ≡ message_entry q (slice_index_or q.messages place d)
    message_which e is d =
        sym is ∙ ap (message_entry q) (at ∙ get_or_default q.messages place m d within)

  -- ---- a Type

  module _ (place : ℕ) (t : ℤ) (within : place < length links.kinds.items)
      (at : t ≡ slice_index_or links.kinds.items place t) where
    ends_there : (ends : TypeEnds) → ends ≡ slice_index_or links.ends.items place ends →
        ends ≡ ends_in (ends_of q.messages t)
    ends_there ends is =
        let ms = q.messages in
        let us = types ms in
        let inside : place < length us = subst (λ (xs : List ℤ). place < length xs) are.kinds within in
        let long = length-map us (ends_of ms) in
        is ∙ ap (λ (xs : List TypeEnds). slice_index_or xs place ends) are.ends
        ∙ get_or-map ends_in (map (ends_of ms) us) place (ends_of ms t) ends (omega (arith, inside, long))
        ∙ ap ends_in (get_or-map (ends_of ms) us place t (ends_of ms t) inside)
        ∙ ap (λ (xs : List ℤ). ends_in (ends_of ms (slice_index_or xs place t))) (sym are.kinds)
        ∙ ap (λ (u : ℤ). ends_in (ends_of ms u)) (sym at)

    abbrev type_of : (ends : TypeEnds) (mtype : ℤ) (lower higher : Option ℤ) → TypeEntry
    type_of ends mtype lower higher = record {
      id = q.id;
      mtype = mtype;
      first = ends.first;
      last = ends.last;
      lower = lower;
      higher = higher;
    }

    pub type_is : (ends : TypeEnds) (mtype : ℤ) (lower higher : Option ℤ) →
        ends ≡ slice_index_or links.ends.items place ends → mtype ≡ t →
        lower ≡ before_place links.kinds.items place → higher ≡ slice_get links.kinds.items (place + 1) →
        type_entry q t ≡ type_of ends mtype lower higher
    type_is ends mtype lower higher is m l h =
        let ts = links.kinds.items in
        let us = types q.messages in
        let ascend = subst (λ (xs : List ℤ). AllPairs (λ (a b : ℤ). a <ℤ b) xs) (sym are.kinds)
        (types_ascend q.messages) in
        let zero_is : slice_index_or ts place (pos 0) ≡ t = get_or_default ts place (pos 0) t within ∙ sym at in
        let both = ends_there ends is in
        let e : ℤ → TypeEntry = type_entry q in
        let first : (e t).first ≡ ends.first =
        sym (ap (λ (x : TypeEnds). x.first) both ∙ first_or q.messages t (ends_of q.messages t) refl) in
        let last : (e t).last ≡ ends.last =
        sym (ap (λ (x : TypeEnds). x.last) both ∙ last_or q.messages t (ends_of q.messages t) refl) in
        let low : before_place ts place ≡ (e (slice_index_or ts place (pos 0))).lower =
        type_before_is ts place ascend within us are.kinds in
        let high : slice_get ts (place + 1) ≡ (e (slice_index_or ts place (pos 0))).higher =
        type_behind_is ts place ascend within us are.kinds in
        let lower_is : (e t).lower ≡ lower = sym (l ∙ low ∙ ap (λ (z : ℤ). (e z).lower) zero_is) in
        let higher_is : (e t).higher ≡ higher = sym (h ∙ high ∙ ap (λ (z : ℤ). (e z).higher) zero_is) in
        λ i. record {
          id = q.id;
          mtype = sym m i;
          first = first i;
          last = last i;
          lower = lower_is i;
          higher = higher_is i;
        }

    pub type_there : (e : TypeEntry) → type_entry q t ≡ e → Contains (type_records q) (records.Type e)
    type_there e is = subst (λ (z : TypeEntry). Contains (type_records q) (records.Type z)) is
        (in_map (λ (z : ℤ). records.Type (type_entry q z)) (types q.messages) t
        (subst (λ (xs : List ℤ). Contains xs t) are.kinds (place, within, sym at)))

    pub type_which : (e : TypeEntry) → type_entry q t ≡ e → (mtype : ℤ) → IsPlaceOf links.kinds.items mtype place →
        e ≡ type_entry q mtype
    type_which e is mtype stands =
        sym is ∙ ap (type_entry q) (at ∙ get_or_default links.kinds.items place t mtype within ∙ stands.is)
