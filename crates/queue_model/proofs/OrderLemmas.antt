-- Legal journals are first in, first out.
use Rattle.std.proofs.Common.{◌≡◌, ℕ, ℤ, zero, suc, ◌+◌, ◌<◌, ◌≤◌, Bool, true, false, List, [], ◌∷◌, length, map, Option, Some, None, inl, inr, pos, negsuc, arith, refl, sym, ap, ◌∙◌, subst, get_or}
use Rattle.std.specs.Prelude.{slice_get, ◌≢◌}
use Rattle.std.specs.List.{All, position_or_len, remove}
use Rattle.std.proofs.lemmas.Bool.{cases_lt, cases_eq}
use Rattle.std.proofs.lemmas.List.{get_or-map, length-map, get_or-set_same, get_or-set_other, length-set}
use Rattle.std.proofs.lemmas.List.Edits.{length-remove, get_or-remove_below, get_or-remove_above}
use Rattle.std.proofs.lemmas.List.Elements.{All-push}
use Rattle.std.proofs.lemmas.List.Folds.{find_at}
use Rattle.std.proofs.lemmas.List.Sums.{fails_before_first}
use Rattle.std.proofs.lemmas.Option.{slice_get_within, get_or_from_slice_get}
use Rattle.queue_model.proofs.Words.{Sent, Received, Done, Send, Receive, Remove, ReceiveArguments, Caller, Entry, Decided, Message, Queue, State}
use Rattle.queue_model.specs.Journal.{Leads, LeadsAlong, caller_at, outcome_for}
use Rattle.queue_model.specs.Lawful.{IsLawful, IsLawfulQueue}
use Rattle.queue_model.specs.Order.{Takes, Puts, IsEarliest, IsFollowed, IsGone, IsInOrder, IsFifo}
use Rattle.queue_model.specs.Rules.{without_message, cut_at}
use Rattle.queue_model.specs.Selection.{selects, selected, has_type, lowest_type}
use Rattle.queue_model.proofs.EffectLemmas.{Effect-outcome, Stands, Changes, Gives, Accepts, Removes}
use Rattle.queue_model.proofs.HoldsLemmas.{Holds, Lasts, never_later}
use Rattle.queue_model.proofs.JournalLemmas.{after-Leads}
use Rattle.queue_model.proofs.LawfulLemmas.{IsLawful-Leads, of_queue}
use Rattle.queue_model.proofs.ListLemmas.{All-remove, find-Some}

-- the elements that stay are those at the other places
All-others : {X : Type 0} (P : X → Type 0) (xs : List X) (i : ℕ) → i < length xs →
    ((k : ℕ) (d : X) → k < length xs → k ≢ i → P (get_or xs k d)) → All P (remove xs i)
All-others P xs i within others k d h = elim (cases_lt k i) [
  | inl below ↦ rw (get_or-remove_below xs i d k below within) (others k d (omega arith) (omega arith))
  | inr above ↦ rw (get_or-remove_above xs i d k above within)
      (others (k + 1) d (omega (arith, length-remove xs i within)) (omega arith))
]

-- a receive of a type tells messages apart by their types alone
selects_by_type : (t : ℤ) (ms : List Message) (m n : Message) → n.mtype ≡ m.mtype → selects t ms n ≡ selects t ms m
selects_by_type (pos zero) ms m n same = refl
selects_by_type (pos (suc k)) ms m n same = rw same refl
selects_by_type (negsuc k) ms m n same = by_found (lowest_type (pos (suc k)) ms)
  where
    by_found : (o : Option ℤ) → has_type o n ≡ has_type o m
    by_found None = refl
    by_found (Some u) = rw same refl

-- what a receive of type t takes from a lawful queue
module _ (q : Queue) (t : ℤ) (m : Message) (lawful : IsLawfulQueue q) (is : selected t q.messages ≡ Some m) where
  abbrev place : ℕ
  place = position_or_len (selects t q.messages) q.messages

  at_place : slice_get q.messages place ≡ Some m
  at_place = sym (find_at (selects t q.messages) q.messages) ∙ is

  within : place < length q.messages
  within = slice_get_within q.messages place m at_place

  is_m : (d : Message) → get_or q.messages place d ≡ m
  is_m d = get_or_from_slice_get q.messages place m d at_place

  -- a message of its type does not stand before it
  not_before : (k : ℕ) (d : Message) → k < place → (get_or q.messages k d).mtype ≡ m.mtype → ⊥
  not_before k d below same =
      let fails = fails_before_first (selects t q.messages) q.messages k d below in
      let passes = find-Some (selects t q.messages) q.messages m is in
      let clash : ◌≡◌ {A = Bool} true false = sym passes.0
      ∙ sym (selects_by_type t q.messages m (get_or q.messages k d) same) ∙ fails in
      absurd cc

  -- one at another place has another serial, and if it has its type a greater one
  other : (k : ℕ) (d : Message) → k < length q.messages → k ≢ place → (get_or q.messages k d).serial ≢ m.serial
  other k d h apart same = elim (cases_lt k place) [
    | inl below ↦ absurd (omega (arith, same, rw (is_m d) at (lawful.serials_ascend k place d below within)))
    | inr above ↦ absurd (omega (arith, same, rw (is_m d) at (lawful.serials_ascend place k d (omega arith) h)))
  ]

  greater : (k : ℕ) (d : Message) → k < length q.messages → k ≢ place → (get_or q.messages k d).mtype ≡ m.mtype →
      m.serial < (get_or q.messages k d).serial
  greater k d h apart same = elim (cases_lt k place) [
    | inl below ↦ absurd (not_before k d below same)
    | inr above ↦ rw (is_m d) at (lawful.serials_ascend place k d (omega arith) h)
  ]

  -- it is the earliest of its type
  earliest : All (λ (n : Message). n.mtype ≡ m.mtype → m.serial ≤ n.serial) q.messages
  earliest k d h same = elim (cases_lt k place) [
    | inl below ↦ absurd (not_before k d below same)
    | inr above ↦ elim (cases_lt place k) [
      | inl past ↦ omega (arith, greater k d h (omega arith) same)
      | inr here ↦ let eq : k ≡ place = omega arith in rw (eq, is_m d) (omega arith)
    ]
  ]

-- only the queue of an id has it
module _ (id : ℕ) (s : State) (i : ℕ) (q : Queue) (stands : Stands id s i q) (lawful : IsLawful s) where
  id_at : (k : ℕ) (d : Queue) → k < length s.queues →
      get_or (map (λ (q : Queue). q.id) s.queues) k 0 ≡ (get_or s.queues k d).id
  id_at k d h = get_or-map (λ (q : Queue). q.id) s.queues k d 0 h

  as_many : length (map (λ (q : Queue). q.id) s.queues) ≡ length s.queues
  as_many = length-map s.queues (λ (q : Queue). q.id)

  only_place : (k : ℕ) (d : Queue) → k < length s.queues → (get_or s.queues k d).id ≡ id → k ≡ i
  only_place k d h is = elim (cases_lt k i) [
    | inl below ↦ absurd (omega (
      arith,
      lawful.ids_ascend k i 0 below (omega
          (arith, as_many, inside)),
      id_at k d h,
      id_at i d inside,
      is,
      its d,
    ))
    | inr above ↦ elim (cases_lt i k) [
      | inl past ↦ absurd (omega (
        arith,
        lawful.ids_ascend i k 0 past (omega
            (arith, as_many, h)),
        id_at k d h,
        id_at i d inside,
        is,
        its d,
      ))
      | inr here ↦ omega arith
    ]
  ]
    where
      inside : i < length s.queues
      inside = stands.place_of.within

      its : (d : Queue) → (get_or s.queues i d).id ≡ id
      its d = stands.place_of.is_its d

  -- the id was given out
  id_given : id < s.next_id
  id_given =
      let inside = stands.place_of.within in
      let given = lawful.ids_given i 0 (omega (arith, as_many, inside)) in
      omega (arith, given.1, id_at i q inside, stands.place_of.is_its q)

-- no message of these serials and types is on the queue, or comes to it
record IsShut (p : ℕ → ℤ → Type 0) (q : Queue) : Type 0 where
  ahead : (serial : ℕ) (mtype : ℤ) → p serial mtype → serial < q.next_serial
  none : All (λ (m : Message). p m.serial m.mtype → ⊥) q.messages

Lasts-IsShut : (p : ℕ → ℤ → Type 0) → Lasts (IsShut p)
Lasts-IsShut p = record {
  accepts = λ pid a q shut. record {
    ahead = λ serial mtype h. omega (arith, shut.ahead serial mtype h);
    none = All-push (λ (m : Message). p m.serial m.mtype → ⊥) q.messages
        (record { serial = q.next_serial; sender = pid; mtype = a.mtype; bytes = a.body }) shut.none
        (λ h. absurd (omega (arith, shut.ahead q.next_serial a.mtype h)));
  };
  gives = λ pid a q shut. record {
    ahead = shut.ahead;
    none = All-remove (λ (m : Message). p m.serial m.mtype →
        ⊥) q.messages (position_or_len (selects a.mtype q.messages) q.messages) shut.none;
  };
  sets = λ a q shut. record { ahead = shut.ahead; none = shut.none };
}

-- the queue at a place has what holds of its id
at_queue : (id : ℕ) (P : Queue → Type 0) (s : State) (i : ℕ) (q : Queue) → Stands id s i q → Holds id P s → P q
at_queue id P s i q stands holds =
    let Has : Queue → Type 0 = λ q. q.id ≡ id → P q in
    let its : q.id ≡ id = ap (λ (q : Queue). q.id) (sym (stands.is_it q)) ∙ stands.place_of.is_its q in
    subst Has (stands.is_it q) (holds.queues i q stands.place_of.within) its

-- once the queue became one with P, P holds
holds_after : (id : ℕ) (P : Queue → Type 0) (s t : State) (i : ℕ) (q new : Queue) → IsLawful s →
    Changes id s i q new t → P new → Holds id P t
holds_after id P s t i q new lawful did now = rw did.after (record {
  given = id_given id s i q did.stands lawful;
  queues = λ k d h. elim (cases_eq k i) [
    | inl here ↦ λ is. rw (here, get_or-set_same s.queues i new d did.stands.place_of.within) now
    | inr apart ↦ λ is.
        let old = get_or-set_other s.queues i k new d apart in
        absurd (apart (only_place id s i q did.stands lawful k d (omega (arith, h, length-set s.queues i new))
        (ap (λ (q : Queue). q.id) (sym old) ∙ is)))
  ];
})

-- an entry takes no message that the queue is shut to
not_taken : (callers : List Caller) (id : ℕ) (p : ℕ → ℤ → Type 0) (e : Entry) (u v : State) → Leads callers e u v →
    Holds id (IsShut p) u →
    (n : Message) × Takes id n e × p n.serial n.mtype → ⊥
not_taken callers id p (Decided seat (Receive a)
    (Received n)) u v leads holds (k, (same_id, same), h) = of_caller (caller_at callers seat) leads
  where
    of_caller : (o : Option Caller) → outcome_for o (Receive a) u ≡ Some (Received n, v) → ⊥
    of_caller None at = absurd cc
    of_caller (Some c) at =
        let did : Gives c a n u v = Effect-outcome c (Receive a) (Received n) u v at in
        let shut = at_queue a.id (IsShut p) u did.place did.q did.changes.stands (rw same_id holds) in
        let found = find-Some (selects a.mtype did.q.messages) did.q.messages did.m did.selects in
        let none = shut.none found.1.0 did.m found.1.1 in
        let its : n ≡ cut_at a.size did.m = did.cut in
        let Has : Message → Type 0 = λ x. p x.serial x.mtype in
        let mine : Has n = subst Has (sym same) h in
        let cut : Has did.m = subst Has its mine in
        none (subst Has (sym found.1.2) cut)
not_taken callers id p e u v leads holds (k, takes, h) = absurd takes

-- what follows the taking of a message
followed : (callers : List Caller) (id : ℕ) (m : Message) (later : List Entry) (s t : State) →
    LeadsAlong callers later s t →
    Holds id (IsShut (λ serial mtype. serial ≡ m.serial)) s →
    Holds id (IsShut (λ serial mtype. (mtype ≡ m.mtype) × (serial ≤ m.serial))) s →
    IsFollowed id m later
followed callers id m later s t leads once order = record {
  once = λ n k d h takes same. never Same once k d h (n, takes, same);
  in_order = λ n same_type k d h takes. elim (cases_lt m.serial n.serial) [
    | inl after ↦ after
    | inr before ↦ absurd (never Before order k d h (n, takes, (same_type, before)))
  ];
}
  where
    Same : ℕ → ℤ → Type 0
    Same serial mtype = serial ≡ m.serial

    Before : ℕ → ℤ → Type 0
    Before serial mtype = (mtype ≡ m.mtype) × (serial ≤ m.serial)

    never : (p : ℕ → ℤ → Type 0) → Holds id (IsShut p) s →
        All (λ e. (n : Message) × Takes id n e × p n.serial n.mtype → ⊥) later
    never p holds = never_later id (IsShut p)
        (Lasts-IsShut p) callers later s t (λ e. (n : Message) × Takes id n e × p n.serial n.mtype)
        (λ e u v first now bad. not_taken callers id p e u v first now bad) leads holds

-- a message taken was the earliest of its type, and is followed
gives_in_order : (callers : List Caller) (c : Caller) (a : ReceiveArguments) (m : Message) (later : List Entry)
    (s u t : State) → IsLawful s →
    Gives c a m s u → LeadsAlong callers later u t → IsEarliest a.id m s × IsFollowed a.id m later
gives_in_order callers c a m later s u t lawful did leads =
    rw did.cut (was_earliest, record { once = follows.once; in_order = follows.in_order })
  where
    q : Queue
    q = did.q

    its : IsLawfulQueue q
    its = of_queue a.id s did.place q did.changes.stands lawful

    was_earliest : IsEarliest a.id did.m s
    was_earliest k d h is =
        let here = only_place a.id s did.place q did.changes.stands lawful k d h is in
        rw (here, did.changes.stands.is_it d) (earliest q a.mtype did.m its did.selects)

    given : did.m.serial < q.next_serial
    given =
        let found = find-Some (selects a.mtype q.messages) q.messages did.m did.selects in
        let there = its.messages_lawful found.1.0 did.m found.1.1 in
        rw found.1.2 at there.serial_given

    once : Holds a.id (IsShut (λ serial mtype. serial ≡ did.m.serial)) u
    once = holds_after a.id (IsShut (λ serial mtype. serial ≡ did.m.serial)) s u did.place q
        (without_message c.pid a q) lawful did.changes (record {
          ahead = λ serial mtype same. omega (arith, same, given);
          none = All-others (λ (n : Message). n.serial ≡ did.m.serial →
              ⊥) q.messages _ (within q a.mtype did.m its did.selects)
              (λ k d h apart. other q a.mtype did.m its did.selects k d h apart);
        })

    order : Holds a.id (IsShut (λ serial mtype. (mtype ≡ did.m.mtype) × (serial ≤ did.m.serial))) u
    order = holds_after a.id (IsShut (λ serial mtype. (mtype ≡ did.m.mtype) ×
        (serial ≤ did.m.serial))) s u did.place q (without_message c.pid a q) lawful did.changes (record {
          ahead = λ serial mtype h. omega (arith, h.1, given);
          none = All-others (λ (n : Message). (n.mtype ≡ did.m.mtype) × (n.serial ≤ did.m.serial) →
              ⊥) q.messages _ (within q a.mtype did.m its did.selects)
              (λ k d h apart early. absurd (omega
              (arith, early.1, greater q a.mtype did.m its did.selects k d h apart early.0)));
        })

    follows : IsFollowed a.id did.m later
    follows = followed callers a.id did.m later u t leads once order

-- a queue removed is gone
Lasts-none : Lasts (λ (q : Queue). ⊥)
Lasts-none = record { accepts = λ pid a q h. h; gives = λ pid a q h. h; sets = λ a q h. h }

not_put : (callers : List Caller) (id : ℕ) (e : Entry) (u v : State) → Leads callers e u v →
    Holds id (λ (q : Queue). ⊥) u → Puts id e → ⊥
not_put callers id (Decided seat (Send a) (Sent n)) u v leads holds same_id = of_caller (caller_at callers seat) leads
  where
    of_caller : (o : Option Caller) → outcome_for o (Send a) u ≡ Some (Sent n, v) → ⊥
    of_caller None at = absurd cc
    of_caller (Some c) at =
        let did : Accepts c a u v = Effect-outcome c (Send a) (Sent n) u v at in
        at_queue a.id (λ (q : Queue). ⊥) u did.place did.q did.changes.stands (rw same_id holds)
not_put callers id e u v leads holds puts = absurd puts

taken_no_more : (callers : List Caller) (id : ℕ) (m : Message) (e : Entry) (u v : State) → Leads callers e u v →
    Holds id (λ (q : Queue). ⊥) u →
    Takes id m e → ⊥
taken_no_more callers id m (Decided seat (Receive a)
    (Received n)) u v leads holds (same_id, same) = of_caller (caller_at callers seat) leads
  where
    of_caller : (o : Option Caller) → outcome_for o (Receive a) u ≡ Some (Received n, v) → ⊥
    of_caller None at = absurd cc
    of_caller (Some c) at =
        let did : Gives c a n u v = Effect-outcome c (Receive a) (Received n) u v at in
        at_queue a.id (λ (q : Queue). ⊥) u did.place did.q did.changes.stands (rw same_id holds)
taken_no_more callers id m e u v leads holds takes = absurd takes

gone_after : (callers : List Caller) (id : ℕ) (later : List Entry) (s u t : State) → IsLawful s → Removes id s u →
    LeadsAlong callers later u t → IsGone id later
gone_after callers id later s u t lawful did leads = record {
  none_put = never_later id (λ (q : Queue). ⊥) Lasts-none callers later u t (Puts id)
      (λ e v w first now bad. not_put callers id e v w first now bad) leads gone;
  none_taken = λ m. never_later id (λ (q : Queue). ⊥) Lasts-none callers later u t (Takes id m)
      (λ e v w first now bad. taken_no_more callers id m e v w first now bad) leads gone;
}
  where
    gone : Holds id (λ (q : Queue). ⊥) u
    gone = rw did.after (record {
      given = id_given id s did.place did.q did.stands lawful;
      queues = All-others (λ (q : Queue). q.id ≡ id → ⊥) s.queues did.place did.stands.place_of.within
          (λ k d h apart is. apart (only_place id s did.place did.q did.stands lawful k d h is));
    })

-- each entry of a legal journal is in order
in_order : (callers : List Caller) (e : Entry) (later : List Entry) (s u t : State) → IsLawful s →
    Leads callers e s u → LeadsAlong callers later u t →
    IsInOrder e s later
in_order callers (Decided seat (Receive a)
    (Received m)) later s u t lawful first rest = of_caller (caller_at callers seat) first
  where
    of_caller : (o : Option Caller) → outcome_for o (Receive a) s ≡ Some (Received m, u) →
        IsEarliest a.id m s × IsFollowed a.id m later
    of_caller None at = absurd cc
    of_caller (Some c) at = gives_in_order callers c a m later s u t lawful (Effect-outcome c (Receive a)
        (Received m) s u at) rest
in_order callers (Decided seat (Remove id) Done) later s u t lawful first rest = of_caller
    (caller_at callers seat) first
  where
    of_caller : (o : Option Caller) → outcome_for o (Remove id) s ≡ Some (Done, u) → IsGone id later
    of_caller None at = absurd cc
    of_caller (Some c) at = gone_after callers id later s u t lawful (Effect-outcome c (Remove id) Done s u at) rest
in_order callers e later s u t lawful first rest = tt

pub IsFifo-LeadsAlong : (callers : List Caller) (es : List Entry) (s t : State) → IsLawful s →
    LeadsAlong callers es s t → IsFifo callers es s
IsFifo-LeadsAlong callers [] s t lawful leads = tt
IsFifo-LeadsAlong callers (e ∷ es) s t lawful (u, first, rest) =
    let now = after-Leads callers e s u first in (
      in_order callers e es s u t lawful first rest,
      rw now (IsFifo-LeadsAlong callers es u t
          (IsLawful-Leads callers e s u lawful first) rest),
    )
