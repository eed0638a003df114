-- The queues of a system are those of the ids that stand, and all its records stand.
use Rattle.std.proofs.Common.{ℕ, ◌≡◌, ◌+◌, ◌-◌, ◌<◌, ◌≤◌, nat_lt, Bool, true, false, List, [], ◌∷◌, ◌++◌, length, map, Option, Some, None, get_or, refl, sym, ap, subst, ◌∙◌, inl, inr, arith}
use Rattle.std.specs.Prelude.{slice_index, slice_index_or}
use Rattle.std.specs.List.{All, AllPairs, Contains, flat_map}
use Rattle.std.proofs.Math.Seq.{get_or-append_right}
use Rattle.std.proofs.lemmas.List.{ext_get_or, get_or_default, get_or_append_left, get_or-map, length-append, length-map}
use Rattle.std.proofs.lemmas.Bool.Decides.{nat_tests}
use Rattle.std.proofs.lemmas.List.Concat.{flat_map-cons}
use Rattle.std.proofs.lemmas.List.Elements.{All-nil, All-cons, All-append, All-contains}
use Rattle.queue_records.specs.declared.record.Record.TheVariants as records
use Rattle.type_chains.proofs.Members.{contains_head, contains_tail, head_or_tail}
use Rattle.type_chains.proofs.Pairs.{All-flat_map}
use Rattle.type_chains.proofs.Unique.{pairs_head, pairs_tail}
use Rattle.record_walk.specs.declared.fault.WalkFault.TheVariants as faults
use Rattle.record_walk.specs.Held.{Holds}
use Rattle.record_walk.specs.Systems.{AreQueueIds, AreQueuesOf, HasNoSystem, HasQueue, HasSystem, IsQueueOf}
use Rattle.record_walk.specs.Told.{IsFirstWrongQueue, IsToldOfQueue, IsToldOfQueues, IsToldOfSystem, LacksQueue}
use Rattle.record_walk.specs.Words.{RecordKey, WalkFault, Counter, Queue, State, IsLawful, counter_of, key_of_queue, key_records, message_records, queue_entry, queue_records, type_records}

-- some queue
empty_queue : Queue
empty_queue = record {
  id = 0;
  key = None;
  permissions = record { uid = 0; gid = 0; cuid = 0; cgid = 0; mode = 0 };
  qbytes = 0;
  lspid = 0;
  lrpid = 0;
  stime = 0;
  rtime = 0;
  ctime = 0;
  next_serial = 0;
  messages = [];
}

-- ---- ascending lists of the same elements are the same

abbrev Ascends : List ℕ → Type 0
Ascends xs = AllPairs (λ (a b : ℕ). a < b) xs

heads_same : (x y : ℕ) (xs ys : List ℕ) → Ascends (x ∷ xs) → Ascends (y ∷ ys) → Contains (y ∷ ys) x →
    Contains (x ∷ xs) y → x ≡ y
heads_same x y xs ys a b c d = elim (head_or_tail y x ys c) [
  | inl same ↦ sym same
  | inr later ↦ elim (head_or_tail x y xs d) [
    | inl same ↦ same
    | inr after ↦ (
        let below = All-contains (λ z. y < z) ys x (pairs_head (λ (a b : ℕ). a < b) y ys b) later in
        let above = All-contains (λ z. x < z) xs y (pairs_head (λ (a b : ℕ). a < b) x xs a) after in
        absurd (omega (arith, below, above)))
  ]
]

tail_has : (x y : ℕ) (xs ys : List ℕ) → Ascends (x ∷ xs) → x ≡ y →
    ((z : ℕ) → Contains (x ∷ xs) z → Contains (y ∷ ys) z) → (z : ℕ) → Contains xs z → Contains ys z
tail_has x y xs ys a same has z c = elim (head_or_tail y z ys (has z (contains_tail x z xs c))) [
  | inl is ↦ (
      let above = All-contains (λ w. x < w) xs z (pairs_head (λ (a b : ℕ). a < b) x xs a) c in
      absurd (omega (arith, above, same, is)))
  | inr later ↦ later
]

same_ascending : (xs ys : List ℕ) → Ascends xs → Ascends ys → ((z : ℕ) → Contains xs z → Contains ys z) →
    ((z : ℕ) → Contains ys z → Contains xs z) → xs ≡ ys
same_ascending [] [] a b there back = refl
same_ascending [] (y ∷ ys) a b there back =
    let none = back y (contains_head y ys) in absurd (let w = none.1 in omega (arith, w))
same_ascending (x ∷ xs) [] a b there back =
    let none = there x (contains_head x xs) in absurd (let w = none.1 in omega (arith, w))
same_ascending (x ∷ xs) (y ∷ ys) a b there back =
    let same : x ≡ y =
    heads_same x y xs ys a b (there x (contains_head x xs)) (back y (contains_head y ys)) in
    let rest : xs ≡ ys =
    same_ascending xs ys (pairs_tail (λ (a b : ℕ). a < b) x xs a) (pairs_tail (λ (a b : ℕ). a < b) y ys b)
    (tail_has x y xs ys a same there) (tail_has y x ys xs b (sym same) back) in
    ap (λ n. n ∷ xs) same ∙ ap (λ zs. y ∷ zs) rest

-- ---- the records of a system are those of its queues

module _ {X : Type 0} (P : X → Type 0) where
  all_left : (xs ys : List X) → All P (xs ++ ys) → All P xs
  all_left xs ys h k d within =
      subst P (get_or_append_left xs ys d k within) (h k d
      (let long = length-append xs ys in omega (arith, long, within)))

  all_right : (xs ys : List X) → All P (xs ++ ys) → All P ys
  all_right xs ys h k d within =
      let place : length xs + k - length xs ≡ k = omega arith in
      subst P (get_or-append_right xs ys (length xs + k) d (omega arith) ∙ ap (λ n. get_or ys n d) place)
      (h (length xs + k) d (let long = length-append xs ys in omega (arith, long, within)))

  all_flat : {Y : Type 0} (f : Y → List X) (ys : List Y) → All P (flat_map f ys) → All (λ (y : Y). All P (f y)) ys
  all_flat f [] h = All-nil (λ y. All P (f y))
  all_flat f (y ∷ ys) h =
      let parts = subst (All P) (flat_map-cons f y ys) h in
      All-cons (λ z. All P (f z)) y ys (all_left (f y) (flat_map f ys) parts)
      (all_flat f ys (all_right (f y) (flat_map f ys) parts))

module _ (held : RecordKey → Option (List ℕ)) where
  -- a queue of a system has its records
  has_queues : (s : State) → HasSystem held s → All (HasQueue held) s.queues
  has_queues s h k d within =
      let q : Queue = slice_index_or s.queues k d in
      let rest = all_right (Holds held) (records.Counter (counter_of s) ∷ [])
      (flat_map queue_records s.queues) h.stand in
      let all = all_flat (Holds held) queue_records s.queues rest k d within in
      let behind = all_right (Holds held) (key_records q) _ all in
      let last = all_right (Holds held) (records.Queue (queue_entry q) ∷ [])
      (type_records q ++ message_records q) behind in
      record {
        lawful = h.lawful.queues_lawful k d within;
        key = all_left (Holds held) (key_records q) _ all;
        queue = behind 0 (records.Queue (queue_entry q)) (omega arith);
        types = all_left (Holds held) (type_records q) (message_records q) last;
        messages = all_right (Holds held) (type_records q) (message_records q) last;
      }

  stand_together : (q : Queue) → HasQueue held q → All (Holds held) (queue_records q)
  stand_together q h =
      All-append (Holds held) (key_records q) _ h.key
      (All-cons (Holds held) (records.Queue (queue_entry q)) _ h.queue
      (All-append (Holds held) (type_records q) (message_records q) h.types h.messages))

  -- no queue of one id, no system
  pub wrong_queue : (id : ℕ) → IsFirstWrongQueue held id → HasNoSystem held
  wrong_queue id w s h =
      let f : Queue → ℕ = λ q. q.id in
      let on = h.queues id w.stands in
      let inside : on.0 < length s.queues = subst (λ n. on.0 < n) (length-map s.queues f) on.1 in
      w.none (slice_index_or s.queues on.0 empty_queue) (has_queues s h on.0 empty_queue inside)
      (sym (get_or-map f s.queues on.0 empty_queue id inside) ∙ on.2)

  module _ (ids : List ℕ) (given : AreQueueIds held ids) where
    -- the first of the ids that has no queue is the lowest
    first_wrong : (fault : WalkFault) (w : LacksQueue held ids fault) →
        IsFirstWrongQueue held (slice_index ids w.place)
    first_wrong fault w = record {
      stands = given.only (slice_index ids w.place) (
        w.place,
        w.within,
        sym (get_or_default ids w.place 0 (slice_index ids w.place) w.within),
      );
      none = w.none;
      before = λ lower less stands. by_place lower less (given.all lower stands);
    }
      where
        by_place : (lower : ℕ) → lower < slice_index ids w.place → Contains ids lower →
            (q : Queue) × IsQueueOf held lower q
        by_place lower less on = by_test (nat_lt on.0 w.place) refl
          where
            by_test : (b : Bool) → nat_lt on.0 w.place ≡ b → (q : Queue) × IsQueueOf held lower q
            by_test true e = (
                let below : on.0 < w.place = grind (arith, nat_tests, e) in
                let is : slice_index ids on.0 ≡ lower = get_or_default ids on.0 0 lower on.1 ∙ on.2 in
                subst (λ n. (q : Queue) × IsQueueOf held n q) is (w.before on.0 below))
            by_test false e = (
                let is : slice_index ids on.0 ≡ lower = get_or_default ids on.0 0 lower on.1 ∙ on.2 in
                let rest = by_order (nat_lt w.place on.0) refl in
                absurd (omega (arith, rest, is, less)))
              where
                by_order : (b : Bool) → nat_lt w.place on.0 ≡ b → slice_index ids w.place ≤ slice_index ids on.0
                by_order true f = (
                    let above : w.place < on.0 = grind (arith, nat_tests, f) in
                    let order = given.ascend w.place on.0 0 above on.1 in
                    omega (arith, order))
                by_order false f = (
                    let same : w.place ≡ on.0 = grind (arith, nat_tests, e, f) in
                    let equal = ap (slice_index ids) same in
                    omega (arith, equal))

    -- the ids of a system's queues are those that stand
    ids_are : (s : State) → HasSystem held s → map (λ (q : Queue). q.id) s.queues ≡ ids
    ids_are s h = same_ascending (map (λ (q : Queue). q.id) s.queues) ids h.lawful.ids_ascend given.ascend there back
      where
        there : (id : ℕ) → Contains (map (λ (q : Queue). q.id) s.queues) id → Contains ids id
        there id on =
            let i : ℕ = on.0 in
            let none : Queue = empty_queue in
            let inside : i < length s.queues =
            subst (λ n. i < n) (length-map s.queues (λ (q : Queue). q.id)) on.1 in
            let q : Queue = slice_index_or s.queues i none in
            let is : q.id ≡ id = sym (get_or-map (λ (q : Queue). q.id) s.queues i none id inside) ∙ on.2 in
            given.all id (λ absent.
            let stands = (has_queues s h i none inside).queue in
            let clash = sym (subst (λ n. held (key_of_queue n) ≡ None) (sym is) absent) ∙ stands.found in
            absurd cc)

        back : (id : ℕ) → Contains ids id → Contains (map (λ (q : Queue). q.id) s.queues) id
        back id on = h.queues id (given.only id on)

    module _ (qs : List Queue) (read : AreQueuesOf held ids qs) where
      -- the queues of a system are those that were read
      pub queues_are : (s : State) → HasSystem held s → s.queues ≡ qs
      queues_are s h =
          let ids_same = ids_are s h in
          let long : length s.queues ≡ length ids =
          sym (length-map s.queues (λ (q : Queue). q.id)) ∙ ap length ids_same in
          ext_get_or empty_queue s.queues qs (long ∙ sym read.number)
          (λ i inside. (read.each i empty_queue (omega (arith, inside, long))).only
          (slice_index_or s.queues i empty_queue) (has_queues s h i empty_queue inside)
          (sym (get_or-map (λ (q : Queue). q.id) s.queues i empty_queue 0 inside) ∙ ap (λ xs. get_or xs i 0) ids_same))

      -- what was read is a system, where it is lawful and counted
      pub is_system : (next_id : ℕ) → IsLawful (record { queues = qs; next_id = next_id; stopped = false }) →
          Holds held (records.Counter (record { next_id = next_id; queues_alive = length qs })) →
          HasSystem held (record { queues = qs; next_id = next_id; stopped = false })
      is_system next_id lawful counted = record {
        lawful = lawful;
        running = refl;
        stand = All-cons (Holds held) _ (flat_map queue_records qs) counted
            (All-flat_map (Holds held) queue_records qs (λ k d within.
            stand_together (slice_index_or qs k d)
            (read.each k d (let n = read.number in omega (arith, within, n))).has));
        queues = λ id there. subst (λ xs. Contains xs id) (sym ids_read) (given.all id there);
      }
        where
          ids_read : map (λ (q : Queue). q.id) qs ≡ ids
          ids_read =
              ext_get_or 0 (map (λ (q : Queue). q.id) qs) ids (length-map qs (λ (q : Queue). q.id) ∙ read.number)
              (λ i inside. (
              let n = length-map qs (λ (q : Queue). q.id) in
              let m = read.number in
              get_or-map (λ (q : Queue). q.id) qs i empty_queue 0 (omega (arith, inside, n))
              ∙ (read.each i empty_queue (omega (arith, inside, n, m))).its))

      -- a system has these queues and is counted so
      module _ (c : Counter) (told : (d : Counter) → Holds held (records.Counter d) → Some c ≡ Some d) where
        pub system_is : (s : State) → HasSystem held s →
            s ≡ record { queues = qs; next_id = c.next_id; stopped = false }
        system_is s h =
            let counter : Holds held (records.Counter (counter_of s)) = h.stand 0 (records.Counter c) (omega arith) in
            let one = told (counter_of s) counter in
            let is : c ≡ counter_of s = cc in
            let next : s.next_id ≡ c.next_id = sym (ap (λ (x : Counter). x.next_id) is) in
            let all = queues_are s h in
            let running = h.running in
            λ i. record { queues = all i; next_id = next i; stopped = running i }

        -- there is none where they are unlawful, or are not counted
        pub no_system : (HasSystem held (record { queues = qs; next_id = c.next_id; stopped = false }) → ⊥) →
            HasNoSystem held
        no_system none s h = none (subst (HasSystem held) (system_is s h) h)

-- one queue more is read
pub read_more : (held : RecordKey → Option (List ℕ)) (ids : List ℕ) (qs : List Queue) (q : Queue) (n : ℕ) →
    length qs ≡ n →
    ((i : ℕ) (d : Queue) → i < n → IsQueueOf held (slice_index ids i) (slice_index_or qs i d)) →
    IsQueueOf held (slice_index ids n) q →
    (i : ℕ) (d : Queue) → i < n + 1 → IsQueueOf held (slice_index ids i) (slice_index_or (qs ++ q ∷ []) i d)
read_more held ids qs q n number before here i d less = by_place (nat_lt i n) refl
  where
    by_place : (b : Bool) → nat_lt i n ≡ b → IsQueueOf held (slice_index ids i) (slice_index_or (qs ++ q ∷ []) i d)
    by_place true lower =
        let below : i < n = grind (arith, nat_tests) in
        subst (IsQueueOf held (slice_index ids i))
        (sym (get_or_append_left qs (q ∷ []) d i (omega (arith, below, number)))) (before i d below)
    by_place false upper =
        let same : n ≡ i = grind (arith, nat_tests, less) in
        let none : i - length qs ≡ 0 = omega (arith, same, number) in
        subst (IsQueueOf held (slice_index ids i))
        (sym (get_or-append_right qs (q ∷ []) i d (omega (arith, same, number)) ∙ ap (λ k. get_or (q ∷ []) k d) none))
        (subst (λ k. IsQueueOf held (slice_index ids k) q) same here)

-- no Counter, no system
pub no_counter : (held : RecordKey → Option (List ℕ)) (found : Option Counter) →
    ((c : Counter) → Holds held (records.Counter c) → found ≡ Some c) → found ≡ None → HasNoSystem held
no_counter held found told none s h =
    let stands : Holds held (records.Counter (counter_of s)) =
    h.stand 0 (records.Counter (counter_of s)) (omega arith) in
    let clash = sym none ∙ told (counter_of s) stands in
    absurd cc

-- queues that could not be read
pub queues_failed : (now held : RecordKey → Option (List ℕ)) (ids : List ℕ) (fault : WalkFault) →
    AreQueueIds held ids → now ≡ held → IsToldOfQueues now ids fault → IsToldOfSystem held fault
queues_failed now held ids faults.Device given same w = tt
queues_failed now held ids faults.NoMemory given same w = tt
queues_failed now held ids (faults.Changed page) given same (inl machine) = machine
queues_failed now held ids faults.WrongCounter given same (inl machine) = absurd machine
queues_failed now held ids (faults.WrongQueue queue) given same (inl machine) = absurd machine
queues_failed now held ids (faults.Changed page) given same (inr w) = let named = w.named in absurd cc
queues_failed now held ids faults.WrongCounter given same (inr w) = let named = w.named in absurd cc
queues_failed now held ids (faults.WrongQueue queue) given same (inr w) =
    let named = w.named in
    let is : slice_index ids w.place ≡ queue = cc in
    subst (IsFirstWrongQueue held) is (first_wrong held ids given (faults.WrongQueue queue)
    (subst (λ (h : RecordKey → Option (List ℕ)). LacksQueue h ids (faults.WrongQueue queue)) same w))

-- one of the ids has no queue
pub lacks_one : (held : RecordKey → Option (List ℕ)) (ids : List ℕ) (qs : List Queue) (n : ℕ) (fault : WalkFault) →
    n < length ids →
    ((i : ℕ) (d : Queue) → i < n → IsQueueOf held (slice_index ids i) (slice_index_or qs i d)) →
    IsToldOfQueue held (slice_index ids n) fault → IsToldOfQueues held ids fault
lacks_one held ids qs n fault within before (inl machine) = inl machine
lacks_one held ids qs n fault within before (inr w) = inr (record {
  place = n;
  within = within;
  before = λ i less. (slice_index_or qs i empty_queue, before i empty_queue less);
  none = w.1;
  named = w.0;
})

-- the Counter that is looked for is that of the system
pub counted_so : (next alive : ℕ) (s : State) (qs : List Queue) (next_id : ℕ) →
    s ≡ record { queues = qs; next_id = next_id; stopped = false } → next ≡ s.next_id → alive ≡ length s.queues →
    records.Counter (record { next_id = next; queues_alive = alive })
    ≡ records.Counter (record { next_id = next_id; queues_alive = length qs })
counted_so next alive s qs next_id made a b =
    let c : next ≡ next_id = a ∙ ap (λ (x : State). x.next_id) made in
    let d : alive ≡ length qs = b ∙ ap (λ (x : State). length x.queues) made in
    λ i. records.Counter (record { next_id = c i; queues_alive = d i })

pub counter_stands : (held : RecordKey → Option (List ℕ)) (qs : List Queue) (next_id : ℕ) →
    HasSystem held (record { queues = qs; next_id = next_id; stopped = false }) →
    Holds held (records.Counter (record { next_id = next_id; queues_alive = length qs }))
counter_stands held qs next_id h =
    h.stand 0 (records.Counter (record { next_id = next_id; queues_alive = length qs })) (omega arith)
