-- What tests of queues and messages know of those that they have seen.
use Rattle.std.proofs.Common.{◌≡◌, ℕ, Bool, suc, ◌+◌, ◌<◌, ◌≤◌, ◌^◌, List, [], ◌∷◌, ◌++◌, length, map, take, Option, Some, None, arith, refl, sym, ap, subst, ◌∙◌, get_or, true, false}
use Rattle.std.specs.Prelude.{slice_index_or}
use Rattle.std.specs.List.{All, AllPairs}
use Rattle.std.proofs.Math.Seq.{take-suc}
use Rattle.std.proofs.lemmas.List.{get_or-map, get_or_default, length-map, take_all}
use Rattle.std.proofs.lemmas.List.Elements.{All-nil, All-push, All-map}
use Rattle.std.proofs.lemmas.List.Quantifiers.{all_pairs_push}
use Rattle.std.proofs.lemmas.List.Sums.{sum_by-le}
use Rattle.queue_model.proofs.ListLemmas.{position_at}
use Rattle.queue_model.proofs.Words.{Message, Queue}
use Rattle.queue_model.specs.Lawful.{AreKeysApart, AreLawfulMessages, AreLawfulQueues, IsLawful}
use Rattle.queue_model.specs.Selection.{total_bytes}
use Rattle.numbers.specs.declared.limits.TheConstants.{END_OF_IDS, MAX_BODY, MAX_MESSAGES, MAX_QUEUES}
use Rattle.queue_model.specs.Places.{IsFirstOfItsKey}
use Rattle.queue_model.specs.Rules.{has_key, is_key}

-- the first i elements keep their limits and ascend up to low; those behind would have to stand above it
pub record AscendSoFar {X : Type 0} (P : X → Type 0) (f : X → ℕ) (xs : List X) (i low : ℕ) : Type 0 where
  pub each : All P (take i xs)
  pub ascend : AllPairs (λ (a b : X). f a < f b) (take i xs)
  pub most : All (λ (a : X). f a ≤ low) (take i xs)
  pub above : All P xs → AllPairs (λ (a b : X). f a < f b) xs → (k : ℕ) (d : X) → i ≤ k → k < length xs →
      low < f (slice_index_or xs k d)

module _ {X : Type 0} (P : X → Type 0) (f : X → ℕ) (xs : List X) where
  pub ascend_start : ((x : X) → P x → 1 ≤ f x) → AscendSoFar P f xs 0 0
  ascend_start begun = record {
    each = All-nil P;
    ascend = λ i j d before within. absurd (omega (arith, within));
    most = All-nil (λ (a : X). f a ≤ 0);
    above = λ all ascend k d from within. begun (slice_index_or xs k d) (all k d within);
  }

  pub ascend_more : (i low : ℕ) (d : X) → i < length xs → AscendSoFar P f xs i low → P (slice_index_or xs i d) →
      low < f (slice_index_or xs i d) → AscendSoFar P f xs (i + 1) (f (slice_index_or xs i d))
  ascend_more i low d within so good over =
      let x : X = slice_index_or xs i d in
      let one : i + 1 ≡ suc i = omega arith in
      let grown : take (i + 1) xs ≡ take i xs ++ x ∷ [] = ap (λ n. take n xs) one ∙ take-suc xs i d within in
      let most : All (λ (a : X). f a ≤ f x) (take i xs) = λ k e h. (let m = so.most k e h in omega (arith, m, over)) in
      let below : (k : ℕ) (e : X) → k < length (take i xs) → f (get_or (take i xs) k e) < f x =
      λ k e h. (let m = so.most k e h in omega (arith, m, over)) in
      record {
        each = rw grown (All-push P (take i xs) x so.each good);
        ascend = rw grown (all_pairs_push (λ (a b : X). f a < f b) (take i xs) x so.ascend below);
        most = rw grown (All-push (λ (a : X). f a ≤ f x) (take i xs) x most (omega arith));
        above = λ all ascend k e from inside.
            let here = ascend i k e (omega (arith, from)) inside in
            subst (λ y. f y < f (slice_index_or xs k e)) (get_or_default xs i e d within) here;
      }

  -- where all do, the next one does
  pub ascend_goes_on : (i low : ℕ) (d : X) → i < length xs → AscendSoFar P f xs i low →
      All P xs → AllPairs (λ (a b : X). f a < f b) xs → P (slice_index_or xs i d) × (low < f (slice_index_or xs i d))
  ascend_goes_on i low d within so all ascend = (all i d within, so.above all ascend i d (omega arith) within)

  -- the same of an element that was read
  module _ (i low : ℕ) (x : X) (within : i < length xs) (is : x ≡ slice_index_or xs i x)
      (so : AscendSoFar P f xs i low) where
    pub ascend_read : P x × (low < f x) → AscendSoFar P f xs (i + 1) (f x)
    ascend_read good =
        subst (λ (y : X). AscendSoFar P f xs (i + 1) (f y)) (sym is)
        (ascend_more i low x within so (subst P is good.0) (subst (λ (y : X). low < f y) is good.1))

    pub ascend_holds : All P xs → AllPairs (λ (a b : X). f a < f b) xs → P x × (low < f x)
    ascend_holds all ascend =
        let here = ascend_goes_on i low x within so all ascend in
        (subst P (sym is) here.0, subst (λ (y : X). low < f y) (sym is) here.1)

  -- the end is reached
  pub ascend_whole : (i low : ℕ) → length xs ≤ i → AscendSoFar P f xs i low →
      All P xs × AllPairs (λ (a b : X). f a < f b) xs
  ascend_whole i low ended so =
      let whole : take i xs ≡ xs = take_all i xs ended in
      (subst (All P) whole so.each, subst (AllPairs (λ (a b : X). f a < f b)) whole so.ascend)

-- a key is that of the queue that has it
has_key-is : (k : ℕ) (key : Option ℕ) → is_key k key ≡ true → key ≡ Some k
has_key-is k None e = absurd cc
has_key-is k (Some j) e = let same : j ≡ k = grind (arith, e) in ap Some same

empty_queue : Queue
empty_queue = record {
  id = 0;
  key = None;
  permissions = record { uid = 0; gid = 0; cuid = 0; cgid = 0; mode = 0 };
  qbytes = 0;
  lspid = 0;
  lrpid = 0;
  stime = 0;
  rtime = 0;
  ctime = 0;
  next_serial = 0;
  messages = [];
}

-- where each queue is the first of its key, no two have one
pub apart_from_first : (qs : List Queue) → ((place : ℕ) → place < length qs → IsFirstOfItsKey qs place) →
    AllPairs AreKeysApart (map (λ (q : Queue). q.key) qs)
apart_from_first qs first i j d before within k a b =
    let inside : j < length qs = subst (λ n. j < n) (length-map qs (λ (q : Queue). q.key)) within in
    let p : Queue = slice_index_or qs i empty_queue in
    let q : Queue = slice_index_or qs j empty_queue in
    let at_i = first i (omega arith) p k (get_or_default qs i p empty_queue (omega arith))
    (sym (get_or-map (λ (q : Queue). q.key) qs i empty_queue d (omega arith)) ∙ a) in
    let at_j = first j inside q k (get_or_default qs j q empty_queue inside)
    (sym (get_or-map (λ (q : Queue). q.key) qs j empty_queue d inside) ∙ b) in
    let same : Some i ≡ Some j = sym at_i ∙ at_j in
    let e : i ≡ j = cc in
    absurd (omega (arith, e))

-- where no two queues have one key, each is the first of its key
pub first_from_apart : (qs : List Queue) (place : ℕ) → place < length qs →
    AllPairs AreKeysApart (map (λ (q : Queue). q.key) qs) → IsFirstOfItsKey qs place
first_from_apart qs place within apart q k at its =
    position_at (has_key k) qs place q within before (ap (has_key k) at ∙ ap (is_key k) its ∙ grind arith)
  where
    inside : place < length (map (λ (q : Queue). q.key) qs)
    inside = subst (λ n. place < n) (sym (length-map qs (λ (q : Queue). q.key))) within

    by_key : (i : ℕ) (e : Queue) → i < place → (b : Bool) → has_key k (slice_index_or qs i e) ≡ b →
        has_key k (slice_index_or qs i e) ≡ false
    by_key i e below false h = h
    by_key i e below true h = absurd (apart i place None below inside k
        (get_or-map (λ (q : Queue). q.key) qs i e None (omega arith) ∙ has_key-is k (slice_index_or qs i e).key h)
        (get_or-map (λ (q : Queue). q.key) qs place q None within ∙ ap (λ (q : Queue). q.key) at ∙ its))

    before : (i : ℕ) (e : Queue) → i < place → has_key k (slice_index_or qs i e) ≡ false
    before i e below = by_key i e below (has_key k (slice_index_or qs i e)) refl

-- short messages have few bytes together
pub few_bytes : (ms : List Message) (next_serial : ℕ) → length ms ≤ MAX_MESSAGES → AreLawfulMessages next_serial ms →
    total_bytes ms < 2 ^ 64
few_bytes ms next_serial few h =
    let each : All (λ (m : Message). length m.bytes ≤ MAX_BODY) ms = λ k d within. (h.each k d within).short in
    let most = sum_by-le (λ (m : Message). length m.bytes) MAX_BODY ms each in
    omega (arith, most, few)

-- ---- queues that can be alive together, and a system

module _ (qs : List Queue) (next_id : ℕ) where
  id_at : (k : ℕ) (d : Queue) → k < length qs → get_or (map (λ (q : Queue). q.id) qs) k 0 ≡ (slice_index_or qs k d).id
  id_at k d within = get_or-map (λ (q : Queue). q.id) qs k d 0 within

  as_many : length (map (λ (q : Queue). q.id) qs) ≡ length qs
  as_many = length-map qs (λ (q : Queue). q.id)

  pub lawful_parts : IsLawful (record { queues = qs; next_id = next_id; stopped = false }) →
      AreLawfulQueues next_id qs
  lawful_parts h = record {
    each = λ k d within.
        let given = h.ids_given k 0 (subst (λ n. k < n) (sym as_many) within) in
        record {
          lawful = h.queues_lawful k d within;
          begun = subst (λ n. 1 ≤ n) (id_at k d within) given.0;
          given = subst (λ n. n < next_id) (id_at k d within) given.1;
        };
    ascend = λ i j d before within.
        let here = h.ids_ascend i j 0 before (subst (λ n. j < n) (sym as_many) within) in
        subst (λ n. (slice_index_or qs i d).id < n) (id_at j d within)
        (subst (λ n. n < get_or (map (λ (q : Queue). q.id) qs) j 0) (id_at i d (omega arith)) here);
  }

  pub lawful_whole : length qs ≤ MAX_QUEUES → 1 ≤ next_id → next_id ≤ END_OF_IDS → AreLawfulQueues next_id qs →
      AllPairs AreKeysApart (map (λ (q : Queue). q.key) qs) →
      IsLawful (record { queues = qs; next_id = next_id; stopped = false })
  lawful_whole few begun ends h apart = record {
    few_queues = few;
    id_begun = begun;
    ids_end = ends;
    queues_lawful = λ k d within. (h.each k d within).lawful;
    ids_given = All-map (λ (id : ℕ). (1 ≤ id) × (id < next_id)) (λ (q : Queue). q.id) qs
        (λ k d within. ((h.each k d within).begun, (h.each k d within).given));
    ids_ascend = λ i j d before within.
        let inside : j < length qs = subst (λ n. j < n) as_many within in
        let here = h.ascend i j empty_queue before inside in
        let at_i = get_or-map (λ (q : Queue). q.id) qs i empty_queue d (omega arith) in
        let at_j = get_or-map (λ (q : Queue). q.id) qs j empty_queue d inside in
        subst (λ n. get_or (map (λ (q : Queue). q.id) qs) i d < n) (sym at_j)
        (subst (λ n. n < (slice_index_or qs j empty_queue).id) (sym at_i) here);
    keys_apart = apart;
  }
