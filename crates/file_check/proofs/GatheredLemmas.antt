-- Where the pages of a right file hold exactly the records of a lawful system, the file is that system's.
use Rattle.std.proofs.Common.{ℕ, suc, option_map, ◌≡◌, ◌<◌, ◌+◌, ◌≤◌, nat_lt, Bool, true, false, List, [], ◌∷◌, ◌++◌, length, map, take, Option, Some, None, IfSome, refl, sym, ap, subst, ◌∙◌, arith}
use Rattle.std.specs.List.{All, AllPairs, Contains, find, flat_map}
use Rattle.std.specs.Prelude.{◌≢◌, option_to_list, slice_index, slice_index_or}
use Rattle.std.proofs.Math.Seq.{take-suc}
use Rattle.std.proofs.lemmas.Grind.{flat_map-append}
use Rattle.std.proofs.lemmas.Bool.Decides.{Decides-eqb, nat_tests}
use Rattle.std.proofs.Math.Seq.{get_or-append_seam}
use Rattle.std.proofs.lemmas.List.{get_or_append_left, get_or_default, length-append}
use Rattle.std.proofs.lemmas.List.{take_all}
use Rattle.std.proofs.lemmas.List.Elements.{All-append, All-contains, Contains-append_left, Contains-append_right}
use Rattle.queue_records.specs.declared.record.Record.TheVariants as records
use Rattle.file_check.proofs.Names.{all_of, AreLinksOf, contains_head, contains_tail, contents_are_pairs, counter_of, find-Some, has_id, HasContents, HasSystem, Holds, image, image_agrees, in_flat_map, in_map, IsQuietFile, IsSystemOf, key_entry, key_of_queue, key_records, message_records, one_system, Queue, queue_entry, queue_records, QueueLinks, Quiet, record_of, type_records}
use Rattle.file_check.specs.Gathered.{AreCounted, AreJustOf, AreLinksOfAll, IsOf}
use Rattle.file_check.specs.Strays.{AreNeeded, AreNeededOn, IsNeeded}
use Rattle.file_check.specs.Words.{Layout, Pair, Record, RecordKey, SpellsRecord, SpellsIn, State, Store, contents, held_in, pair, pairs_on, records_at}
use Rattle.record_walk.proofs.VersionLemmas.{held_some, some_held}
use Rattle.record_walk.specs.Versions.{today_in}
use Rattle.file_check.proofs.CountLemmas.{count_more, named_each}
use Rattle.file_check.proofs.RecordLemmas.{AreTestedTo, tested_all}

module _ (l : Layout) (hash : RecordKey → ℕ) (st : Store) (ns : List ℕ) (quiet : IsQuietFile hash st ns) where
  stand : HasContents st
  stand = contents_are_pairs hash st Quiet quiet.sound

  -- no record has the keys of two
  apart : AllPairs (λ (p q : Pair). (r : Record) → SpellsIn l r p.key p.value → SpellsIn l r q.key q.value → ⊥)
      (pairs_on st ns)
  apart = subst (λ (ms : List ℕ). AllPairs (λ (p q : Pair). (r : Record) → SpellsIn l r p.key p.value →
      SpellsIn l r q.key q.value → ⊥) (pairs_on st ms)) quiet.chained
      (λ i j d before within r first second.
      stand.distinct i j d before within (first.keyed ∙ sym second.keyed))

  module _ (s : State) (just : AreJustOf l st ns s) where
    each_of : (p : Pair) → Contains (pairs_on st ns) p → IsOf l s p
    each_of p on = All-contains (IsOf l s) (pairs_on st ns) p just.each on

    holds : (r : Record) → Contains (image s) r → Holds (held_in l st) r
    holds r on =
        let many = just.many in
        let (p, there, named) = named_each (λ (x : Record) (q : Pair). SpellsIn l x q.key q.value)
        (pairs_on st ns) (image s) apart each_of (omega (arith, many)) r on in
        let found : contents st p.key ≡ Some p.value =
        (stand.pairs p.key p.value).1
        (subst (λ (ms : List ℕ). Contains (pairs_on st ms) p) (sym quiet.chained) there) in
        let value : List ℕ = today_in l p.key p.value in
        record {
          value = value;
          found = subst (λ (k : RecordKey). held_in l st k ≡ Some value) named.keyed
              (held_some l st p.key p.value found);
          spelled = subst (λ (k : RecordKey). SpellsRecord r k value) named.keyed named;
        }

    -- what is held is a record of the system
    is_of : (key : RecordKey) (value : List ℕ) → held_in l st key ≡ Some value →
        (r : Record) × (record_of s key ≡ Some r)
    is_of key value found =
        let raw = some_held l st key value found in
        let on = subst (λ (ms : List ℕ). Contains (pairs_on st ms) (pair key raw.0)) quiet.chained
        ((stand.pairs key raw.0).0 raw.1) in
        let (r, there, spelled) = each_of (pair key raw.0) on in
        (r, (image_agrees s just.lawful key r).1 (there, sym spelled.keyed))

    has_id_of : (id : ℕ) → held_in l st (key_of_queue id) ≢ None → Contains (map (λ (q : Queue). q.id) s.queues) id
    has_id_of id some = by_held (held_in l st (key_of_queue id)) refl
      where
        by_found : (r : Record) (o : Option Queue) → find (has_id id) s.queues ≡ o →
            record_of s (key_of_queue id) ≡ Some r → Contains (map (λ (q : Queue). q.id) s.queues) id
        by_found r None e at =
            let clash : None ≡ Some r =
            sym (ap (λ (o : Option Queue). option_map (λ (q : Queue). records.Queue (queue_entry q)) o) e) ∙ at in
            absurd cc
        by_found r (Some q) e at =
            let found = find-Some (has_id id) s.queues q e in
            subst (Contains (map (λ (q : Queue). q.id) s.queues)) ((Decides-eqb q.id id).0 found.0)
            (in_map (λ (q : Queue). q.id) s.queues q found.1)

        by_held : (o : Option (List ℕ)) → held_in l st (key_of_queue id) ≡ o →
            Contains (map (λ (q : Queue). q.id) s.queues) id
        by_held None e = absurd (some e)
        by_held (Some value) e =
            let (r, at) = is_of (key_of_queue id) value e in
            by_found r (find (has_id id) s.queues) refl at

    has_system : HasSystem (held_in l st) s
    has_system = record {
      lawful = just.lawful;
      running = just.running;
      stand = all_of (Holds (held_in l st)) (image s) holds;
      queues = has_id_of;
    }

    pub is_system : IsSystemOf (held_in l st) s
    is_system = record {
      has = has_system;
      only = λ other has. one_system (held_in l st) s has_system other has;
    }

    pub are_needed : AreNeeded s st ns
    are_needed = all_of (AreNeededOn s st) ns (λ n on. all_of (IsNeeded s) (records_at st n) (λ p there none.
        let of = each_of p (in_flat_map (records_at st) ns n p on there) in
        let clash = sym none ∙ (image_agrees s just.lawful p.key of.0).1 (of.1, sym of.2.keyed) in
        absurd cc))

-- ---- records of a system

pub of_queue : (s : State) (place : ℕ) (q : Queue) (r : Record) → place < length s.queues →
    q ≡ slice_index_or s.queues place q → Contains (queue_records q) r → Contains (image s) r
of_queue s place q r within at on =
    contains_tail (records.Counter (counter_of s)) r (flat_map queue_records s.queues)
    (in_flat_map queue_records s.queues q r (place, within, sym at) on)

pub of_queue_if : (s : State) (place : ℕ) (q : Queue) (o : Option Record) → place < length s.queues →
    q ≡ slice_index_or s.queues place q → IfSome o (λ r. Contains (queue_records q) r) →
    IfSome o (λ r. Contains (image s) r)
of_queue_if s place q None within at on = tt
of_queue_if s place q (Some r) within at on = of_queue s place q r within at on

pub keyed : (q : Queue) (k : ℕ) → q.key ≡ Some k → Contains (queue_records q) (records.Key (key_entry k q))
keyed q k has =
    Contains-append_left (key_records q) _ (records.Key (key_entry k q))
    (subst (λ (o : Option ℕ). Contains (map (λ (k : ℕ). records.Key (key_entry k q)) (option_to_list o))
    (records.Key (key_entry k q))) (sym has) (contains_head (records.Key (key_entry k q)) []))

pub typed : (q : Queue) (r : Record) → Contains (type_records q) r → Contains (queue_records q) r
typed q r on =
    Contains-append_right (key_records q) _ r
    (contains_tail (records.Queue (queue_entry q)) r (type_records q ++ message_records q)
    (Contains-append_left (type_records q) (message_records q) r on))

pub sent : (q : Queue) (r : Record) → Contains (message_records q) r → Contains (queue_records q) r
sent q r on =
    Contains-append_right (key_records q) _ r
    (contains_tail (records.Queue (queue_entry q)) r (type_records q ++ message_records q)
    (Contains-append_right (type_records q) (message_records q) r on))

-- ---- records are counted

pub counted_all : (l : Layout) (s : State) (ps left : List Pair) (n : ℕ) → AreTestedTo (IsOf l s) ps left →
    n + length left ≡ length ps → left ≡ [] → AreCounted l s ps n
counted_all l s ps left n tested sum ended = record {
  each = tested_all (IsOf l s) ps left tested ended;
  number = (let none : length left ≡ 0 = ap (λ (xs : List Pair). length xs) ended in omega (arith, sum, none));
}

module _ (l : Layout) (s : State) (st : Store) (ns : List ℕ) where
  pub counted_more : (i n m : ℕ) → i < length ns → AreCounted l s (pairs_on st (take i ns)) n →
      AreCounted l s (records_at st (slice_index ns i)) m → AreCounted l s (pairs_on st (take (i + 1) ns)) (n + m)
  counted_more i n m within before here =
      let one : i + 1 ≡ suc i = omega arith in
      let page : ℕ = slice_index ns i in
      let more : pairs_on st (take (i + 1) ns) ≡ pairs_on st (take i ns) ++ pairs_on st (page ∷ []) =
      ap (λ k. pairs_on st (take k ns)) one ∙ ap (pairs_on st) (take-suc ns i 0 within)
      ∙ flat_map-append (records_at st) (take i ns) (page ∷ []) in
      let longer = count_more (records_at st) ns i 0 within in
      let first = before.number in
      let second = here.number in
      record {
        each = subst (All (IsOf l s)) (sym more)
            (All-append (IsOf l s) (pairs_on st (take i ns)) (pairs_on st (page ∷ [])) before.each
            (All-append (IsOf l s) (records_at st page) [] here.each (λ k d none. absurd (omega (arith, none)))));
        number = omega (arith, longer, first, second);
      }

  pub counted_end : (i n : ℕ) → length ns ≤ i → AreCounted l s (pairs_on st (take i ns)) n →
      AreCounted l s (pairs_on st ns) n
  counted_end i n ended so = subst (λ (ms : List ℕ). AreCounted l s (pairs_on st ms) n) (take_all i ns ended) so

-- ---- the links of all queues

pub links_at : (s : State) (links : List QueueLinks) (place : ℕ) (q : Queue) (l : QueueLinks) →
    AreLinksOfAll s links → place < length s.queues → q ≡ slice_index_or s.queues place q →
    l ≡ slice_index_or links place l → AreLinksOf q.messages l
links_at s links place q l all within at is =
    let n = all.number in
    subst (λ (z : QueueLinks). AreLinksOf q.messages z) (sym is)
    (subst (λ (z : Queue). AreLinksOf z.messages (slice_index_or links place l)) (sym at)
    (all.each place q l (omega (arith, within, n))))

-- of each queue before a place
pub record AreLinkedTo (s : State) (links : List QueueLinks) (place : ℕ) : Type 0 where
  pub number : length links ≡ place
  pub each : (i : ℕ) (q : Queue) (l : QueueLinks) → i < place →
      AreLinksOf (slice_index_or s.queues i q).messages (slice_index_or links i l)

pub linked_more : (s : State) (links : List QueueLinks) (place : ℕ) (q : Queue) (l : QueueLinks) →
    AreLinkedTo s links place → place < length s.queues → q ≡ slice_index_or s.queues place q →
    AreLinksOf q.messages l → AreLinkedTo s (links ++ l ∷ []) (place + 1)
linked_more s links place q l so within at here = record {
  number = length-append links (l ∷ [])
      ∙ (let n = so.number in let m : length links + 1 ≡ place + 1 = omega (arith, n) in m);
  each = λ i p d below. by_place i p d below (nat_lt i place) refl;
}
  where
    by_place : (i : ℕ) (p : Queue) (d : QueueLinks) → i < place + 1 → (b : Bool) → nat_lt i place ≡ b →
        AreLinksOf (slice_index_or s.queues i p).messages (slice_index_or (links ++ l ∷ []) i d)
    by_place i p d below true e =
        let less : i < place = grind (arith, nat_tests, e) in
        let n = so.number in
        subst (AreLinksOf (slice_index_or s.queues i p).messages)
        (sym (get_or_append_left links (l ∷ []) d i (omega (arith, n, less)))) (so.each i p d less)
    by_place i p d below false e =
        let is : place ≡ i = grind (arith, nat_tests, e, below) in
        let last : slice_index_or (links ++ l ∷ []) i d ≡ l =
        ap (λ n. slice_index_or (links ++ l ∷ []) n d) (sym (so.number ∙ is)) ∙ get_or-append_seam links l [] d in
        let queue : q ≡ slice_index_or s.queues i p =
        at ∙ get_or_default s.queues place q p within ∙ ap (λ n. slice_index_or s.queues n p) is in
        subst (λ (z : QueueLinks). AreLinksOf (slice_index_or s.queues i p).messages z) (sym last)
        (subst (λ (z : Queue). AreLinksOf z.messages l) queue here)
