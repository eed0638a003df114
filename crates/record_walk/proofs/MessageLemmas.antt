-- Messages stand with the links that a queue gives them, where these are the links that were read.
use Rattle.std.proofs.Common.{ℕ, pos, ◌≡◌, ◌+◌, ◌<◌, ◌≤◌, ◌==◌, nat_eq, Bool, true, false, not, ◌&&◌, List, [], ◌∷◌, ◌++◌, length, map, Option, Some, None, refl, sym, ap, subst, ◌∙◌, arith}
use Rattle.std.specs.Bool.{Decides}
use Rattle.std.specs.Option.{option_eq}
use Rattle.std.specs.Prelude.{slice_get, slice_index_or}
use Rattle.std.specs.List.{All, AllZip}
use Rattle.std.proofs.lemmas.Bool.Decides.{Decides-eqb, nat_tests}
use Rattle.std.proofs.lemmas.List.{ext_get_or, get_or_default, get_or-map, length-map}
use Rattle.std.proofs.lemmas.List.Elements.{All-cons, All-head, All-map, All-nil, All-tail}
use Rattle.queue_records.specs.declared.record.Record.TheVariants as records
use Rattle.type_chains.specs.Neighbours.{before_place}
use Rattle.record_walk.proofs.LinkLemmas.{next_is, previous_is}
use Rattle.record_walk.proofs.ListLemmas.{each_made}
use Rattle.record_walk.specs.Held.{AreLinked, Holds, IsLinked, IsMessageAt, entry_with, linked_of}
use Rattle.record_walk.specs.Links.{IsAscending, links_in, next_of_type}
use Rattle.record_walk.specs.Words.{RecordKey, Message, MessageEntry, MessageLinks, Linked, Queue, message_entry, message_records, serials}

-- ---- what is read

pub linked_push : {A B : Type 0} (R : A → B → Type 0) (xs : List A) (ys : List B) (x : A) (y : B) →
    AllZip R xs ys → R x y → AllZip R (xs ++ x ∷ []) (ys ++ y ∷ [])
linked_push R [] [] x y all here = (here, tt)
linked_push R [] (b ∷ ys) x y all here = absurd all
linked_push R (a ∷ xs) [] x y all here = absurd all
linked_push R (a ∷ xs) (b ∷ ys) x y all here = (all.0, linked_push R xs ys x y all.1 here)

-- a message that was found has its links and no others
pub is_linked : (held : RecordKey → Option (List ℕ)) (id serial : ℕ) (found : Linked) →
    ((e : MessageEntry) → Holds held (records.Message e) → e.id ≡ id → e.serial ≡ serial →
    Some found ≡ Some (linked_of e)) →
    IsMessageAt held id serial found → IsLinked held id found.message found.links
is_linked held id serial found told at = record {
  stands = at.stands;
  only = λ other h.
      let same = told (entry_with id found.message other) h refl at.its in
      let is : found ≡ linked_of (entry_with id found.message other) = cc in
      sym (ap (λ (l : Linked). l.links) is);
}

-- ---- what has to stand

module _ (held : RecordKey → Option (List ℕ)) (id : ℕ) (f : Message → MessageLinks) where
  stand_so : (ms : List Message) (links : List MessageLinks) → AreLinked held id ms links → links ≡ map f ms →
      All (λ (m : Message). Holds held (records.Message (entry_with id m (f m)))) ms
  stand_so [] [] all e = All-nil (λ (m : Message). Holds held (records.Message (entry_with id m (f m))))
  stand_so [] (l ∷ links) all e = absurd all
  stand_so (m ∷ ms) [] all e = absurd all
  stand_so (m ∷ ms) (l ∷ links) all e =
      let here : l ≡ f m = cc in
      let rest : links ≡ map f ms = cc in
      All-cons (λ (m : Message). Holds held (records.Message (entry_with id m (f m)))) m ms
      (subst (λ (x : MessageLinks). Holds held (records.Message (entry_with id m x))) here all.0.stands)
      (stand_so ms links all.1 rest)

  links_so : (ms : List Message) (links : List MessageLinks) → AreLinked held id ms links →
      All (λ (m : Message). Holds held (records.Message (entry_with id m (f m)))) ms → links ≡ map f ms
  links_so [] [] all h = refl
  links_so [] (l ∷ links) all h = absurd all
  links_so (m ∷ ms) [] all h = absurd all
  links_so (m ∷ ms) (l ∷ links) all h =
      let here : f m ≡ l =
      all.0.only (f m) (All-head (λ (m : Message). Holds held (records.Message (entry_with id m (f m)))) m ms h) in
      let rest = links_so ms links all.1
      (All-tail (λ (m : Message). Holds held (records.Message (entry_with id m (f m)))) m ms h) in
      λ i. sym here i ∷ rest i

module _ (held : RecordKey → Option (List ℕ)) (q : Queue) (links : List MessageLinks)
    (all : AreLinked held q.id q.messages links) where
  -- the Messages of a queue stand exactly where these are its links
  pub messages_stand : links ≡ map (links_in q) q.messages → All (Holds held) (message_records q)
  messages_stand e =
      All-map (Holds held) (λ (m : Message). records.Message (message_entry q m)) q.messages
      (stand_so held q.id (links_in q) q.messages links all e)

  pub links_are : All (Holds held) (message_records q) → links ≡ map (links_in q) q.messages
  links_are h =
      links_so held q.id (links_in q) q.messages links all
      (each_made (Holds held) (λ (m : Message). records.Message (message_entry q m)) q.messages h)

-- ---- link by link

-- the links before a place are the queue's
pub record IsSoFar (q : Queue) (links : List MessageLinks) (place : ℕ) : Type 0 where
  pub each : (i : ℕ) (d : Message) (l : MessageLinks) → i < place →
      slice_index_or links i l ≡ links_in q (slice_index_or q.messages i d)

module _ (q : Queue) (links : List MessageLinks) (number : length links ≡ length q.messages) where
  pub so_far_all : (place : ℕ) → IsSoFar q links place → length q.messages ≤ place →
      links ≡ map (links_in q) q.messages
  so_far_all place so past =
      let d : Message = record { serial = 0; sender = 0; mtype = pos 0; bytes = [] } in
      let l : MessageLinks = record { previous = None; next = None; next_of_type = None } in
      let f : Message → MessageLinks = links_in q in
      ext_get_or l links (map f q.messages) (number ∙ sym (length-map q.messages f)) (λ i below.
      let within : i < length q.messages = omega (arith, number, below) in
      so.each i d l (omega (arith, within, past)) ∙ sym (get_or-map f q.messages i d l within))

  -- and where they are, so is the one at a place
  pub link_at : (place : ℕ) (d : Message) (l : MessageLinks) → place < length q.messages →
      links ≡ map (links_in q) q.messages →
      slice_index_or links place l ≡ links_in q (slice_index_or q.messages place d)
  link_at place d l within e =
      ap (λ (xs : List MessageLinks). slice_index_or xs place l) e ∙ get_or-map (links_in q) q.messages place d l within

option_same : (a b : Option ℕ) → Decides (option_eq nat_eq a b) (a ≡ b)
option_same None None = (λ e. refl, λ e. refl)
option_same None (Some y) = (λ e. absurd cc, λ e. absurd cc)
option_same (Some x) None = (λ e. absurd cc, λ e. absurd cc)
option_same (Some x) (Some y) = (
  λ e. ap (λ (n : ℕ). Some n) ((Decides-eqb x y).0 e),
  λ e. let same : x ≡ y = cc in (Decides-eqb x y).1 same,
)

differ : (a b : MessageLinks) (p n t other : Bool) → Decides p (a.previous ≡ b.previous) →
    Decides n (a.next ≡ b.next) → Decides t (a.next_of_type ≡ b.next_of_type) → other ≡ not (p && (n && t)) →
    (other ≡ false → a ≡ b) × (a ≡ b → other ≡ false)
differ a b true true true other hp hn ht e = (
  λ f. (
      let x = hp.0 refl in let y = hn.0 refl in let z = ht.0 refl in
      λ i. record { previous = x i; next = y i; next_of_type = z i }),
  λ same. e,
)
differ a b false n t other hp hn ht e = (
  λ f. absurd cc,
  λ same. let x = hp.1 (ap (λ (l : MessageLinks). l.previous) same) in absurd cc,
)
differ a b true false t other hp hn ht e = (
  λ f. absurd cc,
  λ same. let x = hn.1 (ap (λ (l : MessageLinks). l.next) same) in absurd cc,
)
differ a b true true false other hp hn ht e = (
  λ f. absurd cc,
  λ same. let x = ht.1 (ap (λ (l : MessageLinks). l.next_of_type) same) in absurd cc,
)

module _ (q : Queue) (links : List MessageLinks) (all : List ℕ) (next : List (Option ℕ)) (place : ℕ)
    (ascend : IsAscending q.messages) (all_is : all ≡ serials q.messages)
    (next_are : next ≡ map (next_of_type q.messages) q.messages) (within : place < length q.messages) where
  -- the links at a place are compared with those of the message there
  pub compared : (d : Message) (l : MessageLinks) (o previous behind : Option ℕ) (other : Bool) →
      previous ≡ before_place all place → behind ≡ slice_get all (place + 1) →
      other ≡ not (option_eq nat_eq (slice_index_or links place l).previous previous
      && (option_eq nat_eq (slice_index_or links place l).next behind
      && option_eq nat_eq (slice_index_or links place l).next_of_type (slice_index_or next place o))) →
      (other ≡ false → slice_index_or links place l ≡ links_in q (slice_index_or q.messages place d))
      × (slice_index_or links place l ≡ links_in q (slice_index_or q.messages place d) → other ≡ false)
  compared d l o previous behind other p n e =
      let m : Message = slice_index_or q.messages place d in
      let a : MessageLinks = slice_index_or links place l in
      let b : MessageLinks =
      record { previous = previous; next = behind; next_of_type = slice_index_or next place o } in
      let x : previous ≡ (links_in q m).previous = p ∙ previous_is q.messages place d ascend within all all_is in
      let y : behind ≡ (links_in q m).next = n ∙ next_is q.messages place d ascend within all all_is in
      let z : slice_index_or next place o ≡ next_of_type q.messages m =
      ap (λ (xs : List (Option ℕ)). slice_index_or xs place o) next_are
      ∙ get_or-map (next_of_type q.messages) q.messages place d o within in
      let is : b ≡ links_in q m = λ i. record { previous = x i; next = y i; next_of_type = z i } in
      let told = differ a b _ _ _ other (option_same a.previous previous) (option_same a.next behind)
      (option_same a.next_of_type (slice_index_or next place o)) e in
      (λ f. told.0 f ∙ is, λ same. told.1 (same ∙ sym is))

module _ (q : Queue) (links : List MessageLinks) (number : length links ≡ length q.messages) (place : ℕ)
    (so : IsSoFar q links place) (within : place < length q.messages) where
  pub so_far_more : (d : Message) (l : MessageLinks) →
      slice_index_or links place l ≡ links_in q (slice_index_or q.messages place d) → IsSoFar q links (place + 1)
  so_far_more d l here = record { each = λ i d' l' below. by_place i d' l' below (place == i) refl }
    where
      by_place : (i : ℕ) (d' : Message) (l' : MessageLinks) → i < place + 1 → (b : Bool) → (place == i) ≡ b →
          slice_index_or links i l' ≡ links_in q (slice_index_or q.messages i d')
      by_place i d' l' below true same =
          let at : place ≡ i = grind (arith, nat_tests, same) in
          subst (λ n. slice_index_or links n l' ≡ links_in q (slice_index_or q.messages n d')) at
          (get_or_default links place l' l (omega (arith, number, within)) ∙ here
          ∙ ap (links_in q) (get_or_default q.messages place d d' within))
      by_place i d' l' below false other =
          let less : i < place = grind (arith, nat_tests, other, below) in
          so.each i d' l' less
