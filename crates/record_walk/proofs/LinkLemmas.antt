-- The links between messages of one type, from the last message on.
use Rattle.std.proofs.Common.{ℕ, ℤ, zero, suc, pos, ◌≡◌, ◌+◌, ◌-◌, ◌<◌, ◌<ℤ◌, ◌≤◌, ◌==◌, Bool, true, false, List, [], ◌∷◌, length, map, drop, replicate, Option, Some, None, refl, sym, ap, ◌∙◌, arith}
use Rattle.std.specs.Prelude.{slice_get, slice_index, slice_index_or, slice_set, unwrap_or}
use Rattle.std.specs.List.{All, AllPairs, HoldsAt, position_or_len}
use Rattle.std.specs.Ordering.{int_eq}
use Rattle.std.proofs.Math.Seq.{drop-cons}
use Rattle.std.proofs.lemmas.Bool.{eq-eqb}
use Rattle.std.proofs.lemmas.Bool.Decides.{Decides-int_eq, nat_tests}
use Rattle.std.proofs.lemmas.Int.{ints}
use Rattle.std.proofs.lemmas.List.{drop_all, ext_get_or, get_or_default, get_or-map, get_or-set_other, get_or-set_same, length-map, length-replicate, length-set}
use Rattle.std.proofs.lemmas.List.Elements.{All-head, All-tail}
use Rattle.std.proofs.lemmas.List.Sums.{position_or_len_is}
use Rattle.type_chains.proofs.Unique.{pairs_head, pairs_tail}
use Rattle.type_chains.specs.Neighbours.{before_place}
use Rattle.record_walk.specs.declared.of_type.Ends.{Ends}
use Rattle.record_walk.specs.Links.{IsAscending, ends_of, last_with, next_of_type, with_front}
use Rattle.record_walk.specs.Words.{Message, before, behind, first_of, is_number, is_same_type, last_of, serials, serials_of_type}

-- ---- one message in front of others

serials_same : (m : Message) (ms : List Message) (t : ℤ) → m.mtype ≡ t →
    serials_of_type t (m ∷ ms) ≡ m.serial ∷ serials_of_type t ms
serials_same m ms t same = let b = (Decides-int_eq m.mtype t).1 same in rw b refl

serials_other : (m : Message) (ms : List Message) (t : ℤ) (b : Bool) → int_eq m.mtype t ≡ b → (m.mtype ≡ t → ⊥) →
    serials_of_type t (m ∷ ms) ≡ serials_of_type t ms
serials_other m ms t true e other = absurd (other ((Decides-int_eq m.mtype t).0 e))
serials_other m ms t false e other = rw e refl

there : (xs : List ℕ) (i : ℕ) → i < length xs → (x : ℕ) × (slice_get xs i ≡ Some x)
there [] i within = absurd (omega (arith, within))
there (x ∷ xs) zero within = (x, refl)
there (x ∷ xs) (suc i) within = there xs i (omega (arith, within))

last_front : (x : ℕ) (xs : List ℕ) → last_of (x ∷ xs) ≡ last_with x (last_of xs)
last_front x [] = refl
last_front x (y ∷ ys) =
    let n : ℕ = length ys in
    let one : suc (suc n) - 1 ≡ suc n = omega arith in
    let two : suc n - 1 ≡ n = omega arith in
    let at = there (y ∷ ys) n (omega arith) in
    ap (slice_get (x ∷ y ∷ ys)) one ∙ at.1 ∙ sym (ap (last_with x) (ap (slice_get (y ∷ ys)) two ∙ at.1))

ends_same : (m : Message) (ms : List Message) → ends_of (m ∷ ms) m.mtype ≡ with_front m.serial (ends_of ms m.mtype)
ends_same m ms =
    let s = serials_same m ms m.mtype refl in
    let first = ap first_of s in
    let last = ap last_of s ∙ last_front m.serial (serials_of_type m.mtype ms) in
    λ i. record { first = first i; last = last i }

ends_other : (m : Message) (ms : List Message) (t : ℤ) → (t ≡ m.mtype → ⊥) → ends_of (m ∷ ms) t ≡ ends_of ms t
ends_other m ms t other =
    let s = serials_other m ms t (int_eq m.mtype t) refl (λ e. other (sym e)) in
    λ i. record { first = first_of (s i); last = last_of (s i) }

-- ---- one of ascending types

map_same : {Y : Type 0} (f g : ℤ → Y) (ts : List ℤ) → All (λ (t : ℤ). f t ≡ g t) ts → map f ts ≡ map g ts
map_same f g [] all = refl
map_same f g (t ∷ ts) all = λ i.
    All-head (λ (t : ℤ). f t ≡ g t) t ts all i ∷ map_same f g ts (All-tail (λ (t : ℤ). f t ≡ g t) t ts all) i

set_one : {Y : Type 0} (f g : ℤ → Y) (t : ℤ) (new : Y) (ts : List ℤ) (k : ℕ) → AllPairs (λ (a b : ℤ). a <ℤ b) ts →
    k < length ts → HoldsAt (λ (u : ℤ). u ≡ t) ts k → f t ≡ new → ((u : ℤ) → (u ≡ t → ⊥) → f u ≡ g u) →
    map f ts ≡ slice_set (map g ts) k new
set_one f g t new [] k ascend within at same others = absurd (omega (arith, within))
set_one f g t new (u ∷ us) zero ascend within at same others =
    let is : u ≡ t = at u in
    let above = pairs_head (λ (a b : ℤ). a <ℤ b) u us ascend in
    let head : f u ≡ new = ap f is ∙ same in
    let rest = map_same f g us (λ k d below. others (slice_index_or us k d) (λ e.
    let over = above k d below in absurd (grind (arith, ints, over, e, is)))) in
    λ i. head i ∷ rest i
set_one f g t new (u ∷ us) (suc k) ascend within at same others =
    let below : u <ℤ slice_index_or us k u = ascend 0 (suc k) u (omega arith) within in
    let is = at u in
    let head = others u (λ e. absurd (grind (arith, ints, below, e, is))) in
    let rest = set_one f g t new us k (pairs_tail (λ (a b : ℤ). a <ℤ b) u us ascend) (omega (arith, within)) at same
    others in
    λ i. head i ∷ rest i

-- ---- the next of its type stands first among those behind

behind_head : (x : ℕ) (xs : List ℕ) → behind (is_number x) (x ∷ xs) ≡ first_of xs
behind_head x xs =
    ap (λ n. slice_get (x ∷ xs) (suc n))
    (position_or_len_is (is_number x) (x ∷ xs) 0 0 (omega arith) (λ k below. absurd (omega (arith, below)))
    (λ _. eq-eqb x x refl))

behind_tail : (x y : ℕ) (ys : List ℕ) → y < x → behind (is_number x) (y ∷ ys) ≡ behind (is_number x) ys
behind_tail x y ys less =
    let other : (y == x) ≡ false = grind (arith, nat_tests, less) in
    ap (λ n. slice_get (y ∷ ys) (suc n))
    (let place : position_or_len (is_number x) (y ∷ ys) ≡ suc (position_or_len (is_number x) ys) =
    rw other (omega arith) in
    place)

next_behind : (t : ℤ) (m : Message) (ms : List Message) (i : ℕ) (d : Message) → IsAscending (m ∷ ms) →
    suc i < length (m ∷ ms) → (b : Bool) → int_eq m.mtype t ≡ b →
    behind (is_number (slice_index_or ms i d).serial) (serials_of_type t ms)
    ≡ first_of (serials_of_type t (drop (suc i) ms)) →
    behind (is_number (slice_index_or ms i d).serial) (serials_of_type t (m ∷ ms))
    ≡ first_of (serials_of_type t (drop (suc i) ms))
next_behind t m ms i d ascend within true e rest =
    ap (behind (is_number (slice_index_or ms i d).serial)) (serials_same m ms t ((Decides-int_eq m.mtype t).0 e))
    ∙ behind_tail (slice_index_or ms i d).serial m.serial (serials_of_type t ms)
    (ascend 0 (suc i) d (omega arith) within)
    ∙ rest
next_behind t m ms i d ascend within false e rest =
    ap (behind (is_number (slice_index_or ms i d).serial))
    (let s : serials_of_type t (m ∷ ms) ≡ serials_of_type t ms = rw e refl in s)
    ∙ rest

next_at : (t : ℤ) (ms : List Message) (i : ℕ) (d : Message) → IsAscending ms → i < length ms →
    (slice_index_or ms i d).mtype ≡ t →
    behind (is_number (slice_index_or ms i d).serial) (serials_of_type t ms)
    ≡ first_of (serials_of_type t (drop (suc i) ms))
next_at t [] i d ascend within is = absurd (omega (arith, within))
next_at t (m ∷ ms) zero d ascend within is =
    ap (behind (is_number m.serial)) (serials_same m ms t is) ∙ behind_head m.serial (serials_of_type t ms)
next_at t (m ∷ ms) (suc i) d ascend within is =
    next_behind t m ms i d ascend within (int_eq m.mtype t) refl
    (next_at t ms i d (pairs_tail (λ (a b : Message). a.serial < b.serial) m ms ascend) (omega (arith, within)) is)

-- ---- message by message

-- the links of so many of the last messages, and the ends of the types among them
pub record IsLinkedFrom (ms : List Message) (kinds : List ℤ) (next : List (Option ℕ)) (ends : List Ends) (back : ℕ)
    : Type 0 where
  pub many : length next ≡ length ms
  pub next_is : (i : ℕ) (d : Message) (o : Option ℕ) → i < length ms → length ms ≤ i + back →
      slice_index_or next i o ≡ next_of_type ms (slice_index_or ms i d)
  pub ends_are : ends ≡ map (ends_of (drop (length ms - back) ms)) kinds

none_of : (ts : List ℤ) → replicate (length ts) (ends_of [] (pos 0)) ≡ map (ends_of []) ts
none_of [] = refl
none_of (t ∷ ts) = ap (λ xs. ends_of [] t ∷ xs) (none_of ts)

pub linked_none : (ms : List Message) (kinds : List ℤ) (next : List (Option ℕ)) (ends : List Ends) →
    next ≡ replicate (length ms) None → ends ≡ replicate (length kinds) (ends_of [] (pos 0)) →
    IsLinkedFrom ms kinds next ends 0
linked_none ms kinds next ends a b = record {
  many = ap length a ∙ length-replicate (length ms) None;
  next_is = λ i d o within past. absurd (omega (arith, within, past));
  ends_are = b ∙ none_of kinds ∙ ap (λ xs. map (ends_of xs) kinds) (sym (drop_all (length ms - 0) ms (omega arith)));
}

module _ (ms : List Message) (kinds : List ℤ) (next : List (Option ℕ)) (ends : List Ends) (back : ℕ)
    (so : IsLinkedFrom ms kinds next ends back) (sorted : AllPairs (λ (a b : ℤ). a <ℤ b) kinds)
    (ascend : IsAscending ms) (place kind : ℕ) (m : Message) (e : Ends) (less : back < length ms)
    (at : place ≡ length ms - 1 - back) (is : slice_index_or ms place m ≡ m) (within : kind < length kinds)
    (its : HoldsAt (λ (t : ℤ). t ≡ m.mtype) kinds kind) (end_is : slice_index_or ends kind e ≡ e) where
  abbrev rest : List Message
  rest = drop (suc place) ms

  inside : place < length ms
  inside = omega (arith, less, at)

  -- those behind this one are linked
  rest_is : drop (length ms - back) ms ≡ rest
  rest_is = ap (λ n. drop n ms) (let n : length ms - back ≡ suc place = omega (arith, less, at) in n)

  opened : drop (length ms - (back + 1)) ms ≡ m ∷ rest
  opened =
      ap (λ n. drop n ms) (let n : length ms - (back + 1) ≡ place = omega (arith, less, at) in n)
      ∙ drop-cons ms place m inside ∙ ap (λ x. x ∷ rest) is

  end_of : e ≡ ends_of rest m.mtype
  end_of =
      sym end_is ∙ ap (λ xs. slice_index_or xs kind e) (so.ends_are ∙ ap (λ xs. map (ends_of xs) kinds) rest_is)
      ∙ get_or-map (ends_of rest) kinds kind (pos 0) e within ∙ ap (ends_of rest) (its (pos 0))

  next_here : (d : Message) → e.first ≡ next_of_type ms (slice_index_or ms place d)
  next_here d =
      ap (λ (x : Ends). x.first) end_of
      ∙ sym (next_at m.mtype ms place m ascend inside (ap (λ (x : Message). x.mtype) is))
      ∙ ap (λ (x : Message). behind (is_number (slice_index_or ms place m).serial) (serials_of_type x.mtype ms))
      (sym is)
      ∙ ap (next_of_type ms) (get_or_default ms place m d inside)

  pub linked_more : IsLinkedFrom ms kinds (slice_set next place e.first)
      (slice_set ends kind (with_front m.serial e)) (back + 1)
  linked_more = record {
    many = length-set next place e.first ∙ so.many;
    next_is = λ i d o below past. by_place i d o below past (place == i) refl;
    ends_are =
        sym (ap (λ xs. map (ends_of xs) kinds) opened
        ∙ set_one (ends_of (m ∷ rest)) (ends_of rest) m.mtype (with_front m.serial e) kinds kind sorted within its
        (ends_same m rest ∙ ap (with_front m.serial) (sym end_of)) (ends_other m rest)
        ∙ ap (λ xs. slice_set xs kind (with_front m.serial e))
        (sym (so.ends_are ∙ ap (λ xs. map (ends_of xs) kinds) rest_is)));
  }
    where
      by_place : (i : ℕ) (d : Message) (o : Option ℕ) → i < length ms → length ms ≤ i + (back + 1) → (b : Bool) →
          (place == i) ≡ b → slice_index_or (slice_set next place e.first) i o ≡ next_of_type ms (slice_index_or ms i d)
      by_place i d o below past true same =
          let here : place ≡ i = grind (arith, nat_tests, same) in
          ap (λ n. slice_index_or (slice_set next place e.first) n o) (sym here)
          ∙ get_or-set_same next place e.first o (let n = so.many in omega (arith, n, inside))
          ∙ next_here d ∙ ap (λ n. next_of_type ms (slice_index_or ms n d)) here
      by_place i d o below past false other =
          let apart : i ≡ place → ⊥ = (λ e. let n = sym e in absurd (grind (arith, nat_tests, other, n))) in
          get_or-set_other next place i e.first o apart
          ∙ so.next_is i d o below (let n = apart in omega (arith, at, less, past, n))

pub linked_all : (ms : List Message) (kinds : List ℤ) (next : List (Option ℕ)) (ends : List Ends) (back : ℕ) →
    IsLinkedFrom ms kinds next ends back → length ms ≤ back →
    (next ≡ map (next_of_type ms) ms) × (ends ≡ map (ends_of ms) kinds)
linked_all ms kinds next ends back so met =
    let d : Message = record { serial = 0; sender = 0; mtype = pos 0; bytes = [] } in
    let f = next_of_type ms in (
      ext_get_or None next (map f ms) (so.many ∙ sym (length-map ms f)) (λ i below.
          let n = so.many in
          let within : i < length ms = omega (arith, n, below) in
          so.next_is i d None within (omega (arith, within, met)) ∙ sym (get_or-map f ms i d None within)),
      so.ends_are ∙ ap (λ xs. map (ends_of xs) kinds)
          (ap (λ n. drop n ms) (let n : length ms - back ≡ 0 = omega (arith, met) in n)),
    )

-- ---- the fields of a Type and of a Message

unwrap_at : (xs : List ℕ) (i : ℕ) → unwrap_or (slice_get xs i) 0 ≡ slice_index_or xs i 0
unwrap_at [] i = refl
unwrap_at (x ∷ xs) zero = refl
unwrap_at (x ∷ xs) (suc i) = unwrap_at xs i

module _ (ms : List Message) (t : ℤ) (ends : Ends) (is : ends ≡ ends_of ms t) where
  pub first_or : unwrap_or ends.first 0 ≡ slice_index (serials_of_type t ms) 0
  first_or = ap (λ (e : Ends). unwrap_or e.first 0) is ∙ unwrap_at (serials_of_type t ms) 0

  pub last_or : unwrap_or ends.last 0 ≡ slice_index (serials_of_type t ms) (length (serials_of_type t ms) - 1)
  last_or =
      ap (λ (e : Ends). unwrap_or e.last 0) is
      ∙ unwrap_at (serials_of_type t ms) (length (serials_of_type t ms) - 1)

module _ (ts : List ℤ) (k : ℕ) (ascend : AllPairs (λ (a b : ℤ). a <ℤ b) ts) (within : k < length ts) where
  -- ascending types stand at one place each
  type_place : position_or_len (is_same_type (slice_index_or ts k (pos 0))) ts ≡ k
  type_place =
      let t : ℤ = slice_index_or ts k (pos 0) in
      position_or_len_is (is_same_type t) ts k (pos 0) (omega (arith, within))
      (λ i below.
      let less : slice_index_or ts i (pos 0) <ℤ slice_index_or ts k (pos 0) = ascend i k (pos 0) below within in
      grind (arith, ints, less))
      (λ _. (Decides-int_eq t t).1 refl)

  pub type_before_is : (us : List ℤ) → ts ≡ us →
      before_place ts k ≡ before (is_same_type (slice_index_or ts k (pos 0))) us
  type_before_is us same =
      ap (before_place ts) (sym type_place) ∙ ap (before (is_same_type (slice_index_or ts k (pos 0)))) same

  pub type_behind_is : (us : List ℤ) → ts ≡ us →
      slice_get ts (k + 1) ≡ behind (is_same_type (slice_index_or ts k (pos 0))) us
  type_behind_is us same =
      ap (slice_get ts) (let n = type_place in let m : k + 1 ≡ suc (position_or_len
      (is_same_type (slice_index_or ts k (pos 0))) ts) = omega (arith, n) in m)
      ∙ ap (behind (is_same_type (slice_index_or ts k (pos 0)))) same

module _ (ms : List Message) (i : ℕ) (d : Message) (ascend : IsAscending ms) (within : i < length ms) where
  -- serials tell messages apart
  pub place_is : position_or_len (is_number (slice_index_or ms i d).serial) (serials ms) ≡ i
  place_is =
      let f : Message → ℕ = λ m. m.serial in
      let serial : ℕ = (slice_index_or ms i d).serial in
      let long : length (serials ms) ≡ length ms = length-map ms f in
      position_or_len_is (is_number serial) (serials ms) i 0 (omega (arith, long, within))
      (λ k below.
      let order = ascend k i d below within in
      let at = get_or-map f ms k d 0 (omega (arith, below, within)) in
      ap (λ n. n == serial) at ∙ grind (arith, nat_tests, order))
      (λ _. ap (λ n. n == serial) (get_or-map f ms i d 0 within) ∙ eq-eqb serial serial refl)

  pub previous_is : (all : List ℕ) → all ≡ serials ms →
      before_place all i ≡ before (is_number (slice_index_or ms i d).serial) (serials ms)
  previous_is all same = ap (λ xs. before_place xs i) same ∙ ap (before_place (serials ms)) (sym place_is)

  pub next_is : (all : List ℕ) → all ≡ serials ms →
      slice_get all (i + 1) ≡ behind (is_number (slice_index_or ms i d).serial) (serials ms)
  next_is all same =
      ap (λ xs. slice_get xs (i + 1)) same
      ∙ ap (slice_get (serials ms)) (let n = place_is in let m : i + 1 ≡ suc (position_or_len
      (is_number (slice_index_or ms i d).serial) (serials ms)) = omega (arith, n) in m)
