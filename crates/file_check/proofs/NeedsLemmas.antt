-- Where an element of a list is found, and which records a system has.
use Rattle.std.proofs.Common.{ℕ, ℤ, ◌≡◌, ◌+◌, ◌<◌, ◌≤◌, nat_lt, ◌==◌, Bool, true, false, List, [], ◌∷◌, length, Option, Some, None, IfSome, IfNone, refl, sym, ap, ◌∙◌, arith}
use Rattle.std.specs.Option.{is_some}
use Rattle.std.specs.Prelude.{◌≢◌, slice_index_or}
use Rattle.std.specs.List.{AllPairs, find}
use Rattle.std.proofs.lemmas.Bool.Decides.{nat_tests}
use Rattle.std.proofs.lemmas.List.{get_or-map, get_or_default, length-map}
use Rattle.queue_model.specs.declared.message.Message.{Message}
use Rattle.queue_model.specs.declared.queue.Queue.{Queue}
use Rattle.queue_model.specs.Found.{IsFoundAt}
use Rattle.queue_model.specs.Lawful.{IsLawful}
use Rattle.queue_model.specs.State.{State}
use Rattle.queue_model.proofs.ListLemmas.{IsFoundAt-position, find-None, find-None-All, find-Some, position_None, position_at}
use Rattle.type_chains.specs.Lists.{types}
use Rattle.type_chains.specs.RecordOf.{has_number}
use Rattle.type_chains.proofs.TypesStand.{are_types_of}

pub is_there : {X : Type 0} (o : Option X) → true ≡ is_some o → o ≢ None
is_there None e none = absurd cc
is_there (Some x) e none = absurd cc

pub is_none : {X : Type 0} (o : Option X) → false ≡ is_some o → o ≡ None
is_none None e = refl
is_none (Some x) e = absurd cc

module _ {X : Type 0} (p : X → Bool) (xs : List X) where
  -- one that passes is found
  pub stands_there : (i : ℕ) (x : X) → i < length xs → slice_index_or xs i x ≡ x → p x ≡ true →
      true ≡ is_some (find p xs)
  stands_there i x within at passes = by_find (find p xs) refl
    where
      by_find : (o : Option X) → find p xs ≡ o → true ≡ is_some o
      by_find (Some y) e = refl
      by_find None e =
          let fails = find-None-All p xs e i x within in
          let clash = sym passes ∙ sym (ap p at) ∙ fails in
          absurd cc

  pub found_nowhere : (n : ℕ) → length xs ≤ n → ((k : ℕ) (d : X) → k < n → p (slice_index_or xs k d) ≡ false) →
      find p xs ≡ None
  found_nowhere n ended fails =
      find-None p xs (position_None p xs (λ k d within. fails k d (omega (arith, within, ended))))

  pub stands_nowhere : (n : ℕ) → length xs ≤ n → ((k : ℕ) (d : X) → k < n → p (slice_index_or xs k d) ≡ false) →
      false ≡ is_some (find p xs)
  stands_nowhere n ended fails = ap is_some (sym (found_nowhere n ended fails))

  -- one more fails
  pub one_more : (i : ℕ) (x : X) → i < length xs → slice_index_or xs i x ≡ x → p x ≡ false →
      ((k : ℕ) (d : X) → k < i → p (slice_index_or xs k d) ≡ false) →
      (k : ℕ) (d : X) → k < i + 1 → p (slice_index_or xs k d) ≡ false
  one_more i x within at fails before k d less = by_place (nat_lt k i) refl
    where
      by_place : (b : Bool) → nat_lt k i ≡ b → p (slice_index_or xs k d) ≡ false
      by_place true lower = before k d (grind (arith, nat_tests, lower))
      by_place false upper =
          let same : k ≡ i = grind (arith, nat_tests, less, upper) in
          ap (λ n. p (slice_index_or xs n d)) same ∙ ap p (get_or_default xs i d x within ∙ at) ∙ fails

  -- the first that passes
  pub found_first : (i : ℕ) (x : X) → i < length xs → slice_index_or xs i x ≡ x → p x ≡ true →
      ((k : ℕ) (d : X) → k < i → p (slice_index_or xs k d) ≡ false) → IsFoundAt p xs i
  found_first i x within at passes fails =
      IsFoundAt-position p xs i (position_at p xs i x within fails (ap p at ∙ passes))

pub is_found : {X : Type 0} (p : X → Bool) (xs : List X) (place : Option ℕ) → IfSome place (IsFoundAt p xs) →
    IfNone place (find p xs ≡ None) → is_some place ≡ is_some (find p xs)
is_found p xs None some none = ap is_some (sym none)
is_found p [] (Some i) some none = absurd (let w = some.within in omega (arith, w))
is_found p (x ∷ xs) (Some i) some none = ap is_some (sym (some.found x))

-- ---- ascending lists are halved

-- below one place all are less than a number, and from another on all are greater
pub record IsHalved {X : Type 0} (f : X → ℕ) (xs : List X) (number low high : ℕ) : Type 0 where
  pub within : high ≤ length xs
  pub less : (k : ℕ) (d : X) → k < low → f (slice_index_or xs k d) < number
  pub greater : (k : ℕ) (d : X) → high ≤ k → k < length xs → number < f (slice_index_or xs k d)

pub halved_none : {X : Type 0} (f : X → ℕ) (xs : List X) (number : ℕ) → IsHalved f xs number 0 (length xs)
halved_none f xs number = record {
  within = omega arith;
  less = λ k d below. absurd (omega (arith, below));
  greater = λ k d past within. absurd (omega (arith, past, within));
}

module _ {X : Type 0} (f : X → ℕ) (xs : List X) (number low high : ℕ)
    (ascend : AllPairs (λ (x y : X). f x < f y) xs) (so : IsHalved f xs number low high) where
  -- the number is not there
  pub halved_all : high ≤ low → find (λ (x : X). f x == number) xs ≡ None
  halved_all met =
      find-None (λ (x : X). f x == number) xs (position_None (λ (x : X). f x == number) xs (λ k d within.
      by_place k d within (nat_lt k low) refl))
    where
      by_place : (k : ℕ) (d : X) → k < length xs → (b : Bool) → nat_lt k low ≡ b →
          (f (slice_index_or xs k d) == number) ≡ false
      by_place k d within true e =
          let less = so.less k d (grind (arith, nat_tests, e)) in grind (arith, nat_tests, less)
      by_place k d within false e =
          let greater = so.greater k d (grind (arith, nat_tests, e, met)) within in grind (arith, nat_tests, greater)

  module _ (i : ℕ) (x : X) (inside : i < high) (at : slice_index_or xs i x ≡ x) where
    here : (d : X) → f (slice_index_or xs i d) ≡ f x
    here d = ap f (get_or_default xs i d x (let w = so.within in omega (arith, w, inside)) ∙ at)

    -- the number is above
    pub halved_up : f x < number → IsHalved f xs number (i + 1) high
    halved_up below = record {
      within = so.within;
      less = λ k d less. by_place k d less (nat_lt k i) refl;
      greater = so.greater;
    }
      where
        by_place : (k : ℕ) (d : X) → k < i + 1 → (b : Bool) → nat_lt k i ≡ b → f (slice_index_or xs k d) < number
        by_place k d less true e =
            let w = so.within in
            let order = ascend k i d (grind (arith, nat_tests, e)) (omega (arith, w, inside)) in
            let same = here d in
            omega (arith, order, same, below)
        by_place k d less false e =
            let is : k ≡ i = grind (arith, nat_tests, e, less) in
            let same = ap (λ n. f (slice_index_or xs n d)) is ∙ here d in
            omega (arith, same, below)

    -- the number is below
    pub halved_down : number < f x → IsHalved f xs number low i
    halved_down above = record {
      within = let w = so.within in omega (arith, w, inside);
      less = so.less;
      greater = λ k d past within. by_place k d past within (nat_lt i k) refl;
    }
      where
        by_place : (k : ℕ) (d : X) → i ≤ k → k < length xs → (b : Bool) → nat_lt i k ≡ b →
            number < f (slice_index_or xs k d)
        by_place k d past within true e =
            let order = ascend i k d (grind (arith, nat_tests, e)) within in
            let same = here d in
            omega (arith, order, same, above)
        by_place k d past within false e =
            let is : k ≡ i = grind (arith, nat_tests, e, past) in
            let same = ap (λ n. f (slice_index_or xs n d)) is ∙ here d in
            omega (arith, same, above)

    -- it is there
    pub halved_found : f x ≡ number → IsFoundAt (λ (y : X). f y == number) xs i
    halved_found is =
        let w = so.within in
        let within : i < length xs = omega (arith, w, inside) in
        found_first (λ (y : X). f y == number) xs i x within at (grind (arith, nat_tests, is)) (λ k d below.
        let order = ascend k i d below within in
        let same = here d in
        let less : f (slice_index_or xs k d) < number = omega (arith, order, same, is) in
        grind (arith, nat_tests, less))

-- the ids of queues ascend
pub ids_ascend : (s : State) → IsLawful s → AllPairs (λ (p q : Queue). p.id < q.id) s.queues
ids_ascend s lawful i j d less within =
    let f : Queue → ℕ = λ q. q.id in
    let below : i < length s.queues = omega (arith, less, within) in
    let long = length-map s.queues f in
    let order = lawful.ids_ascend i j (f d) less (omega (arith, long, within)) in
    let first = get_or-map f s.queues i d (f d) below in
    let second = get_or-map f s.queues j d (f d) within in
    omega (arith, order, first, second)

-- ---- types

module _ (number : ℕ) (ms : List Message) where
  -- the type of a message is one of the types
  pub type_there : (i : ℕ) (m : Message) → i < length ms → slice_index_or ms i m ≡ m →
      has_number number m.mtype ≡ true → true ≡ is_some (find (has_number number) (types ms))
  type_there i m within at passes =
      let on = ((are_types_of ms).stand m.mtype).1 (m, (i, within, at), refl) in
      stands_there (has_number number) (types ms) on.0 m.mtype on.1 on.2 passes

  pub type_nowhere : (n : ℕ) → length ms ≤ n →
      ((k : ℕ) (d : Message) → k < n → has_number number (slice_index_or ms k d).mtype ≡ false) →
      false ≡ is_some (find (has_number number) (types ms))
  type_nowhere n ended fails = by_find (find (has_number number) (types ms)) refl
    where
      by_find : (o : Option ℤ) → find (has_number number) (types ms) ≡ o → false ≡ is_some o
      by_find None e = refl
      by_find (Some t) e =
          let found = find-Some (has_number number) (types ms) t e in
          let (m, on, is) = ((are_types_of ms).stand t).0 found.1 in
          let fails_there = fails on.0 m (let w = on.1 in omega (arith, w, ended)) in
          let same = ap (λ (x : Message). has_number number x.mtype) on.2 ∙ ap (has_number number) is in
          let clash = sym found.0 ∙ sym same ∙ fails_there in
          absurd cc
