-- Places on the lists of a queue.
use Rattle.std.proofs.Common.{ℕ, ℤ, zero, suc, ◌≡◌, ◌+◌, ◌<◌, ◌<ℤ◌, ◌≤◌, Bool, true, false, List, [], ◌∷◌, ◌++◌, length, map, take, drop, nat_lt, refl, sym, ap, subst, ◌∙◌, arith}
use Rattle.std.specs.Prelude.{slice_get, slice_index_or, int_lt, ◌≤ℤ◌, unwrap_or}
use Rattle.std.specs.List.{All, AllPairs, Contains, HoldsAt}
use Rattle.std.specs.List.Sorted.{IsNonDecreasingBy, IsPartitionPoint}
use Rattle.std.specs.declared.cmp.Ordering.{Ordering}
use Rattle.std.specs.declared.cmp.Ordering.TheVariants.{Less, Equal, Greater}
use Rattle.std.specs.Ordering.{MatchOrdering, int_cmp, int_eq, ordering_index}
use Rattle.std.proofs.lemmas.Cmp.{int_ranked}
use Rattle.std.proofs.lemmas.Bool.Decides.{nat_tests}
use Rattle.std.proofs.lemmas.Int.{ints}
use Rattle.std.proofs.Math.Seq.{take-suc}
use Rattle.std.proofs.lemmas.List.{drop_all, get_or-map, get_or-take, length-map, length-take, take_all}
use Rattle.std.proofs.lemmas.List.Elements.{All-push}
use Rattle.std.proofs.lemmas.List.Sums.{fold-append}
use Rattle.type_chains.proofs.Unique.{cond_with}
use Rattle.record_walk.specs.Words.{Message, types, with_type}

-- ---- a type among ascending types

module _ (m : ℤ) where
  -- it stands at a place
  pub with_same : (ts : List ℤ) (n : ℕ) (t : ℤ) → n < length ts → All (λ (u : ℤ). u <ℤ m) (take n ts) →
      slice_index_or ts n t ≡ m → with_type ts m ≡ ts
  with_same [] n t within lower is = absurd (omega arith)
  with_same (u ∷ us) zero t within lower is =
      cond_with (λ (xs : List ℤ). xs ≡ u ∷ us) (int_lt m u) (m ∷ u ∷ us) _
      (λ less. absurd (grind (arith, ints, less, is)))
      (λ no_less. cond_with (λ (xs : List ℤ). xs ≡ u ∷ us) (int_eq m u) (u ∷ us) (u ∷ with_type us m)
      (λ same. refl) (λ other. absurd (grind (arith, ints, other, is))))
  with_same (u ∷ us) (suc n) t within lower is =
      let below : u <ℤ m = lower zero u (omega arith) in
      cond_with (λ (xs : List ℤ). xs ≡ u ∷ us) (int_lt m u) (m ∷ u ∷ us) _
      (λ less. absurd (grind (arith, ints, less, below)))
      (λ no_less. cond_with (λ (xs : List ℤ). xs ≡ u ∷ us) (int_eq m u) (u ∷ us) (u ∷ with_type us m)
      (λ same. refl)
      (λ other. ap (λ xs. u ∷ xs) (with_same us n t (omega arith)
      (λ k d h. lower (suc k) d (omega (arith, h))) is)))

  -- it comes before a greater one
  pub with_less : (ts : List ℤ) (n : ℕ) (t : ℤ) → n < length ts → All (λ (u : ℤ). u <ℤ m) (take n ts) →
      m <ℤ slice_index_or ts n t → with_type ts m ≡ take n ts ++ m ∷ drop n ts
  with_less [] n t within lower less = absurd (omega arith)
  with_less (u ∷ us) zero t within lower less =
      cond_with (λ (xs : List ℤ). xs ≡ m ∷ u ∷ us) (int_lt m u) (m ∷ u ∷ us) _ (λ yes'. refl)
      (λ no_less. absurd (grind (arith, ints, no_less, less)))
  with_less (u ∷ us) (suc n) t within lower less =
      let below : u <ℤ m = lower zero u (omega arith) in
      cond_with (λ (xs : List ℤ). xs ≡ u ∷ (take n us ++ m ∷ drop n us)) (int_lt m u) (m ∷ u ∷ us) _
      (λ over. absurd (grind (arith, ints, over, below)))
      (λ no_less. cond_with (λ (xs : List ℤ). xs ≡ u ∷ (take n us ++ m ∷ drop n us)) (int_eq m u) (u ∷ us)
      (u ∷ with_type us m)
      (λ same. absurd (grind (arith, ints, same, below)))
      (λ other. ap (λ xs. u ∷ xs) (with_less us n t (omega arith)
      (λ k d h. lower (suc k) d (omega (arith, h))) less)))

  -- or last
  pub with_last : (ts : List ℤ) → All (λ (u : ℤ). u <ℤ m) ts → with_type ts m ≡ ts ++ m ∷ []
  with_last [] lower = refl
  with_last (u ∷ us) lower =
      let below : u <ℤ m = lower zero u (omega arith) in
      cond_with (λ (xs : List ℤ). xs ≡ u ∷ (us ++ m ∷ [])) (int_lt m u) (m ∷ u ∷ us) _
      (λ over. absurd (grind (arith, ints, over, below)))
      (λ no_less. cond_with (λ (xs : List ℤ). xs ≡ u ∷ (us ++ m ∷ [])) (int_eq m u) (u ∷ us) (u ∷ with_type us m)
      (λ same. absurd (grind (arith, ints, same, below)))
      (λ other. ap (λ xs. u ∷ xs) (with_last us (λ k d h. lower (suc k) d (omega (arith, h))))))

-- ---- element by element

module _ {X : Type 0} (P : X → Type 0) (xs : List X) where
  pub each_next : (i : ℕ) (d : X) → i < length xs → All P (take i xs) → P (slice_index_or xs i d) →
      All P (take (i + 1) xs)
  each_next i d within before here =
      let one : i + 1 ≡ suc i = omega arith in
      subst (All P) (sym (ap (λ n. take n xs) one ∙ take-suc xs i d within))
      (All-push P (take i xs) (slice_index_or xs i d) before here)

  pub each_end : (i : ℕ) → length xs ≤ i → All P (take i xs) → All P xs
  each_end i ended before = subst (All P) (take_all i xs ended) before

-- ---- a type is searched for by halves

rise : (x y t : ℤ) (o p : Ordering) → MatchOrdering o (x <ℤ t) (x ≡ t) (t <ℤ x) →
    MatchOrdering p (y <ℤ t) (y ≡ t) (t <ℤ y) → x ≤ℤ y → ordering_index o ≤ ordering_index p
rise x y t Less p h k le = omega arith
rise x y t Equal Less h k le = absurd (grind (arith, ints, h, k, le))
rise x y t Equal Equal h k le = omega arith
rise x y t Equal Greater h k le = omega arith
rise x y t Greater Less h k le = absurd (grind (arith, ints, h, k, le))
rise x y t Greater Equal h k le = absurd (grind (arith, ints, h, k, le))
rise x y t Greater Greater h k le = omega arith

module _ (t : ℤ) (ts : List ℤ) (ascend : AllPairs (λ (a b : ℤ). a <ℤ b) ts) where
  comparisons_rise : IsNonDecreasingBy (λ (y : ℤ). ordering_index (int_cmp y t)) ts
  comparisons_rise i j d le within = by_place (nat_lt i j) refl
    where
      by_place : (b : Bool) → nat_lt i j ≡ b →
          ordering_index (int_cmp (slice_index_or ts i d) t) ≤ ordering_index (int_cmp (slice_index_or ts j d) t)
      by_place true e =
          let less : slice_index_or ts i d <ℤ slice_index_or ts j d =
          ascend i j d (grind (arith, nat_tests, e)) within in
          rise (slice_index_or ts i d) (slice_index_or ts j d) t _ _ (int_ranked (slice_index_or ts i d) t _ refl)
          (int_ranked (slice_index_or ts j d) t _ refl) (grind (arith, ints, less))
      by_place false e =
          let same : i ≡ j = grind (arith, nat_tests, e, le) in
          let at = ap (λ n. ordering_index (int_cmp (slice_index_or ts n d) t)) same in
          omega (arith, at)

  is_at : (k : ℕ) (d : ℤ) → int_cmp (slice_index_or ts k d) t ≡ Equal → slice_index_or ts k d ≡ t
  is_at k d e = int_ranked (slice_index_or ts k d) t Equal (sym e)

  -- what is found is the type
  pub search_found : (k : ℕ) → k < length ts → HoldsAt (λ (y : ℤ). int_cmp y t ≡ Equal) ts k →
      HoldsAt (λ (y : ℤ). y ≡ t) ts k × (with_type ts t ≡ ts)
  search_found k within at = (
    λ d. is_at k d (at d),
    with_same t ts k t within (λ i d less.
        let long = length-take k ts in
        let before : i < k = omega (arith, less, long, within) in
        let order = ascend i k d before within in
        let is = is_at k d (at d) in
        let same = get_or-take k ts i d before in
        let lower : slice_index_or ts i d <ℤ t = grind (arith, ints, order, is) in
        subst (λ (u : ℤ). u <ℤ t) (sym same) lower) (is_at k t (at t)),
  )

  module _ (k : ℕ) (few : k ≤ length ts)
      (parted : IsNonDecreasingBy (λ (y : ℤ). ordering_index (int_cmp y t)) ts →
      IsPartitionPoint (λ (y : ℤ). int_cmp y t ≡ Less) (λ (y : ℤ). int_cmp y t ≡ Greater) ts k) where
    below : (i : ℕ) (d : ℤ) → i < k → slice_index_or ts i d <ℤ t
    below i d less = int_ranked (slice_index_or ts i d) t Less
        (sym ((parted comparisons_rise).0 i d (omega arith) less))

    above : (i : ℕ) (d : ℤ) → k ≤ i → i < length ts → t <ℤ slice_index_or ts i d
    above i d past within = int_ranked (slice_index_or ts i d) t Greater
        (sym ((parted comparisons_rise).1 i d past within))

    -- what is not found does not stand there
    pub search_failed : Contains ts t → ⊥
    search_failed (i, within, is) = by_place (nat_lt i k) refl
      where
        by_place : (b : Bool) → nat_lt i k ≡ b → ⊥
        by_place true e =
            let lower = below i t (grind (arith, nat_tests, e)) in
            let at : slice_index_or ts i t ≡ t = is in
            absurd (grind (arith, ints, lower, at))
        by_place false e =
            let higher = above i t (grind (arith, nat_tests, e)) within in
            let at : slice_index_or ts i t ≡ t = is in
            absurd (grind (arith, ints, higher, at))

    -- and comes into the gap
    pub search_gap : with_type ts t ≡ take k ts ++ t ∷ drop k ts
    search_gap = by_place (nat_lt k (length ts)) refl
      where
        lower : All (λ (u : ℤ). u <ℤ t) (take k ts)
        lower i d less =
            let long = length-take k ts in
            let before : i < k = omega (arith, less, long, few) in
            subst (λ (u : ℤ). u <ℤ t) (sym (get_or-take k ts i d before)) (below i d before)

        by_place : (b : Bool) → nat_lt k (length ts) ≡ b → with_type ts t ≡ take k ts ++ t ∷ drop k ts
        by_place true e =
            let within : k < length ts = grind (arith, nat_tests, e) in
            with_less t ts k t within lower (above k t (omega arith) within)
        by_place false e =
            let past : length ts ≤ k = grind (arith, nat_tests, e) in
            with_last t ts (each_end (λ (u : ℤ). u <ℤ t) ts k past lower)
            ∙ sym (λ i. take_all k ts past i ++ t ∷ drop_all k ts past i)

-- what all of a list are made into
pub each_made : {X Y : Type 0} (P : Y → Type 0) (f : X → Y) (xs : List X) → All P (map f xs) →
    All (λ (x : X). P (f x)) xs
each_made P f xs h k d within =
    subst P (get_or-map f xs k d (f d) within) (h k (f d) (subst (λ n. k < n) (sym (length-map xs f)) within))

-- an element, or 0
pub unwrap_at : (xs : List ℕ) (i : ℕ) → unwrap_or (slice_get xs i) 0 ≡ slice_index_or xs i 0
unwrap_at [] i = refl
unwrap_at (x ∷ xs) zero = refl
unwrap_at (x ∷ xs) (suc i) = unwrap_at xs i

-- the types of one message more
pub types_more : (ms : List Message) (i : ℕ) (m : Message) → i < length ms → slice_index_or ms i m ≡ m →
    types (take (i + 1) ms) ≡ with_type (types (take i ms)) m.mtype
types_more ms i m within at =
    let one : i + 1 ≡ suc i = omega arith in
    ap (λ n. types (take n ms)) one ∙ ap types (take-suc ms i m within)
    ∙ ap (λ (x : Message). types (take i ms ++ x ∷ [])) at
    ∙ fold-append (λ (ts : List ℤ) (x : Message). with_type ts x.mtype) [] (take i ms) (m ∷ [])
