-- Where each element of a list is named by one of another, no two name one, and they are as many, each is named.
use Rattle.std.proofs.Common.{ℕ, zero, suc, ◌≡◌, ◌+◌, ◌<◌, ◌≤◌, ◌⊎◌, inl, inr, List, [], ◌∷◌, ◌++◌, length, take, sym, ap, subst, ◌∙◌, arith}
use Rattle.std.specs.List.{AllPairs, Contains, flat_map}
use Rattle.std.specs.Prelude.{slice_index_or}
use Rattle.std.proofs.Math.Seq.{take-suc}
use Rattle.std.proofs.lemmas.Grind.{flat_map-append}
use Rattle.std.proofs.lemmas.List.{length-append}
use Rattle.std.proofs.lemmas.List.Elements.{Contains-append_cases, Contains-append_left, Contains-append_right}
use Rattle.type_chains.proofs.Members.{contains_head, contains_tail, head_or_tail}

-- what stands on a list stands between a front and a back
contains_split : {X : Type 0} (xs : List X) (x : X) → Contains xs x →
    (front : List X) × (back : List X) × (xs ≡ front ++ x ∷ back)
contains_split [] x (k, within, at) = absurd (omega (arith, within))
contains_split (y ∷ ys) x (zero, within, at) = ([], ys, λ i. at i ∷ ys)
contains_split (y ∷ ys) x (suc k, within, at) =
    let (front, back, e) = contains_split ys x (k, omega (arith, within), at) in
    (y ∷ front, back, ap (λ zs. y ∷ zs) e)

-- another element stands in the front or in the back
left_over : {X : Type 0} (front back : List X) (x y : X) → Contains (front ++ x ∷ back) y →
    (x ≡ y) ⊎ Contains (front ++ back) y
left_over front back x y on = elim (Contains-append_cases front (x ∷ back) y on) [
  | inl here ↦ inr (Contains-append_left front back y here)
  | inr there ↦ elim (head_or_tail x y back there) [
    | inl same ↦ inl same
    | inr later ↦ inr (Contains-append_right front back y later)
  ]
]

module _ {A B : Type 0} (R : B → A → Type 0) where
  -- nothing names both
  abbrev AreApart : A → A → Type 0
  AreApart p q = (r : B) → R r p → R r q → ⊥

  pub named_each : (ps : List A) (rs : List B) → AllPairs AreApart ps →
      ((p : A) → Contains ps p → (r : B) × Contains rs r × R r p) → length rs ≤ length ps →
      (r : B) → Contains rs r → (p : A) × Contains ps p × R r p
  named_each [] rs apart each few r on = absurd (let within = on.1 in omega (arith, few, within))
  named_each (p ∷ ps) rs apart each few r on =
      let (x, there, names) = each p (contains_head p ps) in
      let (front, back, split) = contains_split rs x there in
      let long = length-append front (x ∷ back) in
      let short = length-append front back in
      let same_long = ap (λ (zs : List B). length zs) split in
      let fewer : length (front ++ back) ≤ length ps = omega (arith, few, long, short, same_long) in
      let others : (q : A) → Contains ps q → (r : B) × Contains (front ++ back) r × R r q = λ q qon.
      by_other q qon x names front back split (each q (contains_tail p q ps qon)) in
      let next = named_each ps (front ++ back)
      (λ i j d before within. apart (suc i) (suc j) d (omega (arith, before)) (omega (arith, within))) others fewer in
      elim (left_over front back x r (subst (λ (zs : List B). Contains zs r) split on)) [
        | inl same ↦ (p, contains_head p ps, subst (λ (z : B). R z p) same names)
        | inr later ↦
            let (q, qon, named) = next r later in
            (q, contains_tail p q ps qon, named)
      ]
    where
      by_other : (q : A) → Contains ps q → (x : B) → R x p → (front back : List B) → rs ≡ front ++ x ∷ back →
          (y : B) × Contains rs y × R y q → (y : B) × Contains (front ++ back) y × R y q
      by_other q qon x names front back split (y, yon, also) =
          elim (left_over front back x y (subst (λ (zs : List B). Contains zs y) split yon)) [
            | inl same ↦
                let (j, within, at) = qon in
                absurd (apart zero (suc j) q (omega arith) (omega (arith, within)) y
                (subst (λ (z : B). R z p) same names) (subst (λ (a : A). R y a) (sym at) also))
            | inr later ↦ (y, later, also)
          ]

-- ---- counts so far

module _ {X Y : Type 0} (f : X → List Y) (xs : List X) where
  pub count_more : (i : ℕ) (d : X) → i < length xs →
      length (flat_map f (take (i + 1) xs)) ≡ length (flat_map f (take i xs)) + length (f (slice_index_or xs i d))
  count_more i d within =
      let x : X = slice_index_or xs i d in
      let one : i + 1 ≡ suc i = omega arith in
      let more : flat_map f (take (i + 1) xs) ≡ flat_map f (take i xs) ++ flat_map f (x ∷ []) =
      ap (λ n. flat_map f (take n xs)) one ∙ ap (flat_map f) (take-suc xs i d within)
      ∙ flat_map-append f (take i xs) (x ∷ []) in
      let longer = length-append (flat_map f (take i xs)) (flat_map f (x ∷ [])) in
      let single = length-append (f x) [] in
      ap (λ (ys : List Y). length ys) more ∙ longer
      ∙ ap (λ n. length (flat_map f (take i xs)) + n)
      (single ∙ (let n : length (f x) + 0 ≡ length (f x) = omega arith in n))
