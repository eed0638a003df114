-- Lists: how many items pass a test, and what is looked up in records that stand behind others.
use Rattle.std.proofs.Common.{ℕ, suc, ◌≡◌, ◌≢◌, ◌+◌, ◌==◌, Bool, true, false, cond, if◌then◌else◌, None, List, [], ◌∷◌, ◌++◌, arith, refl, subst, inl, inr}
use Rattle.std.specs.List.{All, Contains}
use Rattle.std.proofs.lemmas.Bool.{cases_eq, ne_eqb, eq-eqb}
use Rattle.std.proofs.lemmas.List.Elements.{All-head, All-tail}
use Rattle.directory.proofs.MemberLaws.{contains_head, contains_tail, contains_cases, contains_none}
use Rattle.bucket_page.specs.declared.record_key.RecordKey.{RecordKey}
use Rattle.bucket_page.specs.Keys.{is_same}
use Rattle.bucket_page.specs.Records.{Pair, lookup}
use Rattle.bucket_page.proofs.KeyLaws.{same_is}
use Rattle.hash_file.specs.Chain.{how_many, times}

-- a list begins with its first item
pub contains_is : {X : Type 0} {x y : X} (xs : List X) → x ≡ y → Contains (x ∷ xs) y
contains_is {x = x} xs same = subst (Contains (x ∷ xs)) same (contains_head x xs)

-- ---- how many

module _ {X : Type 0} (test : X → Bool) where
  pub how_many_append : (xs ys : List X) → how_many test (xs ++ ys) ≡ how_many test xs + how_many test ys
  how_many_append [] ys = omega arith
  how_many_append (x ∷ xs) ys = omega (arith, how_many_append xs ys)

  -- items that pass as before are as many
  pub how_many_same : (new : X → Bool) (xs : List X) → ((x : X) → Contains xs x → new x ≡ test x) →
      how_many new xs ≡ how_many test xs
  how_many_same new [] same = refl
  how_many_same new (x ∷ xs) same =
      rw (same x (contains_head x xs), how_many_same new xs (λ y c. same y (contains_tail x y xs c))) refl

-- two that pass one test count twice
pub twice : (b : Bool) → (if b then 2 else 0) ≡ (if b then 1 else 0) + (if b then 1 else 0)
twice true = refl
twice false = refl

-- one item counts where it is the one
pub times_one : (n : ℕ) → times n (n ∷ []) ≡ 1
times_one n = rw (eq-eqb n n refl) refl

pub times_other : (m n : ℕ) → m ≢ n → times n (m ∷ []) ≡ 0
times_other m n other = rw (ne_eqb m n other) refl

pub times_append : (n : ℕ) (ms ns : List ℕ) → times n (ms ++ ns) ≡ times n ms + times n ns
times_append n ms ns = how_many_append (λ (m : ℕ). m == n) ms ns

-- what stands on a list is counted
pub times_member : (n : ℕ) (ns : List ℕ) → Contains ns n → (m : ℕ) × (times n ns ≡ suc m)
times_member n [] c = absurd (contains_none n c)
times_member n (m ∷ ns) c = elim (contains_cases m n ns c) [
  | inl same ↦ (times n ns, rw (eq-eqb m n same) (omega arith))
  | inr d ↦ later (times_member n ns d)
]
  where
    later : (k : ℕ) × (times n ns ≡ suc k) → (k : ℕ) × (times n (m ∷ ns) ≡ suc k)
    later (k, is) = (cond (m == n) 1 0 + k, omega (arith, is))

-- and what is counted stands there
pub times_stands : (n : ℕ) (ns : List ℕ) (k : ℕ) → times n ns ≡ suc k → Contains ns n
times_stands n [] k is = absurd (omega (arith, is))
times_stands n (m ∷ ns) k is = elim (cases_eq m n) [
  | inl same ↦ rw same (contains_head n ns)
  | inr other ↦ contains_tail m n ns (times_stands n ns k (let is' = rw (ne_eqb m n other) at is in omega (arith, is')))
]

-- ---- records

-- records that none is found in are passed over
pub lookup_past : (key : RecordKey) (ps qs : List Pair) → lookup key ps ≡ None → lookup key (ps ++ qs) ≡ lookup key qs
lookup_past key [] qs none = refl
lookup_past key (p ∷ ps) qs none = by_test (is_same p.key key) refl (λ rest. lookup_past key ps qs rest)
  where
    by_test : (b : Bool) → is_same p.key key ≡ b → (lookup key ps ≡ None → lookup key (ps ++ qs) ≡ lookup key qs) →
        lookup key (p ∷ ps ++ qs) ≡ lookup key qs
    by_test true is more = absurd (let found = rw is at none in cc)
    by_test false is more = let rest = rw is at none in rw is (more rest)

-- and those after change nothing
pub lookup_before : (key : RecordKey) (ps qs : List Pair) → lookup key qs ≡ None → lookup key (ps ++ qs) ≡ lookup key ps
lookup_before key [] qs none = none
lookup_before key (p ∷ ps) qs none = rw (lookup_before key ps qs none) refl

-- where no key is this one, none is found
pub lookup_none : (key : RecordKey) (ps : List Pair) → All (λ (p : Pair). p.key ≢ key) ps → lookup key ps ≡ None
lookup_none key [] h = refl
lookup_none key (p ∷ ps) h =
    by_test (is_same p.key key) refl (lookup_none key ps (All-tail (λ (p : Pair). p.key ≢ key) p ps h))
  where
    by_test : (b : Bool) → is_same p.key key ≡ b → lookup key ps ≡ None → lookup key (p ∷ ps) ≡ None
    by_test true is rest = absurd (All-head (λ (p : Pair). p.key ≢ key) p ps h (same_is p.key key is))
    by_test false is rest = rw is rest
