-- Each page has one role: it is live, or on the free list, or owned.
use Rattle.std.proofs.Common.{ℕ, suc, ◌≡◌, ◌≢◌, ◌+◌, ◌<◌, ◌≤◌, List, ◌++◌, length, Bool, true, false, leb, ltb, arith, refl, ◌⊎◌, inl, inr}
use Rattle.std.specs.List.{Contains}
use Rattle.std.proofs.lemmas.Bool.{leb-true, ltb-true}
use Rattle.bucket_page.specs.declared.record_key.RecordKey.{RecordKey}
use Rattle.bucket_page.proofs.of_numbers.Tests.{both_true}
use Rattle.hash_file.specs.Store.{Store}
use Rattle.hash_file.specs.Chain.{times}
use Rattle.hash_file.specs.Change.{Change, owned}
use Rattle.hash_file.specs.Sound.{IsSoundOn, is_numbered}
use Rattle.hash_file.proofs.Lists.{times_append, times_member}

-- what is not counted does not stand there
pub uncounted : (n : ℕ) (ns : List ℕ) → times n ns ≡ 0 → Contains ns n → ⊥
uncounted n ns none c = counted (times_member n ns c)
  where
    counted : (k : ℕ) × (times n ns ≡ suc k) → ⊥
    counted (k, is) = omega (arith, none, is)

-- how often a page stands on three lists together
pub thrice : (n : ℕ) (xs ys zs : List ℕ) → times n (xs ++ (ys ++ zs)) ≡ times n xs + (times n ys + times n zs)
thrice n xs ys zs = omega (arith, times_append n xs (ys ++ zs), times_append n ys zs)

module _ (hash : RecordKey → ℕ) (s : Store) (c : Change) (ns : List ℕ) (h : IsSoundOn hash s c ns) where
  few_by : (n : ℕ) (b : Bool) → is_numbered s n ≡ b → times n ns + (times n h.spares + times n (owned c)) ≤ 1
  few_by n true is = let sum = rw is at (h.roles n) in omega (arith, sum, thrice n ns h.spares (owned c))
  few_by n false is = let sum = rw is at (h.roles n) in omega (arith, sum, thrice n ns h.spares (owned c))

  -- no page has two roles, or one twice
  pub few : (n : ℕ) → times n ns + (times n h.spares + times n (owned c)) ≤ 1
  few n = few_by n (is_numbered s n) refl

  none : (n : ℕ) → times n ns + (times n h.spares + times n (owned c)) ≡ 0 →
      Contains ns n ⊎ (Contains h.spares n ⊎ Contains (owned c) n) → ⊥
  none n sum (inl d) = uncounted n ns (omega (arith, sum)) d
  none n sum (inr (inl d)) = uncounted n h.spares (omega (arith, sum)) d
  none n sum (inr (inr d)) = uncounted n (owned c) (omega (arith, sum)) d

  numbered_by : (n : ℕ) → Contains ns n ⊎ (Contains h.spares n ⊎ Contains (owned c) n) → (b : Bool) →
      is_numbered s n ≡ b → (s.layout.root ≤ n) × (n < length s.pages)
  numbered_by n stands true is =
      let both = both_true (leb s.layout.root n) (ltb n (length s.pages)) is in
      (leb-true s.layout.root n both.0, ltb-true n (length s.pages) both.1)
  numbered_by n stands false is = absurd (
      let sum = rw is at (h.roles n) in
      none n (omega (arith, sum, thrice n ns h.spares (owned c))) stands)

  -- a page that has a role is one of the file, from the root on
  pub numbered : (n : ℕ) → Contains ns n ⊎ (Contains h.spares n ⊎ Contains (owned c) n) →
      (s.layout.root ≤ n) × (n < length s.pages)
  numbered n stands = numbered_by n stands (is_numbered s n) refl

  -- two roles are those of two pages
  two : (n : ℕ) (xs ys : List ℕ) → Contains xs n → Contains ys n → times n xs + times n ys ≤ 1 → ⊥
  two n xs ys a b small = counted (times_member n xs a) (times_member n ys b)
    where
      counted : (k : ℕ) × (times n xs ≡ suc k) → (k : ℕ) × (times n ys ≡ suc k) → ⊥
      counted (j, is) (k, also) = omega (arith, is, also, small)

  pub live_not_spare : (m n : ℕ) → Contains ns m → Contains h.spares n → m ≢ n
  live_not_spare m n a b same =
      two n ns h.spares (let a' = rw same at a in a') b (omega (arith, few n))

  pub live_not_owned : (m n : ℕ) → Contains ns m → Contains (owned c) n → m ≢ n
  live_not_owned m n a b same =
      two n ns (owned c) (let a' = rw same at a in a') b (omega (arith, few n))

  pub spare_not_owned : (m n : ℕ) → Contains h.spares m → Contains (owned c) n → m ≢ n
  spare_not_owned m n a b same =
      two n h.spares (owned c) (let a' = rw same at a in a') b (omega (arith, few n))

  -- page 0 is no page of these
  pub numbered_positive : (n : ℕ) → Contains ns n ⊎ (Contains h.spares n ⊎ Contains (owned c) n) → 0 ≢ n
  numbered_positive n stands same = omega (arith, (numbered n stands).0, h.layout.root, same)
