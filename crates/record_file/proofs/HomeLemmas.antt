-- The bucket of a pseudokey, near a page that a seat holds in a directory that it may write.
use Rattle.std.proofs.Common.{◌≡◌, refl, sym, ◌∙◌, subst, ℕ, ◌+◌, ◌%◌, ◌^◌, ◌<◌, Bool, true, false, if◌then◌else◌, eqb, eqb-true, eq-eqb, arith, inl, inr}
use Rattle.std.proofs.lemmas.Bool.{cases_Bool}
use Rattle.std.specs.List.{Contains}
use Rattle.numbers.proofs.Tests.{both_true}
use Rattle.directory.proofs.MemberLaws.{contains_none}
use Rattle.hash_file.specs.Store.{has_bucket}
use Rattle.hash_file.specs.Change.{aside}
use Rattle.hash_file.specs.Search.{PageLeads, distance}
use Rattle.hash_file.proofs.Searches.{bucket_leads, hops_lead_on}
use Rattle.step_rules.specs.Words.{chain, IsBucketOf}
use Rattle.step_rules.specs.Structure.{IsNear}
use Rattle.record_file.specs.InsertWords.{RecordKey, Store, Answers, answers_at, range_at, next_at, Quiet, Change, World, IsSoundWorld}
use Rattle.record_file.specs.SecondTries.{splits_left, home_at, look_left}

-- ---- whether a page answers

pub answers_is : (s : Store) (n k : ℕ) → Answers s n k → answers_at s n k ≡ true
answers_is s n k answers =
    rw (answers.0, eq-eqb (k % 2 ^ (range_at s n).depth) (range_at s n).pattern answers.1) refl

pub answers_so : (s : Store) (n k : ℕ) → answers_at s n k ≡ true → Answers s n k
answers_so s n k is =
    let both = both_true (has_bucket s n) (eqb (k % 2 ^ (range_at s n).depth) (range_at s n).pattern) is in
    (both.0, eqb-true (k % 2 ^ (range_at s n).depth) (range_at s n).pattern both.1)

pub answers_not : (s : Store) (n k : ℕ) → (Answers s n k → ⊥) → answers_at s n k ≡ false
answers_not s n k other = elim (cases_Bool (answers_at s n k)) [
  | inl is ↦ absurd (other (answers_so s n k is))
  | inr is ↦ is
]

-- ---- the bucket, or one before it

pub near_bucket : (hash : RecordKey → ℕ) (w : World) (n k : ℕ) → IsSoundWorld hash w → IsBucketOf w.store k n →
    IsNear w n k
near_bucket hash w n k sound home =
    let lead = bucket_leads w.store w.change (chain w.store) n k sound.file.chained home in
    record { leads = lead.0; near = omega (arith, lead.1) }

-- the page that a page names, one hop on
module _ (hash : RecordKey → ℕ) (w : World) (n k : ℕ) (sound : IsSoundWorld hash w) (quiet : w.change ≡ Quiet)
    (near : IsNear w n k) (other : Answers w.store n k → ⊥) where
  abbrev s : Store
  s = w.store

  next_leads : PageLeads s w.change (next_at s n) k
  next_leads = (hops_lead_on hash s w.change (chain s) n k sound.file near.leads other).leads

  next_here : distance s (next_at s n) k ≡ 0
  next_here = omega (arith, near.near, (hops_lead_on hash s w.change (chain s) n k sound.file near.leads other).nearer)

  pub next_answers : Answers s (next_at s n) k
  next_answers = elim (cases_Bool (answers_at s (next_at s n) k)) [
    | inl is ↦ answers_so s (next_at s n) k is
    | inr is ↦ absurd (
        let not : Answers s (next_at s n) k → ⊥ = λ a.
        (let f : true ≡ false = sym (answers_is s (next_at s n) k a) ∙ is in absurd cc) in
        let further = (hops_lead_on hash s w.change (chain s) (next_at s n) k sound.file next_leads not).nearer in
        omega (arith, next_here, further))
  ]

  pub next_live : Contains (chain s) (next_at s n)
  next_live = elim next_leads.stands [
    | inl on ↦ on
    | inr off ↦ absurd (contains_none (next_at s n)
        (subst (λ (c : Change). Contains (aside c) (next_at s n)) quiet off))
  ]

  pub next_near : IsNear w (next_at s n) k
  next_near = near_bucket hash w (next_at s n) k sound (next_live, next_answers.1)

-- ---- the steps that are left

look_by : (s : Store) (n k : ℕ) (b : Bool) → answers_at s n k ≡ b →
    look_left s n k ≡ splits_left (range_at s (if b then n else next_at s n)).depth + (if b then 4 else 6)
look_by s n k b is = rw is refl

pub look_here : (s : Store) (n k : ℕ) → Answers s n k → look_left s n k ≡ splits_left (range_at s n).depth + 4
look_here s n k answers = look_by s n k true (answers_is s n k answers)

pub look_on : (s : Store) (n k : ℕ) → (Answers s n k → ⊥) →
    look_left s n k ≡ splits_left (range_at s (next_at s n)).depth + 6
look_on s n k other = look_by s n k false (answers_not s n k other)

pub home_here : (s : Store) (n k : ℕ) → Answers s n k → home_at s n k ≡ n
home_here s n k answers = rw (answers_is s n k answers) refl

pub home_on : (s : Store) (n k : ℕ) → (Answers s n k → ⊥) → home_at s n k ≡ next_at s n
home_on s n k other = rw (answers_not s n k other) refl

some_steps : (left : ℕ) (b : Bool) → 3 < left + (if b then 4 else 6)
some_steps left true = omega arith
some_steps left false = omega arith

-- what is no split is less
pub look_is_more : (s : Store) (n k : ℕ) → 3 < look_left s n k
look_is_more s n k = some_steps (splits_left (range_at s (home_at s n k)).depth) (answers_at s n k)

few_steps : (depth : ℕ) (b : Bool) → splits_left depth + (if b then 4 else 6) < splits_left 0 + 7
few_steps depth true = omega arith
few_steps depth false = omega arith

-- from any bucket there are fewer than on the way
pub look_is_less : (s : Store) (n k : ℕ) → look_left s n k < splits_left 0 + 7
look_is_less s n k = few_steps (range_at s (home_at s n k)).depth (answers_at s n k)

-- where the bucket is of this depth, the page or the next one
pub look_at_depth : (s : Store) (n k depth : ℕ) → (range_at s n).depth ≡ depth →
    (range_at s (next_at s n)).depth ≡ depth → look_left s n k < splits_left depth + 7
look_at_depth s n k depth here on = by (answers_at s n k) refl
  where
    by : (b : Bool) → answers_at s n k ≡ b → look_left s n k < splits_left depth + 7
    by true is = omega (arith, look_by s n k true is, here)
    by false is = omega (arith, look_by s n k false is, on)
