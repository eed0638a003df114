-- In a sound world no page that a split writes is at fault.
use Rattle.std.proofs.Common.{◌≡◌, refl, sym, ap, subst, ℕ, zero, suc, ◌+◌, ◌-◌, ◌^◌, ◌≤◌, ◌<◌, ◌==◌, Bool, true, false, if◌then◌else◌, List, [], ◌∷◌, length, inl, inr, arith, add-one}
use Rattle.std.proofs.lemmas.Bool.{eq-eqb, ne_eqb}
use Rattle.directory.specs.Links.{met_from}
use Rattle.directory.proofs.MemberLaws.{contains_head}
use Rattle.hash_file.specs.Chain.{how_many}
use Rattle.hash_file.specs.Sound.{IsSoundFile}
use Rattle.hash_file.specs.Store.{bucket_at, count_at, has_bucket, next_at}
use Rattle.hash_file.proofs.Roles.{numbered}
use Rattle.stale_search.specs.file_pages.Headers.{MaySplitCount}
use Rattle.stale_search.specs.file_pages.Entries.{MayRetarget}
use Rattle.stale_search.specs.file_pages.Buckets.{IsThere, MaySplit}
use Rattle.step_rules.specs.Words.{Store, chain}
use Rattle.step_rules.specs.Known.{AllKnown}
use Rattle.split_merge.specs.Words.{RecordKey, GREATEST_DEPTH, ROOT_PAGE, World, IsSoundWorld, Change, Taken, Linked, Range, upper_half_of, page_of, WriteNew, Retarget, SetCounts}
use Rattle.split_merge.specs.Order.{IsPlaced}
use Rattle.split_merge.specs.Splits.{SplitView, IsSplit, bucket_facts, facts_at}
use Rattle.split_merge.proofs.PageLemmas.{page_last}

-- ---- a chain is short

met_short : (live : ℕ → Bool) (next : ℕ → ℕ) (fuel x : ℕ) → length (met_from live next fuel x) ≤ fuel
met_short live next zero x = omega arith
met_short live next (suc fuel) x = by (live x) (met_short live next fuel (next x))
  where
    by : (b : Bool) → length (met_from live next fuel (next x)) ≤ fuel →
        length (if b then x ∷ met_from live next fuel (next x) else []) ≤ suc fuel
    by true few = omega (arith, few)
    by false few = omega arith

chain_short : (s : Store) → length (chain s) ≤ 2 ^ s.layout.greatest
unfolding chain
chain_short s = met_short (has_bucket s) (next_at s) (2 ^ s.layout.greatest) s.layout.root

few_of : {X : Type 0} (test : X → Bool) (xs : List X) → how_many test xs ≤ length xs
few_of test [] = omega arith
few_of test (x ∷ xs) = by (test x) (few_of test xs)
  where
    by : (b : Bool) → how_many test xs ≤ length xs → (if b then 1 else 0) + how_many test xs ≤ suc (length xs)
    by true few = omega (arith, few)
    by false few = omega (arith, few)

module _ (hash : RecordKey → ℕ) (seat : ℕ) (v : SplitView) (inv : IsSplit v) (w : World)
    (sound : IsSoundWorld hash w)
    (laid : w.store.layout ≡ record { root = ROOT_PAGE; greatest = GREATEST_DEPTH }) where
  abbrev s : Store
  s = w.store

  root_is : s.layout.root ≡ ROOT_PAGE
  root_is = ap (λ l. l.root) laid

  greatest_is : s.layout.greatest ≡ GREATEST_DEPTH
  greatest_is = ap (λ l. l.greatest) laid

  pub may_split : AllKnown seat w (bucket_facts v) → MaySplit v.page s
  may_split known =
      let has = numbered hash s w.change (chain s) sound.file v.page (inl known.0.1.0) in
      record {
        there = record {
          behind = omega (arith, root_is, has.0);
          within = has.1;
          bucket = known.1.0.1.is_bucket;
        };
        shallow = omega (arith, inv.shallow, ap (λ (r : Range). r.depth) known.1.0.1.range_is);
      }

  pub taken_is_there : (new : ℕ) → AllKnown seat w (facts_at (WriteNew new) v) → IsThere new s
  taken_is_there new known =
      let file : IsSoundFile hash s (Taken new) = subst (IsSoundFile hash s) known.0.1 sound.file in
      let has = numbered hash s (Taken new) (chain s) file new (inr (inr (contains_head new []))) in
      record { behind = omega (arith, root_is, has.0); within = has.1 }

  pub may_retarget : (new entry : ℕ) → IsPlaced v.whole v.depth (Retarget new entry) →
      MayRetarget (page_of entry) (upper_half_of v.whole)
  may_retarget new entry placed = record {
    first = omega arith;
    last = page_last entry v.depth placed.1 inv.depth;
    shallow = inv.shallow;
  }

  pub may_count : (new : ℕ) → AllKnown seat w (facts_at (SetCounts new) v) → MaySplitCount v.whole.depth s
  may_count new known =
      let l : ℕ = v.whole.depth in
      let c : Change = Linked v.page new v.whole in
      let file : IsSoundFile hash s c = subst (IsSoundFile hash s) known.0.1 sound.file in
      let below = file.counts l (omega (arith, inv.shallow, greatest_is)) in
      let above = file.counts (suc l) (omega (arith, inv.shallow, greatest_is)) in
      let below' = rw (ne_eqb (suc l) l (omega arith), eq-eqb l l refl) at below in
      let above' = rw (eq-eqb (suc l) (suc l) refl, ne_eqb l (suc l) (omega arith)) at above in
      let few = few_of (λ (n : ℕ). (bucket_at s n).depth == suc l) (chain s) in
      let short : length (chain s) ≤ 2 ^ GREATEST_DEPTH =
      subst (λ (d : ℕ). length (chain s) ≤ 2 ^ d) greatest_is (chain_short s) in
      let many : count_at s (suc l) + 2 < 2 ^ 32 = omega (arith, above', few, short) in
      record {
        shallow = inv.shallow;
        some = omega (arith, below');
        room = subst (λ (d : ℕ). count_at s d + 2 < 2 ^ 32) (sym (add-one l)) many;
      }
