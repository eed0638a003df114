-- The directory: each bucket of the file is on the chain, and what a walk along the chain has counted.
use Rattle.std.proofs.Common.{ℕ, ◌≡◌, ◌+◌, ◌<◌, ◌≤◌, ◌==◌, nat_lt, Bool, true, false, if◌then◌else◌, List, [], ◌∷◌, ◌++◌, length, take, slice_index_or, refl, sym, ap, subst, ◌∙◌, inl, inr, add-zero, arith}
use Rattle.std.specs.List.{Contains}
use Rattle.std.proofs.lemmas.Bool.Decides.{nat_tests}
use Rattle.std.proofs.lemmas.List.{take_more}
use Rattle.std.proofs.lemmas.List.Elements.{Contains-append_cases}
use Rattle.directory.specs.Ranges.{Covers}
use Rattle.hash_file.specs.declared.page.Shape.{Shape}
use Rattle.hash_file.specs.Store.{Store, is_bucket, has_bucket, bucket_at}
use Rattle.hash_file.specs.Chain.{IsBucketOn, times, number_on}
use Rattle.hash_file.specs.Sound.{is_numbered}
use Rattle.hash_file.proofs.Lists.{times_stands, how_many_append}
use Rattle.file_walk.specs.Outlines.{IsBucketAt, IsOutlined}
use Rattle.file_walk.specs.Walks.{HasRightSpares}

module _ (s : Store) (ns : List ℕ) where
  -- each bucket is on the chain
  pub bucket_on : (n : ℕ) (shape : Shape) → IsOutlined s → HasRightSpares s ns → IsBucketAt s n shape → Contains ns n
  bucket_on n shape o spares b =
      elim (Contains-append_cases ns spares.0 n (times_stands n (ns ++ spares.0) 0 once)) [
        | inl live ↦ live
        | inr spare ↦ let free = spares.1.spared.free n spare in
            let none : has_bucket s n ≡ false = ap is_bucket free in let live = b.live in absurd cc
      ]
    where
      behind : (c : Bool) → nat_lt n s.layout.root ≡ c → s.layout.root ≤ n
      behind true e =
          let none : has_bucket s n ≡ false = ap is_bucket (o.low n (grind (arith, nat_tests))) in
          let live = b.live in absurd cc
      behind false e = grind (arith, nat_tests)

      number : is_numbered s n ≡ true
      number =
          let from : s.layout.root ≤ n = behind (nat_lt n s.layout.root) refl in
          let within = b.within in
          grind (arith, nat_tests)

      once : times n (ns ++ spares.0) ≡ 1
      once = spares.1.roles n ∙ ap (λ (c : Bool). if c then 1 else 0) number

  -- and is that of an index which its range has
  pub bucket_is : (n i : ℕ) (shape : Shape) → IsOutlined s → HasRightSpares s ns → IsBucketAt s n shape →
      Covers shape.range i → IsBucketOn s ns i n
  bucket_is n i shape o spares b covers =
      (bucket_on n shape o spares b, subst (λ (x : Shape). Covers x.range i) b.shaped covers)

  pub bucket_has : (n i : ℕ) (shape : Shape) → IsBucketAt s n shape → IsBucketOn s ns i n → Covers shape.range i
  bucket_has n i shape b on = subst (λ (x : Shape). Covers x.range i) (sym b.shaped) on.1

  -- one bucket more is counted, or not
  pub number_more : (k depth : ℕ) (b : Bool) → k < length ns →
      ((bucket_at s (slice_index_or ns k 0)).depth == depth) ≡ b →
      number_on s (take (k + 1) ns) depth ≡ number_on s (take k ns) depth + (if b then 1 else 0)
  number_more k depth b within e =
      ap (λ xs. number_on s xs depth) (take_more ns k 0 within)
      ∙ how_many_append (λ (n : ℕ). (bucket_at s n).depth == depth) (take k ns) (slice_index_or ns k 0 ∷ [])
      ∙ ap (λ m. number_on s (take k ns) depth + m)
      (add-zero (if (bucket_at s (slice_index_or ns k 0)).depth == depth then 1 else 0)
      ∙ ap (λ (c : Bool). if c then 1 else 0) e)
