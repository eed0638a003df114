-- A message that fills a block with its padding.
use Rattle.std.proofs.Common.{◌≡◌, refl, ◌∙◌, sym, ap, ℕ, suc, ◌-◌, ◌*◌, ◌/◌, ◌%◌, ◌^◌, ◌≤◌}
use Rattle.std.proofs.Common.{List, ◌∷◌, ◌++◌, length, take, drop, replicate, slice_set, arith, length-append}
use Rattle.std.proofs.lemmas.List.{length-replicate, take-replicate, drop-replicate, take_all}
use Rattle.std.specs.Int.{w64, to_be_bytes}
use Rattle.sha2.specs.Sha256.{compress, digest_bytes, hash_after, initial_hash_256, padded_message, padding, sha256}

-- zeros of which the first is set are a one and the others
first-set : (n : ℕ) → slice_set {A = ℕ} (replicate (suc n) 0) 0 128 ≡ 128 ∷ replicate n 0
first-set n = refl

module _ (m : List ℕ) (short : length m ≤ 55) where
  abbrev zeros : List ℕ
  zeros = replicate (55 - length m) 0

  padding-is : padding (length m) ≡ 128 ∷ (zeros ++ to_be_bytes w64 (8 * length m))
  padding-is =
      let count : (119 - length m % 64) % 64 ≡ 55 - length m = omega arith in
      let bits : length m * 8 % 2 ^ 64 ≡ 8 * length m = omega arith in
      λ i. 128 ∷ (replicate (count i) 0 ++ to_be_bytes w64 (bits i))

  -- the zeros behind a message, of which the first becomes the end of it
  end-is : slice_set {A = ℕ} (take (56 - length m) (drop (length m) (replicate 64 0))) 0 128 ≡ 128 ∷ zeros
  end-is =
      let one : 56 - length m ≡ suc (55 - length m) = omega arith in
      ap (λ (xs : List ℕ). slice_set (take (56 - length m) xs) 0 128) (drop-replicate (length m) 64 0)
      ∙ ap (λ (xs : List ℕ). slice_set xs 0 128) (take-replicate (56 - length m) (64 - length m) 0 (omega arith))
      ∙ ap (λ (k : ℕ). slice_set {A = ℕ} (replicate k 0) 0 128) one
      ∙ first-set (55 - length m)

  pub padded-is : (text end bits : List ℕ) → text ≡ m
      → end ≡ slice_set {A = ℕ} (take (56 - length m) (drop (length m) (replicate 64 0))) 0 128
      → bits ≡ to_be_bytes w64 (8 * length m) → text ++ (end ++ bits) ≡ padded_message m
  padded-is text end bits is_text is_end is_bits =
      (λ i. is_text i ++ ((is_end ∙ end-is) i ++ is_bits i)) ∙ ap (λ (xs : List ℕ). m ++ xs) (sym padding-is)

  length-padded : length (padded_message m) ≡ 64
  length-padded =
      ap (λ (xs : List ℕ). length (m ++ xs)) padding-is
      ∙ omega (
        arith,
        length-append m (128 ∷ (zeros ++ to_be_bytes w64 (8 * length m))),
        length-append zeros (to_be_bytes w64 (8 * length m)),
        length-replicate {A = ℕ} (55 - length m) 0,
      )

  -- the digest, from the hash value after the only block
  pub digest-is : (hash : List ℕ) → hash ≡ compress initial_hash_256 (padded_message m)
      → digest_bytes hash 8 ≡ sha256 m
  unfolding sha256 hash_after
  digest-is hash held =
      let p : List ℕ = padded_message m in
      let whole : take 64 p ≡ p = take_all 64 p (omega (arith, length-padded)) in
      ap (λ (h : List ℕ). digest_bytes h 8)
      (held ∙ ap (compress initial_hash_256) (sym whole)
      ∙ ap (λ (k : ℕ). hash_after initial_hash_256 p (k / 64)) (sym length-padded))
