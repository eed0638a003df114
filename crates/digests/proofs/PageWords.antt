-- The words of the message that a page is sealed by.
use Rattle.std.proofs.Common.{◌≡◌, refl, ◌∙◌, sym, ap, ℕ, suc, ◌+◌, ◌-◌, ◌*◌, ◌/◌, ◌^◌, ◌<◌, ◌≤◌}
use Rattle.std.proofs.Common.{List, [], ◌∷◌, ◌++◌, length, drop, replicate, slice_index, arith, length-append}
use Rattle.std.proofs.lemmas.List.{get_or_append_left, get_or-take, get_or-drop, get_or-replicate, length-take-le}
use Rattle.std.proofs.lemmas.List.{get_or-append-add}
use Rattle.std.proofs.lemmas.Nat.{from_be_bytes-to_be_bytes_4}
use Rattle.std.specs.Int.{w32, from_be_bytes}
use Rattle.byteorder.specs.Endian.{big_bytes}
use Rattle.sha2.specs.Sha256.{digest_bytes, hash_after, initial_hash_256, padding, sha256, word_at}
use Rattle.page_device.specs.Sealed.{page_digest, payload_of}
use Rattle.digests.specs.Lanes.{block_of, padded_page}

word_same : (p q : List ℕ) (i j : ℕ) → slice_index p i ≡ slice_index q j
    → slice_index p (i + 1) ≡ slice_index q (j + 1) → slice_index p (i + 2) ≡ slice_index q (j + 2)
    → slice_index p (i + 3) ≡ slice_index q (j + 3) → word_at p i ≡ word_at q j
word_same p q i j a b c d = λ t. from_be_bytes w32 (a t ∷ b t ∷ c t ∷ d t ∷ [])

-- a word of a block is one of the message
pub word_at-block : (p : List ℕ) (block k : ℕ) → k < 16
    → word_at (block_of p block) (4 * k) ≡ word_at p (4 * (16 * block + k))
word_at-block p block k within =
    word_same (block_of p block) p (4 * k) (4 * (16 * block + k))
    (byte (4 * k) (4 * (16 * block + k)) (omega arith) (omega arith))
    (byte (4 * k + 1) (4 * (16 * block + k) + 1) (omega arith) (omega arith))
    (byte (4 * k + 2) (4 * (16 * block + k) + 2) (omega arith) (omega arith))
    (byte (4 * k + 3) (4 * (16 * block + k) + 3) (omega arith) (omega arith))
  where
    byte : (i j : ℕ) → i < 64 → block * 64 + i ≡ j → slice_index (block_of p block) i ≡ slice_index p j
    byte i j low at =
        get_or-take 64 (drop (block * 64) p) i 0 low ∙ get_or-drop (block * 64) p i 0 ∙ ap (slice_index p) at

module _ (n : ℕ) (page : List ℕ) (size : length page ≡ 4096) where
  abbrev message : List ℕ
  message = big_bytes 4 n ++ payload_of page

  length-payload : length (payload_of page) ≡ 4064
  length-payload = length-take-le 4064 page (omega (arith, size))

  length-message : length message ≡ 4068
  length-message = length-append (big_bytes 4 n) (payload_of page) ∙ ap (λ (k : ℕ). 4 + k) length-payload

  -- the end of the message, zeros, and its length in bits
  abbrev tail : List ℕ
  tail = 0x80 ∷ (replicate 25 0 ++ 0x7F ∷ 0x20 ∷ [])

  padded_page-is : padded_page n page ≡ message ++ tail
  unfolding padded_page
  padded_page-is = ap (λ (k : ℕ). message ++ padding k) length-message

  pub length-padded_page : length (padded_page n page) ≡ 4096
  length-padded_page =
      ap length padded_page-is ∙ length-append message tail ∙ ap (λ (k : ℕ). k + 28) length-message

  at_payload : (i j : ℕ) → i ≡ 4 + j → j < 4064 → slice_index (padded_page n page) i ≡ slice_index page j
  at_payload i j at within =
      let inside : i < length message = omega (arith, length-message) in
      ap (λ (p : List ℕ). slice_index p i) padded_page-is
      ∙ get_or_append_left message tail 0 i inside
      ∙ ap (slice_index message) at
      ∙ get_or-append-add (big_bytes 4 n) (payload_of page) j 0
      ∙ get_or-take 4064 page j 0 within

  at_tail : (i j : ℕ) → i ≡ 4068 + j → slice_index (padded_page n page) i ≡ slice_index tail j
  at_tail i j at =
      ap (λ (p : List ℕ). slice_index p i) padded_page-is
      ∙ ap (slice_index (message ++ tail)) (at ∙ ap (λ (k : ℕ). k + j) (sym length-message))
      ∙ get_or-append-add message tail j 0

  at_zeros : (i j : ℕ) → i ≡ 4069 + j → j < 25 → slice_index (padded_page n page) i ≡ 0
  at_zeros i j at within =
      at_tail i (suc j) (omega arith)
      ∙ get_or_append_left (replicate 25 0) (0x7F ∷ 0x20 ∷ []) 0 j within
      ∙ get_or-replicate 25 j 0 0 within

  pub number-word : n < 2 ^ 32 → word_at (padded_page n page) 0 ≡ n
  number-word fits = ap (λ (p : List ℕ). word_at p 0) padded_page-is ∙ from_be_bytes-to_be_bytes_4 n fits

  pub payload-word : (at : ℕ) → 1 ≤ at → at ≤ 1016 → word_at (padded_page n page) (4 * at) ≡ word_at page (4 * at - 4)
  payload-word at low high =
      word_same (padded_page n page) page (4 * at) (4 * at - 4)
      (at_payload (4 * at) (4 * at - 4) (omega arith) (omega arith))
      (at_payload (4 * at + 1) (4 * at - 4 + 1) (omega arith) (omega arith))
      (at_payload (4 * at + 2) (4 * at - 4 + 2) (omega arith) (omega arith))
      (at_payload (4 * at + 3) (4 * at - 4 + 3) (omega arith) (omega arith))

  pub end-word : word_at (padded_page n page) 4068 ≡ 2147483648
  end-word =
      word_same (padded_page n page) tail 4068 0 (at_tail 4068 0 refl) (at_tail 4069 1 refl) (at_tail 4070 2 refl)
      (at_tail 4071 3 refl)

  pub zero-word : (at : ℕ) → 1018 ≤ at → at < 1023 → word_at (padded_page n page) (4 * at) ≡ 0
  zero-word at low high =
      word_same (padded_page n page) (replicate 4 0) (4 * at) 0
      (at_zeros (4 * at) (4 * at - 4069) (omega arith) (omega arith))
      (at_zeros (4 * at + 1) (4 * at - 4068) (omega arith) (omega arith))
      (at_zeros (4 * at + 2) (4 * at - 4067) (omega arith) (omega arith))
      (at_zeros (4 * at + 3) (4 * at - 4066) (omega arith) (omega arith))

  pub bits-word : word_at (padded_page n page) 4092 ≡ 32544
  bits-word =
      word_same (padded_page n page) tail 4092 24 (at_tail 4092 24 refl) (at_tail 4093 25 refl)
      (at_tail 4094 26 refl) (at_tail 4095 27 refl)

  -- the digest of a page, from the hash value after its last block
  pub page_digest-is : (hash : List ℕ) → hash ≡ hash_after initial_hash_256 (padded_page n page) 64
      → digest_bytes hash 8 ≡ page_digest n (payload_of page)
  unfolding padded_page sha256
  page_digest-is hash held =
      ap (λ (h : List ℕ). digest_bytes h 8) held
      ∙ ap (λ (k : ℕ). digest_bytes (hash_after initial_hash_256 (padded_page n page) (k / 64)) 8)
      (sym length-padded_page)
