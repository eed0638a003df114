-- A key is read from its bytes, and each thirteen bytes are those of a key.
use Rattle.std.proofs.Common.{true, false, ◌≡◌, ℕ, ◌+◌, ◌*◌, ◌/◌, ◌^◌, ◌<◌, ◌≤◌, get_or, refl, List, [], ◌∷◌, ◌++◌, length, drop, sym, ap, ◌∙◌, arith}
use Rattle.std.proofs.lemmas.Bool.Decides.{nat_tests}
use Rattle.std.proofs.lemmas.List.{append-nil, append_assoc, drop_at, length-append, nil_from_length, length-drop, get_or-drop}
use Rattle.byteorder.specs.Endian.{big_number}
use Rattle.bucket_page.specs.declared.record_key.RecordKey.{RecordKey}
use Rattle.directory.specs.numbers.Numbers.{four, eight, four_at, eight_at}
use Rattle.bucket_page.specs.Keys.{IsKey, key_bytes, key_at, is_same, is_below, is_beside, owner_of}
use Rattle.directory.proofs.of_numbers.NumberLaws.{IsBytes, past, length-four, length-eight, four_takes, eight_takes, four_again, eight_again, four_small, eight_small}

pub length-key : (k : RecordKey) → length (key_bytes k) ≡ 13
unfolding key_bytes
length-key k = omega (
  arith,
  length-append (four k.queue) (eight k.number),
  length-four k.queue,
  length-eight k.number,
)

-- bytes begin with those of the key that stands first
pub key_takes : (bytes : List ℕ) → 13 ≤ length bytes → IsBytes bytes
    → bytes ≡ key_bytes (key_at bytes) ++ drop 13 bytes
unfolding key_bytes key_at
key_takes [] long all = absurd (omega (arith, long))
key_takes (b ∷ rest) long all =
    let bytes : List ℕ = b ∷ rest in
    let queue = four_takes 1 bytes (omega (arith, long)) all in
    let number = eight_takes 5 bytes (omega (arith, long)) all in
    let both : rest ≡ four (four_at 1 bytes) ++ (eight (eight_at 5 bytes) ++ drop 13 bytes) =
    queue ∙ ap (λ (xs : List ℕ). four (four_at 1 bytes) ++ xs) number in
    ap (λ (xs : List ℕ). b ∷ xs) (both ∙ sym (append_assoc (four (four_at 1 bytes)) (eight (eight_at 5 bytes))
    (drop 13 bytes)))

-- the key whose bytes stand first is read
pub key_again : (k : RecordKey) (rest : List ℕ) → IsKey k → key_at (key_bytes k ++ rest) ≡ k
unfolding key_bytes key_at
key_again k rest is =
    let bytes : List ℕ = key_bytes k ++ rest in
    let tail : List ℕ = eight k.number ++ rest in
    let front : drop 1 bytes ≡ four k.queue ++ tail = append_assoc (four k.queue) (eight k.number) rest in
    let back : drop 5 bytes ≡ tail = sym (past 1 4 bytes) ∙ ap (drop 4) front
    ∙ drop_at (four k.queue) tail 4 (length-four k.queue) in
    λ i. record {
      kind = k.kind;
      queue = four_again 1 k.queue bytes tail front is.queue i;
      number =
          eight_again 5 k.number bytes rest back is.number i;
    }

-- thirteen bytes are exactly those of their key
pub exactly : (bytes : List ℕ) (k : RecordKey) → length bytes ≡ 13 → IsBytes bytes → k ≡ key_at bytes
    → key_bytes k ≡ bytes
exactly bytes k long all is =
    let none : drop 13 bytes ≡ [] = nil_from_length (drop 13 bytes) (omega (arith, long, length-drop 13 bytes)) in
    let whole = key_takes bytes (omega (arith, long)) all ∙ ap (λ (xs : List ℕ). key_bytes (key_at bytes) ++ xs) none
    ∙ append-nil (key_bytes (key_at bytes)) in
    ap key_bytes is ∙ sym whole

pub read_back : (k : RecordKey) (bytes : List ℕ) → IsKey k → bytes ≡ key_bytes k → key_at bytes ≡ k
read_back k bytes is spelled = ap key_at (spelled ∙ sym (append-nil (key_bytes k))) ∙ key_again k [] is

-- ---- the order

pub same_is : (a b : RecordKey) → is_same a b ≡ true → a ≡ b
same_is a b h =
    let kind : a.kind ≡ b.kind = grind (arith, nat_tests) in
    let queue : a.queue ≡ b.queue = grind (arith, nat_tests) in
    let number : a.number ≡ b.number = grind (arith, nat_tests) in
    λ i. record { kind = kind i; queue = queue i; number = number i }

pub below_other : (a b : RecordKey) → is_below a b ≡ true → (is_same a b ≡ false) × (is_same b a ≡ false)
unfolding is_below
below_other a b h = (grind (arith, nat_tests), grind (arith, nat_tests))

pub below_past : (a b c : RecordKey) → is_below a b ≡ true → is_below b c ≡ true → is_below a c ≡ true
unfolding is_below
below_past a b c low high = grind (arith, nat_tests)

pub other_way : (a b : RecordKey) → is_below a b ≡ false → is_same a b ≡ false → is_below b a ≡ true
unfolding is_below
other_way a b low same = grind (arith, nat_tests)

-- the key in bytes fits them
pub key_small : (bytes : List ℕ) → IsBytes bytes → IsKey (key_at bytes)
unfolding key_at
key_small bytes all = record { kind = all 0; queue = four_small 1 bytes all; number = eight_small 5 bytes all }

-- ---- the kind and the queue as one number

-- eight bytes without the last three are the first and the number in the next four
five_bytes : (a b c d e f g h : ℕ) → f < 256 → g < 256 → h < 256
    → (a * 256 ^ 7 + (b * 256 ^ 6 + (c * 256 ^ 5 + (d * 256 ^ 4 + (e * 256 ^ 3 + (f * 256 ^ 2
    + (g * 256 ^ 1 + (h * 256 ^ 0 + 0)))))))) / 2 ^ 24
    ≡ a * 2 ^ 32 + (b * 256 ^ 3 + (c * 256 ^ 2 + (d * 256 ^ 1 + (e * 256 ^ 0 + 0))))
five_bytes a b c d e f g h f-lt g-lt h-lt = omega (arith, f-lt, g-lt, h-lt)

pub owner_first : (bytes : List ℕ) → IsBytes bytes → eight_at 0 bytes / 2 ^ 24 ≡ owner_of (key_at bytes)
unfolding owner_of key_at eight_at four_at
owner_first bytes all =
    let b : ℕ → ℕ = λ i. get_or bytes i 0 in
    let four : big_number 4 (drop 1 bytes)
    ≡ b 1 * 256 ^ 3 + (b 2 * 256 ^ 2 + (b 3 * 256 ^ 1 + (b 4 * 256 ^ 0 + 0))) =
    rw (get_or-drop, get_or-drop, get_or-drop, get_or-drop) refl in
    five_bytes (b 0) (b 1) (b 2) (b 3) (b 4) (b 5) (b 6) (b 7) (all 5) (all 6) (all 7)
    ∙ ap (λ (n : ℕ). b 0 * 2 ^ 32 + n) (sym four)

-- of two keys of one owner the number tells the order, and else the owner
pub of_owner : (a b : RecordKey) → a.queue < 2 ^ 32 → b.queue < 2 ^ 32 → owner_of a ≡ owner_of b
    → is_beside a b ≡ true
unfolding owner_of
of_owner a b ka kb same =
    let kind : a.kind ≡ b.kind = omega (arith, ka, kb, same) in
    let queue : a.queue ≡ b.queue = omega (arith, ka, kb, same) in
    grind (arith, nat_tests)

pub of_lower : (a b : RecordKey) → a.queue < 2 ^ 32 → b.queue < 2 ^ 32 → owner_of a < owner_of b
    → (is_below a b ≡ true) × (is_below b a ≡ false)
unfolding owner_of is_below
of_lower a b ka kb lower = (grind (arith, nat_tests), grind (arith, nat_tests))
