-- Pseudokeys have 32 bits, which the laws of `PseudoKey` cite.
use Rattle.std.proofs.Common.{ℕ, zero, suc, ◌%◌, ◌<◌, ◌^◌, List, [], ◌∷◌, ◌++◌, get_or, arith}
use Rattle.std.proofs.Math.Nat.{mod-lt}
use Rattle.std.specs.Int.{byte_at, bytes_high_first}
use Rattle.sha2.specs.Sha256.{sha256, digest_bytes}
use Rattle.bucket_page.specs.declared.record_key.RecordKey.{RecordKey}
use Rattle.directory.specs.numbers.Numbers.{four_at}
use Rattle.bucket_page.specs.Keys.{key_bytes}
use Rattle.bucket_page.specs.Pseudokeys.{sha_key, number_key}
use Rattle.byteorder.specs.Numbers.{big_from-lt}

abbrev IsBytes : List ℕ → Type 0
IsBytes bytes = (i : ℕ) → get_or bytes i 0 < 256

pub low_bits_small : (n : ℕ) → n % 2 ^ 32 < 2 ^ 32
low_bits_small n = mod-lt n (omega arith)

pub number_key_small : (key : RecordKey) → number_key key < 2 ^ 32
number_key_small key = low_bits_small key.number

byte_small : (k n : ℕ) → byte_at k n < 256
byte_small zero n = mod-lt n (omega arith)
byte_small (suc k) n = mod-lt _ (omega arith)

IsBytes-number : (k n : ℕ) → IsBytes (bytes_high_first k n)
IsBytes-number zero n i = omega arith
IsBytes-number (suc k) n zero = byte_small k n
IsBytes-number (suc k) n (suc i) = IsBytes-number k n i

IsBytes-append : (a b : List ℕ) → IsBytes a → IsBytes b → IsBytes (a ++ b)
IsBytes-append [] b first second i = second i
IsBytes-append (x ∷ a) b first second zero = first zero
IsBytes-append (x ∷ a) b first second (suc i) = IsBytes-append a b (λ j. first (suc j)) second i

IsBytes-digest : (h : List ℕ) (n : ℕ) → IsBytes (digest_bytes h n)
unfolding digest_bytes
IsBytes-digest h zero i = omega arith
IsBytes-digest h (suc n) i =
    IsBytes-append (digest_bytes h n) _ (IsBytes-digest h n) (IsBytes-number 4 _) i

IsBytes-sha256 : (m : List ℕ) → IsBytes (sha256 m)
unfolding sha256
IsBytes-sha256 m = IsBytes-digest _ 8

pub sha_key_small : (key : RecordKey) → sha_key key < 2 ^ 32
unfolding sha_key four_at
sha_key_small key = big_from-lt 0 4 (sha256 (key_bytes key)) (IsBytes-sha256 (key_bytes key))
