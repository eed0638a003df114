-- Records of a bucket, and their bytes: the value's length (2), the key (13), the value.
use Rattle.std.specs.Prelude.{ℕ, zero, suc, ◌<◌, ◌^◌, ◌==◌, nat_le, Option, Some, None, Bool, true, ◌&&◌, List, [], ◌∷◌, ◌++◌, length, take, drop, if◌then◌else◌}
use Rattle.std.specs.List.{flat_map}
use Rattle.bucket_page.specs.declared.record_key.RecordKey.{RecordKey}
use Rattle.directory.specs.numbers.Numbers.{two, two_at}
use Rattle.bucket_page.specs.Keys.{IsKey, key_bytes, key_at, is_same, is_below}

-- a key and its value
pub record Pair : Type 0 where
  pub key : RecordKey
  pub value : List ℕ

abbrev pub pair : RecordKey → List ℕ → Pair
pair key value = record { key = key; value = value }

-- a pair that has bytes
pub record IsPair (p : Pair) : Type 0 where
  pub key : IsKey p.key
  pub value : length p.value < 2 ^ 16

abbrev pub pair_bytes : Pair → List ℕ
pair_bytes p = two (length p.value) ++ (key_bytes p.key ++ p.value)

abbrev pub record_bytes : List Pair → List ℕ
record_bytes ps = flat_map pair_bytes ps

-- the record that stands first
abbrev pub pair_at : List ℕ → Pair
pair_at bytes = pair (key_at (drop 2 bytes)) (take (two_at 0 bytes) (drop 15 bytes))

-- the bytes after it
abbrev pub after_pair : List ℕ → List ℕ
after_pair bytes = drop (two_at 0 bytes) (drop 15 bytes)

-- the records that stand first, as many as are asked for
abbrev pub pairs_of : ℕ → List ℕ → List Pair
pairs_of zero bytes = []
pairs_of (suc n) bytes = pair_at bytes ∷ pairs_of n (after_pair bytes)

-- whether a record lies whole within the bytes
abbrev pub begins : List ℕ → Bool
begins bytes = nat_le 15 (length bytes) && nat_le (two_at 0 bytes) (length (drop 15 bytes))

-- whether so many records fill the bytes
abbrev pub fills : ℕ → List ℕ → Bool
fills zero bytes = length bytes == 0
fills (suc n) bytes = begins bytes && fills n (after_pair bytes)

-- whether a key stands above the one before it, where there is one
abbrev pub is_above : Option RecordKey → RecordKey → Bool
is_above None key = true
is_above (Some low) key = is_below low key

-- whether each key stands above the one before it
abbrev pub ascend_from : Option RecordKey → List Pair → Bool
ascend_from low [] = true
ascend_from low (p ∷ ps) = is_above low p.key && ascend_from (Some p.key) ps

abbrev pub ascend : List Pair → Bool
ascend ps = ascend_from None ps

-- the value of a key
abbrev pub lookup : RecordKey → List Pair → Option (List ℕ)
lookup key [] = None
lookup key (p ∷ ps) = if is_same p.key key then Some p.value else lookup key ps
