-- Values of records, and the bytes that they take.
use Rattle.std.proofs.Common.{◌≡◌, refl, ap, ℕ, ◌+◌, ◌≤◌, List, [], ◌∷◌, Option, Some, None, IsSome, length, drop, unwrap_or, arith, inl, inr}
use Rattle.std.proofs.lemmas.Bool.{cases_Bool}
use Rattle.std.proofs.lemmas.List.{length-append, length-drop}
use Rattle.std.specs.Option.{option_map}
use Rattle.bucket_page.specs.declared.layout.TheConstants.{RECORD_HEAD_BYTES}
use Rattle.bucket_page.specs.Changes.{removed}
use Rattle.bucket_page.specs.Keys.{is_same}
use Rattle.bucket_page.specs.Records.{pair_bytes}
use Rattle.bucket_page.proofs.Steps.{length-pair}
use Rattle.record_file.specs.Words.{RecordKey, Pair, record_bytes, HasValueOf}
use Rattle.record_file.specs.BucketAccesses.{with_front}

pub is_there : (v : Option (List ℕ)) (bytes : ℕ) → option_map length v ≡ Some bytes → IsSome v
is_there None bytes is = absurd cc
is_there (Some value) bytes is = refl

pub short_of : (v : Option (List ℕ)) (front : List ℕ) → ((value : List ℕ) → v ≡ Some value →
    length front ≤ length value) → IsSome v → length front ≤ length (unwrap_or v [])
short_of None front short there = absurd cc
short_of (Some value) front short there = short value refl

-- a value with another front is as long
pub fronted_length : (v : Option (List ℕ)) (front : List ℕ) → ((value : List ℕ) → v ≡ Some value →
    length front ≤ length value) → IsSome v → option_map length v ≡ Some (length (with_front front (unwrap_or v [])))
fronted_length None front short there = absurd cc
fronted_length (Some value) front short there =
    let fits : length front ≤ length value = short value refl in
    let whole = length-append front (drop (length front) value) in
    let rest = length-drop (length front) value in
    ap (λ (n : ℕ). Some n) (omega (arith, fits, whole, rest))

-- the bytes of records once one is gone
pub used_removed : (key : RecordKey) (ps : List Pair) (bytes : ℕ) → HasValueOf bytes key ps →
    length (record_bytes (removed key ps)) + (RECORD_HEAD_BYTES + bytes) ≡ length (record_bytes ps)
used_removed key [] bytes has = absurd cc
used_removed key (q ∷ qs) bytes has = elim (cases_Bool (is_same q.key key)) [
  | inl same ↦
      let here : Some (length q.value) ≡ Some bytes = rw same at has in
      let bytes_is : length q.value ≡ bytes = cc in
      let whole = length-append (pair_bytes q) (record_bytes qs) in
      let one = length-pair q in
      rw same (omega (arith, bytes_is, whole, one))
  | inr other ↦
      let there : HasValueOf bytes key qs = rw other at has in
      let rest = used_removed key qs bytes there in
      let whole = length-append (pair_bytes q) (record_bytes qs) in
      let left = length-append (pair_bytes q) (record_bytes (removed key qs)) in
      rw other (omega (arith, rest, whole, left))
]
