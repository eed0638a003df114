-- The words of one message in a list of rows.
use Rattle.std.proofs.Common.{◌≡◌, sym, ℕ, zero, suc, ◌<◌, List, [], ◌∷◌, length}
use Rattle.std.proofs.Common.{slice_index, slice_index_or, slice_set, arith}
use Rattle.std.proofs.Math.ListN.{get_or-map}
use Rattle.std.proofs.lemmas.List.{length-map, map-set}
use Rattle.sha2.specs.Sha256.{add32, temp1, temp2, round}
use Rattle.digests.specs.Lanes.{column}

pub column-at : (lane : ℕ) (rows : List (List ℕ)) (i : ℕ)
    → slice_index (column lane rows) i ≡ slice_index (slice_index_or rows i []) lane
column-at lane rows i = get_or-map (λ (words : List ℕ). slice_index words lane) rows i []

pub column-set : (lane : ℕ) (rows : List (List ℕ)) (i : ℕ) (words : List ℕ)
    → column lane (slice_set rows i words) ≡ slice_set (column lane rows) i (slice_index words lane)
column-set lane rows i words = map-set (λ (each : List ℕ). slice_index each lane) rows i words

pub length-column : (lane : ℕ) (rows : List (List ℕ)) → length (column lane rows) ≡ length rows
length-column lane rows = length-map rows (λ (words : List ℕ). slice_index words lane)

-- what holds at each of four lanes
pub below_four : (P : ℕ → Type 0) → P 0 → P 1 → P 2 → P 3 → (lane : ℕ) → lane < 4 → P lane
below_four P a b c d zero within = a
below_four P a b c d (suc zero) within = b
below_four P a b c d (suc (suc zero)) within = c
below_four P a b c d (suc (suc (suc zero))) within = d
below_four P a b c d (suc (suc (suc (suc n)))) within = absurd (omega arith)

-- the working variables after a round, of which two are new
pub column-round : (lane : ℕ) (v : List (List ℕ)) (k word : ℕ) (a e : List ℕ)
    → slice_index a lane ≡ add32 (temp1 (column lane v) k word) (temp2 (column lane v))
    → slice_index e lane ≡ add32 (slice_index (column lane v) 3) (temp1 (column lane v) k word)
    → column lane (a ∷ slice_index_or v 0 [] ∷ slice_index_or v 1 [] ∷ slice_index_or v 2 [] ∷ e
    ∷ slice_index_or v 4 [] ∷ slice_index_or v 5 [] ∷ slice_index_or v 6 [] ∷ [])
    ≡ round (column lane v) k word
column-round lane v k word a e is_a is_e = λ i.
    is_a i ∷ sym (column-at lane v 0) i ∷ sym (column-at lane v 1) i ∷ sym (column-at lane v 2) i ∷ is_e i
    ∷ sym (column-at lane v 4) i ∷ sym (column-at lane v 5) i ∷ sym (column-at lane v 6) i ∷ []
