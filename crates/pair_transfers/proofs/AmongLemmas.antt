-- Pages among those that are guarded.
use Rattle.std.proofs.Common.{arith, ℕ, List, [], ◌∷◌, ◌++◌, ◌∙◌, length, refl}
use Rattle.std.proofs.lemmas.List.{get_or_append_left, get_or_push, length_push}
use Rattle.pair_transfers.specs.Saving.{IsAmong}

pub still_among : (guarded : List ℕ) (from page more : ℕ) → IsAmong guarded from page →
    IsAmong (guarded ++ more ∷ []) from page
still_among guarded from page more is = record {
  place = is.place;
  behind = is.behind;
  within = let long = length_push guarded more in let within = is.within in omega (arith, long, within);
  is_it = get_or_append_left guarded (more ∷ []) 0 is.place is.within ∙ is.is_it;
}

pub last_among : (guarded : List ℕ) (page : ℕ) → IsAmong (guarded ++ page ∷ []) 0 page
last_among guarded page = record {
  place = length guarded;
  behind = omega arith;
  within = let long = length_push guarded page in omega (arith, long);
  is_it = get_or_push guarded page 0 (length guarded) refl;
}

pub none_among : (from page : ℕ) → IsAmong [] from page → ⊥
none_among from page is = let within = is.within in absurd (omega (arith, within))
