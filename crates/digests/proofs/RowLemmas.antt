-- Operators on vectors, at one lane.
use Rattle.std.proofs.Common.{◌≡◌, ◌∙◌, sym, subst, ℕ, ◌-◌, ◌*◌, ◌/◌, ◌%◌, ◌^◌, ◌<◌, List, length}
use Rattle.std.proofs.Common.{slice_index, bit_or, arith}
use Rattle.std.proofs.lemmas.Simd.{length-zip2, get_or-zip2}
use Rattle.std.specs.Int.{w32, rotate_right}
use Rattle.std.specs.Simd.Lanes.{zip2}

module _ (f : ℕ → ℕ → ℕ) (x y : List ℕ) (wide_x : length x ≡ 4) (wide_y : length y ≡ 4) where
  zip2-wide : length (zip2 f x y) ≡ 4
  zip2-wide = length-zip2 f x y (wide_x ∙ sym wide_y) ∙ wide_x

  pub zip2-lane : (lane : ℕ) → lane < 4 → slice_index (zip2 f x y) lane ≡ f (slice_index x lane) (slice_index y lane)
  zip2-lane lane within =
      get_or-zip2 f x y lane 0 0 0 (subst (λ m. lane < m) (sym wide_x) within)
      (subst (λ m. lane < m) (sym wide_y) within)

module _ (lane : ℕ) (within : lane < 4) where
  pub shifted-lane : (x down : List ℕ) (by : ℕ) → length x ≡ 4 → length down ≡ 4 → slice_index down lane ≡ by
      → slice_index (zip2 (λ (a b : ℕ). a / 2 ^ b) x down) lane ≡ slice_index x lane / 2 ^ by
  shifted-lane x down by wide_x wide_down is_down =
      zip2-lane (λ (a b : ℕ). a / 2 ^ b) x down wide_x wide_down lane within
      ∙ (λ i. slice_index x lane / 2 ^ is_down i)

  -- a rotation is two shifts
  pub rotated-lane : (x down up : List ℕ) (by : ℕ) → length x ≡ 4 → length down ≡ 4 → length up ≡ 4
      → 0 < by → by < 32 → slice_index down lane ≡ by → slice_index up lane ≡ 32 - by
      → slice_index (zip2 bit_or (zip2 (λ (a b : ℕ). a / 2 ^ b) x down)
      (zip2 (λ (a b : ℕ). a * 2 ^ b % 2 ^ 32) x up)) lane
      ≡ rotate_right w32 (slice_index x lane) by
  rotated-lane x down up by wide_x wide_down wide_up low high is_down is_up =
      let f : ℕ → ℕ → ℕ = λ (a b : ℕ). a / 2 ^ b in
      let g : ℕ → ℕ → ℕ = λ (a b : ℕ). a * 2 ^ b % 2 ^ 32 in
      let n : ℕ = slice_index x lane in
      let same : by % 32 ≡ by = omega arith in
      let rest : (32 - by % 32) % 32 ≡ 32 - by = omega arith in
      zip2-lane bit_or (zip2 f x down) (zip2 g x up) (zip2-wide f x down wide_x wide_down)
      (zip2-wide g x up wide_x wide_up) lane within
      ∙ (λ i. bit_or (zip2-lane f x down wide_x wide_down lane within i)
      (zip2-lane g x up wide_x wide_up lane within i))
      ∙ (λ i. bit_or (n / 2 ^ is_down i) (n * 2 ^ is_up i % 2 ^ 32))
      ∙ (λ i. bit_or (n / 2 ^ sym same i) (n * 2 ^ sym rest i % 2 ^ 32))
