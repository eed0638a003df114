-- The parts of a record: what stands at a place, and behind it.
use Rattle.std.proofs.Common.{◌≡◌, ℕ, ◌+◌, ◌^◌, ◌<◌, ◌≤◌, ℤ, pos, negsuc, List, [], ◌∷◌, ◌++◌, length, drop, slice_index, refl, sym, ap, ◌∙◌, arith, w64}
use Rattle.std.specs.Prelude.{FitsSigned}
use Rattle.std.proofs.lemmas.Int.{of_z-to_z, to_z-of_z}
use Rattle.std.proofs.lemmas.List.{length-drop, nil_from_length, get_or-drop}
use Rattle.numbers.proofs.NumberLaws.{IsBytes, past, after_part}
use Rattle.frames.specs.Little.{two, four, eight, two_at, four_at, eight_at}
use Rattle.frames.specs.Requests.{type_number}
use Rattle.frames.specs.Reading.{type_of}
use Rattle.frames.proofs.LittleLaws.{length-two, length-four, length-eight, two_takes, four_takes, eight_takes, two_again, four_again, eight_again}

-- ---- the bytes from a place on are those of the part there, and then the others

pub two_then : (at : ℕ) (bytes rest : List ℕ) → at + 2 ≤ length bytes → IsBytes bytes
    → drop (at + 2) bytes ≡ rest → drop at bytes ≡ two (two_at at bytes) ++ rest
two_then at bytes rest long all is =
    two_takes at bytes long all ∙ ap (λ (xs : List ℕ). two (two_at at bytes) ++ xs) is

pub four_then : (at : ℕ) (bytes rest : List ℕ) → at + 4 ≤ length bytes → IsBytes bytes
    → drop (at + 4) bytes ≡ rest → drop at bytes ≡ four (four_at at bytes) ++ rest
four_then at bytes rest long all is =
    four_takes at bytes long all ∙ ap (λ (xs : List ℕ). four (four_at at bytes) ++ xs) is

pub eight_then : (at : ℕ) (bytes rest : List ℕ) → at + 8 ≤ length bytes → IsBytes bytes
    → drop (at + 8) bytes ≡ rest → drop at bytes ≡ eight (eight_at at bytes) ++ rest
eight_then at bytes rest long all is =
    eight_takes at bytes long all ∙ ap (λ (xs : List ℕ). eight (eight_at at bytes) ++ xs) is

-- a number of eight bytes is below 2 ^ 64, and so that of the type that it stands for
pub type_back : (n : ℕ) → n < 2 ^ 64 → type_number (type_of n) ≡ n
type_back n small = of_z-to_z w64 n small

pub type_again : (mtype : ℤ) → FitsSigned w64 mtype → type_of (type_number mtype) ≡ mtype
type_again mtype fits = to_z-of_z w64 mtype fits

type_small : (mtype : ℤ) → FitsSigned w64 mtype → type_number mtype < 2 ^ 64
type_small (pos n) fits = omega (arith, fits.sfits)
type_small (negsuc n) fits = omega arith

-- no byte stands behind the last
pub ends : (at : ℕ) (bytes : List ℕ) → length bytes ≡ at → drop at bytes ≡ []
ends at bytes long = nil_from_length (drop at bytes) (omega (arith, long, length-drop at bytes))

-- a byte and those behind it
first_byte : (bytes : List ℕ) → 1 ≤ length bytes → bytes ≡ slice_index bytes 0 ∷ drop 1 bytes
first_byte [] long = absurd (omega (arith, long))
first_byte (b ∷ rest) long = refl

byte_is : (at : ℕ) (bytes : List ℕ) → slice_index (drop at bytes) 0 ≡ slice_index bytes at
byte_is at bytes = get_or-drop at bytes 0 0 ∙ ap (slice_index bytes) (omega arith)

pub byte_then : (at : ℕ) (bytes rest : List ℕ) → at + 1 ≤ length bytes
    → drop (at + 1) bytes ≡ rest → drop at bytes ≡ slice_index bytes at ∷ rest
byte_then at bytes rest long is =
    first_byte (drop at bytes) (omega (arith, long, length-drop at bytes))
    ∙ (λ i. byte_is at bytes i ∷ (past at 1 bytes ∙ is) i)

-- ---- a part that stands at a place is read there, and the others stand behind it

pub byte_next : (at b : ℕ) (bytes rest : List ℕ) → drop at bytes ≡ b ∷ rest
    → (slice_index bytes at ≡ b) × (drop (at + 1) bytes ≡ rest)
byte_next at b bytes rest is =
    (sym (byte_is at bytes) ∙ ap (λ (xs : List ℕ). slice_index xs 0) is, sym (past at 1 bytes) ∙ ap (drop 1) is)

pub two_next : (at n : ℕ) (bytes rest : List ℕ) → drop at bytes ≡ two n ++ rest → n < 2 ^ 16
    → (two_at at bytes ≡ n) × (drop (at + 2) bytes ≡ rest)
two_next at n bytes rest is small =
    (two_again at n bytes rest is small, after_part at 2 bytes (two n) rest is (length-two n))

pub four_next : (at n : ℕ) (bytes rest : List ℕ) → drop at bytes ≡ four n ++ rest → n < 2 ^ 32
    → (four_at at bytes ≡ n) × (drop (at + 4) bytes ≡ rest)
four_next at n bytes rest is small =
    (four_again at n bytes rest is small, after_part at 4 bytes (four n) rest is (length-four n))

pub type_next : (at : ℕ) (mtype : ℤ) (bytes rest : List ℕ) → drop at bytes ≡ eight (type_number mtype) ++ rest
    → FitsSigned w64 mtype → (type_of (eight_at at bytes) ≡ mtype) × (drop (at + 8) bytes ≡ rest)
type_next at mtype bytes rest is fits =
    let n = type_number mtype in
    let read = eight_again at n bytes rest is (type_small mtype fits) in
    (ap type_of read ∙ type_again mtype fits, after_part at 8 bytes (eight n) rest is (length-eight n))
