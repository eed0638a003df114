-- A field is read from its bytes, and its bytes are those of what is read.
use Rattle.std.proofs.Common.{◌≡◌, ℕ, ◌+◌, ◌^◌, ◌<◌, ◌≤◌, ◌==◌, Bool, true, false, cond, ◌&&◌, ◌||◌, ℤ, pos, negsuc, Option, Some, None, List, [], ◌∷◌, ◌++◌, length, drop, refl, sym, ap, ◌∙◌, arith, w64}
use Rattle.std.specs.Prelude.{IfSome, FitsSigned}
use Rattle.std.proofs.Math.Facts.{sfits_to_z}
use Rattle.std.proofs.lemmas.Bool.{eqb-true}
use Rattle.std.proofs.lemmas.Int.{ints, of_z-to_z, to_z-of_z}
use Rattle.std.proofs.lemmas.List.{append-nil, append_assoc, length-append, length-drop, nil_from_length}
use Rattle.std.proofs.lemmas.Bool.Decides.{nat_tests}
use Rattle.bucket_page.specs.numbers.Numbers.{two, four, eight, two_at, four_at, eight_at}
use Rattle.bucket_page.proofs.of_numbers.NumberLaws.{IsBytes, after_part, length-two, length-four, length-eight, two_takes, four_takes, eight_takes, two_again, four_again, eight_again, eight_small}
use Rattle.queue_records.specs.Fields.{serial_number, type_number, type_link_number, serial_of, type_of, type_link_of, key_flag, key_number, given_key}
use Rattle.queue_records.specs.Range.{IsSerial, IsType}
use Rattle.queue_records.specs.Records.{FitsFour, FitsEight}

-- ---- numbers and what they stand for

serial_by : (n : ℕ) (b : Bool) → (n == 0) ≡ b → serial_number (cond b None (Some n)) ≡ n
serial_by n true is = sym (eqb-true n 0 is)
serial_by n false is = refl

serial_back : (n : ℕ) → serial_number (serial_of n) ≡ n
serial_back n = serial_by n (n == 0) refl

apart : (n : ℕ) → 1 ≤ n → (n == 0) ≡ false
apart n begun = grind (arith, nat_tests)

serial_again : (serial : Option ℕ) → IfSome serial IsSerial → serial_of (serial_number serial) ≡ serial
serial_again None begun = refl
serial_again (Some n) begun = rw (apart n begun) refl

given_by : {X : Type 0} (P : X → Type 0) (b : Bool) (x : X) → P x → IfSome (cond b None (Some x)) P
given_by P true x is = tt
given_by P false x is = is

pub serial_fits : (n : ℕ) → n < 2 ^ 64 → IfSome (serial_of n) FitsEight
serial_fits n small = given_by FitsEight (n == 0) n small

pub key_fits : (flag key : ℕ) → key < 2 ^ 32 → IfSome (given_key flag key) FitsFour
key_fits flag key small = given_by FitsFour (flag == 0) key small

serial_small : (serial : Option ℕ) → IfSome serial FitsEight → serial_number serial < 2 ^ 64
serial_small None fits = omega arith
serial_small (Some serial) fits = fits

pub type_back : (n : ℕ) → n < 2 ^ 64 → type_number (type_of n) ≡ n
type_back n small = of_z-to_z w64 n small

pub type_again : (mtype : ℤ) → FitsSigned w64 mtype → type_of (type_number mtype) ≡ mtype
type_again mtype fits = to_z-of_z w64 mtype fits

pub type_small : (mtype : ℤ) → IsType mtype → FitsSigned w64 mtype → type_number mtype < 2 ^ 64
type_small (pos n) begun fits = omega (arith, fits.sfits)
type_small (negsuc n) begun fits = absurd (omega (arith, ints, begun))

type_link_by : (n : ℕ) (b : Bool) → (n == 0) ≡ b → n < 2 ^ 64 → type_link_number (cond b None (Some (type_of n))) ≡ n
type_link_by n true is small = sym (eqb-true n 0 is)
type_link_by n false is small = type_back n small

type_link_back : (n : ℕ) → n < 2 ^ 64 → type_link_number (type_link_of n) ≡ n
type_link_back n small = type_link_by n (n == 0) refl small

pub type_fits : (n : ℕ) → n < 2 ^ 64 → FitsSigned w64 (type_of n)
type_fits n small = sfits_to_z (record { fits = small })

pub type_link_fits : (n : ℕ) → n < 2 ^ 64 → IfSome (type_link_of n) (FitsSigned w64)
type_link_fits n small = given_by (FitsSigned w64) (n == 0) (type_of n) (type_fits n small)

type_link_again : (mtype : Option ℤ) → IfSome mtype IsType → IfSome mtype (FitsSigned w64)
    → type_link_of (type_link_number mtype) ≡ mtype
type_link_again None begun fits = refl
type_link_again (Some (pos n)) begun fits =
    rw (apart n (omega (arith, ints, begun))) (ap Some (type_again (pos n) fits))
type_link_again (Some (negsuc n)) begun fits = absurd (omega (arith, ints, begun))

type_link_small : (mtype : Option ℤ) → IfSome mtype IsType → IfSome mtype (FitsSigned w64)
    → type_link_number mtype < 2 ^ 64
type_link_small None begun fits = omega arith
type_link_small (Some mtype) begun fits = type_small mtype begun fits

-- ---- the bytes from a place on are those of the field there, and then the others

pub two_then : (at : ℕ) (bytes rest : List ℕ) → at + 2 ≤ length bytes → IsBytes bytes
    → drop (at + 2) bytes ≡ rest → drop at bytes ≡ two (two_at at bytes) ++ rest
two_then at bytes rest long all is = two_takes at bytes long all ∙ ap (λ (xs : List ℕ). two (two_at at bytes) ++ xs) is

pub four_then : (at : ℕ) (bytes rest : List ℕ) → at + 4 ≤ length bytes → IsBytes bytes
    → drop (at + 4) bytes ≡ rest → drop at bytes ≡ four (four_at at bytes) ++ rest
four_then at bytes rest long all is = four_takes at bytes long all
    ∙ ap (λ (xs : List ℕ). four (four_at at bytes) ++ xs) is

pub eight_then : (at : ℕ) (bytes rest : List ℕ) → at + 8 ≤ length bytes → IsBytes bytes
    → drop (at + 8) bytes ≡ rest → drop at bytes ≡ eight (eight_at at bytes) ++ rest
eight_then at bytes rest long all is = eight_takes at bytes long all
    ∙ ap (λ (xs : List ℕ). eight (eight_at at bytes) ++ xs) is

pub serial_then : (at : ℕ) (bytes rest : List ℕ) → at + 8 ≤ length bytes → IsBytes bytes → drop (at + 8) bytes ≡ rest
    → drop at bytes ≡ eight (serial_number (serial_of (eight_at at bytes))) ++ rest
serial_then at bytes rest long all is =
    eight_then at bytes rest long all is ∙ ap (λ (n : ℕ). eight n ++ rest) (sym (serial_back (eight_at at bytes)))

pub type_then : (at : ℕ) (bytes rest : List ℕ) → at + 8 ≤ length bytes → IsBytes bytes → drop (at + 8) bytes ≡ rest
    → drop at bytes ≡ eight (type_number (type_of (eight_at at bytes))) ++ rest
type_then at bytes rest long all is =
    eight_then at bytes rest long all is
    ∙ ap (λ (n : ℕ). eight n ++ rest) (sym (type_back (eight_at at bytes) (eight_small at bytes all)))

pub type_link_then : (at : ℕ) (bytes rest : List ℕ) → at + 8 ≤ length bytes → IsBytes bytes
    → drop (at + 8) bytes ≡ rest
    → drop at bytes ≡ eight (type_link_number (type_link_of (eight_at at bytes))) ++ rest
type_link_then at bytes rest long all is =
    eight_then at bytes rest long all is
    ∙ ap (λ (n : ℕ). eight n ++ rest) (sym (type_link_back (eight_at at bytes) (eight_small at bytes all)))

-- no byte stands behind the last
pub ends : (at : ℕ) (bytes : List ℕ) → length bytes ≡ at → drop at bytes ≡ []
ends at bytes long = nil_from_length (drop at bytes) (omega (arith, long, length-drop at bytes))

-- ---- a field whose bytes stand at a place is read there, and the others stand behind it

pub two_next : (at n : ℕ) (bytes rest : List ℕ) → drop at bytes ≡ two n ++ rest → n < 2 ^ 16
    → (two_at at bytes ≡ n) × (drop (at + 2) bytes ≡ rest)
two_next at n bytes rest is small =
    (two_again at n bytes rest is small, after_part at 2 bytes (two n) rest is (length-two n))

pub four_next : (at n : ℕ) (bytes rest : List ℕ) → drop at bytes ≡ four n ++ rest → n < 2 ^ 32
    → (four_at at bytes ≡ n) × (drop (at + 4) bytes ≡ rest)
four_next at n bytes rest is small =
    (four_again at n bytes rest is small, after_part at 4 bytes (four n) rest is (length-four n))

pub eight_next : (at n : ℕ) (bytes rest : List ℕ) → drop at bytes ≡ eight n ++ rest → n < 2 ^ 64
    → (eight_at at bytes ≡ n) × (drop (at + 8) bytes ≡ rest)
eight_next at n bytes rest is small =
    (eight_again at n bytes rest is small, after_part at 8 bytes (eight n) rest is (length-eight n))

pub serial_next : (at : ℕ) (serial : Option ℕ) (bytes rest : List ℕ)
    → drop at bytes ≡ eight (serial_number serial) ++ rest
    → IfSome serial IsSerial → IfSome serial FitsEight
    → (serial_of (eight_at at bytes) ≡ serial) × (drop (at + 8) bytes ≡ rest)
serial_next at serial bytes rest is begun fits =
    let next = eight_next at (serial_number serial) bytes rest is (serial_small serial fits) in
    (ap serial_of next.0 ∙ serial_again serial begun, next.1)

pub type_next : (at : ℕ) (mtype : ℤ) (bytes rest : List ℕ) → drop at bytes ≡ eight (type_number mtype) ++ rest
    → IsType mtype → FitsSigned w64 mtype → (type_of (eight_at at bytes) ≡ mtype) × (drop (at + 8) bytes ≡ rest)
type_next at mtype bytes rest is begun fits =
    let next = eight_next at (type_number mtype) bytes rest is (type_small mtype begun fits) in
    (ap type_of next.0 ∙ type_again mtype fits, next.1)

pub type_link_next : (at : ℕ) (mtype : Option ℤ) (bytes rest : List ℕ)
    → drop at bytes ≡ eight (type_link_number mtype) ++ rest
    → IfSome mtype IsType → IfSome mtype (FitsSigned w64)
    → (type_link_of (eight_at at bytes) ≡ mtype) × (drop (at + 8) bytes ≡ rest)
type_link_next at mtype bytes rest is begun fits =
    let next = eight_next at (type_link_number mtype) bytes rest is (type_link_small mtype begun fits) in
    (ap type_link_of next.0 ∙ type_link_again mtype begun fits, next.1)

-- bytes reach past a field that stands in them
pub reaches : (at n : ℕ) (bytes part rest : List ℕ) → drop at bytes ≡ part ++ rest → length part ≡ n → 1 ≤ n
    → at + n ≤ length bytes
reaches at n bytes part rest is long some =
    omega (arith, ap length is, long, some, length-append part rest, length-drop at bytes)

-- bytes with none behind a place, and a field before it
pub ends_at : (at n : ℕ) (bytes part : List ℕ) → drop at bytes ≡ part ++ [] → length part ≡ n → 1 ≤ n
    → length bytes ≡ at + n
ends_at at n bytes part is long some =
    omega (arith, ap length (is ∙ append-nil part), long, some, length-drop at bytes)

-- ---- fields one after the other

-- each part put behind those before it
abbrev pub appended : List ℕ → List (List ℕ) → List ℕ
appended front [] = front
appended front (part ∷ parts) = appended (front ++ part) parts

-- each part before those behind it
abbrev pub joined : List (List ℕ) → List ℕ
joined [] = []
joined (part ∷ parts) = part ++ joined parts

pub regrouped : (front : List ℕ) (parts : List (List ℕ)) → appended front parts ≡ front ++ joined parts
regrouped front [] = sym (append-nil front)
regrouped front (part ∷ parts) = regrouped (front ++ part) parts ∙ append_assoc front part (joined parts)

-- ---- the key of a queue

pub key_again : (key : Option ℕ) → given_key (key_flag key) (key_number key) ≡ key
key_again None = refl
key_again (Some key) = refl

pub key_small : (key : Option ℕ) → IfSome key FitsFour → key_number key < 2 ^ 32
key_small None fits = omega arith
key_small (Some key) fits = fits

key_by : (flag key : ℕ) (b : Bool) → (flag == 0) ≡ b → (flag == 1 || flag == 0 && key == 0) ≡ true
    → (flag ≡ key_flag (cond b None (Some key))) × (key ≡ key_number (cond b None (Some key)))
key_by flag key true is h = (grind (arith, nat_tests), grind (arith, nat_tests))
key_by flag key false is h = (grind (arith, nat_tests), refl)

-- a flag and a key that pass the test are those of the key that is given
pub key_back : (flag key : ℕ) → (flag == 1 || flag == 0 && key == 0) ≡ true
    → (flag ≡ key_flag (given_key flag key)) × (key ≡ key_number (given_key flag key))
key_back flag key h = key_by flag key (flag == 0) refl h

pub key_passes : (key : Option ℕ) → (key_flag key == 1 || key_flag key == 0 && key_number key == 0) ≡ true
key_passes None = refl
key_passes (Some key) = refl
