-- What a reader wants to know of the definitions; each is the contract of a function of laws.rt.
use Rattle.std.specs.Prelude.{◌≡◌, ◌↔◌, ℕ, ◌<◌, Bool, true, false, Option, Some, None, IsSome, List, length, get_or, if◌then◌else◌}
use Rattle.std.specs.List.{AllByRecursion}
use Rattle.std.specs.Ordering.{is_lt, nat_cmp}
use Rattle.std.specs.Cmp.Lexicographic.{slice_cmp}
use Rattle.bucket_page.specs.declared.record_key.RecordKey.{RecordKey}
use Rattle.bucket_page.specs.declared.page.PageKind.{PageKind}
use Rattle.bucket_page.specs.Keys.{IsKey, key_bytes, is_same, is_below}
use Rattle.bucket_page.specs.Records.{Pair, IsPair, record_bytes, fills, ascend, lookup}
use Rattle.bucket_page.specs.Spelling.{Spells}
use Rattle.bucket_page.specs.Changes.{inserted, removed, replaced}
use Rattle.bucket_page.specs.Dividing.{ShareNoKey, has_bit_as, merged, with_bit}

-- a payload spells at most one page
abbrev pub SpelledOnce : Type 0
SpelledOnce = (a b : PageKind) (payload : List ℕ) → Spells a payload → Spells b payload → a ≡ b

-- the order of keys is that of their bytes
abbrev pub OrderIsOfBytes : Type 0
OrderIsOfBytes = (a b : RecordKey) → IsKey a → IsKey b →
    is_below a b ≡ is_lt (slice_cmp nat_cmp (key_bytes a) (key_bytes b))

-- the order is strict, and any two keys stand in it
pub record IsStrictOrder : Type 0 where
  pub past : (a b c : RecordKey) → is_below a b ≡ true → is_below b c ≡ true → is_below a c ≡ true
  pub apart : (a b : RecordKey) → is_below a b ≡ true → is_same a b ≡ false
  pub linear : (a b : RecordKey) → is_below a b ≡ false → is_same a b ≡ false → is_below b a ≡ true
  pub same : (a b : RecordKey) → is_same a b ≡ true → a ≡ b

-- so many pairs that have bytes
abbrev pub AreRecords : ℕ → List Pair → Type 0
AreRecords n ps = AllByRecursion IsPair ps × (length ps ≡ n)

-- bytes are those of so many records
abbrev pub AreBytesOf : ℕ → List ℕ → Type 0
AreBytesOf n bytes = (ps : List Pair) × AreRecords n ps × (bytes ≡ record_bytes ps)

abbrev pub FillsIsSpelled : Type 0
FillsIsSpelled = (n : ℕ) (bytes : List ℕ) → ((i : ℕ) → get_or bytes i 0 < 256) →
    (fills n bytes ≡ true) ↔ AreBytesOf n bytes

-- ---- the changes are those of a set of pairs

-- the pair that was put in is found by its key, and each other key is found as before
abbrev pub PutSetsOneKey : Type 0
PutSetsOneKey = (key : RecordKey) (p : Pair) (ps : List Pair) →
    lookup key (inserted p ps) ≡ (if is_same p.key key then Some p.value else lookup key ps)

abbrev pub ReplaceSetsOneKey : Type 0
ReplaceSetsOneKey = (key : RecordKey) (p : Pair) (ps : List Pair) → IsSome (lookup p.key ps) →
    lookup key (replaced p ps) ≡ (if is_same p.key key then Some p.value else lookup key ps)

abbrev pub RemoveClearsOneKey : Type 0
RemoveClearsOneKey = (key gone : RecordKey) (ps : List Pair) → ascend ps ≡ true →
    lookup key (removed gone ps) ≡ (if is_same gone key then None else lookup key ps)

-- a half has the pairs whose pseudokey has the bit as it should be
abbrev pub HalfHasItsPairs : Type 0
HalfHasItsPairs =
    (set : Bool) (place : ℕ) (of_key : RecordKey → ℕ) (key : RecordKey) (ps : List Pair) →
    lookup key (with_bit set place of_key ps)
    ≡ (if has_bit_as set place (of_key key) then lookup key ps else None)

-- the one or the other, where there is one
abbrev pub either : {X : Type 0} → Option X → Option X → Option X
either None other = other
either (Some x) other = Some x

-- a join has the pairs of both
abbrev pub JoinHasBoth : Type 0
JoinHasBoth = (key : RecordKey) (ps qs : List Pair) → ShareNoKey ps qs → ascend qs ≡ true →
    lookup key (merged ps qs) ≡ either (lookup key ps) (lookup key qs)
