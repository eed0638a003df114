-- A bucket cut in two, and two joined (Fagin, Nievergelt, Pippenger and Strong 1979; Ellis 1983).
use Rattle.std.specs.Prelude.{◌≡◌, ℕ, ◌+◌, ◌-◌, ◌/◌, ◌%◌, ◌^◌, ◌<◌, ◌≤◌, ◌==◌, Bool, true, false, not, None, List, length}
use Rattle.std.specs.List.{AllByRecursion, filter, fold}
use Rattle.bucket_page.specs.declared.layout.TheConstants.{ROOM_BYTES}
use Rattle.bucket_page.specs.declared.record_key.RecordKey.{RecordKey}
use Rattle.bucket_page.specs.Records.{Pair, record_bytes, lookup}
use Rattle.bucket_page.specs.Bucket.{Bucket}
use Rattle.bucket_page.specs.Changes.{inserted}

-- whether the bit of a place, counted from 0 for the lowest, is set
abbrev pub has_bit : ℕ → ℕ → Bool
has_bit place n = n / 2 ^ place % 2 == 1

-- whether the bit is set, or whether it isn't
abbrev pub has_bit_as : Bool → ℕ → ℕ → Bool
has_bit_as true place n = has_bit place n
has_bit_as false place n = not (has_bit place n)

-- the records whose pseudokey has the bit set, or those whose pseudokey hasn't
abbrev pub with_bit : Bool → ℕ → (RecordKey → ℕ) → List Pair → List Pair
with_bit set place of_key ps = filter (λ (p : Pair). has_bit_as set place (of_key p.key)) ps

-- the pattern of a half: its highest bit is the next bit of the half's pseudokeys
abbrev pub pattern_of_half : Bool → Bucket → ℕ
pattern_of_half true b = b.pattern + 2 ^ b.depth
pattern_of_half false b = b.pattern

-- the bucket of the pseudokeys whose next bit is 1, or of those whose next bit is 0
abbrev pub half_of : Bool → (RecordKey → ℕ) → ℕ → Bucket → Bucket
half_of set of_key next b = record {
  depth = b.depth + 1;
  pattern = pattern_of_half set b;
  next = next;
  records = with_bit set b.depth of_key b.records;
}

-- the half of the bits 0 stays, and is followed by the page of the other half
abbrev pub lower_half : (RecordKey → ℕ) → ℕ → Bucket → Bucket
lower_half of_key page b = half_of false of_key page b

-- the half of the bits 1 is followed by what followed the whole
abbrev pub upper_half : (RecordKey → ℕ) → Bucket → Bucket
upper_half of_key b = half_of true of_key b.next b

-- a bucket has a highest bit to give up, which is 0
pub record MayWiden (b : Bucket) : Type 0 where
  pub deep : 0 < b.depth
  pub pattern : b.pattern < 2 ^ (b.depth - 1)

-- the bucket gives up its highest bit, and is followed by this page
abbrev pub widened : ℕ → Bucket → Bucket
widened next b = record b { depth = b.depth - 1; next = next }

-- the records of both, in the order of their keys
abbrev pub merged : List Pair → List Pair → List Pair
merged ps qs = fold (λ rs q. inserted q rs) ps qs

-- the bucket of the pseudokeys of both
abbrev pub joined : Bucket → Bucket → Bucket
joined left right = record (widened right.next left) { records = merged left.records right.records }

-- two buckets that the cut of one makes: their patterns differ in the highest bit alone
pub record AreBuddies (left right : Bucket) : Type 0 where
  pub deep : 0 < left.depth
  pub level : right.depth ≡ left.depth
  pub patterns : right.pattern ≡ left.pattern + 2 ^ (left.depth - 1)

-- no key stands in both
abbrev pub ShareNoKey : List Pair → List Pair → Type 0
ShareNoKey ps qs = AllByRecursion (λ (q : Pair). lookup q.key ps ≡ None) qs

-- the records of both have room in one bucket
abbrev pub FitTogether : List Pair → List Pair → Type 0
FitTogether ps qs = length (record_bytes ps) + length (record_bytes qs) ≤ ROOM_BYTES
