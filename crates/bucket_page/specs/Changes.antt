-- Changes of a bucket's records: those of a set of pairs that is listed in the order of its keys.
use Rattle.std.specs.Prelude.{◌≡◌, ℕ, ◌+◌, ◌-◌, true, Some, List, [], ◌∷◌, ◌++◌, length, take, drop, unwrap_or, if◌then◌else◌}
use Rattle.std.specs.Option.{option_map}
use Rattle.bucket_page.specs.declared.record_key.RecordKey.{RecordKey}
use Rattle.bucket_page.specs.declared.page.PageKind.TheVariants as kinds
use Rattle.bucket_page.specs.declared.place.Place.{Place}
use Rattle.directory.specs.numbers.Numbers.{zeros}
use Rattle.bucket_page.specs.Keys.{is_same, is_below}
use Rattle.bucket_page.specs.Records.{Pair, pair, record_bytes, ascend, lookup}
use Rattle.bucket_page.specs.Bucket.{Bucket}
use Rattle.bucket_page.specs.Spelling.{Spells}
use Rattle.bucket_page.specs.Reading.{bucket_in, records_in}

-- a pair is put before the first greater key
abbrev pub inserted : Pair → List Pair → List Pair
inserted p [] = p ∷ []
inserted p (q ∷ qs) = if is_below q.key p.key then q ∷ inserted p qs else p ∷ q ∷ qs

-- the pair of a key is replaced by this one
abbrev pub replaced : Pair → List Pair → List Pair
replaced p [] = []
replaced p (q ∷ qs) = if is_same q.key p.key then p ∷ qs else q ∷ replaced p qs

-- the value of a key, which has no byte where the key has none
abbrev pub value_of_key : RecordKey → List Pair → List ℕ
value_of_key key ps = unwrap_or (lookup key ps) []

-- the value of a key has these bytes at its front, and is as it was behind them
abbrev pub fronted : RecordKey → List ℕ → List Pair → List Pair
fronted key front ps = replaced (pair key (front ++ drop (length front) (value_of_key key ps))) ps

-- the pair of a key is gone
abbrev pub removed : RecordKey → List Pair → List Pair
removed key [] = []
removed key (q ∷ qs) = if is_same q.key key then qs else q ∷ removed key qs

-- the key has a value of so many bytes
abbrev pub HasValueOf : ℕ → RecordKey → List Pair → Type 0
HasValueOf n key ps = option_map length (lookup key ps) ≡ Some n

-- the records below a key
abbrev pub below : RecordKey → List Pair → List Pair
below key [] = []
below key (q ∷ qs) = if is_below q.key key then q ∷ below key qs else []

-- the place of a key is behind them
abbrev pub place_in : RecordKey → List Pair → Place
place_in key ps = record { key = key; at = length (record_bytes (below key ps)) }

-- the place is that of its key
abbrev pub IsPlace : Place → List Pair → Type 0
IsPlace place ps = place ≡ place_in place.key ps

-- ---- payloads

abbrev pub SpellsBucket : Bucket → List ℕ → Type 0
SpellsBucket b payload = Spells (kinds.Bucket b) payload

-- the payload is a bucket's
abbrev pub IsBucketPage : List ℕ → Type 0
IsBucketPage payload = SpellsBucket (bucket_in payload) payload

-- the bucket's records became what the change makes of them, and its other numbers stayed
abbrev pub Changes : (List Pair → List Pair) → List ℕ → List ℕ → Type 0
Changes change old new =
    SpellsBucket (record (bucket_in old) { records = change (records_in old) }) new

-- ---- what the code does on the way

-- a pair is put behind all others
abbrev pub Appends : Pair → List ℕ → List ℕ → Type 0
Appends p old new = Changes (λ ps. ps ++ p ∷ []) old new

-- a pair is put behind so many bytes of records, where it keeps the order
abbrev pub InsertsAt : ℕ → Pair → List ℕ → List ℕ → Type 0
InsertsAt at p old new =
    (lower upper : List Pair) → records_in old ≡ lower ++ upper → at ≡ length (record_bytes lower)
    → ascend (lower ++ p ∷ upper) ≡ true → Changes (λ _. lower ++ p ∷ upper) old new

-- new bytes stand at a place, in the room behind the used ones
abbrev pub inserted_at : List ℕ → ℕ → ℕ → List ℕ → List ℕ
inserted_at bytes used at new =
    take at bytes ++ (new ++ (drop at (take used bytes) ++ drop (used + length new) bytes))

-- so many bytes at a place are gone, with as many zeros behind the other used ones
abbrev pub taken_out : List ℕ → ℕ → ℕ → ℕ → List ℕ
taken_out bytes used at count =
    take at bytes
    ++ ((drop count (take (used - at) (drop at bytes)) ++ zeros count)
    ++ drop (used - at) (drop at bytes))
