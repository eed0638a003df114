-- The entries of a journal that are read, and calls. docs/FORMAT.md, "The journal".
use Rattle.std.specs.Prelude.{ℕ, ◌+◌, ◌-◌, ◌++◌, ◌==◌, ◌||◌, List, length, if◌then◌else◌, take, drop, nat_eq, nat_lt, Option, Some, None}
use Rattle.std.specs.Cmp.Lexicographic.{pointwise}
use Rattle.sha2.specs.Sha256.{sha256}
use Rattle.numbers.specs.Numbers.{four, four_at}
use Rattle.journal_bytes.specs.declared.entry.Entry.{Entry}
use Rattle.journal_bytes.specs.declared.entry.Entry.TheVariants.{Calls, Image as AnImage, PutBack}
use Rattle.journal_bytes.specs.declared.entry.Image.{Image}
use Rattle.journal_bytes.specs.declared.entry.TheConstants.{CALLS, MOST_CALLS, PUT_BACK}

-- which entry a word begins
abbrev pub entry_in : List ℕ → Entry
entry_in word =
    if four_at 0 word == PUT_BACK then PutBack
    else if nat_lt (four_at 0 word) CALLS || nat_lt MOST_CALLS (four_at 0 word - CALLS) then AnImage
    else Calls (four_at 0 word - CALLS)

-- an entry without the digest with which it ends
abbrev pub front_in : List ℕ → List ℕ
front_in entry = take (length entry - 32) entry

-- the digest of what stands before and of the entry, where it ends with that
abbrev pub sum_in : (before entry : List ℕ) → Option (List ℕ)
sum_in before entry =
    if pointwise nat_eq (drop (length entry - 32) entry) (sha256 (before ++ front_in entry))
    then Some (sha256 (before ++ front_in entry))
    else None

-- the image that an entry is with this digest
abbrev pub image_with : (entry : List ℕ) → Option (List ℕ) → Option Image
image_with entry None = None
image_with entry (Some sum) =
    Some (record { number = four_at 0 entry; page = take 4096 (drop 4 entry); sum = sum })

abbrev pub image_in : (before entry : List ℕ) → Option Image
image_in before entry = image_with entry (sum_in before entry)

-- ---- calls, and images that were put back

abbrev pub calls_word : List ℕ → List ℕ
calls_word calls = four (CALLS + length calls)

abbrev pub calls_sum : (before calls : List ℕ) → List ℕ
calls_sum before calls = sha256 (before ++ (calls_word calls ++ calls))

-- an addition of calls
abbrev pub addition_of : (before calls : List ℕ) → List ℕ
addition_of before calls = (calls_word calls ++ calls) ++ calls_sum before calls

abbrev pub put_back_sum : (before : List ℕ) → List ℕ
put_back_sum before = sha256 (before ++ four PUT_BACK)

abbrev pub put_back_of : (before : List ℕ) → List ℕ
put_back_of before = four PUT_BACK ++ put_back_sum before
