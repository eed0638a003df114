-- The bytes of a journal. docs/FORMAT.md, "The journal".
use Rattle.std.specs.Prelude.{ℕ, ◌++◌, ◌==◌, ◌&&◌, ◌||◌, Bool, List, if◌then◌else◌, take, drop, replicate, nat_eq, nat_lt, Option, Some, None}
use Rattle.std.specs.Cmp.Lexicographic.{pointwise}
use Rattle.sha2.specs.Sha256.{sha256}
use Rattle.numbers.specs.Numbers.{eight, eight_at, four, four_at}
use Rattle.journal_bytes.specs.declared.head.FoundHead.{FoundHead}
use Rattle.journal_bytes.specs.declared.head.FoundHead.TheVariants.{Torn, Ended, OtherVersion, Whole}
use Rattle.journal_bytes.specs.declared.head.Head.{Head}
use Rattle.journal_bytes.specs.declared.head.TheConstants.{ENDED, FIRST_VERSION, NEW_VERSION, UNDER_WAY, VERSION_OF_CALLS}
use Rattle.journal_bytes.specs.declared.page_zero.PageZero.{PageZero}
use Rattle.journal_bytes.specs.declared.page_zero.PageZero.TheVariants.{Seal, Digest}

-- all of a head before its digest: the magic, the version, how many pages the file had, the number of the save, and the
-- first bytes of the digest in page 0
abbrev pub front_of : (count number : ℕ) → (seal : List ℕ) → List ℕ
front_of count number seal = (UNDER_WAY ++ (four NEW_VERSION ++ four count)) ++ (eight number ++ seal)

-- with its digest
abbrev pub head_of : List ℕ → List ℕ
head_of front = front ++ sha256 front

-- what takes its place where the save is ended
abbrev pub end_of : (number : ℕ) → List ℕ
end_of number = head_of ((ENDED ++ (four NEW_VERSION ++ four 0)) ++ (eight number ++ replicate 24 0))

-- the same of a head behind which calls stand
abbrev pub calls_front_of : (count number : ℕ) → (seal : List ℕ) → List ℕ
calls_front_of count number seal =
    (UNDER_WAY ++ (four VERSION_OF_CALLS ++ four count)) ++ (eight number ++ seal)

-- the image of a page, and the digest with which it ends, of that of what stands before, the number and the page
abbrev pub image_sum : (before : List ℕ) → (number : ℕ) → (page : List ℕ) → List ℕ
image_sum before number page = sha256 (before ++ (four number ++ page))

abbrev pub image_of : (number : ℕ) → (page sum : List ℕ) → List ℕ
image_of number page sum = (four number ++ page) ++ sum

-- ---- what stands where a head is looked for

abbrev pub begins_with : (magic front : List ℕ) → Bool
begins_with magic front = pointwise nat_eq (take 8 front) magic

-- the digest in page 0 is of the whole page in version 1, and later the first bytes of that with which it ends
abbrev pub page_zero_in : List ℕ → PageZero
page_zero_in front = if four_at 8 front == FIRST_VERSION then Digest (drop 16 front) else Seal (drop 24 front)

abbrev pub head_in : List ℕ → Head
head_in front = record {
  count = four_at 12 front;
  takes_calls = four_at 8 front == VERSION_OF_CALLS;
  -- those of version 1 have none
  number = if four_at 8 front == FIRST_VERSION then 0 else eight_at 16 front;
  page_zero = page_zero_in front;
  sum = sha256 front;
}

abbrev pub under_way : List ℕ → FoundHead
under_way front =
    if nat_lt (four_at 8 front) FIRST_VERSION || nat_lt VERSION_OF_CALLS (four_at 8 front) then OtherVersion
    else Whole (head_in front)

abbrev pub named : List ℕ → FoundHead
named front =
    if begins_with UNDER_WAY front then under_way front
    else if begins_with ENDED front && four_at 8 front == NEW_VERSION then Ended (eight_at 16 front)
    else Torn

abbrev pub says : List ℕ → FoundHead
says bytes = if pointwise nat_eq (drop 48 bytes) (sha256 (take 48 bytes)) then named (take 48 bytes) else Torn

-- the number of the save that a head tells
abbrev pub number_of : FoundHead → Option ℕ
number_of Torn = None
number_of (Ended number) = Some number
number_of OtherVersion = None
number_of (Whole head) = Some head.number

-- ---- page 0 as it was

abbrev pub seal_in : List ℕ → List ℕ
seal_in page = take 24 (drop 4064 page)

abbrev pub is_page_zero : PageZero → List ℕ → Bool
is_page_zero (Seal seal) page = pointwise nat_eq (seal_in page) seal
is_page_zero (Digest sum) page = pointwise nat_eq (sha256 page) sum
