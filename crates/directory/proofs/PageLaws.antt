-- A page of the directory: its entries are read from their bytes and spelled by them, and one of them is written.
use Rattle.std.proofs.Common.{◌≡◌, ◌≢◌, ℕ, ◌-◌, ◌*◌, ◌<◌, ◌≤◌, ◌^◌, true, List, [], ◌∷◌, ◌++◌, length, take, drop, get_or, slice_index, slice_set, refl, sym, ap, ◌∙◌, arith}
use Rattle.std.specs.List.{AllByRecursion}
use Rattle.std.proofs.lemmas.List.{take_at, drop_at, get_or-set_other, get_or-set_same, length-drop, length-set, length-take, nil_from_length, take-append-drop}
use Rattle.page_device.specs.declared.page.TheConstants.{PAYLOAD_BYTES}
use Rattle.numbers.specs.Numbers.{four, four_at, is_zero, numbers_bytes, numbers_of, overwritten, zeros}
use Rattle.numbers.proofs.ListLaws.{all_set, all_small, length-numbers, number_is, numbers_again, numbers_take}
use Rattle.numbers.proofs.NumberLaws.{IsBytes, IsBytes-drop, IsBytes-take, after_part}
use Rattle.numbers.proofs.Tests.{both_true}
use Rattle.numbers.proofs.WrittenLaws.{number_written}
use Rattle.numbers.proofs.ZeroLaws.{length-zeros, zeros_again, zeros_at, zeros_of}
use Rattle.directory.specs.declared.layout.TheConstants.{DIRECTORY, ENTRIES_BYTES, HEAD_BYTES, PAGE_ENTRIES}
use Rattle.directory.specs.Entries.{slot_at}
use Rattle.directory.specs.Pages.{IsDirectory, IsDirectoryPage, SpellsDirectory, after_entries, directory_bytes, entries_area, entries_at, entries_of, has_entries_padding}

-- bytes behind the entries, and before them
abbrev BEHIND : ℕ
BEHIND = PAYLOAD_BYTES - HEAD_BYTES - ENTRIES_BYTES

abbrev BEFORE : ℕ
BEFORE = HEAD_BYTES - 1

pub entry_is : (i : ℕ) (bytes : List ℕ) → i < PAGE_ENTRIES → slice_index (entries_of bytes) i ≡ four_at (4 * i) bytes
unfolding entries_of
entry_is i bytes lt = number_is PAGE_ENTRIES i bytes lt

-- the entries of a page
entries_take : (bytes : List ℕ) → length bytes ≡ ENTRIES_BYTES → IsBytes bytes
    → (bytes ≡ numbers_bytes (entries_of bytes)) × AllByRecursion (λ e. e < 2 ^ 32) (entries_of bytes)
    × (length (entries_of bytes) ≡ PAGE_ENTRIES)
unfolding entries_of
entries_take bytes long all = numbers_take PAGE_ENTRIES bytes long all

entries_again : (es : List ℕ) → length es ≡ PAGE_ENTRIES → AllByRecursion (λ e. e < 2 ^ 32) es
    → entries_of (numbers_bytes es) ≡ es
unfolding entries_of
entries_again es long all = ap (λ (n : ℕ). numbers_of n (numbers_bytes es)) (sym long) ∙ numbers_again es all

pub directory_spelled : (es payload : List ℕ) → length es ≡ PAGE_ENTRIES → ((i : ℕ) → get_or es i 0 < 2 ^ 32)
    → payload ≡ directory_bytes es → SpellsDirectory es payload
directory_spelled es payload long small is = record {
  in_range = record { number = long; entries = all_small es small };
  spelled = is;
}

-- ---- spelled, then read

-- what a page spells is read from it
pub directory_again : (es : List ℕ) → IsDirectory es → (has_entries_padding (directory_bytes es) ≡ true)
    × (entries_at (directory_bytes es) ≡ es)
directory_again es is =
    let bytes : List ℕ = directory_bytes es in
    let tail : List ℕ = numbers_bytes es ++ zeros BEHIND in
    let long : length (numbers_bytes es) ≡ ENTRIES_BYTES = omega (arith, length-numbers es, is.number) in
    let rest : drop HEAD_BYTES bytes ≡ tail =
    after_part 1 BEFORE bytes (zeros BEFORE) tail refl (length-zeros BEFORE) in
    let front : is_zero (take BEFORE (drop 1 bytes)) ≡ true =
    rw (take_at (zeros BEFORE) tail BEFORE (length-zeros BEFORE)) (zeros_again BEFORE) in
    let inside : entries_area bytes ≡ numbers_bytes es =
    ap (take ENTRIES_BYTES) rest ∙ take_at (numbers_bytes es) (zeros BEHIND) ENTRIES_BYTES long in
    let behind : after_entries bytes ≡ zeros BEHIND = ap (drop ENTRIES_BYTES) rest
    ∙ drop_at (numbers_bytes es) (zeros BEHIND) ENTRIES_BYTES long in
    let back : is_zero (after_entries bytes) ≡ true = rw behind (zeros_again BEHIND) in
    (rw (front, back) refl, ap entries_of inside ∙ entries_again es is.number is.entries)

-- a page has the entries that it spells
pub entries_now : (es payload : List ℕ) → SpellsDirectory es payload → entries_at payload ≡ es
entries_now es payload it = ap entries_at it.spelled ∙ (directory_again es it.in_range).1

-- a payload that spells entries is a directory page
pub spelled_page : (es payload : List ℕ) → SpellsDirectory es payload → IsDirectoryPage payload
spelled_page es payload it = rw (entries_now es payload it) it

-- ---- read, then spelled

kind_first : (bytes : List ℕ) → 1 ≤ length bytes → bytes ≡ slice_index bytes 0 ∷ drop 1 bytes
kind_first [] long = absurd (omega (arith, long))
kind_first (a ∷ rest) long = refl

-- what passes the test is a directory page
pub directory_takes : (bytes : List ℕ) → length bytes ≡ PAYLOAD_BYTES → IsBytes bytes → slice_index bytes 0 ≡ DIRECTORY
    → has_entries_padding bytes ≡ true → IsDirectoryPage bytes
directory_takes bytes long all kind passes =
    let blanks = both_true (is_zero (take BEFORE (drop 1 bytes))) (is_zero (after_entries bytes)) passes in
    let front = zeros_at 1 BEFORE bytes (omega (arith, long)) blanks.0 in
    let area-len : length (entries_area bytes) ≡ ENTRIES_BYTES =
    omega (arith, long, length-take ENTRIES_BYTES (drop HEAD_BYTES bytes), length-drop HEAD_BYTES bytes) in
    let after-len : length (after_entries bytes) ≡ BEHIND =
    omega (arith, long, length-drop ENTRIES_BYTES (drop HEAD_BYTES bytes), length-drop HEAD_BYTES bytes) in
    let entries = entries_take (entries_area bytes) area-len
    (IsBytes-take ENTRIES_BYTES (drop HEAD_BYTES bytes) (IsBytes-drop HEAD_BYTES bytes all)) in
    let body : drop HEAD_BYTES bytes ≡ numbers_bytes (entries_at bytes) ++ zeros BEHIND =
    sym (take-append-drop ENTRIES_BYTES (drop HEAD_BYTES bytes)) ∙ (λ i. entries.0 i
    ++ zeros_of BEHIND (after_entries bytes) after-len blanks.1 i) in
    record {
      in_range = record { number = entries.2; entries = entries.1 };
      spelled = kind_first bytes (omega (arith, long))
          ∙ (λ i. kind i ∷ (front ∙ ap (λ (xs : List ℕ). zeros BEFORE ++ xs) body) i);
    }

-- ---- written

pub set_makes : (payload front back body : List ℕ) (slot bucket : ℕ) → IsDirectoryPage payload → slot < PAGE_ENTRIES
    → bucket < 2 ^ 32 → front ≡ take HEAD_BYTES payload → back ≡ drop HEAD_BYTES payload
    → body ≡ overwritten back (4 * slot) (four bucket)
    → SpellsDirectory (slice_set (entries_at payload) slot bucket) (front ++ body)
set_makes payload front back body slot bucket it within small front-is back-is body-is =
    let es : List ℕ = entries_at payload in
    let tail : List ℕ = numbers_bytes es ++ zeros BEHIND in
    let head : List ℕ = DIRECTORY ∷ zeros BEFORE in
    let len : length head ≡ HEAD_BYTES = omega (arith, length-zeros BEFORE) in
    let front-of : front ≡ head = front-is ∙ ap (take HEAD_BYTES) it.spelled ∙ take_at head tail HEAD_BYTES len in
    let back-of : back ≡ tail = back-is ∙ ap (drop HEAD_BYTES) it.spelled ∙ drop_at head tail HEAD_BYTES len in
    let number : length es ≡ PAGE_ENTRIES = it.in_range.number in
    record {
      in_range = record {
        number = length-set es slot bucket ∙ number;
        entries = all_set es slot bucket small it.in_range.entries;
      };
      spelled = (λ i. front-of i ++ (body-is ∙ ap (λ (xs : List ℕ). overwritten xs (4 * slot) (four bucket)) back-of
          ∙ number_written es (zeros BEHIND) slot bucket (omega (arith, within, number))) i);
    }

pub one_byte : (bytes : List ℕ) (b : ℕ) → length bytes ≡ 1 → slice_set bytes 0 b ≡ b ∷ []
one_byte [] b long = absurd (omega (arith, long))
one_byte (x ∷ rest) b long = ap (λ (xs : List ℕ). b ∷ xs) (nil_from_length rest (omega (arith, long)))

-- one entry of a page is replaced
module _ (old new : List ℕ) (slot bucket : ℕ) (it : IsDirectoryPage old)
    (is : SpellsDirectory (slice_set (entries_at old) slot bucket) new) where
  pub entry_there : slot < PAGE_ENTRIES → slot_at slot new ≡ bucket
  entry_there within =
      ap (λ (es : List ℕ). slice_index es slot) (entries_now _ new is)
      ∙ get_or-set_same (entries_at old) slot bucket 0 (omega (arith, within, it.in_range.number))

  pub other_entry : (other : ℕ) → other ≢ slot → slot_at other new ≡ slot_at other old
  other_entry other apart =
      ap (λ (es : List ℕ). slice_index es other) (entries_now _ new is)
      ∙ get_or-set_other (entries_at old) slot other bucket 0 apart
