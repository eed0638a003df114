-- A page is read from its spelling, so a payload spells at most one page.
use Rattle.std.proofs.Common.{◌≡◌, ℕ, ◌-◌, ◌^◌, ◌<◌, ◌≤◌, true, List, ◌++◌, length, take, drop, leb, ltb, None, Result, Ok, refl, sym, ap, ◌∙◌, arith}
use Rattle.std.proofs.lemmas.Bool.{le-leb, lt-ltb}
use Rattle.std.proofs.lemmas.List.{take_at, drop_at}
use Rattle.std.proofs.Math.Nat.{pow-le-pow_right}
use Rattle.bucket_page.specs.declared.layout.TheConstants.{LINK_BYTES, ROOM_BYTES}
use Rattle.directory.specs.page_device.declared.page.TheConstants.{PAYLOAD_BYTES}
use Rattle.directory.specs.declared.layout.TheConstants.{GREATEST_DEPTH}
use Rattle.bucket_page.specs.declared.page.Malformed.{Malformed}
use Rattle.bucket_page.specs.declared.page.PageKind.{PageKind}
use Rattle.bucket_page.specs.declared.page.PageKind.TheVariants as kinds
use Rattle.directory.specs.numbers.Numbers.{four, zeros, four_at}
use Rattle.bucket_page.specs.Records.{record_bytes, pairs_of, fills, ascend}
use Rattle.bucket_page.specs.Bucket.{Bucket}
use Rattle.bucket_page.specs.Spelling.{head_of, bucket_bytes, link_bytes, bytes_of, IsBucket, IsPage, Spells}
use Rattle.bucket_page.specs.Reading.{record_count_at, used_at, area, after_area, bucket_in, page_in, bucket_fault, link_fault, fault_of, reading, answer}
use Rattle.directory.specs.numbers.Numbers.{is_zero}
use Rattle.directory.proofs.of_numbers.ZeroLaws.{zeros_again, length-zeros}
use Rattle.directory.proofs.of_numbers.NumberLaws.{after_part, four_again, length-four}
use Rattle.bucket_page.proofs.HeadLaws.{head_again}
use Rattle.bucket_page.proofs.RecordLaws.{records_again, count_below}
use Rattle.directory.specs.Pages.{IsDirectoryPage}
use Rattle.directory.proofs.PageLaws.{directory_again, spelled_page}

-- a pattern of a depth in range has four bytes: all that is used of the greatest depth
pub pattern_small : (depth pattern : ℕ) → depth ≤ GREATEST_DEPTH → pattern < 2 ^ depth → pattern < 2 ^ 32
pattern_small depth pattern d p =
    let shallow : depth ≤ 32 = omega (arith, d) in
    let le : 2 ^ depth ≤ 2 ^ 32 = pow-le-pow_right (omega arith) shallow in
    omega (arith, p, le)

-- what the whole of a bucket says
pub record IsWhole (b : Bucket) (bytes : List ℕ) : Type 0 where
  pub count : record_count_at bytes ≡ length b.records
  pub used : used_at bytes ≡ length (record_bytes b.records)
  pub fault : bucket_fault bytes ≡ None
  pub fills : fills (record_count_at bytes) (area bytes) ≡ true
  pub value : bucket_in bytes ≡ b

pub bucket_again : (b : Bucket) → IsBucket b → IsWhole b (bucket_bytes b)
bucket_again b is =
    let body : List ℕ = record_bytes b.records in
    let blank : List ℕ = zeros (ROOM_BYTES - length body) in
    let bytes : List ℕ = bucket_bytes b in
    let few = count_below b.records in
    let h = head_again (head_of b) (body ++ blank) (omega (arith, few, is.room))
    (pattern_small b.depth b.pattern is.depth is.pattern) is.next (omega (arith, is.room)) in
    let inside : area bytes ≡ body = rw (h.used, h.rest) (take_at body blank (length body) refl) in
    let behind : after_area bytes ≡ blank = rw (h.used, h.rest) (drop_at body blank (length body) refl) in
    let records = records_again b.records is.pairs in
    let depth : leb b.depth GREATEST_DEPTH ≡ true = le-leb _ _ is.depth in
    let pattern : ltb (four_at 4 bytes) (2 ^ b.depth) ≡ true = rw h.pattern (lt-ltb _ _ is.pattern) in
    let room : leb (used_at bytes) ROOM_BYTES ≡ true = rw h.used (le-leb _ _ is.room) in
    let full : fills (record_count_at bytes) (area bytes) ≡ true = rw (h.count, inside) records.0 in
    let found : pairs_of (record_count_at bytes) (area bytes) ≡ b.records = rw (h.count, inside) records.1 in
    let order : ascend (pairs_of (record_count_at bytes) (area bytes)) ≡ true = rw found is.order in
    let padding : is_zero (after_area bytes) ≡ true = rw behind (zeros_again (ROOM_BYTES - length body)) in
    record {
      count = h.count;
      used = h.used;
      fault = rw (depth, pattern, room, full, order, h.blank, padding) refl;
      fills = full;
      value = λ i. record { depth = b.depth; pattern = h.pattern i; next = h.next i; records = found i };
    }

link_again : (kind page : ℕ) → page < 2 ^ 32 → (link_fault (link_bytes kind page) ≡ None)
    × (four_at 4 (link_bytes kind page) ≡ page)
link_again kind page small =
    let bytes : List ℕ = link_bytes kind page in
    let tail : List ℕ = four page ++ zeros (PAYLOAD_BYTES - LINK_BYTES) in
    let at4 : drop 4 bytes ≡ tail = after_part 1 3 bytes (zeros 3) tail refl (length-zeros 3) in
    let at8 : drop LINK_BYTES bytes ≡ zeros (PAYLOAD_BYTES - LINK_BYTES) =
    after_part 4 4 bytes (four page) (zeros (PAYLOAD_BYTES - LINK_BYTES)) at4 (length-four page) in
    let front : is_zero (take 3 (drop 1 bytes)) ≡ true =
    rw (take_at (zeros 3) tail 3 (length-zeros 3)) (zeros_again 3) in
    let back : is_zero (drop LINK_BYTES bytes) ≡ true = rw at8 (zeros_again (PAYLOAD_BYTES - LINK_BYTES)) in
    (rw (front, back) refl, four_again 4 page bytes (zeros (PAYLOAD_BYTES - LINK_BYTES)) at4 small)

page_again : (page : PageKind) → IsPage page → (fault_of (bytes_of page) ≡ None) × (page_in (bytes_of page) ≡ page)
page_again (kinds.Bucket b) is = let it = bucket_again b is in (it.fault, ap kinds.Bucket it.value)
page_again (kinds.Directory es) is =
    let it = directory_again es is in
    (rw it.0 refl, ap kinds.Directory it.1)
page_again (kinds.Tombstone link) is = let it = link_again 4 link is in (it.0, ap kinds.Tombstone it.1)
page_again (kinds.Free next) is = let it = link_again 5 next is in (it.0, ap kinds.Free it.1)

-- what a payload spells is read from it
pub spelled_reads : (page : PageKind) (payload : List ℕ) → Spells page payload → reading payload ≡ Ok page
spelled_reads page payload it =
    let again = page_again page it.in_range in
    ap reading it.spelled ∙ (λ i. answer (again.0 i) (again.1 i))

-- a payload spells at most one page
pub spelled_once : (a b : PageKind) (payload : List ℕ) → Spells a payload → Spells b payload → a ≡ b
spelled_once a b payload one other =
    let same : ◌≡◌ {A = Result PageKind Malformed} (Ok a) (Ok b) =
    sym (spelled_reads a payload one) ∙ spelled_reads b payload other in
    cc

-- a payload that spells a directory page is one
pub directory_page : (es payload : List ℕ) → Spells (kinds.Directory es) payload → IsDirectoryPage payload
directory_page es payload it = spelled_page es payload (record { in_range = it.in_range; spelled = it.spelled })
