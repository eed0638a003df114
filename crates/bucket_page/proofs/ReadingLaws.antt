-- What a payload that passes all tests says is spelled by it.
use Rattle.std.proofs.Common.{◌≡◌, ℕ, ◌-◌, ◌≤◌, Bool, true, false, cond, ◌||◌, eqb, List, [], ◌∷◌, ◌++◌, length, take, drop, Option, Some, None, Result, Err, refl, sym, ap, subst, ◌∙◌, arith}
use Rattle.std.specs.Prelude.{IfOk}
use Rattle.std.proofs.lemmas.Bool.{eqb-true, leb-true, ltb-true}
use Rattle.std.proofs.lemmas.List.{take-append-drop, length-take, length-drop}
use Rattle.bucket_page.specs.declared.layout.TheConstants.{BUCKET, LINK_BYTES, ROOM_BYTES}
use Rattle.directory.specs.page_device.declared.page.TheConstants.{PAYLOAD_BYTES}
use Rattle.bucket_page.specs.declared.page.Malformed.{Malformed}
use Rattle.bucket_page.specs.declared.page.Malformed.TheVariants as faults
use Rattle.bucket_page.specs.declared.page.PageKind.{PageKind}
use Rattle.bucket_page.specs.declared.page.PageKind.TheVariants as kinds
use Rattle.directory.specs.numbers.Numbers.{two, four, zeros, two_at, four_at}
use Rattle.bucket_page.specs.Records.{Pair, record_bytes, pairs_of}
use Rattle.directory.specs.Pages.{entries_at}
use Rattle.bucket_page.specs.Spelling.{head_bytes, padded, link_bytes, Spells}
use Rattle.bucket_page.specs.Reading.{kind_at, local_depth_at, record_count_at, used_at, area, after_area, head_at, bucket_in, page_in, bucket_fault, directory_fault, link_fault, fault_of, answer, reading}
use Rattle.directory.specs.numbers.Numbers.{is_zero}
use Rattle.directory.proofs.of_numbers.Tests.{both_true}
use Rattle.directory.proofs.of_numbers.ZeroLaws.{zeros_at, zeros_of}
use Rattle.directory.proofs.of_numbers.NumberLaws.{IsBytes, IsBytes-drop, IsBytes-take, two_takes, four_takes, four_small}
use Rattle.bucket_page.proofs.RecordLaws.{records_take}
use Rattle.directory.proofs.PageLaws.{directory_takes}
use Rattle.bucket_page.proofs.HeadLaws.{head_parts}

passed : (b : Bool) (m : Malformed) (o : Option Malformed) → cond b o (Some m) ≡ None → (b ≡ true) × (o ≡ None)
passed true m o e = (refl, e)
passed false m o e = absurd cc

kind_first : (bytes : List ℕ) → 1 ≤ length bytes → bytes ≡ kind_at bytes ∷ drop 1 bytes
kind_first [] long = absurd (omega (arith, long))
kind_first (a ∷ rest) long = refl

head_first : (bytes : List ℕ) → 2 ≤ length bytes → bytes ≡ kind_at bytes ∷ local_depth_at bytes ∷ drop 2 bytes
head_first [] long = absurd (omega (arith, long))
head_first (a ∷ []) long = absurd (omega (arith, long))
head_first (a ∷ b ∷ rest) long = refl

head_takes : (bytes : List ℕ) → 16 ≤ length bytes → IsBytes bytes → kind_at bytes ≡ BUCKET
    → is_zero (take 2 (drop 14 bytes)) ≡ true
    → bytes ≡ head_bytes (head_at bytes) ++ drop 16 bytes
head_takes bytes long all kind blank =
    let used = two_takes 12 bytes (omega (arith, long)) all
    ∙ ap (λ (xs : List ℕ). two (two_at 12 bytes) ++ xs) (zeros_at 14 2 bytes (omega (arith, long)) blank) in
    let next = four_takes 8 bytes (omega (arith, long)) all
    ∙ ap (λ (xs : List ℕ). four (four_at 8 bytes) ++ xs) used in
    let pattern = four_takes 4 bytes (omega (arith, long)) all
    ∙ ap (λ (xs : List ℕ). four (four_at 4 bytes) ++ xs) next in
    let count = two_takes 2 bytes (omega (arith, long)) all
    ∙ ap (λ (xs : List ℕ). two (two_at 2 bytes) ++ xs) pattern in
    head_first bytes (omega (arith, long)) ∙ (λ i. kind i ∷ local_depth_at bytes ∷ count i)
    ∙ sym (head_parts (head_at bytes) (drop 16 bytes))

bucket_takes : (bytes : List ℕ) → length bytes ≡ PAYLOAD_BYTES → IsBytes bytes → kind_at bytes ≡ BUCKET
    → bucket_fault bytes ≡ None → Spells (kinds.Bucket (bucket_in bytes)) bytes
bucket_takes bytes long all kind passes =
    let depth = passed _ _ _ passes in
    let pattern = passed _ _ _ depth.1 in
    let lengths = passed _ _ _ pattern.1 in
    let order = passed _ _ _ lengths.1 in
    let padding = passed _ _ _ order.1 in
    let room = both_true _ _ lengths.0 in
    let blanks = both_true _ _ padding.0 in
    let ps : List Pair = pairs_of (record_count_at bytes) (area bytes) in
    let used : used_at bytes ≤ ROOM_BYTES = leb-true _ _ room.0 in
    let records = records_take (record_count_at bytes) (area bytes) room.1
    (IsBytes-take (used_at bytes) (drop 16 bytes) (IsBytes-drop 16 bytes all)) in
    let area-len : length (area bytes) ≡ used_at bytes =
    omega (arith, used, long, length-take (used_at bytes) (drop 16 bytes), length-drop 16 bytes) in
    let after-len : length (after_area bytes) ≡ ROOM_BYTES - length (area bytes) =
    omega (arith, used, long, area-len, length-drop (used_at bytes) (drop 16 bytes), length-drop 16 bytes) in
    let spelled-len : length (record_bytes ps) ≡ used_at bytes = ap length (sym records.0) ∙ area-len in
    let body : drop 16 bytes ≡ padded ROOM_BYTES (area bytes) =
    sym (take-append-drop (used_at bytes) (drop 16 bytes))
    ∙ ap (λ (xs : List ℕ). area bytes ++ xs) (zeros_of _ (after_area bytes) after-len blanks.1) in
    let front = head_takes bytes (omega (arith, long)) all kind blanks.0 in
    record {
      in_range = record {
        depth = leb-true _ _ depth.0;
        pattern = ltb-true _ _ pattern.0;
        next =
            four_small 8 bytes all;
        pairs = records.1;
        room = omega (arith, spelled-len, used);
        order = order.0;
      };
      spelled = front ∙ (λ i. head_bytes (record {
        depth = local_depth_at bytes;
        count = sym records.2 i;
        pattern =
            four_at 4 bytes;
        next = four_at 8 bytes;
        used = sym spelled-len i;
      }) ++ (body
          ∙ ap (padded ROOM_BYTES) records.0) i);
    }

-- four bytes from place 4 on, between zeros
link_takes : (kind : ℕ) (bytes : List ℕ) → length bytes ≡ PAYLOAD_BYTES → IsBytes bytes → kind_at bytes ≡ kind
    → link_fault bytes ≡ None → bytes ≡ link_bytes kind (four_at 4 bytes)
link_takes kind bytes long all is passes =
    let blanks = both_true _ _ (passed _ _ _ passes).0 in
    let front = zeros_at 1 3 bytes (omega (arith, long)) blanks.0 in
    let page = four_takes 4 bytes (omega (arith, long)) all in
    let back : drop LINK_BYTES bytes ≡ zeros (PAYLOAD_BYTES - LINK_BYTES) =
    zeros_of (PAYLOAD_BYTES - LINK_BYTES) (drop LINK_BYTES bytes) (omega (arith, long, length-drop LINK_BYTES bytes))
    blanks.1 in
    let parts = front ∙ ap (λ (xs : List ℕ). zeros 3 ++ xs) (page
    ∙ ap (λ (xs : List ℕ). four (four_at 4 bytes) ++ xs) back) in
    kind_first bytes (omega (arith, long)) ∙ (λ i. is i ∷ parts i)

page_takes : (bytes : List ℕ) → length bytes ≡ PAYLOAD_BYTES → IsBytes bytes → fault_of bytes ≡ None
    → Spells (page_in bytes) bytes
page_takes bytes long all passes = by_kind (eqb (kind_at bytes) 3) (eqb (kind_at bytes) 2) (eqb (kind_at bytes) 4)
    (eqb (kind_at bytes) 5) refl refl refl refl passes
  where
    by_kind : (bucket directory tombstone free : Bool) → eqb (kind_at bytes) 3 ≡ bucket
        → eqb (kind_at bytes) 2 ≡ directory → eqb (kind_at bytes) 4 ≡ tombstone → eqb (kind_at bytes) 5 ≡ free
        → cond bucket (bucket_fault bytes) (cond directory (directory_fault bytes)
        (cond (tombstone || free) (link_fault bytes) (Some faults.Kind))) ≡ None
        → Spells (cond bucket (kinds.Bucket (bucket_in bytes))
        (cond directory (kinds.Directory (entries_at bytes))
        (cond tombstone (kinds.Tombstone (four_at 4 bytes)) (kinds.Free (four_at 4 bytes))))) bytes
    by_kind true directory tombstone free a b c d passes = bucket_takes bytes long all (eqb-true _ _ a) passes
    by_kind false true tombstone free a b c d passes =
        let it = directory_takes bytes long all (eqb-true _ _ b) (passed _ _ _ passes).0 in
        record { in_range = it.in_range; spelled = it.spelled }
    by_kind false false true free a b c d passes = record {
      in_range = four_small 4 bytes all;
      spelled =
          link_takes 4 bytes long all (eqb-true _ _ c) passes;
    }
    by_kind false false false true a b c d passes = record {
      in_range = four_small 4 bytes all;
      spelled =
          link_takes 5 bytes long all (eqb-true _ _ d) passes;
    }
    by_kind false false false false a b c d passes = absurd cc

answered : (fault : Option Malformed) (page : PageKind) (bytes : List ℕ) → (fault ≡ None → Spells page bytes)
    → IfOk (answer fault page) (λ p. Spells p bytes)
answered None page bytes spells = spells refl
answered (Some m) page bytes spells = tt

-- what is read is spelled
pub is_spelled : (bytes : List ℕ) (r : Result PageKind Malformed) → length bytes ≡ PAYLOAD_BYTES → IsBytes bytes
    → r ≡ reading bytes → IfOk r (λ page. Spells page bytes)
is_spelled bytes r long all is =
    subst (λ (x : Result PageKind Malformed). IfOk x (λ page. Spells page bytes)) (sym is)
    (answered (fault_of bytes) (page_in bytes) bytes (page_takes bytes long all))

-- a fault is answered whatever the value
pub refused : {X Y : Type 0} (fault : Option Malformed) (x : X) (y : Y) (m : Malformed)
    → ◌≡◌ {A = Result X Malformed} (Err m) (answer fault x) → ◌≡◌ {A = Result Y Malformed} (Err m) (answer fault y)
refused None x y m is = absurd cc
refused (Some f) x y m is = let same : m ≡ f = cc in ap Err same

pub bucket_kind : (bytes : List ℕ) → kind_at bytes ≡ BUCKET
    → answer (bucket_fault bytes) (page_in bytes) ≡ reading bytes
bucket_kind bytes is = rw is refl
