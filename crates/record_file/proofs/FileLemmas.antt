-- A new file, page by page.
use Rattle.std.proofs.Common.{◌≡◌, refl, ◌∙◌, sym, ap, subst, ◌⊎◌, inl, inr, ℕ, ◌+◌, ◌<◌, ◌≤◌, Bool, IsTrue, List, [], ◌∷◌, ◌++◌}
use Rattle.std.proofs.Common.{length, slice_index_or, arith, ◌↔◌, Result, Ok, Err, IsErr, OnOk, eq-eqb, replicate, slice_set}
use Rattle.std.proofs.lemmas.Bool.{cases_eq, ne_eqb}
use Rattle.std.proofs.lemmas.List.{get_or_append_left, length-append}
use Rattle.std.proofs.Math.Seq.{get_or-append_seam}
use Rattle.page_device.specs.Sealed.{IsSealed, payload_of}
use Rattle.page_device.specs.declared.fault.DeviceFault.{DeviceFault}
use Rattle.page_device.specs.declared.page.TheConstants.{MAX_PAGES}
use Rattle.directory.specs.declared.layout.TheConstants.{FIRST_DIRECTORY_PAGE, LEAST_PAGES, PAGE_ENTRIES, ROOT_PAGE}
use Rattle.bucket_page.specs.declared.change.DoesNotFit.{DoesNotFit}
use Rattle.bucket_page.specs.declared.layout.TheConstants.{RECORD_HEAD_BYTES, ROOM_BYTES}
use Rattle.bucket_page.specs.declared.record_key.RecordKey.{RecordKey}
use Rattle.bucket_page.specs.Bucket.{Bucket, bucket}
use Rattle.bucket_page.specs.Changes.{Changes, SpellsBucket, inserted}
use Rattle.bucket_page.specs.Keys.{key_bytes}
use Rattle.numbers.specs.Numbers.{four, two}
use Rattle.bucket_page.specs.Reading.{bucket_in, records_in}
use Rattle.bucket_page.specs.Records.{pair, pair_bytes, record_bytes}
use Rattle.bucket_page.specs.Spelling.{IsBucket}
use Rattle.numbers.proofs.NumberLaws.{length-four, length-two}
use Rattle.bucket_page.proofs.KeyLaws.{length-key}
use Rattle.bucket_page.proofs.PageLaws.{bucket_again}
use Rattle.step_rules.specs.queue_records.Spelling.{counter_bytes, counter_key}
use Rattle.record_file.specs.Files.{IsNewFile, entries_on, new_counter, new_page, new_records, root_bucket}

-- page n is sealed and is that of a new file
pub record IsPage (pages n : ℕ) (page : List ℕ) : Type 0 where
  pub sealed : IsSealed n page
  pub payload : payload_of page ≡ new_page pages n

-- the pages below one are made
pub record IsMade {D : Type 0} (content : D → List (List ℕ)) (is_honest : D → Bool) (fault_count : D → ℕ)
    (first device : D) (pages page : ℕ) : Type 0 where
  pub as_many : length (content device) ≡ page
  pub made : IsTrue (is_honest first) → (n : ℕ) → n < page → IsPage pages n (slice_index_or (content device) n [])
  pub honest : is_honest device ≡ is_honest first
  pub later : fault_count first ≤ fault_count device

pub one_more : (pages k : ℕ) (old new : List (List ℕ)) (page : List ℕ) → length old ≡ k → new ≡ old ++ page ∷ []
    → IsPage pages k page → ((n : ℕ) → n < k → IsPage pages n (slice_index_or old n []))
    → (n : ℕ) → n < k + 1 → IsPage pages n (slice_index_or new n [])
one_more pages k old new page size is last before n below = at (cases_eq n k)
  where
    at : (n ≡ k) ⊎ (n ≡ k → ⊥) → IsPage pages n (slice_index_or new n [])
    at (inl same) =
        let here : slice_index_or new n [] ≡ page =
        ap (λ xs. slice_index_or xs n []) is
        ∙ ap (λ i. slice_index_or (old ++ page ∷ []) i []) (same ∙ sym size)
        ∙ get_or-append_seam old page [] [] in
        subst (λ m. IsPage pages m (slice_index_or new n [])) (sym same) (subst (λ x. IsPage pages k x) (sym here) last)
    at (inr earlier) =
        let less : n < k = omega arith in
        let here : slice_index_or new n [] ≡ slice_index_or old n [] =
        ap (λ xs. slice_index_or xs n []) is
        ∙ get_or_append_left old (page ∷ []) [] n (subst (λ m. n < m) (sym size) less) in
        subst (λ x. IsPage pages n x) (sym here) (before n less)

-- ---- the root bucket

-- a bucket is read from its spelling
pub read_again : (b : Bucket) (payload : List ℕ) → SpellsBucket b payload → bucket_in payload ≡ b
read_again b payload it = ap bucket_in it.spelled ∙ (bucket_again b it.in_range).value

-- the Counter's record is that of a bucket, where there is room for it
counter_long : length (counter_bytes new_counter) ≡ 8
counter_long = omega (arith, length-append (four 1) (four 0), length-four 1, length-four 0)

pub new_root : IsBucket (root_bucket new_records)
new_root =
    let value : List ℕ = counter_bytes new_counter in
    record {
      depth = omega arith;
      pattern = omega arith;
      next = omega arith;
      pairs = (
        record {
          key = record { kind = omega arith; queue = omega arith; number = omega arith };
          value = omega (arith, counter_long);
        },
        tt,
      );
      room = omega (
        arith,
        counter_long,
        length-append (pair_bytes (pair counter_key value)) [],
        length-append (two (length value)) (key_bytes counter_key ++ value),
        length-append (key_bytes counter_key) value,
        length-key counter_key,
        length-two (length value),
      );
      order = refl;
    }

pub root_written : (r : Result (Unit {0}) DoesNotFit) (old new : List ℕ) (key : RecordKey) (value : List ℕ)
    → SpellsBucket (bucket 0 0 0 []) old → key ≡ counter_key → value ≡ counter_bytes new_counter
    → IsErr r ↔ (ROOM_BYTES < length (record_bytes (records_in old)) + (RECORD_HEAD_BYTES + length value))
    → OnOk r (Changes (inserted (pair key value)) old new) → SpellsBucket (root_bucket new_records) new
root_written (Ok done) old new key value it key-is value-is full made =
    let was : bucket_in old ≡ bucket 0 0 0 [] = read_again (bucket 0 0 0 []) old it in
    subst (λ (b : Bucket). SpellsBucket b new)
    ((λ i. record (was i) { records = inserted (pair (key-is i) (value-is i)) (was i).records })) made
root_written (Err e) old new key value it key-is value-is full made =
    let room = full.0 refl in
    let empty : length (record_bytes (records_in old)) ≡ 0 =
    ap (λ (b : Bucket). length (record_bytes b.records)) (read_again (bucket 0 0 0 []) old it) in
    let short : length value ≡ 8 = ap length value-is ∙ counter_long in
    absurd (omega arith)

-- ---- the whole file

-- pages that were made one by one are those of a new file
pub file_made : (pages : ℕ) (content : List (List ℕ)) → LEAST_PAGES ≤ pages → pages ≤ MAX_PAGES → length content ≡ pages
    → ((n : ℕ) → n < pages → IsPage pages n (slice_index_or content n [])) → IsNewFile pages content
file_made pages content least most many made = record {
  least = least;
  most = most;
  bucket = new_root;
  as_many = many;
  sealed = λ n within. (made n within).sealed;
  payload = λ n within. (made n within).payload;
}

pub always : {P : Type 0} (r : Result (Unit {0}) DeviceFault) → P → OnOk r P
always (Ok done) p = p
always (Err e) p = tt

-- ---- pages of the directory

pub first_entries : (page : ℕ) → page ≡ FIRST_DIRECTORY_PAGE
    → entries_on page ≡ slice_set (replicate PAGE_ENTRIES 0) 0 ROOT_PAGE
first_entries page is = let first = eq-eqb page FIRST_DIRECTORY_PAGE is in rw first refl

pub other_entries : (page : ℕ) → (page ≡ FIRST_DIRECTORY_PAGE → ⊥) → entries_on page ≡ replicate PAGE_ENTRIES 0
other_entries page other = let not_first = ne_eqb page FIRST_DIRECTORY_PAGE other in rw not_first refl
