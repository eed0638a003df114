-- The thirteen changes of a file, each the whole of what one step does to it (Fagin et al. 1979; Ellis 1983).
use Rattle.std.specs.Prelude.{ℕ, suc, ◌≡◌, ◌+◌, ◌-◌, ◌^◌, ◌==◌, ◌&&◌, List, [], ◌∷◌, Option, Some, None, IsSome, slice_index_or, slice_set, if◌then◌else◌}
use Rattle.directory.specs.declared.range.Range.{Range}
use Rattle.bucket_page.specs.declared.record_key.RecordKey.{RecordKey}
use Rattle.bucket_page.specs.declared.page.PageKind.{PageKind}
use Rattle.bucket_page.specs.declared.page.PageKind.TheVariants as kinds
use Rattle.bucket_page.specs.Bucket.{Bucket}
use Rattle.bucket_page.specs.Records.{Pair, lookup}
use Rattle.bucket_page.specs.Changes.{inserted, replaced, removed}
use Rattle.bucket_page.specs.Dividing.{lower_half, upper_half, joined}
use Rattle.bucket_page.specs.directory.declared.header.Header.{Header}
use Rattle.bucket_page.specs.directory.Entries.{page_of, is_upper, is_in_range}
use Rattle.hash_file.specs.Store.{Store, entry_at, bucket_at, records_at, next_at}

abbrev pub with_page : ℕ → PageKind → Store → Store
with_page n page s = record s { pages = slice_set s.pages n page }

abbrev pub with_bucket : ℕ → Bucket → Store → Store
with_bucket n b s = with_page n (kinds.Bucket b) s

abbrev pub with_header : Header → Store → Store
with_header h s = record s { header = h }

-- ---- a record

-- one record is put, replaced or removed
pub data RecordWrite : Type 0 where
  Put : Pair → RecordWrite
  Replace : Pair → RecordWrite
  Remove : RecordKey → RecordWrite

abbrev pub key_of : RecordWrite → RecordKey
key_of (Put p) = p.key
key_of (Replace p) = p.key
key_of (Remove key) = key

abbrev pub value_after : RecordWrite → Option (List ℕ)
value_after (Put p) = Some p.value
value_after (Replace p) = Some p.value
value_after (Remove key) = None

abbrev pub records_after : RecordWrite → List Pair → List Pair
records_after (Put p) ps = inserted p ps
records_after (Replace p) ps = replaced p ps
records_after (Remove key) ps = removed key ps

-- what is put was absent, what is replaced was there
abbrev pub MayWrite : RecordWrite → List Pair → Type 0
MayWrite (Put p) ps = lookup p.key ps ≡ None
MayWrite (Replace p) ps = IsSome (lookup p.key ps)
MayWrite (Remove key) ps = Unit {0}

abbrev pub write_record : ℕ → RecordWrite → Store → Store
write_record n w s = with_bucket n (record (bucket_at s n) { records = records_after w (records_at s n) }) s

-- ---- a split

abbrev pub take_page : Store → Store
take_page s = with_header (record s.header { first_free = next_at s s.header.first_free }) s

-- the list where each element is made of its place and itself; the first has the place that is told
abbrev pub mapped_from : ℕ → (ℕ → ℕ → ℕ) → List ℕ → List ℕ
mapped_from i change [] = []
mapped_from i change (e ∷ es) = change i e ∷ mapped_from (suc i) change es

-- on one page of the directory, each entry of the upper half becomes that of the lower half with the same low bits
abbrev pub copy_directory : ℕ → Store → Store
copy_directory page s = record s {
  entries = mapped_from 0 (λ (i e : ℕ). if page_of i == page && is_upper s.header.depth i
      then entry_at s (i - 2 ^ s.header.depth) else e) s.entries;
}

abbrev pub raise_depth : Store → Store
raise_depth s = with_header (record s.header { depth = s.header.depth + 1 }) s

abbrev pub write_new : (RecordKey → ℕ) → ℕ → ℕ → Store → Store
write_new hash old new s = with_bucket new (upper_half hash (bucket_at s old)) s

abbrev pub write_old : (RecordKey → ℕ) → ℕ → ℕ → Store → Store
write_old hash old new s = with_bucket old (lower_half hash new (bucket_at s old)) s

-- on one page of the directory, the entries of a range come to name page n
abbrev pub retarget : ℕ → Range → ℕ → Store → Store
retarget page r n s = record s {
  entries = mapped_from 0 (λ (i e : ℕ). if page_of i == page
      && is_in_range s.header.depth r i
      then n else e) s.entries;
}

abbrev pub set_counts : List ℕ → Store → Store
set_counts counts s = with_header (record s.header { counts = counts }) s

-- the counts where a bucket of a depth was split into two
abbrev pub split_counts : ℕ → List ℕ → List ℕ
split_counts depth counts =
    let fewer : List ℕ = slice_set counts depth (slice_index_or counts depth 0 - 1) in
    slice_set fewer (suc depth) (slice_index_or counts (suc depth) 0 + 2)

-- the counts where two were merged into a bucket of a depth
abbrev pub merge_counts : ℕ → List ℕ → List ℕ
merge_counts depth counts =
    let more : List ℕ = slice_set counts depth (slice_index_or counts depth 0 + 1) in
    slice_set more (suc depth) (slice_index_or counts (suc depth) 0 - 2)

-- ---- a merge

abbrev pub write_left : ℕ → ℕ → Store → Store
write_left left right s = with_bucket left (joined (bucket_at s left) (bucket_at s right)) s

abbrev pub write_tombstone : ℕ → ℕ → Store → Store
write_tombstone left right s = with_page right (kinds.Tombstone left) s

abbrev pub write_free : ℕ → Store → Store
write_free right s = with_page right (kinds.Free s.header.first_free) s

abbrev pub link_free : ℕ → Store → Store
link_free right s = with_header (record s.header { first_free = right }) s

abbrev pub lower_depth : Store → Store
lower_depth s = with_header (record s.header { depth = s.header.depth - 1 }) s
