-- A header that was read, changed and written.
use Rattle.std.proofs.Common.{◌≡◌, ◌∙◌, sym, ap, subst, ℕ, ◌≤◌, List, IsTrue, Result, Ok, Err, IfOk, OnOk, OnErr, true}
use Rattle.std.proofs.Common.{◌+◌, ◌-◌, ◌<◌, length, suc, arith, slice_index, slice_set, Option, Some, None, IfNone}
use Rattle.buffer_pool.specs.Pool.{PoolState}
use Rattle.directory.specs.declared.header.Header.{Header}
use Rattle.bucket_page.specs.declared.page.PageKind.{PageKind}
use Rattle.bucket_page.specs.declared.page.PageKind.TheVariants as kinds
use Rattle.hash_file.specs.Store.{IsFreePage, Store, bucket_of, next_at, page_at}
use Rattle.hash_file.specs.Changes.{merge_counts, split_counts, with_header}
use Rattle.file_pages.specs.declared.fault.FileFault.{FileFault}
use Rattle.file_pages.specs.Files.{store_of}
use Rattle.directory.specs.declared.layout.TheConstants.{ROOT_PAGE}
use Rattle.file_pages.specs.Headers.{HasFreePage}
use Rattle.file_pages.specs.Reads.{OnlyReads}
use Rattle.file_pages.proofs.StoreLemmas.{pages_are}

-- the header that was read is the file's, so what is written is the change of the file's
pub header_changed : {T E : Type 0} (r : Result T E) (s t v : PoolState) (header changed : Header)
    (change : Header → Header)
    → IsTrue s.honest → OnlyReads true s t → header ≡ (store_of s.images).header → changed ≡ change header
    → (IsTrue t.honest → OnOk r (store_of v.images ≡ with_header changed (store_of t.images)))
    → OnOk r (store_of v.images ≡ with_header (change (store_of s.images).header) (store_of s.images))
header_changed (Ok value) s t v header changed change honest reads is made written =
    written (reads.honest ∙ honest)
    ∙ (λ j. with_header ((made ∙ ap change is) j) (store_of (reads.images honest j)))
header_changed (Err fault) s t v header changed change honest reads is made written = tt

-- what a write after a read leaves where it fails
pub nothing_changed : {T E : Type 0} (r : Result T E) (s t v : PoolState) → IsTrue s.honest → OnlyReads true s t
    → (IsTrue t.honest → OnErr r (v.images ≡ t.images)) → OnErr r (v.images ≡ s.images)
nothing_changed (Ok value) s t v honest reads same = tt
nothing_changed (Err fault) s t v honest reads same = same (reads.honest ∙ honest) ∙ reads.images honest

-- what a free page names is what follows it
pub next_is : (s : Store) (page : ℕ) {read : PageKind} (r : Result ℕ FileFault) → page_at s page ≡ read
    → IfOk r (λ next. read ≡ kinds.Free next) → IfOk r (λ next. next ≡ next_at s page)
next_is s page (Ok next) was free = sym (ap (λ (p : PageKind). (bucket_of p).next) (was ∙ free))
next_is s page (Err fault) was free = tt

-- what holds where there is none
pub of_none : {X : Type 0} {P : Type 0} (o : Option X) → IfNone o P → o ≡ None → P
of_none None it none = it
of_none (Some x) it none = absurd cc

-- ---- counts

pub split_header : (h a b : Header) (depth wholes halves : ℕ) → wholes ≡ slice_index h.counts depth
    → halves ≡ slice_index h.counts (depth + 1) → a ≡ record h { counts = slice_set h.counts depth (wholes - 1) }
    → b ≡ record a { counts = slice_set a.counts (depth + 1) (halves + 2) }
    → b ≡ record h { counts = split_counts depth h.counts }
split_header h a b depth wholes halves whole half first second =
    let next : depth + 1 ≡ suc depth = omega arith in
    second ∙ ap (λ (g : Header). record g { counts = slice_set g.counts (depth + 1) (halves + 2) }) first
    ∙ (λ j. record h { counts = slice_set (slice_set h.counts depth (whole j - 1)) (next j) (half j + 2) })
    ∙ ap (λ n. record h {
      counts = slice_set (slice_set h.counts depth (slice_index h.counts depth - 1)) (suc depth)
          (slice_index h.counts n + 2);
    }) next

pub merge_header : (h a b : Header) (depth wholes halves : ℕ) → wholes ≡ slice_index h.counts depth
    → halves ≡ slice_index h.counts (depth + 1) → a ≡ record h { counts = slice_set h.counts depth (wholes + 1) }
    → b ≡ record a { counts = slice_set a.counts (depth + 1) (halves - 2) }
    → b ≡ record h { counts = merge_counts depth h.counts }
merge_header h a b depth wholes halves whole half first second =
    let next : depth + 1 ≡ suc depth = omega arith in
    second ∙ ap (λ (g : Header). record g { counts = slice_set g.counts (depth + 1) (halves - 2) }) first
    ∙ (λ j. record h { counts = slice_set (slice_set h.counts depth (whole j + 1)) (next j) (half j - 2) })
    ∙ ap (λ n. record h {
      counts = slice_set (slice_set h.counts depth (slice_index h.counts depth + 1)) (suc depth)
          (slice_index h.counts n - 2);
    }) next

-- ---- the first free page

pub record IsFreeThere (images : List (List ℕ)) (page : ℕ) : Type 0 where
  pub behind : ROOT_PAGE ≤ page
  pub within : page < length images
  pub free : IsFreePage (store_of images) page

-- the page that the header names as free is so after a read
pub free_there : (s t : List (List ℕ)) (page : ℕ) → t ≡ s → page ≡ (store_of s).header.first_free
    → HasFreePage (store_of s) → IsFreeThere t page
free_there s t page same is has =
    subst (λ (images : List (List ℕ)). IsFreeThere images page) (sym same)
    (subst (IsFreeThere s) (sym is) (record {
      behind = has.behind;
      within = omega (arith, pages_are s, has.within);
      free = has.free;
    }))
