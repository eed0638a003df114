-- What an outline tells of a page.
use Rattle.std.proofs.Common.{ℕ, ◌≡◌, ◌<◌, false, List, length, slice_index_or, get_or-take, lit<, sym, ap, ◌∙◌, arith}
use Rattle.std.proofs.lemmas.List.{get_or-map, length-map, get_or-replicate}
use Rattle.directory.specs.declared.header.Header.{Header}
use Rattle.bucket_page.specs.declared.page.PageKind.{PageKind}
use Rattle.bucket_page.specs.declared.page.PageKind.TheVariants as kinds
use Rattle.hash_file.specs.declared.page.Shape.{Shape}
use Rattle.hash_file.specs.Store.{Store, is_bucket, bucket_of, has_bucket, IsFreePage, next_at}
use Rattle.file_walk.specs.declared.form.Form.{Form}
use Rattle.file_walk.specs.declared.form.Form.TheVariants as forms
use Rattle.file_walk.specs.Outlines.{shown_in, shown, shape_of_bucket, IsKeptAt, IsBucketAt, IsFreeAt, IsOutlineIn, IsOutlined}
use Rattle.directory.specs.declared.layout.Layout.{Layout}
use Rattle.directory.specs.Layouts.{IsLayout}

module _ (s : Store) (n : ℕ) where
  pub bucket_kept : (shape : Shape) → IsKeptAt s n (forms.Bucket shape) → IsBucketAt s n shape
  bucket_kept shape k = record {
    within = k.within;
    live = ap is_bucket k.kept;
    shaped = sym (ap (λ (p : PageKind). shape_of_bucket (bucket_of p)) k.kept);
  }

  pub no_bucket_kept : (form : Form) → IsKeptAt s n form → is_bucket (shown form) ≡ false → has_bucket s n ≡ false
  no_bucket_kept form k other = ap is_bucket k.kept ∙ other

  pub free_kept : (next : ℕ) → IsKeptAt s n (forms.Free next) → IsFreeAt s n next
  free_kept next k =
      let link : next_at s n ≡ next = ap (λ (p : PageKind). (bucket_of p).next) k.kept in
      record { within = k.within; free = k.kept ∙ ap (λ m. kinds.Free m) (sym link); next_is = sym link }

  pub not_free_kept : (form : Form) → IsKeptAt s n form → ((next : ℕ) → shown form ≡ kinds.Free next → ⊥) →
      IsFreePage s n × (n < length s.pages) → ⊥
  not_free_kept form k other = λ free. other (next_at s n) (sym k.kept ∙ free.0)

module _ (l : Layout) (laid : IsLayout l) where
  -- what each outline shows
  pub outline_shows : (h : Header) (es : List ℕ) (fs : List Form) → IsOutlineIn l h es fs
      → IsOutlined (shown_in l h es fs)
  outline_shows h es fs o = record {
    greatest = laid.depth;
    depth = o.depth;
    counts = o.counts;
    entries = o.below;
    pages = length-map fs shown ∙ o.pages;
    least = omega (arith, o.least);
    most = o.most;
    low = λ n below.
        let long : n < length fs =
        let least = o.least in let pages = o.pages in omega arith in
        get_or-map shown fs n forms.Other (kinds.Free 0) long
        ∙ ap shown (sym (get_or-take l.root_page fs n forms.Other below)
        ∙ ap (λ xs. slice_index_or xs n forms.Other) o.low
        ∙ get_or-replicate l.root_page n forms.Other forms.Other below);
  }
