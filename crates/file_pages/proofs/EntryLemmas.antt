-- The file once a page of its directory was written: each of its entries is made of its place and itself.
use Rattle.std.proofs.Common.{◌≡◌, refl, ◌∙◌, sym, ap, subst, ℕ, zero, suc, ◌+◌, ◌-◌, ◌<◌, ◌≤◌, ◌^◌, ◌==◌, Bool, true, false, ◌&&◌, List, [], ◌∷◌, ◌++◌, length, arith}
use Rattle.std.proofs.Common.{◌⊎◌, inl, inr, if◌then◌else◌, nat_lt}
use Rattle.std.proofs.lemmas.Bool.{cases_eq, eq-eqb, lt-ltb, ne_eqb}
use Rattle.std.proofs.lemmas.List.{get_or-set_same, length-set}
use Rattle.bucket_page.specs.declared.page.PageKind.TheVariants as kinds
use Rattle.bucket_page.specs.Reading.{page_in}
use Rattle.bucket_page.specs.Spelling.{Spells}
use Rattle.directory.specs.declared.range.Range.{Range}
use Rattle.directory.specs.declared.layout.TheConstants.{DIRECTORY_PAGES, FIRST_DIRECTORY_PAGE, GREATEST_DEPTH, ROOT_PAGE}
use Rattle.directory.specs.Entries.{copied, entry_in, is_in_range, is_upper, page_of, retargeted}
use Rattle.directory.specs.Pages.{IsDirectoryPage}
use Rattle.directory.specs.Reading.{header_at}
use Rattle.buffer_pool.specs.Forms.{IsHeaderPage}
use Rattle.hash_file.specs.Store.{Store, entry_at}
use Rattle.hash_file.specs.Changes.{copy_directory, mapped_from, retarget}
use Rattle.file_pages.specs.Entries.{IsLowerHalf}
use Rattle.file_pages.specs.Files.{SpellsFile, entries_of, entry_on, image, kind_on, listed, store_of}
use Rattle.file_pages.proofs.StoreLemmas.{entry_is, length-listed, listed_same}
use Rattle.file_pages.proofs.WriteLemmas.{after, other_image}

mapped_push : (i : ℕ) (f : ℕ → ℕ → ℕ) (xs : List ℕ) (x : ℕ)
    → mapped_from i f (xs ++ x ∷ []) ≡ mapped_from i f xs ++ f (i + length xs) x ∷ []
mapped_push i f [] x = let same : i ≡ i + 0 = omega arith in ap (λ n. f n x ∷ []) same
mapped_push i f (y ∷ ys) x =
    let same : suc i + length ys ≡ i + suc (length ys) = omega arith in
    ap (λ zs. f i y ∷ zs) (mapped_push (suc i) f ys x ∙ ap (λ n. mapped_from (suc i) f ys ++ f n x ∷ []) same)

pub mapped_listed : (n : ℕ) (f : ℕ → ℕ → ℕ) (at : ℕ → ℕ) → mapped_from 0 f (listed n at) ≡ listed n (λ k. f k (at k))
mapped_listed zero f at = refl
mapped_listed (suc n) f at =
    let longer = length-listed n at in
    let size : 0 + length (listed n at) ≡ n = omega (arith, longer) in
    mapped_push 0 f (listed n at) (at n)
    ∙ ap (λ m. mapped_from 0 f (listed n at) ++ f m (at n) ∷ []) size
    ∙ ap (λ xs. xs ++ f n (at n) ∷ []) (mapped_listed n f at)

module _ (images : List (List ℕ)) (n : ℕ) (new : List ℕ) (first : FIRST_DIRECTORY_PAGE ≤ n) (last : n ≤ DIRECTORY_PAGES)
    (within : n < length images) where
  new_image : image (after images n new) n ≡ new
  new_image = get_or-set_same images n new [] within

  -- the entries that stand on the page become what they are made of, and the others stay
  module _ (ask : ℕ → Bool) (become : ℕ → ℕ)
      (on : (i : ℕ) → i < 2 ^ GREATEST_DEPTH → page_of i ≡ n
      → entry_in new i ≡ (if ask i then become i else entry_on images i)) where
    abbrev change : ℕ → ℕ → ℕ
    change i e = if page_of i == n && ask i then become i else e

    each : (i : ℕ) → i < 2 ^ GREATEST_DEPTH → entry_on (after images n new) i ≡ change i (entry_on images i)
    each i small = at (cases_eq (page_of i) n)
      where
        at : (page_of i ≡ n) ⊎ (page_of i ≡ n → ⊥) → entry_on (after images n new) i ≡ change i (entry_on images i)
        at (inl here) =
            ap (λ (p : List ℕ). entry_in p i) (ap (image (after images n new)) here ∙ new_image)
            ∙ on i small here
            ∙ ap (λ (b : Bool). if b && ask i then become i else entry_on images i) (sym (eq-eqb (page_of i) n here))
        at (inr other) =
            ap (λ (p : List ℕ). entry_in p i) (other_image images n new (page_of i) other)
            ∙ ap (λ (b : Bool). if b && ask i then become i else entry_on images i) (sym (ne_eqb (page_of i) n other))

    pub directory_set : store_of (after images n new)
        ≡ record (store_of images) { entries = mapped_from 0 change (store_of images).entries }
    unfolding store_of entries_of
    directory_set = λ j. record {
      layout = (store_of images).layout;
      header = ap header_at (other_image images n new 0 (λ same. omega (arith, same, first))) j;
      entries = entries j;
      pages = pages j;
    }
      where
        entries : listed (2 ^ GREATEST_DEPTH) (entry_on (after images n new))
            ≡ mapped_from 0 change (listed (2 ^ GREATEST_DEPTH) (entry_on images))
        entries =
            listed_same (2 ^ GREATEST_DEPTH) (λ i. change i (entry_on images i)) (entry_on (after images n new)) each
            ∙ sym (mapped_listed (2 ^ GREATEST_DEPTH) change (entry_on images))

        kind : (k : ℕ) → (k ≡ n) ⊎ (k ≡ n → ⊥) → kind_on (after images n new) k ≡ kind_on images k
        kind k (inl same) =
            let below : k < ROOT_PAGE = omega (arith, same, last) in
            rw (lt-ltb k ROOT_PAGE below) refl
        kind k (inr other) = ap (λ (bytes : List ℕ). if nat_lt k ROOT_PAGE then kinds.Free 0 else page_in bytes)
            (other_image images n new k other)

        pages : listed (length (after images n new)) (kind_on (after images n new))
            ≡ listed (length images) (kind_on images)
        pages =
            ap (λ (m : ℕ). listed m (kind_on (after images n new))) (length-set images n new)
            ∙ listed_same (length images) (kind_on images) (kind_on (after images n new)) (λ k _. kind k (cases_eq k n))

  pub directory_file : IsDirectoryPage new → SpellsFile images → SpellsFile (after images n new)
  directory_file it f = record {
    least = subst (λ m. ROOT_PAGE < m) (sym (length-set images n new)) f.least;
    header = subst IsHeaderPage (sym (other_image images n new 0 (λ same. omega (arith, same, first)))) f.header;
    directory = λ m first' last'. at m first' last' (cases_eq m n);
    spelled = λ m behind within'.
        subst (λ (bytes : List ℕ). Spells (page_in bytes) bytes)
        (sym (other_image images n new m (λ same. omega (arith, same, behind, last))))
        (f.spelled m behind (subst (λ k. m < k) (length-set images n new) within'));
  }
    where
      at : (m : ℕ) → FIRST_DIRECTORY_PAGE ≤ m → m ≤ DIRECTORY_PAGES → (m ≡ n) ⊎ (m ≡ n → ⊥)
          → IsDirectoryPage (image (after images n new) m)
      at m first' last' (inl same) = subst IsDirectoryPage (sym (ap (image (after images n new)) same ∙ new_image)) it
      at m first' last' (inr other) = subst IsDirectoryPage (sym (other_image images n new m other))
          (f.directory m first' last')

  -- the page whose upper half was copied from this one
  pub copied_set : (depth : ℕ) (old lower : List ℕ) → image images n ≡ old → IsLowerHalf n depth lower images
      → ((i : ℕ) → page_of i ≡ n → entry_in new i ≡ copied depth lower old i)
      → store_of (after images n new) ≡ copy_directory n (store_of images)
  copied_set depth old lower was half says =
      directory_set (λ i. is_upper (store_of images).header.depth i)
      (λ i. entry_at (store_of images) (i - 2 ^ (store_of images).header.depth)) on
    where
      s : Store
      s = store_of images

      same : depth ≡ s.header.depth
      same = half.is_depth

      pick : (i : ℕ) (upper : Bool) → i < 2 ^ GREATEST_DEPTH → page_of i ≡ n → is_upper depth i ≡ upper
          → (if upper then entry_in lower (i - 2 ^ depth) else entry_in old i)
          ≡ (if upper then entry_at s (i - 2 ^ depth) else entry_on images i)
      pick i true small here test =
          ap (λ (p : List ℕ). entry_in p (i - 2 ^ depth)) (sym (half.stands i here test))
          ∙ sym (entry_is images (i - 2 ^ depth) (omega (arith, small)))
      pick i false small here test = ap (λ (p : List ℕ). entry_in p i) (sym was ∙ ap (image images) (sym here))

      on : (i : ℕ) → i < 2 ^ GREATEST_DEPTH → page_of i ≡ n
          → entry_in new i ≡ (if is_upper s.header.depth i then entry_at s (i - 2 ^ s.header.depth) else entry_on
          images i)
      on i small here =
          says i here ∙ pick i (is_upper depth i) small here refl
          ∙ ap (λ (d : ℕ). if is_upper d i then entry_at s (i - 2 ^ d) else entry_on images i) same

  -- the page on which the entries of a range were made to name a bucket's page
  pub retargeted_set : (depth : ℕ) (range : Range) (bucket : ℕ) (old : List ℕ) → image images n ≡ old
      → depth ≡ (store_of images).header.depth
      → ((i : ℕ) → page_of i ≡ n → entry_in new i ≡ retargeted depth range bucket old i)
      → store_of (after images n new) ≡ retarget n range bucket (store_of images)
  retargeted_set depth range bucket old was same says =
      directory_set (λ i. is_in_range (store_of images).header.depth range i) (λ _. bucket) on
    where
      on : (i : ℕ) → i < 2 ^ GREATEST_DEPTH → page_of i ≡ n
          → entry_in new i ≡ (if is_in_range (store_of images).header.depth range i then bucket else entry_on images i)
      on i small here =
          says i here
          ∙ ap (λ (p : List ℕ). if is_in_range depth range i then bucket else entry_in p i)
          (sym was ∙ ap (image images) (sym here))
          ∙ ap (λ (d : ℕ). if is_in_range d range i then bucket else entry_on images i) same
