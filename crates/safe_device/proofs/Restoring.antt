-- What images put back make of pages.
use Rattle.std.proofs.Common.{◌≡◌, ◌≢◌, ◌⊎◌, inl, inr, ℕ, zero, suc, ◌+◌, ◌<◌, ◌≤◌, List, [], ◌∷◌, ◌++◌}
use Rattle.std.proofs.Common.{length, take, set, get_or, slice_get, Some, refl, sym, ◌∙◌, ap, subst, arith}
use Rattle.std.proofs.Common.{All, Contains, length-set, Option, None}
use Rattle.std.proofs.lemmas.List.{set-set, set_comm, take-take, take-append-le, take-set-le, take_all, length-take}
use Rattle.std.proofs.lemmas.Int.{clamps}
use Rattle.std.proofs.lemmas.Bool.{cases_eq}
use Rattle.safe_device.specs.Left.{Saved, put_back, restored, recovered_by, found_of, images_of}
use Rattle.safe_device.specs.Crash.{IsTornAt}
use Rattle.safe_device.specs.Safe.{numbers, Fits}
use Rattle.safe_device.specs.declared.journal.Journal.{Journal}
use Rattle.safe_device.specs.declared.page_pair.FoundJournal.{FoundJournal}
use Rattle.safe_device.specs.declared.journal.PageImage.{PageImage}

abbrev pub Pages : Type 0
Pages = List (List ℕ)

abbrev pub saved : Pages → List (List ℕ) → Saved
saved pages calls = record { pages = pages; calls = calls }

-- an image that is no one's, where a term for one is needed
abbrev pub no_image : PageImage
no_image = record { page = 0; bytes = [] }

-- each image shows what stands there
abbrev pub Shows : Pages → List PageImage → Type 0
Shows pages images = All (λ (image : PageImage). slice_get pages image.page ≡ Some image.bytes) images

pub set_same : (xs : Pages) (p : ℕ) (v : List ℕ) → slice_get xs p ≡ Some v → set xs p v ≡ xs
set_same [] p v is = refl
set_same (x ∷ xs) zero v is = let same : v ≡ x = cc in ap (λ (y : List ℕ). y ∷ xs) same
set_same (x ∷ xs) (suc p) v is = ap (λ (ys : Pages). x ∷ ys) (set_same xs p v is)

pub get_set : (xs : Pages) (p q : ℕ) (v : List ℕ) → p ≢ q → slice_get (set xs q v) p ≡ slice_get xs p
get_set [] p q v apart = refl
get_set (x ∷ xs) zero zero v apart = absurd (apart refl)
get_set (x ∷ xs) zero (suc q) v apart = refl
get_set (x ∷ xs) (suc p) zero v apart = refl
get_set (x ∷ xs) (suc p) (suc q) v apart = get_set xs p q v (λ same. apart (ap suc same))

get_set_here : (xs : Pages) (p : ℕ) (old new : List ℕ) → slice_get xs p ≡ Some old
    → slice_get (set xs p new) p ≡ Some new
get_set_here [] p old new is = absurd cc
get_set_here (x ∷ xs) zero old new is = refl
get_set_here (x ∷ xs) (suc p) old new is = get_set_here xs p old new is

pub get_take : (n : ℕ) (xs : Pages) (p : ℕ) → p < n → slice_get (take n xs) p ≡ slice_get xs p
get_take zero xs p lt = absurd (omega arith)
get_take (suc n) [] p lt = refl
get_take (suc n) (x ∷ xs) zero lt = refl
get_take (suc n) (x ∷ xs) (suc p) lt = get_take n xs p (omega arith)

take_set : (n : ℕ) (xs : Pages) (p : ℕ) (v : List ℕ) → take n (set xs p v) ≡ set (take n xs) p v
take_set zero xs p v = refl
take_set (suc n) [] p v = refl
take_set (suc n) (x ∷ xs) zero v = refl
take_set (suc n) (x ∷ xs) (suc p) v = ap (λ (ys : Pages). x ∷ ys) (take_set n xs p v)

pub put_back-append : (pages : Pages) (xs ys : List PageImage)
    → put_back pages (xs ++ ys) ≡ put_back (put_back pages xs) ys
put_back-append pages [] ys = refl
put_back-append pages (x ∷ xs) ys = put_back-append (set pages x.page x.bytes) xs ys

pub length-put_back : (pages : Pages) (images : List PageImage) → length (put_back pages images) ≡ length pages
length-put_back pages [] = refl
length-put_back pages (image ∷ images) =
    length-put_back (set pages image.page image.bytes) images ∙ length-set pages image.page image.bytes

-- images of what stands there change nothing
pub put_back-same : (pages : Pages) (images : List PageImage) → Shows pages images → put_back pages images ≡ pages
put_back-same pages [] all = refl
put_back-same pages (image ∷ images) all =
    let head : set pages image.page image.bytes ≡ pages =
    set_same pages image.page image.bytes (all 0 image (omega arith)) in
    ap (λ (ps : Pages). put_back ps images) head
    ∙ put_back-same pages images (λ k d lt. all (suc k) d (omega arith))

-- a page that has an image may hold anything
hidden_here : (pages : Pages) (image : PageImage) (p : ℕ) (v : List ℕ) → image.page ≡ p
    → set (set pages p v) image.page image.bytes ≡ set pages image.page image.bytes
hidden_here pages image p v is =
    subst (λ (q : ℕ). set (set pages q v) image.page image.bytes ≡ set pages image.page image.bytes) is
    (set-set pages image.page v image.bytes)

hidden : (pages : Pages) (images : List PageImage) (p : ℕ) (v : List ℕ) (k : ℕ) → k < length (numbers images)
    → get_or (numbers images) k p ≡ p → put_back (set pages p v) images ≡ put_back pages images
hidden pages [] p v k lt is = absurd (omega arith)
hidden pages (image ∷ images) p v zero lt is =
    ap (λ (ps : Pages). put_back ps images) (hidden_here pages image p v is)
hidden pages (image ∷ images) p v (suc k) lt is = elim (cases_eq image.page p) [
  | inl same ↦ ap (λ (ps : Pages). put_back ps images) (hidden_here pages image p v same)
  | inr apart ↦
      let swapped : set (set pages p v) image.page image.bytes ≡ set (set pages image.page image.bytes) p v =
      set_comm pages p image.page v image.bytes (λ same. apart (sym same)) in
      ap (λ (ps : Pages). put_back ps images) swapped
      ∙ hidden (set pages image.page image.bytes) images p v k (omega arith) is
]

-- a page that has none is as it was
shown : (pages : Pages) (images : List PageImage) (p : ℕ) → (Contains (numbers images) p → ⊥)
    → slice_get (put_back pages images) p ≡ slice_get pages p
shown pages [] p none = refl
shown pages (image ∷ images) p none =
    shown (set pages image.page image.bytes) images p (λ has. none (suc has.0, omega (arith, has.1), has.2))
    ∙ get_set pages p image.page image.bytes (λ same. none (0, omega arith, sym same))

pub shown_restored : (count : ℕ) (images : List PageImage) (pages : Pages) (p : ℕ) → p < count
    → (Contains (numbers images) p → ⊥) → slice_get (restored count images pages) p ≡ slice_get pages p
shown_restored count images pages p lt none = shown (take count pages) images p none ∙ get_take count pages p lt

-- the page may be written: it has an image, or it was added
abbrev pub MayWrite : ℕ → List PageImage → ℕ → Type 0
MayWrite count images p = Contains (numbers images) p ⊎ (count ≤ p)

pub restored_torn : (count : ℕ) (images : List PageImage) (pages : Pages) (p : ℕ) (v : List ℕ)
    → MayWrite count images p → restored count images (set pages p v) ≡ restored count images pages
restored_torn count images pages p v (inl has) =
    ap (λ (ps : Pages). put_back ps images) (take_set count pages p v)
    ∙ hidden (take count pages) images p v has.0 has.1 has.2
restored_torn count images pages p v (inr le) =
    ap (λ (ps : Pages). put_back ps images) (take-set-le count pages p v le)

pub restored_longer : (count : ℕ) (images : List PageImage) (pages more : Pages) → count ≤ length pages
    → restored count images (pages ++ more) ≡ restored count images pages
restored_longer count images pages more le =
    ap (λ (ps : Pages). put_back ps images) (take-append-le count pages more le)

pub restored_cut : (count : ℕ) (images : List PageImage) (pages : Pages) (end : ℕ) → count ≤ end
    → restored count images (take end pages) ≡ restored count images pages
restored_cut count images pages end le = ap (λ (ps : Pages). put_back ps images) (take-take count end pages le)

-- what is restored alike is recovered alike
pub recovered_alike : (j : Journal) (old new : Pages)
    → restored j.count j.images new ≡ restored j.count j.images old
    → recovered_by (Some j) new ≡ recovered_by (Some j) old
recovered_alike j old new is = ap (λ (ps : Pages). saved ps j.calls) is

-- images up to one that is found at a place, and with it
one_more : (images : List PageImage) (i : ℕ) (image : PageImage) → slice_get images i ≡ Some image
    → take (suc i) images ≡ take i images ++ image ∷ []
one_more [] i image is = absurd cc
one_more (x ∷ xs) zero image is = let same : x ≡ image = cc in ap (λ (y : PageImage). y ∷ []) same
one_more (x ∷ xs) (suc i) image is = ap (λ (ys : List PageImage). x ∷ ys) (one_more xs i image is)

pub take_found : (images : List PageImage) (i : ℕ) (image : PageImage) → slice_get images i ≡ Some image
    → take (i + 1) images ≡ take i images ++ image ∷ []
take_found images i image is =
    let next : i + 1 ≡ suc i = omega arith in ap (λ (n : ℕ). take n images) next ∙ one_more images i image is

pub put_back_found : (pages : Pages) (images : List PageImage) (i : ℕ) (image : PageImage)
    → slice_get images i ≡ Some image
    → put_back pages (take (i + 1) images) ≡ set (put_back pages (take i images)) image.page image.bytes
put_back_found pages images i image is =
    ap (λ (xs : List PageImage). put_back pages xs) (take_found images i image is)
    ∙ put_back-append pages (take i images) (image ∷ [])

pub number_found : (images : List PageImage) (i : ℕ) (image : PageImage) → slice_get images i ≡ Some image
    → Contains (numbers images) image.page
number_found [] i image is = absurd cc
number_found (x ∷ xs) zero image is =
    let same : x ≡ image = cc in (0, omega arith, ap (λ (y : PageImage). y.page) same)
number_found (x ∷ xs) (suc i) image is =
    let has = number_found xs i image is in (suc has.0, omega (arith, has.1), has.2)

-- images that are all of pages which were there
pub fits_all : (q : Option Journal) (found : FoundJournal) (pages : Pages) (k : ℕ) → Some found ≡ found_of q
    → found.count ≤ length pages → found.images ≤ k
    → All (λ (image : PageImage). image.page < found.count) (take k (images_of q)) → Fits q pages
fits_all None found pages k is counts many all = absurd cc
fits_all (Some j) found pages k is counts many all =
    let same : found ≡ record { count = j.count; calls = length j.calls; images = length j.images } = cc in
    let count_is : found.count ≡ j.count = ap (λ (f : FoundJournal). f.count) same in
    let images_is : found.images ≡ length j.images = ap (λ (f : FoundJournal). f.images) same in
    let whole : take k j.images ≡ j.images = take_all k j.images (omega (arith, images_is)) in
    let of_all = subst (λ (xs : List PageImage). All (λ (image : PageImage). image.page < found.count) xs) whole all in
    (omega (arith, count_is), subst (λ (n : ℕ). All (λ (image : PageImage). image.page < n) j.images) count_is of_all)

-- a page that has an image is torn
pub torn_hidden : (count : ℕ) (images : List PageImage) (page : ℕ) (old new : Pages)
    → Contains (numbers images) page → IsTornAt page old new → restored count images new ≡ restored count images old
torn_hidden count images page old new has (inl same) = ap (λ (ps : Pages). restored count images ps) same
torn_hidden count images page old new has (inr torn) =
    ap (λ (ps : Pages). restored count images ps) torn.1 ∙ restored_torn count images old page torn.0 (inl has)

-- pages that restore to the same whatever their count are as many, or more
pub others_longer : (images : List PageImage) (old new : Pages)
    → ((count : ℕ) → restored count images new ≡ restored count images old) → length old ≤ length new
others_longer images old new others =
    let n = length old in
    let same : length (restored n images new) ≡ length (restored n images old) = ap length (others n) in
    omega (
      arith,
      clamps,
      same,
      length-put_back (take n new) images,
      length-put_back (take n old) images,
      length-take n new,
      length-take n old,
    )

-- an image is laid over what stands in its place
pub laid_over : (pages : Pages) (images : List PageImage) (k : ℕ) (image : PageImage) (page : ℕ) (old new : List ℕ)
    → slice_get images k ≡ Some image → slice_get (put_back pages (take k images)) page ≡ Some old
    → ((image.page ≡ page) × (new ≡ image.bytes)) ⊎ ((image.page ≡ page → ⊥) × (new ≡ old))
    → slice_get (put_back pages (take (k + 1) images)) page ≡ Some new
laid_over pages images k image page old new found is (inl here) =
    let so_far = put_back pages (take k images) in
    ap (λ (ps : Pages). slice_get ps page) (put_back_found pages images k image found)
    ∙ ap (λ (p : ℕ). slice_get (set so_far p image.bytes) page) here.0
    ∙ get_set_here so_far page old image.bytes is
    ∙ ap Some (sym here.1)
laid_over pages images k image page old new found is (inr other) =
    let so_far = put_back pages (take k images) in
    ap (λ (ps : Pages). slice_get ps page) (put_back_found pages images k image found)
    ∙ get_set so_far page image.page image.bytes (λ same. other.0 (sym same))
    ∙ is
    ∙ ap Some (sym other.1)
