-- What is left to be put back: images one after another, pages that are cut off, and a journal whose images are let go.
use Rattle.std.proofs.Common.{arith, ℕ, zero, suc, ◌≡◌, ◌≤◌, ◌<◌, ◌+◌, inl, inr, ⊎_elim, refl, sym, ap, ◌∙◌, subst, List, [], ◌∷◌, ◌++◌, length, take, set, slice_get, Option, Some, None, IsTrue, is_some, All, Contains, length-set}
use Rattle.std.proofs.lemmas.Int.{clamps}
use Rattle.std.proofs.lemmas.List.{length-take, take-take, take_all}
use Rattle.safe_device.specs.Crash.{Cleared, CutTo, Follows, HasJournal, Keeps, TornAt}
use Rattle.safe_device.specs.Left.{Left, Saved, calls_alone, calls_of, found_of, images_of, put_back, recovered, recovered_by, rest_of, restored, restored_by}
use Rattle.safe_device.specs.Safe.{Fits, IsFoundOrLeft, IsLeftBefore, IsResting, IsRestoring, numbers}
use Rattle.safe_device.specs.declared.journal.Journal.{Journal}
use Rattle.safe_device.specs.declared.journal.PageImage.{PageImage}
use Rattle.safe_device.specs.declared.page_pair.FoundJournal.{FoundJournal}
use Rattle.pair_transfers.proofs.RestoringLemmas.{by_parts, torn_kept}
use Rattle.pair_transfers.specs.Acts.{Pages}

abbrev pub saved : Pages → List (List ℕ) → Saved
saved pages calls = record { pages = pages; calls = calls }

-- what a journal says of itself
pub record SaysOf (found : FoundJournal) (j : Journal) : Type 0 where
  pub count : found.count ≡ j.count
  pub calls : found.calls ≡ length j.calls
  pub images : found.images ≡ length j.images

pub says_of : (found : FoundJournal) (j : Journal) → Some found ≡ found_of (Some j) → SaysOf found j
says_of found j is =
    let same : found ≡ record { count = j.count; calls = length j.calls; images = length j.images } = cc in
    record {
      count = ap (λ (f : FoundJournal). f.count) same;
      calls = ap (λ (f : FoundJournal). f.calls) same;
      images = ap (λ (f : FoundJournal). f.images) same;
    }

-- ---- images, one after another

put_back-append : (pages : Pages) (xs ys : List PageImage) →
    put_back pages (xs ++ ys) ≡ put_back (put_back pages xs) ys
put_back-append pages [] ys = refl
put_back-append pages (x ∷ xs) ys = put_back-append (set pages x.page x.bytes) xs ys

length-put_back : (pages : Pages) (images : List PageImage) → length (put_back pages images) ≡ length pages
length-put_back pages [] = refl
length-put_back pages (i ∷ images) =
    length-put_back (set pages i.page i.bytes) images ∙ length-set pages i.page i.bytes

one_more : (images : List PageImage) (n : ℕ) (i : PageImage) → slice_get images n ≡ Some i →
    take (suc n) images ≡ take n images ++ i ∷ []
one_more [] n i is = absurd cc
one_more (x ∷ xs) zero i is = let same : x ≡ i = cc in ap (λ (y : PageImage). y ∷ []) same
one_more (x ∷ xs) (suc n) i is = ap (λ (ys : List PageImage). x ∷ ys) (one_more xs n i is)

pub take_found : (images : List PageImage) (n : ℕ) (i : PageImage) → slice_get images n ≡ Some i →
    take (n + 1) images ≡ take n images ++ i ∷ []
take_found images n i is =
    let next : n + 1 ≡ suc n = omega arith in ap (λ (m : ℕ). take m images) next ∙ one_more images n i is

pub put_back_found : (pages : Pages) (images : List PageImage) (n : ℕ) (i : PageImage) → slice_get images n ≡ Some i →
    put_back pages (take (n + 1) images) ≡ set (put_back pages (take n images)) i.page i.bytes
put_back_found pages images n i is =
    ap (λ (xs : List PageImage). put_back pages xs) (take_found images n i is)
    ∙ put_back-append pages (take n images) (i ∷ [])

pub number_found : (images : List PageImage) (n : ℕ) (i : PageImage) → slice_get images n ≡ Some i →
    Contains (numbers images) i.page
number_found [] n i is = absurd cc
number_found (x ∷ xs) zero i is =
    let same : x ≡ i = cc in (0, omega arith, ap (λ (y : PageImage). y.page) same)
number_found (x ∷ xs) (suc n) i is =
    let has = number_found xs n i is in (suc has.0, omega (arith, has.1), has.2)

-- images that are all of pages which are there
pub fits_all : (q : Option Journal) (found : FoundJournal) (pages : Pages) (k : ℕ) → Some found ≡ found_of q →
    found.count ≤ length pages → found.images ≤ k →
    All (λ (i : PageImage). i.page < found.count) (take k (images_of q)) → Fits q pages
fits_all None found pages k is counts many all = absurd cc
fits_all (Some j) found pages k is counts many all =
    let says = says_of found j is in
    let count_is = says.count in
    let images_are = says.images in
    let whole : take k j.images ≡ j.images = take_all k j.images (omega (arith, many, images_are)) in
    let of_all = subst (λ (xs : List PageImage). All (λ (i : PageImage). i.page < found.count) xs) whole all in
    (omega (arith, count_is, counts), subst (λ (n : ℕ). All (λ (i : PageImage). i.page < n) j.images) count_is of_all)

-- ---- what recovery gives of what is left is what it gave of something before

pub left_earlier : (first old : Left → Type 0) → ((c : Left) → old c → first c) → (c : Left) → IsLeftBefore old c →
    IsLeftBefore first c
left_earlier first old kept c via = (via.0, kept via.0 via.1, via.2)

-- a page that has an image is written
restoring_step : (j : Journal) (page : ℕ) (start old new : Left → Type 0) → Contains (numbers j.images) page →
    IsRestoring (Some j) start old → Follows (TornAt page) old new → IsRestoring (Some j) start new
restoring_step j page start old new has so_far follows = record {
  journal_kept = λ c now.
      let from = follows c now in
      (torn_kept j page from.0 c (so_far.journal_kept from.0 from.1) has from.2).0;
  pages_kept = λ c now.
      let from = follows c now in
      let kept = torn_kept j page from.0 c (so_far.journal_kept from.0 from.1) has from.2 in
      let was = so_far.pages_kept from.0 from.1 in
      (was.0, was.1, kept.1 ∙ was.2);
}

pub restoring_on : (q : Option Journal) (page : ℕ) (start old new : Left → Type 0) → IsTrue (is_some q) →
    Contains (numbers (images_of q)) page → IsRestoring q start old → Follows (TornAt page) old new →
    IsRestoring q start new
restoring_on None page start old new there has so_far follows = absurd cc
restoring_on (Some j) page start old new there has so_far follows =
    restoring_step j page start old new has so_far follows

pub found_some : (q : Option Journal) (found : FoundJournal) → Some found ≡ found_of q → IsTrue (is_some q)
found_some None found is = absurd cc
found_some (Some j) found is = refl

-- pages are cut off that the journal does not count
cut_kept : (j : Journal) (d c : Left) → d.journal ≡ Some j → CutTo j.count d c →
    (c.journal ≡ Some j) × (recovered c ≡ recovered d)
cut_kept j d c journal cut =
    let kept = cut.journal ∙ journal in (
      kept,
      by_parts c (Some j) (take cut.file.0 d.file) kept cut.file.2
          ∙ ap (λ (ps : Pages). saved (put_back ps j.images) j.calls) (take-take j.count cut.file.0 d.file cut.file.1)
          ∙ sym (by_parts d (Some j) d.file journal refl),
    )

restoring_cut : (j : Journal) (old new : Left → Type 0) → ((c : Left) → old c → c.journal ≡ Some j) →
    Follows (CutTo j.count) old new → IsRestoring (Some j) old new
restoring_cut j old new journal_kept follows = record {
  journal_kept = λ c now.
      let from = follows c now in
      (cut_kept j from.0 c (journal_kept from.0 from.1) from.2).0;
  pages_kept = λ c now.
      let from = follows c now in
      (from.0, from.1, (cut_kept j from.0 c (journal_kept from.0 from.1) from.2).1);
}

pub restoring_cut_on : (q : Option Journal) (found : FoundJournal) (old new : Left → Type 0) →
    Some found ≡ found_of q → Keeps (HasJournal q) old → Follows (CutTo found.count) old new → IsRestoring q old new
restoring_cut_on None found old new is durable follows = absurd cc
restoring_cut_on (Some j) found old new is durable follows =
    let says = says_of found j is in
    restoring_cut j old new durable (subst (λ (n : ℕ). Follows (CutTo n) old new) says.count follows)

-- once the file has what the journal restores, what is left of that stands for the same
pub cleared_step : (q : Option Journal) (pages : Pages) (found : Saved) (first old new : Left → Type 0) →
    recovered_by (rest_of q) pages ≡ found → Keeps (HasJournal q) old → ((c : Left) → old c → c.file ≡ pages) →
    ((c : Left) → old c → IsLeftBefore first c) →
    Follows (Cleared q) old new → (c : Left) → new c → IsFoundOrLeft found first c
cleared_step q pages found first old new rest_is journal_kept file_kept pages_kept follows c now =
    ⊎_elim same gone from.2.left
  where
    from : (d : Left) × old d × Cleared q d c
    from = follows c now

    was : IsLeftBefore first from.0
    was = pages_kept from.0 from.1

    same : c.journal ≡ q → IsFoundOrLeft found first c
    same is =
        let alike = by_parts c q from.0.file is from.2.file
        ∙ sym (by_parts from.0 q from.0.file (journal_kept from.0 from.1) refl) in
        inr (was.0, was.1, alike ∙ was.2)

    gone : c.journal ≡ rest_of q → IsFoundOrLeft found first c
    gone is = inl (by_parts c (rest_of q) pages is (from.2.file ∙ file_kept from.0 from.1) ∙ rest_is)

-- ---- what is left of a journal

-- what is there is what recovery gives
pub resting_held : (q : Option Journal) (pages : Pages) → IsResting q pages →
    recovered_by q pages ≡ saved pages (calls_of q)
resting_held None pages rests = refl
resting_held (Some j) pages rests =
    ap (λ (ps : Pages). saved ps j.calls)
    (ap (λ (images : List PageImage). put_back (take j.count pages) images) rests.no_image
    ∙ take_all j.count pages (omega (arith, rests.whole)))

alone_recovers : (count : ℕ) (calls : List (List ℕ)) (file : Pages) → length file ≤ count →
    recovered_by (calls_alone count calls) file ≡ saved file calls
alone_recovers count [] file le = refl
alone_recovers count (c ∷ cs) file le = ap (λ (ps : Pages). saved ps (c ∷ cs)) (take_all count file le)

alone_rests : (count : ℕ) (calls : List (List ℕ)) (file : Pages) → length file ≡ count →
    IsResting (calls_alone count calls) file
alone_rests count [] file is = tt
alone_rests count (c ∷ cs) file is = record { some = omega arith; whole = sym is; no_image = refl }

restored_length : (count : ℕ) (images : List PageImage) (pages : Pages) → count ≤ length pages →
    length (restored count images pages) ≡ count
restored_length count images pages le =
    let taken = length-take count pages in
    length-put_back (take count pages) images ∙ omega (arith, clamps, le, taken)

-- once its images are put back it stands for the same, and restores nothing
pub rest_recovers : (q : Option Journal) (pages : Pages) → Fits q pages →
    recovered_by (rest_of q) (restored_by q pages) ≡ recovered_by q pages
rest_recovers None pages fits = absurd fits
rest_recovers (Some j) pages fits =
    let is = restored_length j.count j.images pages fits.0 in
    alone_recovers j.count j.calls (restored j.count j.images pages) (omega (arith, is))

pub rest_rests : (q : Option Journal) (pages : Pages) → Fits q pages → IsResting (rest_of q) (restored_by q pages)
rest_rests None pages fits = absurd fits
rest_rests (Some j) pages fits =
    alone_rests j.count j.calls (restored j.count j.images pages) (restored_length j.count j.images pages fits.0)
