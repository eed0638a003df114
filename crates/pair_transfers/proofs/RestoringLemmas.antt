-- What a journal of images gives back, whatever a crash leaves of the pages that have one.
use Rattle.std.proofs.Common.{arith, ℕ, zero, suc, ◌≡◌, ◌<◌, inl, inr, ⊎_elim, refl, sym, ap, ◌∙◌, subst, List, [], ◌∷◌, length, take, set, get_or, slice_get, Option, Some, All, Contains}
use Rattle.std.proofs.lemmas.Bool.{cases_eq}
use Rattle.std.proofs.lemmas.List.{set-set, set_comm}
use Rattle.safe_device.specs.Crash.{TornAt}
use Rattle.safe_device.specs.Left.{Left, Saved, put_back, recovered, recovered_by, restored}
use Rattle.safe_device.specs.Safe.{numbers}
use Rattle.safe_device.specs.declared.journal.Journal.{Journal}
use Rattle.safe_device.specs.declared.journal.PageImage.{PageImage}
use Rattle.pair_transfers.specs.Acts.{Pages}

-- each image shows what stands there
abbrev pub Shows : Pages → List PageImage → Type 0
Shows pages images = All (λ (i : PageImage). slice_get pages i.page ≡ Some i.bytes) images

set_same : (xs : Pages) (p : ℕ) (v : List ℕ) → slice_get xs p ≡ Some v → set xs p v ≡ xs
set_same [] p v is = refl
set_same (x ∷ xs) zero v is = let same : v ≡ x = cc in ap (λ (y : List ℕ). y ∷ xs) same
set_same (x ∷ xs) (suc p) v is = ap (λ (ys : Pages). x ∷ ys) (set_same xs p v is)

-- images of what stands there change nothing
pub put_back-same : (pages : Pages) (images : List PageImage) → Shows pages images → put_back pages images ≡ pages
put_back-same pages [] all = refl
put_back-same pages (i ∷ images) all =
    let head : set pages i.page i.bytes ≡ pages = set_same pages i.page i.bytes (all 0 i (omega arith)) in
    ap (λ (ps : Pages). put_back ps images) head
    ∙ put_back-same pages images (λ k d lt. all (suc k) d (omega arith))

take_set : (n : ℕ) (xs : Pages) (p : ℕ) (v : List ℕ) → take n (set xs p v) ≡ set (take n xs) p v
take_set zero xs p v = refl
take_set (suc n) [] p v = refl
take_set (suc n) (x ∷ xs) zero v = refl
take_set (suc n) (x ∷ xs) (suc p) v = ap (λ (ys : Pages). x ∷ ys) (take_set n xs p v)

-- a page that has an image may hold anything
hidden_here : (pages : Pages) (i : PageImage) (p : ℕ) (v : List ℕ) → i.page ≡ p →
    set (set pages p v) i.page i.bytes ≡ set pages i.page i.bytes
hidden_here pages i p v is =
    subst (λ (q : ℕ). set (set pages q v) i.page i.bytes ≡ set pages i.page i.bytes) is (set-set pages i.page v i.bytes)

hidden : (pages : Pages) (images : List PageImage) (p : ℕ) (v : List ℕ) (k : ℕ) → k < length (numbers images) →
    get_or (numbers images) k p ≡ p → put_back (set pages p v) images ≡ put_back pages images
hidden pages [] p v k lt is = absurd (omega arith)
hidden pages (i ∷ images) p v zero lt is = ap (λ (ps : Pages). put_back ps images) (hidden_here pages i p v is)
hidden pages (i ∷ images) p v (suc k) lt is = elim (cases_eq i.page p) [
  | inl same ↦ ap (λ (ps : Pages). put_back ps images) (hidden_here pages i p v same)
  | inr apart ↦
      let swapped : set (set pages p v) i.page i.bytes ≡ set (set pages i.page i.bytes) p v =
      set_comm pages p i.page v i.bytes (λ same. apart (sym same)) in
      ap (λ (ps : Pages). put_back ps images) swapped ∙ hidden (set pages i.page i.bytes) images p v k (omega arith) is
]

restored_torn : (count : ℕ) (images : List PageImage) (pages : Pages) (p : ℕ) (v : List ℕ) →
    Contains (numbers images) p → restored count images (set pages p v) ≡ restored count images pages
restored_torn count images pages p v has =
    ap (λ (ps : Pages). put_back ps images) (take_set count pages p v)
    ∙ hidden (take count pages) images p v has.0 has.1 has.2

-- what recovery gives, by the journal and the pages that are left
pub by_parts : (c : Left) (q : Option Journal) (pages : Pages) → c.journal ≡ q → c.file ≡ pages →
    recovered c ≡ recovered_by q pages
by_parts c q pages journal file = ap (λ (o : Option Journal). recovered_by o c.file) journal
    ∙ ap (λ (ps : Pages). recovered_by q ps) file

pub torn_kept : (j : Journal) (p : ℕ) (d c : Left) → d.journal ≡ Some j → Contains (numbers j.images) p →
    TornAt p d c → (c.journal ≡ Some j) × (recovered c ≡ recovered d)
torn_kept j p d c journal has torn =
    let kept = torn.journal ∙ journal in (kept, ⊎_elim (same kept) (other kept) torn.file)
  where
    whole : recovered d ≡ recovered_by (Some j) d.file
    whole = by_parts d (Some j) d.file journal refl

    same : c.journal ≡ Some j → c.file ≡ d.file → recovered c ≡ recovered d
    same kept is = by_parts c (Some j) d.file kept is ∙ sym whole

    other : c.journal ≡ Some j → (v : List ℕ) × (c.file ≡ set d.file p v) → recovered c ≡ recovered d
    other kept it = by_parts c (Some j) (set d.file p it.0) kept it.1
        ∙ ap (λ (ps : Pages). saved ps) (restored_torn j.count j.images d.file p it.0 has) ∙ sym whole
      where
        saved : Pages → Saved
        saved ps = record { pages = ps; calls = j.calls }
