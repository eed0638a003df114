-- What each call leaves in a session.
use Rattle.std.proofs.Common.{◌≡◌, ◌⊎◌, inl, inr, ⊎_elim, ℕ, zero, suc, ◌<◌, ◌≤◌, Bool, true, false, List, [], ◌∷◌, ◌++◌, length, take, set, slice_get, Option, Some, None, refl, sym, ◌∙◌, ap, subst, arith, Contains, IsTrue, is_some}
use Rattle.std.proofs.lemmas.Int.{clamps}
use Rattle.std.proofs.lemmas.List.Elements.{All-take}
use Rattle.std.proofs.lemmas.List.{take_all, length-take, map-append}
use Rattle.safe_device.specs.Left.{Left, Saved, found_of, images_of, put_back, restored, restored_by, recovered, recovered_by, added, rest_of}
use Rattle.safe_device.specs.Crash.{TornAt, LongerBy, CutTo, Appended, Cleared, Follows, HasJournal, Keeps}
use Rattle.safe_device.specs.Safe.{numbers, IsSession, IsLeftBefore, IsFoundOrLeft, IsRestoring, first_count}
use Rattle.safe_device.specs.declared.journal.Journal.{Journal}
use Rattle.safe_device.specs.declared.page_pair.FoundJournal.{FoundJournal}
use Rattle.safe_device.specs.declared.journal.PageImage.{PageImage}
use Rattle.safe_device.proofs.Restoring.{Pages, saved, recovered_alike, Shows, MayWrite, put_back-append, put_back-same, length-put_back, shown_restored, restored_torn, restored_longer, restored_cut}

-- what recovery gives, by the journal and the pages that are left
pub by_parts : (c : Left) (q : Option Journal) (pages : Pages) → c.journal ≡ q → c.file ≡ pages
    → recovered c ≡ recovered_by q pages
by_parts c q pages journal file = ap (λ (o : Option Journal). recovered_by o c.file) journal
    ∙ ap (λ (ps : Pages). recovered_by q ps) file

-- what is restored from one that stands for so many pages has them all
room : (j : Journal) (d : Left) (pages : Pages) → d.journal ≡ Some j → j.count ≤ length pages
    → recovered d ≡ recovered_by (Some j) pages → j.count ≤ length d.file
room j d pages journal le is =
    let lengths : length (restored j.count j.images d.file) ≡ length (restored j.count j.images pages) =
    ap (λ (s : Saved). length s.pages) (sym (by_parts d (Some j) d.file journal refl) ∙ is) in
    omega (
      arith,
      clamps,
      lengths,
      length-put_back (take j.count d.file) j.images,
      length-put_back
          (take j.count pages) j.images,
      length-take j.count d.file,
      length-take j.count pages,
      le,
    )

pub torn_kept : (j : Journal) (p : ℕ) (d c : Left) → d.journal ≡ Some j → MayWrite j.count j.images p → TornAt p d c
    → (c.journal ≡ Some j) × (recovered c ≡ recovered d)
torn_kept j p d c journal may torn =
    let kept = torn.journal ∙ journal in (kept, ⊎_elim (same kept) (other kept) torn.file)
  where
    whole : recovered d ≡ recovered_by (Some j) d.file
    whole = by_parts d (Some j) d.file journal refl

    same : c.journal ≡ Some j → c.file ≡ d.file → recovered c ≡ recovered d
    same kept is = by_parts c (Some j) d.file kept is ∙ sym whole

    other : c.journal ≡ Some j → (v : List ℕ) × (c.file ≡ set d.file p v) → recovered c ≡ recovered d
    other kept it = by_parts c (Some j) (set d.file p it.0) kept it.1
        ∙ recovered_alike j d.file (set d.file p it.0) (restored_torn j.count j.images d.file p it.0 may) ∙ sym whole

pub longer_kept : (j : Journal) (d c : Left) → d.journal ≡ Some j → j.count ≤ length d.file → LongerBy d c
    → (c.journal ≡ Some j) × (recovered c ≡ recovered d)
longer_kept j d c journal le longer =
    let kept = longer.journal ∙ journal in (
      kept,
      by_parts c (Some j) (d.file ++ longer.file.0) kept longer.file.1
          ∙ recovered_alike j d.file (d.file ++ longer.file.0)
          (restored_longer j.count j.images d.file longer.file.0 le)
          ∙ sym (by_parts d (Some j) d.file journal refl),
    )

pub cut_kept : (j : Journal) (d c : Left) → d.journal ≡ Some j → CutTo j.count d c
    → (c.journal ≡ Some j) × (recovered c ≡ recovered d)
cut_kept j d c journal cut =
    let kept = cut.journal ∙ journal in (
      kept,
      by_parts c (Some j) (take cut.file.0 d.file) kept cut.file.2
          ∙ recovered_alike j d.file (take cut.file.0 d.file)
          (restored_cut j.count j.images d.file cut.file.0 cut.file.1)
          ∙ sym (by_parts d (Some j) d.file journal refl),
    )

-- images of what recovery gives change nothing of it
pub added_kept : (q : Option Journal) (begun : Bool) (count : ℕ) (guarded : List ℕ) (pages : Pages)
    (images : List PageImage) → IsSession begun count guarded pages q
    → Shows (restored_by q pages) images
    → (file : Pages) → recovered_by q file ≡ recovered_by q pages
    → recovered_by (Some (added (first_count begun count pages) images q)) file ≡ recovered_by q pages
added_kept None begun count guarded pages images session all file is =
    let starts : first_count begun count pages ≡ length pages = ap
    (λ (b : Bool). first_count b count pages) session.0 in
    let same : file ≡ pages = ap (λ (s : Saved). s.pages) is in
    ap (λ (ps : Pages). saved ps [])
    (ap (λ (n : ℕ). put_back (take n file) images) starts
    ∙ ap (λ (ps : Pages). put_back ps images) (take_all (length pages) file (omega (arith, ap length same)) ∙ same)
    ∙ put_back-same pages images all)
added_kept (Some j) begun count guarded pages images session all file is =
    let same : restored j.count j.images file ≡ restored j.count j.images pages = ap (λ (s : Saved). s.pages) is in
    ap (λ (ps : Pages). saved ps j.calls)
    (put_back-append (take j.count file) j.images images ∙ ap (λ (ps : Pages). put_back ps images) same
    ∙ put_back-same (restored j.count j.images pages) images all)

pub added_session : (q : Option Journal) (begun : Bool) (count : ℕ) (guarded : List ℕ) (pages : Pages)
    (images : List PageImage) → IsSession begun count guarded pages q
    → IsSession true (first_count begun count pages) (guarded ++ numbers images) pages
    (Some (added (first_count begun count pages) images q))
added_session None begun count guarded pages images session =
    let starts : first_count begun count pages ≡ length pages = ap
    (λ (b : Bool). first_count b count pages) session.0 in
    (refl, refl, ap (λ (g : List ℕ). g ++ numbers images) session.1, omega (arith, starts))
added_session (Some j) begun count guarded pages images session =
    let goes_on : first_count begun count pages ≡ count = ap (λ (b : Bool). first_count b count pages) session.0 in (
      refl,
      goes_on ∙ session.1,
      ap (λ (g : List ℕ). g ++ numbers images) session.2
          ∙ sym (map-append (λ (image : PageImage). image.page) j.images images),
      omega (arith, goes_on, session.3),
    )

-- each outcome of an addition stands for the same
pub appended_kept : (q : Option Journal) (begun : Bool) (count : ℕ) (guarded : List ℕ) (pages : Pages)
    (images : List PageImage) (old new : Left → Type 0)
    → IsSession begun count guarded pages q → Shows (restored_by q pages) images
    → ((c : Left) → old c → c.journal ≡ q) → ((c : Left) → old c → recovered c ≡ recovered_by q pages)
    → Follows (Appended (first_count begun count pages) images) old new → (c : Left) → new c
    → recovered c ≡ recovered_by q pages
appended_kept q begun count guarded pages images old new session all journal_kept pages_kept follows c now =
    ⊎_elim same more from.2.journal
  where
    from : (d : Left) × old d × Appended (first_count begun count pages) images d c
    from = follows c now

    was : recovered_by q from.0.file ≡ recovered_by q pages
    was = sym (by_parts from.0 q from.0.file (journal_kept from.0 from.1) refl) ∙ pages_kept from.0 from.1

    same : c.journal ≡ from.0.journal → recovered c ≡ recovered_by q pages
    same is = by_parts c q from.0.file (is ∙ journal_kept from.0 from.1) from.2.file ∙ was

    more : (many : ℕ) × (c.journal ≡ Some (added (first_count begun count pages) (take many images) from.0.journal))
        → recovered c ≡ recovered_by q pages
    more it =
        let some = take it.0 images in
        let starts = first_count begun count pages in
        by_parts c (Some (added starts some q)) from.0.file
        (it.1 ∙ ap (λ (o : Option Journal). Some (added starts some o)) (journal_kept from.0 from.1)) from.2.file
        ∙ added_kept q begun count guarded pages some session
        (All-take (λ (image : PageImage). slice_get
        (restored_by q pages) image.page ≡ Some image.bytes) it.0 images all)
        from.0.file was

-- a session that has begun has a journal
pub record Begun (count : ℕ) (guarded : List ℕ) (pages : Pages) (q : Option Journal) : Type 0 where
  pub journal : Journal
  pub is : q ≡ Some journal
  pub count_is : count ≡ journal.count
  pub guarded_is : guarded ≡ numbers journal.images
  pub room_is : count ≤ length pages

pub begun : (b : Bool) (count : ℕ) (guarded : List ℕ) (pages : Pages) (q : Option Journal)
    → IsSession b count guarded pages q → b ≡ true → Begun count guarded pages q
begun b count guarded pages None session is = let clash : false ≡ true = sym session.0 ∙ is in absurd cc
begun b count guarded pages (Some j) session is = record {
  journal = j;
  is = refl;
  count_is = session.1;
  guarded_is = session.2;
  room_is = session.3;
}

-- the page has an image in the journal, or was added
abbrev pub IsGuarded : ℕ → List ℕ → ℕ → Type 0
IsGuarded count guarded page = Contains guarded page ⊎ (count ≤ page)

may_write : (j : Journal) (count page : ℕ) (guarded : List ℕ) → count ≡ j.count → guarded ≡ numbers j.images
    → IsGuarded count guarded page → MayWrite j.count j.images page
may_write j count page guarded count_is guarded_is (inl has) = inl
    (subst (λ (g : List ℕ). Contains g page) guarded_is has)
may_write j count page guarded count_is guarded_is (inr le) = inr (omega (arith, count_is))

-- a write to a page that is guarded
module _ (q : Option Journal) (b : Bool) (count page : ℕ) (guarded : List ℕ) (pages : Pages)
    (session : IsSession b count guarded pages q) (is_begun : b ≡ true)
    (is_guarded : IsGuarded count guarded page) where
  abbrev it : Begun count guarded pages q
  it = begun b count guarded pages q session is_begun

  may : MayWrite it.journal.count it.journal.images page
  may = may_write it.journal count page guarded it.count_is it.guarded_is is_guarded

  pub write_step : (base : Saved) (old new : Left → Type 0) → ((c : Left) → old c → c.journal ≡ q)
      → ((c : Left) → old c → recovered c ≡ base)
      → Follows (TornAt page) old new → (c : Left) → new c → (c.journal ≡ q) × (recovered c ≡ base)
  write_step base old new journal_kept pages_kept follows c now =
      let from = follows c now in
      let kept = torn_kept it.journal page from.0 c (journal_kept from.0 from.1 ∙ it.is) may from.2 in
      (kept.0 ∙ sym it.is, kept.1 ∙ pages_kept from.0 from.1)

  pub write_pages : (value : List ℕ) → recovered_by q (set pages page value) ≡ recovered_by q pages
  write_pages value = subst (λ (o : Option Journal). recovered_by o (set pages page value) ≡ recovered_by o pages)
      (sym it.is)
      (recovered_alike it.journal pages (set pages page value)
      (restored_torn it.journal.count it.journal.images pages page value may))

pub longer_session : (q : Option Journal) (b : Bool) (count : ℕ) (guarded : List ℕ) (pages more : Pages)
    → length pages ≤ length more → IsSession b count guarded pages q → IsSession b count guarded more q
longer_session None b count guarded pages more le session = session
longer_session (Some j) b count guarded pages more le session =
    (session.0, session.1, session.2, omega (arith, session.3, le))

-- an addition in a session
module _ (q : Option Journal) (b : Bool) (count : ℕ) (guarded : List ℕ) (pages : Pages)
    (session : IsSession b count guarded pages q) (is_begun : b ≡ true) where
  abbrev that : Begun count guarded pages q
  that = begun b count guarded pages q session is_begun

  fits : that.journal.count ≤ length pages
  fits = omega (arith, that.count_is, that.room_is)

  pub extend_step : (old new : Left → Type 0) → ((c : Left) → old c → c.journal ≡ q)
      → ((c : Left) → old c → recovered c ≡ recovered_by q pages)
      → Follows LongerBy old new → (c : Left) → new c → (c.journal ≡ q) × (recovered c ≡ recovered_by q pages)
  extend_step old new journal_kept pages_kept follows c now =
      let from = follows c now in
      let journal = journal_kept from.0 from.1 ∙ that.is in
      let same = pages_kept from.0 from.1 in
      let same_restored = subst (λ (o : Option Journal). recovered from.0 ≡ recovered_by o pages) that.is same in
      let kept = longer_kept that.journal from.0 c journal
      (room that.journal from.0 pages journal fits same_restored) from.2 in
      (kept.0 ∙ sym that.is, kept.1 ∙ same)

  pub extend_pages : (more : Pages) → recovered_by q (pages ++ more) ≡ recovered_by q pages
  extend_pages more = subst (λ (o : Option Journal). recovered_by o (pages ++ more) ≡ recovered_by o pages)
      (sym that.is)
      (recovered_alike that.journal pages (pages ++ more)
      (restored_longer that.journal.count that.journal.images pages more fits))

-- a page that is not guarded reads as recovery gives it
pub open_page : (q : Option Journal) (b : Bool) (count page : ℕ) (value : List ℕ) (guarded : List ℕ) (pages : Pages)
    → IsSession b count guarded pages q
    → (b ≡ true → (page < count) × (Contains guarded page → ⊥)) → slice_get pages page ≡ Some value
    → slice_get (restored_by q pages) page ≡ Some value
open_page None b count page value guarded pages session unguarded is = is
open_page (Some j) b count page value guarded pages session unguarded is =
    let it = unguarded session.0 in
    shown_restored j.count j.images pages page (omega (arith, it.0, session.1))
    (λ has. it.1 (subst (λ (g : List ℕ). Contains g page) (sym session.2) has)) ∙ is

pub one_image : (pages : Pages) (page : ℕ) (value : List ℕ) → slice_get pages page ≡ Some value
    → Shows pages (record { page = page; bytes = value } ∷ [])
one_image pages page value is zero d lt = is
one_image pages page value is (suc k) d lt = absurd (omega arith)

-- what recovery gives of what is left is what it gave of something before
pub restoring_step : (j : Journal) (page : ℕ) (start old new : Left → Type 0) → MayWrite j.count j.images page
    → IsRestoring (Some j) start old → Follows (TornAt page) old new → IsRestoring (Some j) start new
restoring_step j page start old new may so_far follows = record {
  journal_kept = λ c now.
      let from = follows c now in
      (torn_kept j page from.0 c (so_far.journal_kept from.0 from.1) may from.2).0;
  pages_kept = λ c now.
      let from = follows c now in
      let kept = torn_kept j page from.0 c (so_far.journal_kept from.0 from.1) may from.2 in
      let was = so_far.pages_kept from.0 from.1 in
      (was.0, was.1, kept.1 ∙ was.2);
}

-- the same of a journal that is there
pub restoring_on : (q : Option Journal) (page : ℕ) (start old new : Left → Type 0) → IsTrue (is_some q)
    → Contains (numbers (images_of q)) page → IsRestoring q start old → Follows (TornAt page) old new
    → IsRestoring q start new
restoring_on None page start old new there has so_far follows = absurd cc
restoring_on (Some j) page start old new there has so_far follows =
    restoring_step j page start old new (inl has) so_far follows

pub restoring_cut : (j : Journal) (old new : Left → Type 0) → ((c : Left) → old c → c.journal ≡ Some j)
    → Follows (CutTo j.count) old new → IsRestoring (Some j) old new
restoring_cut j old new journal_kept follows = record {
  journal_kept = λ c now.
      let from = follows c now in
      (cut_kept j from.0 c (journal_kept from.0 from.1) from.2).0;
  pages_kept = λ c now.
      let from = follows c now in
      (from.0, from.1, (cut_kept j from.0 c (journal_kept from.0 from.1) from.2).1);
}

pub restoring_cut_on : (q : Option Journal) (found : FoundJournal) (old new : Left → Type 0) → Some found ≡ found_of q
    → Keeps (HasJournal q) old → Follows (CutTo found.count) old new → IsRestoring q old new
restoring_cut_on None found old new is durable follows = absurd cc
restoring_cut_on (Some j) found old new is durable follows =
    let same : found ≡ record { count = j.count; calls = length j.calls; images = length j.images } = cc in
    let count_is : found.count ≡ j.count = ap (λ (f : FoundJournal). f.count) same in
    restoring_cut j old new durable (subst (λ (n : ℕ). Follows (CutTo n) old new) count_is follows)

-- what was found says what the journal does
pub found_images : (q : Option Journal) (found : FoundJournal) → Some found ≡ found_of q
    → found.images ≡ length (images_of q)
found_images None found is = absurd cc
found_images (Some j) found is =
    let same : found ≡ record { count = j.count; calls = length j.calls; images = length j.images } = cc in
    ap (λ (f : FoundJournal). f.images) same

pub found_some : (q : Option Journal) (found : FoundJournal) → Some found ≡ found_of q → IsTrue (is_some q)
found_some None found is = absurd cc
found_some (Some j) found is = refl

pub before_joined : (first mid : Left → Type 0) (c : Left) → ((d : Left) → mid d → IsLeftBefore first d)
    → IsLeftBefore mid c → IsLeftBefore first c
before_joined first mid c kept via =
    let from = kept via.0 via.1 in
    (from.0, from.1, via.2 ∙ from.2)

pub restoring_joined : (q : Option Journal) (start mid new : Left → Type 0) → IsRestoring q start mid
    → IsRestoring q mid new → IsRestoring q start new
restoring_joined q start mid new one two = record {
  journal_kept = two.journal_kept;
  pages_kept = λ c now.
      let via = two.pages_kept c now in
      before_joined start mid c one.pages_kept via;
}

-- once the file has what the journal restores, what is left of that stands for the same
pub cleared_step : (q : Option Journal) (pages : Pages) (found : Saved) (first old new : Left → Type 0)
    → recovered_by (rest_of q) pages ≡ found → Keeps (HasJournal q) old → ((c : Left) → old c → c.file ≡ pages)
    → ((c : Left) → old c → IsLeftBefore first c)
    → Follows (Cleared q) old new → (c : Left) → new c → IsFoundOrLeft found first c
cleared_step q pages found first old new rest_is journal_kept file_kept pages_kept follows c now =
    ⊎_elim same gone from.2.left
  where
    from : (d : Left) × old d × Cleared q d c
    from = follows c now

    was : IsLeftBefore first from.0
    was = pages_kept from.0 from.1

    same : c.journal ≡ q → IsFoundOrLeft found first c
    same is =
        let alike = by_parts c q from.0.file is from.2.file
        ∙ sym (by_parts from.0 q from.0.file (journal_kept from.0 from.1) refl) in
        inr (was.0, was.1, alike ∙ was.2)

    gone : c.journal ≡ rest_of q → IsFoundOrLeft found first c
    gone is = inl (by_parts c (rest_of q) pages is (from.2.file ∙ file_kept from.0 from.1) ∙ rest_is)

pub left_earlier : (first old : Left → Type 0) → ((c : Left) → old c → first c) → (c : Left) → IsLeftBefore old c
    → IsLeftBefore first c
left_earlier first old kept c via = (via.0, kept via.0 via.1, via.2)
