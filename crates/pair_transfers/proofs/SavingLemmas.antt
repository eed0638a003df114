-- What the files are behind each act of a save, and what a crash leaves of it.
use Rattle.std.proofs.Common.{arith, ℕ, ◌≡◌, ◌≤◌, ◌<◌, ◌+◌, inl, inr, ⊎_elim, refl, sym, ap, ◌∙◌, subst, Bool, true, false, List, [], ◌∷◌, ◌++◌, length, take, set, get_or, slice_get, Option, Some, None, IsTrue, is_some, Contains}
use Rattle.std.specs.Prelude.{min}
use Rattle.std.proofs.lemmas.Bool.{cases_eq, cases_lt}
use Rattle.std.proofs.lemmas.Int.{clamps}
use Rattle.std.proofs.lemmas.List.{ext_get_or, get_or-set_same, get_or-set_other, get_or_default, length-set, length_push, map-append, take_all}
use Rattle.std.proofs.lemmas.List.Elements.{All-append, All-cons, All-nil, All-take}
use Rattle.std.proofs.lemmas.Option.{get_or_from_slice_get, slice_get_within}
use Rattle.safe_device.specs.Left.{Left, Saved, added, alone, calls_of, images_of, put_back, recovered, recovered_by}
use Rattle.safe_device.specs.Safe.{IsEither, IsResting, numbers}
use Rattle.safe_device.specs.declared.journal.Journal.{Journal}
use Rattle.safe_device.specs.declared.journal.PageImage.{PageImage}
use Rattle.pair_transfers.proofs.AmongLemmas.{last_among, none_among, still_among}
use Rattle.pair_transfers.proofs.RestoringLemmas.{Shows, by_parts, put_back-same, torn_kept}
use Rattle.pair_transfers.specs.Acts.{AddsImage, EndsJournal, Pages, Stores, SyncsFile, SyncsJournal, image}
use Rattle.pair_transfers.specs.Saving.{AreAllGuarded, GivesBack, IsAmong, IsBrought, IsEnded, IsGuarded, IsGuarding, IsJournalOf, IsNextChanged, IsNoneGuarded, IsReady, IsSaved, IsUnwritten, IsWriting, IsWritten, SaveState, page_of}

-- ---- journals that give the pages back

-- pages that are put back where they are
restored_same : (saved : Saved) (j : Journal) → IsJournalOf saved j → recovered_by (Some j) saved.pages ≡ saved
restored_same saved j is =
    let whole = take_all j.count saved.pages (omega (arith, is.count)) in
    let pages = ap (λ (ps : Pages). put_back ps j.images) whole ∙ put_back-same saved.pages j.images is.shows in
    ap (λ (ps : Pages). record saved { pages = ps; calls = j.calls }) pages
    ∙ ap (λ (calls : Pages). record saved { calls = calls }) is.calls

pub given_back : (saved : Saved) (q : Option Journal) → GivesBack saved q → recovered_by q saved.pages ≡ saved
given_back saved None gives = ap (λ (calls : Pages). record saved { calls = calls }) (sym gives)
given_back saved (Some j) gives = restored_same saved j gives

left_given : (saved : Saved) (c : Left) → c.file ≡ saved.pages → GivesBack saved c.journal → recovered c ≡ saved
left_given saved c file gives = by_parts c c.journal saved.pages refl file ∙ given_back saved c.journal gives

-- one with more images of these pages
more_gives : (saved : Saved) (q : Option Journal) (n : ℕ) (images : List PageImage) → n ≡ length saved.pages →
    Shows saved.pages images → GivesBack saved q → GivesBack saved (Some (added n images q))
more_gives saved None n images count shows gives = record { calls = sym gives; count = count; shows = shows }
more_gives saved (Some j) n images count shows gives = record {
  calls = gives.calls;
  count = gives.count;
  shows = All-append (λ (i : PageImage). slice_get saved.pages i.page ≡ Some i.bytes) j.images images gives.shows shows;
}

one_shows : (pages : Pages) (page : ℕ) (was : List ℕ) → slice_get pages page ≡ Some was →
    Shows pages (image page was ∷ [])
one_shows pages page was is =
    All-cons (λ (i : PageImage). slice_get pages i.page ≡ Some i.bytes) (image page was) [] is
    (All-nil (λ (i : PageImage). slice_get pages i.page ≡ Some i.bytes))

more_numbers : (q : Option Journal) (n page : ℕ) (was : List ℕ) (guarded : List ℕ) →
    numbers (images_of q) ≡ guarded →
    numbers (images_of (Some (added n (image page was ∷ []) q))) ≡ guarded ++ page ∷ []
more_numbers None n page was guarded is = ap (λ (xs : List ℕ). xs ++ page ∷ []) is
more_numbers (Some j) n page was guarded is =
    map-append (λ (i : PageImage). i.page) j.images (image page was ∷ [])
    ∙ ap (λ (xs : List ℕ). xs ++ page ∷ []) is

there_is : (q : Option Journal) → IsTrue (is_some q) → (j : Journal) × (q ≡ Some j)
there_is None there = absurd cc
there_is (Some j) there = (j, refl)

-- ---- a save begins

module _ {P : Type 0} (file : P → Pages) (journal : P → Option Journal) (may_leave : P → Left → Type 0)
    (content : Pages) where
  abbrev pub saved_in : P → Saved
  saved_in pair = record { pages = file pair; calls = calls_of (journal pair) }

  resting_gives : (q : Option Journal) (pages : Pages) → IsResting q pages →
      GivesBack (record { pages = pages; calls = calls_of q }) q
  resting_gives None pages rests = refl
  resting_gives (Some j) pages rests = record {
    calls = refl;
    count = rests.whole;
    shows = subst (Shows pages) (sym rests.no_image)
        (All-nil (λ (i : PageImage). slice_get pages i.page ≡ Some i.bytes));
  }

  resting_numbers : (q : Option Journal) (pages : Pages) → IsResting q pages → numbers (images_of q) ≡ []
  resting_numbers None pages rests = refl
  resting_numbers (Some j) pages rests = ap numbers rests.no_image

  resting_some : (q : Option Journal) (pages : Pages) → 0 < length (calls_of q) → IsTrue (is_some q)
  resting_some None pages more = absurd (omega (arith, more))
  resting_some (Some j) pages more = refl

  resting_none : (q : Option Journal) (pages : Pages) → IsResting q pages → length (calls_of q) ≡ 0 → q ≡ None
  resting_none None pages rests none = refl
  resting_none (Some j) pages rests none = let some = rests.some in absurd (omega (arith, some, none))

  module _ (pair : P) (saved : Pages) (ready : IsReady file journal may_leave saved pair) where
    pub begins_left : (c : Left) → may_leave pair c → recovered c ≡ saved_in pair
    begins_left c now = left_given (saved_in pair) c (ready.rests.same_file c now)
        (subst (GivesBack (saved_in pair)) (sym (ready.rests.same_journal c now))
        (resting_gives (journal pair) (file pair) ready.rests.rests))

    pub saved_in_is : recovered_by (journal pair) (file pair) ≡ saved_in pair
    saved_in_is = given_back (saved_in pair) (journal pair)
        (resting_gives (journal pair) (file pair) ready.rests.rests)

    pub begins : (has_calls : Bool) → (has_calls ≡ true → 0 < length (calls_of (journal pair))) →
        (has_calls ≡ false → length (calls_of (journal pair)) ≡ 0) → (s : SaveState) → s.guarded ≡ [] →
        s.has_calls ≡ has_calls → IsGuarding file journal may_leave 0 s (saved_in pair) content pair
    begins has_calls has has_none s none calls = record {
      file_is = refl;
      found = resting_gives (journal pair) (file pair) ready.rests.rests;
      images_are = resting_numbers (journal pair) (file pair) ready.rests.rests ∙ sym none;
      begun_by = λ is. resting_some (journal pair) (file pair) (has (sym calls ∙ is));
      guarded_so = λ page before. absurd (omega (arith, before));
      file_left = ready.rests.same_file;
      journal_left = λ c now. subst (GivesBack (saved_in pair)) (sym (ready.rests.same_journal c now))
          (resting_gives (journal pair) (file pair) ready.rests.rests);
      untouched = λ no_page no_calls. record {
        ready = record { rests = ready.rests; pages_are = refl };
        none = resting_none (journal pair) (file pair) ready.rests.rests (has_none (sym calls ∙ no_calls));
      };
    }

  -- ---- pages are guarded

  module _ (saved : Saved) (from : ℕ) (s : SaveState) (old new : P)
      (is : IsGuarding file journal may_leave from s saved content old) where
    pub guarding_left : (c : Left) → may_leave old c → recovered c ≡ saved
    guarding_left c now = left_given saved c (is.file_left c now) (is.journal_left c now)

    module _ (page : ℕ) (was : List ℕ) (done : Bool)
        (adds : AddsImage file journal may_leave page was done old new) where
      shows_it : Shows saved.pages (image page was ∷ [])
      shows_it = one_shows saved.pages page was
          (subst (λ (ps : Pages). slice_get ps page ≡ Some was) is.file_is adds.was_there)

      count_is : length (file old) ≡ length saved.pages
      count_is = ap length is.file_is

      image_file_left : (c : Left) → may_leave new c → c.file ≡ saved.pages
      image_file_left c now = let from = adds.crash c now in from.2.file ∙ is.file_left from.0 from.1

      image_journal_left : (c : Left) → may_leave new c → GivesBack saved c.journal
      image_journal_left c now =
          let from = adds.crash c now in
          let before = is.journal_left from.0 from.1 in
          ⊎_elim (λ same. subst (GivesBack saved) (sym same) before)
          (λ more. subst (GivesBack saved) (sym more.1)
          (more_gives saved from.0.journal (length (file old)) (take more.0 (image page was ∷ [])) count_is
          (All-take (λ (i : PageImage). slice_get saved.pages i.page ≡ Some i.bytes) more.0 (image page was ∷ [])
          shows_it) before))
          from.2.journal

      pub image_left : (c : Left) → may_leave new c → recovered c ≡ saved
      image_left c now = left_given saved c (image_file_left c now) (image_journal_left c now)

      pub guards_one : (t : SaveState) → done ≡ true → IsNextChanged from page saved.pages content →
          length content ≤ 4294967295 → t.guarded ≡ s.guarded ++ page ∷ [] → t.has_calls ≡ s.has_calls →
          IsGuarding file journal may_leave (min (page + 1) 4294967295) t saved content new
      guards_one t ok next few guarded calls =
          let longer = adds.added_so ok in
          let within = next.within in
          let counted : min (page + 1) 4294967295 ≡ page + 1 = omega (arith, clamps, within, few) in
          record {
            file_is = adds.file_is ∙ is.file_is;
            found = subst (GivesBack saved) (sym longer)
                (more_gives saved (journal old) (length (file old)) (image page was ∷ []) count_is shows_it is.found);
            images_are = ap (λ (q : Option Journal). numbers (images_of q)) longer
                ∙ more_numbers (journal old) (length (file old)) page was s.guarded is.images_are ∙ sym guarded;
            begun_by = λ _. subst (λ (q : Option Journal). IsTrue (is_some q)) (sym longer) refl;
            guarded_so = λ n before.
                subst (λ (g : List ℕ). IsGuarded g saved.pages content n) (sym guarded)
                (guarded_now n (subst (λ (m : ℕ). n < m) counted before));
            file_left = image_file_left;
            journal_left = image_journal_left;
            untouched = λ none. absurd (some_guarded (sym guarded ∙ none));
          }
        where
          some_guarded : s.guarded ++ page ∷ [] ≡ [] → ⊥
          some_guarded none =
              let long = length_push s.guarded page in let zero_long = ap length none in
              absurd (omega (arith, long, zero_long))

          guarded_now : (n : ℕ) → n < page + 1 → IsGuarded (s.guarded ++ page ∷ []) saved.pages content n
          guarded_now n before = ⊎_elim
              (λ low. ⊎_elim (λ among. inl (still_among s.guarded 0 n page among)) inr (is.guarded_so n low))
              (λ high. ⊎_elim
              (λ here. inl (subst (λ (m : ℕ). IsAmong (s.guarded ++ page ∷ []) 0 m) (sym here)
              (last_among s.guarded page)))
              (λ apart. inr (next.others n high (omega (arith, before, apart))))
              (cases_eq n page))
              (cases_lt n from)

    -- the images are waited for
    module _ (done : Bool) (syncs : SyncsJournal file journal may_leave done old new) where
      pub synced_left : (c : Left) → may_leave new c → recovered c ≡ saved
      synced_left c now = guarding_left c (syncs.crash c now)

      pub writes_next : (t : SaveState) → done ≡ true → AreAllGuarded from s saved.pages content →
          length content ≡ length saved.pages → t.guarded ≡ s.guarded →
          IsWriting file journal may_leave 0 t saved content new
      writes_next t ok all as_many guarded =
          let there = there_is (journal old) is_there in
          record {
            journal_of = there.0;
            journal_is = syncs.journal_is ∙ there.1;
            images_are = ap (λ (q : Option Journal). numbers (images_of q)) (sym there.1) ∙ is.images_are ∙ sym guarded;
            brought = λ page within.
                subst (λ (g : List ℕ). IsBrought g 0 content (file new) page) (sym guarded) (brought_now page within);
            many = ap length file_is ∙ sym as_many;
            journal_left = λ c now. syncs.kept ok c now ∙ there.1;
            left = synced_left;
          }
        where
          file_is : file new ≡ saved.pages
          file_is = syncs.file_is ∙ is.file_is

          is_there : IsTrue (is_some (journal old))
          is_there = some_of (journal old) is.images_are is.begun_by
            where
              some_of : (q : Option Journal) → numbers (images_of q) ≡ s.guarded →
                  (s.has_calls ≡ true → IsTrue (is_some q)) → IsTrue (is_some q)
              some_of None none by = by (all.some (sym none))
              some_of (Some j) images by = refl

          guarded_here : (page : ℕ) → page < length content → IsGuarded s.guarded saved.pages content page
          guarded_here page within = ⊎_elim (is.guarded_so page) (λ high. inr (all.others page high within))
              (cases_lt page from)

          brought_now : (page : ℕ) → page < length content → IsBrought s.guarded 0 content (file new) page
          brought_now page within = ⊎_elim inr
              (λ same. inl (ap (λ (ps : Pages). page_of ps page) file_is ∙ sym same))
              (guarded_here page within)

    -- no page has changed
    module _ (none : IsNoneGuarded from s saved.pages content) (as_many : length content ≡ length saved.pages) where
      as_saved : (page : ℕ) → page < length content → page_of content page ≡ page_of saved.pages page
      as_saved page within = ⊎_elim
          (λ low. ⊎_elim
          (λ among. absurd (none_among 0 page (subst (λ (g : List ℕ). IsAmong g 0 page) none.none among)))
          (λ same. same) (is.guarded_so page low))
          (λ high. none.others page high within)
          (cases_lt page from)

      pub nothing_same : saved.pages ≡ content
      nothing_same = ext_get_or [] saved.pages content (sym as_many)
          (λ page within. sym (as_saved page (omega (arith, within, as_many))))

      pub nothing_to_do : IsSaved file journal may_leave content old
      nothing_to_do =
          let so = is.untouched none.none none.no_calls in
          record {
            ready = record { rests = so.ready.rests; pages_are = so.ready.pages_are ∙ nothing_same };
            none = so.none;
          }

  -- ---- pages are written

  module _ (saved : Saved) (written : ℕ) (s : SaveState) (old new : P)
      (is : IsWriting file journal may_leave written s saved content old) where
    module _ (page : ℕ) (bytes : List ℕ) (done : Bool) (next : IsUnwritten written page bytes s content)
        (stores : Stores file journal may_leave page bytes done old new) where
      has_image : Contains (numbers is.journal_of.images) page
      has_image = subst (λ (g : List ℕ). Contains g page) (sym is.images_are)
          (written, next.within, get_or_default s.guarded written page 0 next.within ∙ next.page_is)

      kept : (c : Left) → may_leave new c → (c.journal ≡ Some is.journal_of) × (recovered c ≡ saved)
      kept c now =
          let from = stores.crash c now in
          let torn = torn_kept is.journal_of page from.0 c (is.journal_left from.0 from.1) has_image from.2 in
          (torn.0, torn.1 ∙ is.left from.0 from.1)

      pub written_left : (c : Left) → may_leave new c → recovered c ≡ saved
      written_left c now = (kept c now).1

      pub writes_one : (t : SaveState) → done ≡ true → t.guarded ≡ s.guarded →
          IsWriting file journal may_leave (min (written + 1) 18446744073709551615) t saved content new
      writes_one t ok guarded =
          let counted : min (written + 1) 18446744073709551615 ≡ written + 1 =
          let few = next.counted in omega (arith, clamps, few) in
          record {
            journal_of = is.journal_of;
            journal_is = stores.journal_is ∙ is.journal_is;
            images_are = is.images_are ∙ sym guarded;
            brought = λ n within.
                subst (λ (g : List ℕ). IsBrought g (min (written + 1) 18446744073709551615) content (file new) n)
                (sym guarded)
                (subst (λ (m : ℕ). IsBrought s.guarded m content (file new) n) (sym counted) (brought_now n within));
            many = ap length stored ∙ length-set (file old) page bytes ∙ is.many;
            journal_left = λ c now. (kept c now).0;
            left = written_left;
          }
        where
          stored : file new ≡ set (file old) page bytes
          stored = stores.stored ok

          there : page < length (file old)
          there = let a = slice_get_within content page bytes next.bytes_are in let b = is.many in omega (arith, a, b)

          here : page_of (file new) page ≡ page_of content page
          here = ap (λ (ps : Pages). page_of ps page) stored ∙ get_or-set_same (file old) page bytes [] there
              ∙ sym (get_or_from_slice_get content page bytes [] next.bytes_are)

          brought_now : (n : ℕ) → n < length content → IsBrought s.guarded (written + 1) content (file new) n
          brought_now n within = ⊎_elim
              (λ same. inl (subst (λ (m : ℕ). page_of (file new) m ≡ page_of content m) (sym same) here))
              (λ apart. ⊎_elim
              (λ before. inl (ap (λ (ps : Pages). page_of ps n) stored
              ∙ get_or-set_other (file old) page n bytes [] apart ∙ before))
              (λ among. inr (record {
                place = among.place;
                behind = ⊎_elim
                    (λ first. absurd (apart (sym among.is_it
                    ∙ ap (λ (k : ℕ). get_or s.guarded k 0) first ∙ next.page_is)))
                    (λ other. let behind = among.behind in omega (arith, behind, other))
                    (cases_eq among.place written);
                within = among.within;
                is_it = among.is_it;
              }))
              (is.brought n within))
              (cases_eq n page)

    -- the file is waited for
    module _ (done : Bool) (syncs : SyncsFile file journal may_leave done old new) where
      pub file_synced_left : (c : Left) → may_leave new c → recovered c ≡ saved
      file_synced_left c now = is.left c (syncs.crash c now)

      pub all_written : done ≡ true → length s.guarded ≤ written →
          IsWritten file journal may_leave saved content new
      all_written ok all = record {
        file_is = syncs.file_is ∙ same;
        file_left = λ c now. syncs.kept ok c now ∙ same;
        left = file_synced_left;
      }
        where
          same : file old ≡ content
          same = ext_get_or [] (file old) content is.many (λ page within. ⊎_elim (λ so. so)
              (λ among. let a = among.behind in let b = among.within in absurd (omega (arith, a, b, all)))
              (is.brought page (let many = is.many in omega (arith, within, many))))

  -- ---- the journal is ended

  module _ (saved : Saved) (old new : P) (done : Bool) where
    module _ (is : IsWritten file journal may_leave saved content old)
        (ends : EndsJournal file journal may_leave done old new) where
      ended_file_left : (c : Left) → may_leave new c → c.file ≡ content
      ended_file_left c now = let from = ends.crash c now in from.2.file ∙ is.file_left from.0 from.1

      pub ended_left : (c : Left) → may_leave new c → IsEither saved (alone content) c
      ended_left c now =
          let from = ends.crash c now in
          ⊎_elim (λ same. inl (by_parts c from.0.journal from.0.file same from.2.file ∙ is.left from.0 from.1))
          (λ none. inr (by_parts c None content none (ended_file_left c now)))
          from.2.journal

      pub is_ended : done ≡ true → IsEnded file journal may_leave saved content new
      is_ended ok = record {
        file_is = ends.file_is ∙ is.file_is;
        none = ends.ended ok;
        file_left = ended_file_left;
        left = ended_left;
      }

    module _ (is : IsEnded file journal may_leave saved content old)
        (syncs : SyncsJournal file journal may_leave done old new) where
      pub end_synced_left : (c : Left) → may_leave new c → IsEither saved (alone content) c
      end_synced_left c now = is.left c (syncs.crash c now)

      pub is_saved : done ≡ true → IsSaved file journal may_leave content new
      is_saved ok = record {
        ready = record {
          rests = record {
            rests = subst (λ (q : Option Journal). IsResting q (file new)) (sym none_now) tt;
            same_journal = λ c now. syncs.kept ok c now ∙ sym syncs.journal_is;
            same_file = λ c now. is.file_left c (syncs.crash c now) ∙ sym file_now;
          };
          pages_are = file_now;
        };
        none = none_now;
      }
        where
          file_now : file new ≡ content
          file_now = syncs.file_is ∙ is.file_is

          none_now : journal new ≡ None
          none_now = syncs.journal_is ∙ is.none
