-- What the files are behind each act of a recovery, and what a crash leaves of it.
use Rattle.std.proofs.Common.{arith, ℕ, ◌≡◌, ◌≤◌, ◌<◌, ◌+◌, ◌⊎◌, inl, inr, ⊎_elim, refl, sym, ap, ◌∙◌, subst, Bool, true, false, List, [], ◌∷◌, length, take, set, slice_get, Option, Some, None}
use Rattle.std.specs.Prelude.{nat_lt}
use Rattle.std.proofs.lemmas.Bool.Decides.{nat_tests}
use Rattle.std.proofs.lemmas.List.{take_all}
use Rattle.safe_device.specs.Crash.{Cleared as ClearedBy, Follows}
use Rattle.safe_device.specs.Left.{Left, Saved, calls_of, calls_alone, found_of, images_of, put_back, recovered_by, rest_of, restored_by, without_images}
use Rattle.safe_device.specs.Safe.{IsFoundOrLeft, IsRestoring, IsResting, committed}
use Rattle.safe_device.specs.declared.journal.Journal.{Journal}
use Rattle.safe_device.specs.declared.journal.PageImage.{PageImage}
use Rattle.safe_device.specs.declared.page_pair.FoundJournal.{FoundJournal}
use Rattle.pair_transfers.proofs.PuttingBackLemmas.{cleared_step, found_some, left_earlier, number_found, put_back_found, rest_recovers, rest_rests, resting_held, restoring_cut_on, restoring_on, says_of}
use Rattle.pair_transfers.proofs.RestoringLemmas.{by_parts}
use Rattle.pair_transfers.specs.Acts.{EndsJournal, Pages, SyncsFile, SyncsJournal}
use Rattle.pair_transfers.specs.Recovering.{Cuts, EndsImages, IsCleared, IsDurable, IsFound, IsLying, IsPutting, IsRecovered, IsRestored, IsSettled, IsUntouched, PutsBack}

-- the file once all images are in their places
all_put : (q : Option Journal) (found : FoundJournal) (pages : Pages) (index : ℕ) → Some found ≡ found_of q →
    found.images ≤ index → put_back (take found.count pages) (take index (images_of q)) ≡ restored_by q pages
all_put None found pages index is all = absurd cc
all_put (Some j) found pages index is all =
    let says = says_of found j is in
    let count_is = says.count in
    let many = says.images in
    ap (λ (n : ℕ). put_back (take n pages) (take index j.images)) count_is
    ∙ ap (λ (xs : List PageImage). put_back (take j.count pages) xs)
    (take_all index j.images (omega (arith, all, many)))

-- calls stay where there are some
kept_calls : (count : ℕ) (calls : List (List ℕ)) → 0 < length calls →
    calls_alone count calls ≡ Some (record { count = count; calls = calls; images = [] })
kept_calls count [] some = absurd (omega (arith, some))
kept_calls count (c ∷ cs) some = refl

no_calls : (count : ℕ) (calls : List (List ℕ)) → length calls ≡ 0 → calls_alone count calls ≡ None
no_calls count [] none = refl
no_calls count (c ∷ cs) none = absurd (omega (arith, none))

pub calls_stay : (q : Option Journal) (found : FoundJournal) → Some found ≡ found_of q → nat_lt 0 found.calls ≡ true →
    without_images q ≡ rest_of q
calls_stay None found is some = absurd cc
calls_stay (Some j) found is some =
    let many = (says_of found j is).calls in
    let more : 0 < length j.calls = subst (λ (n : ℕ). 0 < n) many (positive found.calls some) in
    sym (kept_calls j.count j.calls more)
  where
    positive : (n : ℕ) → nat_lt 0 n ≡ true → 0 < n
    positive n is = grind (arith, nat_tests)

pub none_stays : (q : Option Journal) (found : FoundJournal) → Some found ≡ found_of q → nat_lt 0 found.calls ≡ false →
    rest_of q ≡ None
none_stays None found is none = absurd cc
none_stays (Some j) found is none =
    let many = (says_of found j is).calls in
    no_calls j.count j.calls (sym many ∙ zero_is found.calls none)
  where
    zero_is : (n : ℕ) → nat_lt 0 n ≡ false → n ≡ 0
    zero_is n is = grind (arith, nat_tests)

module _ {P : Type 0} (file : P → Pages) (journal : P → Option Journal) (may_leave : P → Left → Type 0)
    (first : P) where
  abbrev base : Saved
  base = committed file journal first

  abbrev pub Stood : Left → Type 0
  Stood c = IsFoundOrLeft base (may_leave first) c

  pub left_before : (pair : P) → IsUntouched file journal may_leave first pair → (c : Left) → may_leave pair c → Stood c
  left_before pair is c now = inr (c, is.left c now, refl)

  -- what a crash leaves while images are put back
  pub left_restoring : (pair : P) → IsRestoring (journal first) (may_leave first) (may_leave pair) →
      (c : Left) → may_leave pair c → Stood c
  left_restoring pair is c now = inr (is.pages_kept c now)

  module _ (old new : P) (done : Bool) where
    -- a sync of what is untouched
    pub journal_untouched : IsUntouched file journal may_leave first old →
        SyncsJournal file journal may_leave done old new → IsUntouched file journal may_leave first new
    journal_untouched is syncs = record {
      file_is = syncs.file_is ∙ is.file_is;
      journal_is = syncs.journal_is ∙ is.journal_is;
      left = λ c now. is.left c (syncs.crash c now);
    }

    pub file_untouched : IsUntouched file journal may_leave first old →
        SyncsFile file journal may_leave done old new → IsUntouched file journal may_leave first new
    file_untouched is syncs = record {
      file_is = syncs.file_is ∙ is.file_is;
      journal_is = syncs.journal_is ∙ is.journal_is;
      left = λ c now. is.left c (syncs.crash c now);
    }

    pub settles : done ≡ true → IsLying file journal may_leave first old →
        SyncsFile file journal may_leave done old new → IsSettled file journal may_leave first new
    settles ok is syncs = record {
      lying = record { untouched = file_untouched is.untouched syncs; rests = is.rests };
      file_left = λ c now. syncs.kept ok c now ∙ is.untouched.file_is;
    }

    pub rests_so : done ≡ true → IsSettled file journal may_leave first old →
        SyncsJournal file journal may_leave done old new → IsRecovered file journal may_leave first new
    rests_so ok is syncs =
        let now = journal_untouched is.lying.untouched syncs in
        let held = resting_held (journal first) (file first) is.lying.rests in
        record {
          at_rest = record {
            rests = subst (λ (q : Option Journal). IsResting q (file new)) (sym now.journal_is)
                (subst (λ (ps : Pages). IsResting (journal first) ps) (sym now.file_is) is.lying.rests);
            same_journal = λ c left. syncs.kept ok c left ∙ sym syncs.journal_is;
            same_file = λ c left. is.file_left c (syncs.crash c left) ∙ sym now.file_is;
          };
          holds = record {
            pages = now.file_is ∙ sym (ap (λ (s : Saved). s.pages) held);
            calls = ap calls_of now.journal_is;
          };
          durable = λ c left. by_parts c (journal first) (file first)
              (syncs.kept ok c left ∙ is.lying.untouched.journal_is) (is.file_left c (syncs.crash c left));
        }

    -- ---- images are put back

    module _ (found : FoundJournal) where
      pub lasts : done ≡ true → IsFound file journal may_leave found first old →
          SyncsJournal file journal may_leave done old new → IsDurable file journal may_leave found first new
      lasts ok is syncs = record {
        was = record { its = is.its; untouched = journal_untouched is.untouched syncs };
        journal_left = λ c now. syncs.kept ok c now ∙ is.untouched.journal_is;
      }

      pub cut_restoring : IsDurable file journal may_leave found first old →
          Cuts file journal may_leave found.count done old new →
          IsRestoring (journal first) (may_leave first) (may_leave new)
      cut_restoring is cuts =
          let so = restoring_cut_on (journal first) found (may_leave old) (may_leave new) is.was.its.found_is
          is.journal_left cuts.crash in
          record {
            journal_kept = so.journal_kept;
            pages_kept = λ c now. left_earlier (may_leave first) (may_leave old) is.was.untouched.left c
                (so.pages_kept c now);
          }

      pub cut_so : done ≡ true → IsDurable file journal may_leave found first old →
          Cuts file journal may_leave found.count done old new →
          IsPutting file journal may_leave 0 found first new
      cut_so ok is cuts = record {
        its = is.was.its;
        file_is = cuts.cut_so ok ∙ ap (λ (ps : Pages). take found.count ps) is.was.untouched.file_is;
        journal_is = cuts.journal_is ∙ is.was.untouched.journal_is;
        restoring = cut_restoring is cuts;
      }

      module _ (index : ℕ) (is : IsPutting file journal may_leave index found first old) where
        module _ (image : PageImage) (puts : PutsBack file journal may_leave index image done old new) where
          image_there : slice_get (images_of (journal first)) index ≡ Some image
          image_there = subst (λ (q : Option Journal). slice_get (images_of q) index ≡ Some image) is.journal_is
              puts.image_is

          pub put_restoring : IsRestoring (journal first) (may_leave first) (may_leave new)
          put_restoring =
              restoring_on (journal first) image.page (may_leave first) (may_leave old) (may_leave new)
              (found_some (journal first) found is.its.found_is)
              (number_found (images_of (journal first)) index image image_there) is.restoring puts.stores.crash

          pub put_so : done ≡ true → IsPutting file journal may_leave (index + 1) found first new
          put_so ok = record {
            its = is.its;
            file_is = puts.stores.stored ok ∙ ap (λ (ps : Pages). set ps image.page image.bytes) is.file_is
                ∙ sym (put_back_found (take found.count (file first)) (images_of (journal first)) index image
                image_there);
            journal_is = puts.stores.journal_is ∙ is.journal_is;
            restoring = put_restoring;
          }

        module _ (syncs : SyncsFile file journal may_leave done old new) where
          pub sync_restoring : IsRestoring (journal first) (may_leave first) (may_leave new)
          sync_restoring = record {
            journal_kept = λ c now. is.restoring.journal_kept c (syncs.crash c now);
            pages_kept = λ c now. is.restoring.pages_kept c (syncs.crash c now);
          }

          pub restored_so : done ≡ true → found.images ≤ index →
              IsRestored file journal may_leave found first new
          restored_so ok all = record {
            its = is.its;
            file_is = syncs.file_is ∙ is.file_is
                ∙ all_put (journal first) found (file first) index is.its.found_is all;
            journal_is = syncs.journal_is ∙ is.journal_is;
            restoring = sync_restoring;
            file_left = λ c now. syncs.kept ok c now ∙ sym syncs.file_is;
          }

      -- ---- they are let go

      module _ (is : IsRestored file journal may_leave found first old) where
        rest_is : recovered_by (rest_of (journal first)) (file old) ≡ base
        rest_is = ap (λ (ps : Pages). recovered_by (rest_of (journal first)) ps) is.file_is
            ∙ rest_recovers (journal first) (file first) is.its.fits

        pub cleared_left : Follows (ClearedBy (journal first)) (may_leave old) (may_leave new) →
            (c : Left) → may_leave new c → Stood c
        cleared_left follows =
            cleared_step (journal first) (file old) base (may_leave first) (may_leave old) (may_leave new) rest_is
            is.restoring.journal_kept is.file_left is.restoring.pages_kept follows

        pub clears : done ≡ true → file new ≡ file old → (done ≡ true → journal new ≡ rest_of (journal first)) →
            Follows (ClearedBy (journal first)) (may_leave old) (may_leave new) →
            IsCleared file journal may_leave found first new
        clears ok same cleared follows = record {
          its = is.its;
          file_is = same ∙ is.file_is;
          journal_is = cleared ok;
          file_left = λ c now. let from = follows c now in from.2.file ∙ is.file_left from.0 from.1 ∙ sym same;
          left = cleared_left follows;
        }

        -- its calls stay
        pub images_follow : nat_lt 0 found.calls ≡ true → EndsImages file journal may_leave done old new →
            Follows (ClearedBy (journal first)) (may_leave old) (may_leave new)
        images_follow some ends c now =
            let from = ends.crash c now in (
              from.0,
              from.1,
              record {
                file = from.2.file;
                left = ⊎_elim (λ same. inl (same ∙ is.restoring.journal_kept from.0 from.1))
                    (λ let_go. inr (let_go ∙ ap without_images (is.restoring.journal_kept from.0 from.1)
                    ∙ calls_stay (journal first) found is.its.found_is some))
                    from.2.journal;
              },
            )

        pub images_end : nat_lt 0 found.calls ≡ true → EndsImages file journal may_leave done old new →
            done ≡ true → journal new ≡ rest_of (journal first)
        images_end some ends ok =
            ends.ended ok ∙ ap without_images is.journal_is ∙ calls_stay (journal first) found is.its.found_is some

        -- it has none
        pub end_follows : nat_lt 0 found.calls ≡ false → EndsJournal file journal may_leave done old new →
            Follows (ClearedBy (journal first)) (may_leave old) (may_leave new)
        end_follows none ends c now =
            let from = ends.crash c now in (
              from.0,
              from.1,
              record {
                file = from.2.file;
                left = ⊎_elim (λ same. inl (same ∙ is.restoring.journal_kept from.0 from.1))
                    (λ gone. inr (gone ∙ sym (none_stays (journal first) found is.its.found_is none)))
                    from.2.journal;
              },
            )

        pub ends_so : nat_lt 0 found.calls ≡ false → EndsJournal file journal may_leave done old new →
            done ≡ true → journal new ≡ rest_of (journal first)
        ends_so none ends ok = ends.ended ok ∙ sym (none_stays (journal first) found is.its.found_is none)

      module _ (is : IsCleared file journal may_leave found first old)
          (syncs : SyncsJournal file journal may_leave done old new) where
        pub synced_left : (c : Left) → may_leave new c → Stood c
        synced_left c now = is.left c (syncs.crash c now)

        pub recovers : done ≡ true → IsRecovered file journal may_leave first new
        recovers ok =
            let now_rest = syncs.journal_is ∙ is.journal_is in
            let now_file = syncs.file_is ∙ is.file_is in
            let rest = rest_recovers (journal first) (file first) is.its.fits in
            record {
              at_rest = record {
                rests = subst (λ (q : Option Journal). IsResting q (file new)) (sym now_rest)
                    (subst (λ (ps : Pages). IsResting (rest_of (journal first)) ps) (sym now_file)
                    (rest_rests (journal first) (file first) is.its.fits));
                same_journal = λ c left. syncs.kept ok c left ∙ sym syncs.journal_is;
                same_file = λ c left. is.file_left c (syncs.crash c left) ∙ sym syncs.file_is;
              };
              holds = record {
                pages = now_file;
                calls = ap calls_of now_rest ∙ ap (λ (s : Saved). s.calls) rest;
              };
              durable = λ c left. by_parts c (rest_of (journal first)) base.pages
                  (syncs.kept ok c left ∙ is.journal_is) (is.file_left c (syncs.crash c left) ∙ is.file_is) ∙ rest;
            }
