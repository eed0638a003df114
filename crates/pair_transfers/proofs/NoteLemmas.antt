-- A note goes on: what the files are behind each act, and what a crash leaves of it.
use Rattle.std.proofs.Common.{arith, ℕ, ◌≡◌, ◌⊎◌, inl, inr, ⊎_elim, refl, sym, ap, ◌∙◌, subst, Bool, true, List, [], ◌∷◌, length, Option, Some, None, IsTrue}
use Rattle.std.proofs.lemmas.List.{length_push, take_all}
use Rattle.safe_device.specs.Crash.{Elapses, LeavesOnly}
use Rattle.safe_device.specs.Left.{Left, Saved, images_of, noted, recovered_by, with_calls}
use Rattle.safe_device.specs.Safe.{IsAtRest, IsEither, IsResting, committed}
use Rattle.safe_device.specs.declared.journal.Journal.{Journal}
use Rattle.pair_transfers.proofs.MomentLemmas.{goes_on, started}
use Rattle.pair_transfers.proofs.PuttingBackLemmas.{saved}
use Rattle.pair_transfers.proofs.RestoringLemmas.{by_parts}
use Rattle.pair_transfers.specs.Acts.{Pages, SyncsJournal}
use Rattle.pair_transfers.specs.Noting.{AddsCalls, DoesNote, HasNoted, IsAdded, NoteStands, behind_note, next_of_note}
use Rattle.pair_transfers.specs.Recovering.{IsUntouched}
use Rattle.pair_transfers.specs.Saving.{IsReady}
use Rattle.pair_transfers.specs.declared.note.Note.{Note}
use Rattle.pair_transfers.specs.declared.note.NoteAct.{NoteAct}
use Rattle.pair_transfers.specs.declared.note.NoteAct.TheVariants.{Add, Sync}
use Rattle.pair_transfers.specs.declared.note.NotePlace.{NotePlace}
use Rattle.pair_transfers.specs.declared.note.NotePlace.TheVariants.{Unnoted, Added, Noted, Failed}

-- ---- a journal of calls alone, with more

noted_gives : (q : Option Journal) (pages : Pages) (calls : List ℕ) →
    recovered_by (Some (noted (length pages) calls q)) pages ≡ with_calls calls (recovered_by q pages)
noted_gives None pages calls =
    ap (λ (ps : Pages). saved ps (calls ∷ [])) (take_all (length pages) pages (omega arith))
noted_gives (Some j) pages calls = refl

noted_rests : (q : Option Journal) (pages : Pages) (calls : List ℕ) → IsResting q pages →
    IsResting (Some (noted (length pages) calls q)) pages
noted_rests None pages calls rests = record { some = omega arith; whole = refl; no_image = refl }
noted_rests (Some j) pages calls rests = record {
  some = let long = length_push j.calls calls in omega (arith, long);
  whole = rests.whole;
  no_image = rests.no_image;
}

pub no_images : (q : Option Journal) (pages : Pages) → IsResting q pages → images_of q ≡ []
no_images None pages rests = refl
no_images (Some j) pages rests = rests.no_image

module _ {P : Type 0} (file : P → Pages) (journal : P → Option Journal) (may_leave : P → Left → Type 0)
    (calls : List ℕ) (first : P) (at_rest : IsAtRest file journal may_leave first) where
  abbrev base : Saved
  base = committed file journal first

  abbrev more : Option Journal
  more = Some (noted (length (file first)) calls (journal first))

  abbrev pub IsOne : Left → Type 0
  IsOne c = IsEither base (with_calls calls base) c

  pub left_first : (pair : P) → IsUntouched file journal may_leave first pair → (c : Left) → may_leave pair c → IsOne c
  left_first pair is c now =
      let before = is.left c now in
      inl (by_parts c (journal first) (file first) (at_rest.same_journal c before) (at_rest.same_file c before))

  one_of : (c : Left) → c.file ≡ file first → (c.journal ≡ journal first) ⊎ (c.journal ≡ more) → IsOne c
  one_of c file_is journal_is = ⊎_elim
      (λ same. inl (by_parts c (journal first) (file first) same file_is))
      (λ added. inr (by_parts c more (file first) added file_is ∙ noted_gives (journal first) (file first) calls))
      journal_is

  module _ (old new : P) (done : Bool) where
    module _ (is : IsUntouched file journal may_leave first old)
        (adds : AddsCalls file journal may_leave (length (file first)) calls done old new) where
      added_file : (c : Left) → may_leave new c → c.file ≡ file first
      added_file c now =
          let from = adds.crash c now in from.2.file ∙ at_rest.same_file from.0 (is.left from.0 from.1)

      added_journal : (c : Left) → may_leave new c → (c.journal ≡ journal first) ⊎ (c.journal ≡ more)
      added_journal c now =
          let from = adds.crash c now in
          let was = at_rest.same_journal from.0 (is.left from.0 from.1) in
          ⊎_elim (λ same. inl (same ∙ was))
          (λ added. inr (added
          ∙ ap (λ (q : Option Journal). Some (noted (length (file first)) calls q)) was))
          from.2.journal

      pub adds_left : (c : Left) → may_leave new c → IsOne c
      adds_left c now = one_of c (added_file c now) (added_journal c now)

      pub adds_so : done ≡ true → IsAdded file journal may_leave calls first new
      adds_so ok = record {
        file_is = adds.file_is ∙ is.file_is;
        journal_is = adds.added_so ok
            ∙ ap (λ (q : Option Journal). Some (noted (length (file first)) calls q)) is.journal_is;
        file_left = added_file;
        journal_left = added_journal;
      }

    module _ (is : IsAdded file journal may_leave calls first old)
        (syncs : SyncsJournal file journal may_leave done old new) where
      pub syncs_left : (c : Left) → may_leave new c → IsOne c
      syncs_left c now =
          one_of c (is.file_left c (syncs.crash c now)) (is.journal_left c (syncs.crash c now))

      pub notes_so : done ≡ true → HasNoted file journal may_leave calls first new
      notes_so ok =
          let now_file = syncs.file_is ∙ is.file_is in
          let now_journal = syncs.journal_is ∙ is.journal_is in
          record {
            at_rest = record {
              rests = subst (λ (q : Option Journal). IsResting q (file new)) (sym now_journal)
                  (subst (λ (ps : Pages). IsResting more ps) (sym now_file)
                  (noted_rests (journal first) (file first) calls at_rest.rests));
              same_journal = λ c left. syncs.kept ok c left ∙ sym syncs.journal_is;
              same_file = λ c left. is.file_left c (syncs.crash c left) ∙ sym now_file;
            };
            file_is = now_file;
            gives = ap (λ (q : Option Journal). recovered_by q (file new)) now_journal
                ∙ ap (λ (ps : Pages). recovered_by more ps) now_file
                ∙ noted_gives (journal first) (file first) calls;
          }

    told : (a b : NoteAct) → Some a ≡ Some b →
        DoesNote file journal may_leave (length (file first)) calls b done old new →
        DoesNote file journal may_leave (length (file first)) calls a done old new
    told a b is makes =
        let same : b ≡ a = cc in
        subst (λ (c : NoteAct). DoesNote file journal may_leave (length (file first)) calls c done old new) same makes

    pub note_left : (place : NotePlace) (act : NoteAct) → next_of_note place ≡ Some act →
        NoteStands file journal may_leave place calls first old →
        DoesNote file journal may_leave (length (file first)) calls act done old new →
        (c : Left) → may_leave new c → IsOne c
    note_left Unnoted act next is makes = adds_left is (told Add act next makes)
    note_left Added act next is makes = syncs_left is (told Sync act next makes)
    note_left Noted act next is makes = absurd cc
    note_left Failed act next is makes = absurd is

    pub note_stands : (place : NotePlace) (act : NoteAct) → next_of_note place ≡ Some act →
        NoteStands file journal may_leave place calls first old →
        DoesNote file journal may_leave (length (file first)) calls act done old new → done ≡ true →
        NoteStands file journal may_leave (behind_note place) calls first new
    note_stands Unnoted act next is makes ok = adds_so is (told Add act next makes) ok
    note_stands Added act next is makes ok = notes_so is (told Sync act next makes) ok
    note_stands Noted act next is makes ok = absurd cc
    note_stands Failed act next is makes ok = absurd is

  -- an act adds to a journal without images
  pub has_no_image : (pair : P) (place : NotePlace) → NoteStands file journal may_leave place calls first pair →
      images_of (journal pair) ≡ []
  has_no_image pair Unnoted is = ap images_of is.journal_is ∙ no_images (journal first) (file first) at_rest.rests
  has_no_image pair Added is =
      ap images_of is.journal_is
      ∙ no_images more (file first) (noted_rests (journal first) (file first) calls at_rest.rests)
  has_no_image pair Noted is = no_images (journal pair) (file pair) is.at_rest.rests
  has_no_image pair Failed is = absurd is

-- ---- a whole note

module _ {P : Type 0} (honest : Bool) (file : P → Pages) (journal : P → Option Journal)
    (may_leave : P → Left → Type 0) (moment : P → ℕ) (left_since : P → ℕ → Left → Type 0) (calls : List ℕ)
    (first : P) where
  abbrev Either : Left → Type 0
  Either c = IsEither (committed file journal first) (with_calls calls (committed file journal first)) c

  pub record IsGoingOn (pair : P) (note : Note) : Type 0 where
    pub stands : IsTrue honest → NoteStands file journal may_leave note.place calls first pair
    pub unseen : IsTrue honest → LeavesOnly moment left_since first pair Either

  module _ (ready : IsTrue honest → IsReady file journal may_leave (file first) first) (count : ℕ)
      (counted : IsTrue honest → count ≡ length (file first)) where
    pub note_begins : (note : Note) → note ≡ record { place = Unnoted } →
        ((c : Left) → left_since first (moment first) c → may_leave first c) → IsGoingOn first note
    note_begins note is only_now = subst (IsGoingOn first) (sym is) (record {
      stands = λ sound. record { file_is = refl; journal_is = refl; left = λ c now. now };
      unseen = λ sound. started moment left_since may_leave first Either only_now
          (left_first file journal may_leave calls first (ready sound).rests first
          (record { file_is = refl; journal_is = refl; left = λ c now. now }));
    })

    pub no_image_yet : (pair : P) (note : Note) → IsGoingOn pair note → IsTrue honest → images_of (journal pair) ≡ []
    no_image_yet pair note so_far sound =
        has_no_image file journal may_leave calls first (ready sound).rests pair note.place (so_far.stands sound)

    module _ (old new : P) (done : Bool) (note : Note) (so_far : IsGoingOn old note) (act : NoteAct)
        (next : Some act ≡ next_of_note note.place)
        (makes : IsTrue honest → DoesNote file journal may_leave count calls act done old new)
        (time : Elapses moment left_since may_leave old new) where
      does : IsTrue honest → DoesNote file journal may_leave (length (file first)) calls act done old new
      does sound = subst (λ (n : ℕ). DoesNote file journal may_leave n calls act done old new) (counted sound)
          (makes sound)

      pub unseen_note : IsTrue honest → LeavesOnly moment left_since first new Either
      unseen_note sound = goes_on moment left_since may_leave first old new Either (so_far.unseen sound) time
          (note_left file journal may_leave calls first (ready sound).rests old new done note.place act (sym next)
          (so_far.stands sound) (does sound))

      pub next_goes_on : (after : Note) → done ≡ true → after ≡ record { place = behind_note note.place } →
          IsGoingOn new after
      next_goes_on after ok is = subst (IsGoingOn new) (sym is) (record {
        stands = λ sound. note_stands file journal may_leave calls first (ready sound).rests old new done note.place act
            (sym next) (so_far.stands sound) (does sound) ok;
        unseen = unseen_note;
      })
