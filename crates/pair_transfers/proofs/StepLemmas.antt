-- A save goes on: an act is made that was told.
use Rattle.std.proofs.Common.{arith, ℕ, ◌≡◌, ◌≤◌, ◌<◌, inl, inr, refl, sym, ap, ◌∙◌, subst, Bool, true, false, length, List, Option, Some, None, IsTrue}
use Rattle.std.specs.Prelude.{nat_lt}
use Rattle.std.proofs.lemmas.Bool.Decides.{nat_tests}
use Rattle.safe_device.specs.Crash.{Elapses, LeavesOnly}
use Rattle.safe_device.specs.Left.{Left, Saved, alone, calls_of}
use Rattle.safe_device.specs.Safe.{IsEither, committed}
use Rattle.safe_device.specs.declared.journal.Journal.{Journal}
use Rattle.pair_transfers.proofs.MomentLemmas.{goes_on, started}
use Rattle.pair_transfers.specs.Acts.{Makes, Pages}
use Rattle.pair_transfers.specs.Saving.{Ends, HasSaved, IsNext, IsNextAt, IsNoneGuarded, IsReady, SaveState, StandsAt, advanced, begun, one_more}
use Rattle.pair_transfers.specs.declared.save.Act.{Act}
use Rattle.pair_transfers.specs.declared.save.Act.TheVariants.{Guard, SyncImages, Write, SyncFile, End, SyncEnd}
use Rattle.pair_transfers.specs.declared.save.Place.{Place}
use Rattle.pair_transfers.specs.declared.save.Place.TheVariants.{Guarding, Writing, Written, Ended, Saved as Over, Failed}
use Rattle.pair_transfers.proofs.SavingLemmas.{all_written, begins, begins_left, end_synced_left, ended_left, file_synced_left, guarding_left, guards_one, image_left, is_ended, is_saved, nothing_same, nothing_to_do, saved_in, saved_in_is, synced_left, writes_next, writes_one, written_left}

module _ {P : Type 0} (file : P → Pages) (journal : P → Option Journal) (may_leave : P → Left → Type 0)
    (content : Pages) (saved : Saved) (s : SaveState) (bytes : List ℕ) (old new : P) (done : Bool)
    (as_many : length content ≡ length saved.pages) (few : length content ≤ 4294967295) where
  -- a crash behind it leaves the one or the other
  pub left_behind : (place : Place) (act : Act) → IsNextAt place s (Some act) bytes saved.pages content →
      StandsAt file journal may_leave place s saved content old →
      Makes file journal may_leave act bytes done old new →
      (c : Left) → may_leave new c → IsEither saved (alone content) c
  left_behind (Guarding from) (Guard page) next is (inl none) c now =
      inl (guarding_left file journal may_leave content saved from s old new is c
      (subst (λ (p : P). may_leave p c) none.same now))
  left_behind (Guarding from) (Guard page) next is (inr (was, adds)) c now =
      inl (image_left file journal may_leave content saved from s old new is page was done adds c now)
  left_behind (Guarding from) SyncImages next is makes c now =
      inl (synced_left file journal may_leave content saved from s old new is done makes c now)
  left_behind (Guarding from) (Write page) next is makes c now = absurd next
  left_behind (Guarding from) SyncFile next is makes c now = absurd next
  left_behind (Guarding from) End next is makes c now = absurd next
  left_behind (Guarding from) SyncEnd next is makes c now = absurd next
  left_behind (Writing written) (Guard page) next is makes c now = absurd next
  left_behind (Writing written) SyncImages next is makes c now = absurd next
  left_behind (Writing written) (Write page) next is makes c now =
      inl (written_left file journal may_leave content saved written s old new is page bytes done next makes c now)
  left_behind (Writing written) SyncFile next is makes c now =
      inl (file_synced_left file journal may_leave content saved written s old new is done makes c now)
  left_behind (Writing written) End next is makes c now = absurd next
  left_behind (Writing written) SyncEnd next is makes c now = absurd next
  left_behind Written (Guard page) next is makes c now = absurd cc
  left_behind Written SyncImages next is makes c now = absurd cc
  left_behind Written (Write page) next is makes c now = absurd cc
  left_behind Written SyncFile next is makes c now = absurd cc
  left_behind Written End next is makes c now =
      ended_left file journal may_leave content saved old new done is makes c now
  left_behind Written SyncEnd next is makes c now = absurd cc
  left_behind Ended (Guard page) next is makes c now = absurd cc
  left_behind Ended SyncImages next is makes c now = absurd cc
  left_behind Ended (Write page) next is makes c now = absurd cc
  left_behind Ended SyncFile next is makes c now = absurd cc
  left_behind Ended End next is makes c now = absurd cc
  left_behind Ended SyncEnd next is makes c now =
      end_synced_left file journal may_leave content saved old new done is makes c now
  left_behind Over act next is makes c now = absurd cc
  left_behind Failed act next is makes c now = absurd next

  -- and where it is done the save has come further
  pub stands_behind : (place : Place) (act : Act) → place ≡ s.place →
      IsNextAt place s (Some act) bytes saved.pages content →
      StandsAt file journal may_leave place s saved content old →
      Makes file journal may_leave act bytes done old new →
      done ≡ true → StandsAt file journal may_leave (advanced act s).place (advanced act s) saved content new
  stands_behind (Guarding from) (Guard page) at next is (inl none) ok = absurd (let no = none.failed in cc)
  stands_behind (Guarding from) (Guard page) at next is (inr (was, adds)) ok =
      guards_one file journal may_leave content saved from s old new is page was done adds (advanced (Guard page) s) ok
      next few refl refl
  stands_behind (Guarding from) SyncImages at next is makes ok =
      writes_next file journal may_leave content saved from s old new is done makes (advanced SyncImages s) ok next
      as_many refl
  stands_behind (Guarding from) (Write page) at next is makes ok = absurd next
  stands_behind (Guarding from) SyncFile at next is makes ok = absurd next
  stands_behind (Guarding from) End at next is makes ok = absurd next
  stands_behind (Guarding from) SyncEnd at next is makes ok = absurd next
  stands_behind (Writing written) (Guard page) at next is makes ok = absurd next
  stands_behind (Writing written) SyncImages at next is makes ok = absurd next
  stands_behind (Writing written) (Write page) at next is makes ok =
      subst (λ (p : Place). StandsAt file journal may_leave (one_more p) (advanced (Write page) s) saved content
      new) at
      (writes_one file journal may_leave content saved written s old new is page bytes done next makes
      (advanced (Write page) s) ok refl)
  stands_behind (Writing written) SyncFile at next is makes ok =
      all_written file journal may_leave content saved written s old new is done makes ok next
  stands_behind (Writing written) End at next is makes ok = absurd next
  stands_behind (Writing written) SyncEnd at next is makes ok = absurd next
  stands_behind Written (Guard page) at next is makes ok = absurd cc
  stands_behind Written SyncImages at next is makes ok = absurd cc
  stands_behind Written (Write page) at next is makes ok = absurd cc
  stands_behind Written SyncFile at next is makes ok = absurd cc
  stands_behind Written End at next is makes ok =
      is_ended file journal may_leave content saved old new done is makes ok
  stands_behind Written SyncEnd at next is makes ok = absurd cc
  stands_behind Ended (Guard page) at next is makes ok = absurd cc
  stands_behind Ended SyncImages at next is makes ok = absurd cc
  stands_behind Ended (Write page) at next is makes ok = absurd cc
  stands_behind Ended SyncFile at next is makes ok = absurd cc
  stands_behind Ended End at next is makes ok = absurd cc
  stands_behind Ended SyncEnd at next is makes ok =
      is_saved file journal may_leave content saved old new done is makes ok
  stands_behind Over act at next is makes ok = absurd cc
  stands_behind Failed act at next is makes ok = absurd next

-- ---- a whole save

module _ {P S : Type 0} (honest : Bool) (file : P → Pages) (journal : P → Option Journal)
    (may_leave : P → Left → Type 0) (moment : P → ℕ) (left_since : P → ℕ → Left → Type 0)
    (saved_of : S → Pages) (wants : S → Pages → Type 0) (noted : S → S → Type 0) where
  -- what is so of it for pages that are to be saved
  pub record IsUnderWay (content : Pages) (first_pair pair : P) (first pages : S) (save : SaveState) : Type 0 where
    pub wanted : wants pages content
    pub all_noted : save.place ≡ Over → saved_of pages ≡ content
    pub unsaved : (save.place ≡ Over → ⊥) → saved_of pages ≡ saved_of first
    pub stands : IsTrue honest →
        StandsAt file journal may_leave save.place save (saved_in file journal may_leave content first_pair) content
        pair
    pub unseen : IsTrue honest → LeavesOnly moment left_since first_pair pair
        (IsEither (committed file journal first_pair) (alone content))

  abbrev pub AreUnderWay : (first_pair pair : P) (first pages : S) → SaveState → Type 0
  AreUnderWay first_pair pair first pages save =
      (content : Pages) → wants first content → IsUnderWay content first_pair pair first pages save

  module _ (as_many : (s : S) (content : Pages) → wants s content → length content ≡ length (saved_of s))
      (first_pair : P) (first : S)
      (ready : IsTrue honest → IsReady file journal may_leave (saved_of first) first_pair) (count : ℕ)
      (counted : IsTrue honest → count ≡ length (file first_pair)) (few : count < 4294967296) where
    pages_in : IsTrue honest → saved_of first ≡ file first_pair
    pages_in sound = sym (ready sound).pages_are

    many : IsTrue honest → (content : Pages) → wants first content → length content ≡ length (file first_pair)
    many sound content wanted = as_many first content wanted ∙ ap length (pages_in sound)

    first_of : (calls : ℕ) (has_calls : Bool) →
        (IsTrue honest → calls ≡ length (calls_of (journal first_pair))) → has_calls ≡ nat_lt 0 calls →
        ((c : Left) → left_since first_pair (moment first_pair) c → may_leave first_pair c) →
        AreUnderWay first_pair first_pair first first (begun has_calls)
    first_of calls has_calls calls_are has only_now content wanted = record {
      wanted = wanted;
      all_noted = λ over. absurd cc;
      unsaved = λ _. refl;
      stands = λ sound. begins file journal may_leave content first_pair (saved_of first) (ready sound) has_calls
          (λ is. subst (λ (n : ℕ). 0 < n) (calls_are sound) (some_calls calls (sym has ∙ is)))
          (λ is. sym (calls_are sound) ∙ no_calls calls (sym has ∙ is)) (begun has_calls) refl refl;
      unseen = λ sound. started moment left_since may_leave first_pair
          (IsEither (committed file journal first_pair) (alone content)) only_now
          (λ c now. inl (begins_left file journal may_leave content first_pair (saved_of first) (ready sound) c now
          ∙ sym (saved_in_is file journal may_leave content first_pair (saved_of first) (ready sound))));
    }
      where
        some_calls : (n : ℕ) → nat_lt 0 n ≡ true → 0 < n
        some_calls n is = grind (arith, nat_tests)

        no_calls : (n : ℕ) → nat_lt 0 n ≡ false → n ≡ 0
        no_calls n is = grind (arith, nat_tests)

    pub first_step : (calls : ℕ) (has_calls : Bool) (save : SaveState) →
        (IsTrue honest → calls ≡ length (calls_of (journal first_pair))) → has_calls ≡ nat_lt 0 calls →
        save ≡ begun has_calls →
        ((c : Left) → left_since first_pair (moment first_pair) c → may_leave first_pair c) →
        AreUnderWay first_pair first_pair first first save
    first_step calls has_calls save calls_are has is only_now content wanted =
        subst (IsUnderWay content first_pair first_pair first first) (sym is)
        (first_of calls has_calls calls_are has only_now content wanted)

    module _ (pair : P) (pages told : S) (save : SaveState) (so_far : AreUnderWay first_pair pair first pages save)
        (kept : (content : Pages) → wants pages content → wants told content)
        (saved_is : saved_of told ≡ saved_of pages) where
      not_over : (place : Place) (act : Act) (bytes : List ℕ) (p q : Pages) →
          IsNextAt place save (Some act) bytes p q → place ≡ Over → ⊥
      not_over (Guarding from) act bytes p q next over = absurd cc
      not_over (Writing written) act bytes p q next over = absurd cc
      not_over Written act bytes p q next over = absurd cc
      not_over Ended act bytes p q next over = absurd cc
      not_over Over act bytes p q next over = absurd cc
      not_over Failed act bytes p q next over = absurd cc

      -- an act is made
      module _ (act : Act) (bytes : List ℕ)
          (next : (content : Pages) → wants pages content → IsNext save (Some act) bytes (saved_of pages) content)
          (new : P) (done : Bool) (makes : IsTrue honest → Makes file journal may_leave act bytes done pair new)
          (time : Elapses moment left_since may_leave pair new) where
        next_of : IsTrue honest → (content : Pages) → wants first content →
            IsNextAt save.place save (Some act) bytes (file first_pair) content
        next_of sound content wanted =
            let here = so_far content wanted in
            let told_so = next content here.wanted in
            subst (λ (ps : Pages). IsNextAt save.place save (Some act) bytes ps content)
            (here.unsaved (not_over save.place act bytes (saved_of pages) content told_so) ∙ pages_in sound) told_so

        few_pages : IsTrue honest → (content : Pages) → wants first content → length content ≤ 4294967295
        few_pages sound content wanted =
            let a = many sound content wanted in let b = counted sound in omega (arith, a, b, few)

        pub unseen_step : IsTrue honest → (content : Pages) → wants first content →
            LeavesOnly moment left_since first_pair new (IsEither (committed file journal first_pair) (alone content))
        unseen_step sound content wanted =
            let here = so_far content wanted in
            goes_on moment left_since may_leave first_pair pair new
            (IsEither (committed file journal first_pair) (alone content)) (here.unseen sound) time
            (λ c now. subst (λ (v : Saved). IsEither v (alone content) c)
            (sym (saved_in_is file journal may_leave content first_pair (saved_of first) (ready sound)))
            (left_behind file journal may_leave content (saved_in file journal may_leave content first_pair) save bytes
            pair new done (many sound content wanted) (few_pages sound content wanted) save.place act
            (next_of sound content wanted) (here.stands sound) (makes sound) c now))

        -- and told
        pub next_step : (after : S) (then : SaveState) → done ≡ true → then ≡ advanced act save →
            Ends saved_of wants noted act told after → AreUnderWay first_pair new first after then
        next_step after then ok then_is ends content wanted =
            subst (λ (t : SaveState). IsUnderWay content first_pair new first after t) (sym then_is)
            (behind_act act (next content here.wanted) ends (λ sound. stood sound))
          where
            here : IsUnderWay content first_pair pair first pages save
            here = so_far content wanted

            stood : IsTrue honest → StandsAt file journal may_leave (advanced act save).place (advanced act save)
                (saved_in file journal may_leave content first_pair) content new
            stood sound =
                stands_behind file journal may_leave content (saved_in file journal may_leave content first_pair) save
                bytes pair new done (many sound content wanted) (few_pages sound content wanted) save.place act refl
                (next_of sound content wanted) (here.stands sound) (makes sound) ok

            unsaved_now : saved_of told ≡ saved_of first
            unsaved_now = saved_is
                ∙ here.unsaved (not_over save.place act bytes (saved_of pages) content (next content here.wanted))

            same_as : after ≡ told → (t : SaveState) → (t.place ≡ Over → ⊥) → (IsTrue honest →
                StandsAt file journal may_leave t.place t (saved_in file journal may_leave content first_pair) content
                new)
                → IsUnderWay content first_pair new first after t
            same_as same t not stands = record {
              wanted = subst (λ (s : S). wants s content) (sym same) (kept content here.wanted);
              all_noted = λ over. absurd (not over);
              unsaved = λ _. ap saved_of same ∙ unsaved_now;
              stands = stands;
              unseen = λ sound. unseen_step sound content wanted;
            }

            more_not_over : (place : Place) → (place ≡ Over → ⊥) → one_more place ≡ Over → ⊥
            more_not_over (Guarding from) not is = absurd cc
            more_not_over (Writing written) not is = absurd cc
            more_not_over Written not is = absurd cc
            more_not_over Ended not is = absurd cc
            more_not_over Over not is = not refl
            more_not_over Failed not is = absurd cc

            behind_act : (a : Act) → IsNextAt save.place save (Some a) bytes (saved_of pages) content →
                Ends saved_of wants noted a told after →
                (IsTrue honest → StandsAt file journal may_leave (advanced a save).place (advanced a save)
                (saved_in file journal may_leave content first_pair) content new) →
                IsUnderWay content first_pair new first after (advanced a save)
            behind_act (Guard page) at same stands = same_as same (advanced (Guard page) save) (λ is. absurd cc) stands
            behind_act SyncImages at same stands = same_as same (advanced SyncImages save) (λ is. absurd cc) stands
            behind_act (Write page) at same stands = same_as same (advanced (Write page) save)
                (more_not_over save.place (not_over save.place (Write page) bytes (saved_of pages) content at)) stands
            behind_act SyncFile at same stands = same_as same (advanced SyncFile save) (λ is. absurd cc) stands
            behind_act End at same stands = same_as same (advanced End save) (λ is. absurd cc) stands
            behind_act SyncEnd at notes stands =
                let is = notes.pages content (kept content here.wanted) in
                record {
                  wanted = is.wanted;
                  all_noted = λ _. is.saved_is;
                  unsaved = λ not. absurd (not refl);
                  stands = stands;
                  unseen = λ sound. unseen_step sound content wanted;
                }

      -- all is done
      pub over : (bytes : List ℕ) →
          ((content : Pages) → wants pages content → IsNext save None bytes (saved_of pages) content) →
          IsTrue honest → (content : Pages) → wants first content →
          HasSaved file journal may_leave saved_of wants content pair told
      over bytes next sound content wanted = by_place save.place refl (next content here.wanted) (here.stands sound)
        where
          here : IsUnderWay content first_pair pair first pages save
          here = so_far content wanted

          unsaved_so : (save.place ≡ Over → ⊥) → saved_of pages ≡ file first_pair
          unsaved_so not = here.unsaved not ∙ pages_in sound

          none_guarded : (from : ℕ) → save.place ≡ Guarding from → IsNoneGuarded from save (saved_of pages) content →
              IsNoneGuarded from save (file first_pair) content
          none_guarded from at none = subst (λ (ps : Pages). IsNoneGuarded from save ps content)
              (unsaved_so (λ is. absurd (let clash : Guarding from ≡ Over = sym at ∙ is in cc))) none

          by_place : (place : Place) → save.place ≡ place →
              IsNextAt place save None bytes (saved_of pages) content →
              StandsAt file journal may_leave place save (saved_in file journal may_leave content first_pair) content
              pair →
              HasSaved file journal may_leave saved_of wants content pair told
          by_place (Guarding from) at none stands =
              let all = none_guarded from at none in
              let base = saved_in file journal may_leave content first_pair in
              record {
                files = nothing_to_do file journal may_leave content base from save pair pair stands all
                    (many sound content wanted);
                noted = saved_is ∙ unsaved_so (λ is. absurd (let clash : Guarding from ≡ Over = sym at ∙ is in cc))
                    ∙ nothing_same file journal may_leave content base from save pair pair stands all
                    (many sound content wanted);
                wanted = kept content here.wanted;
              }
          by_place (Writing written) at none stands = absurd none
          by_place Written at none stands = absurd cc
          by_place Ended at none stands = absurd cc
          by_place Over at none stands = record {
            files = stands;
            noted = saved_is ∙ here.all_noted at;
            wanted = kept content here.wanted;
          }
          by_place Failed at none stands = absurd none
