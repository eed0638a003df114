-- A recovery goes on: an act is made that was told.
use Rattle.std.proofs.Common.{arith, ℕ, ◌≡◌, ◌≤◌, ◌<◌, inl, inr, refl, sym, ◌∙◌, subst, Bool, true, false, length, List, [], ◌∷◌, Option, Some, None, IsTrue}
use Rattle.std.specs.Prelude.{nat_lt, if◌then◌else◌, Ok}
use Rattle.std.proofs.lemmas.Bool.Decides.{nat_tests}
use Rattle.safe_device.specs.Crash.{Elapses, LeavesOnly}
use Rattle.safe_device.specs.Left.{Left, found_of}
use Rattle.safe_device.specs.Safe.{IsFoundOrLeft, IsResting, committed}
use Rattle.safe_device.specs.declared.journal.Journal.{Journal}
use Rattle.safe_device.specs.declared.journal.PageImage.{PageImage}
use Rattle.safe_device.specs.declared.page_pair.FoundJournal.{FoundJournal}
use Rattle.pair_transfers.proofs.MomentLemmas.{goes_on, started}
use Rattle.pair_transfers.proofs.PuttingBackLemmas.{says_of}
use Rattle.pair_transfers.proofs.RecoveringLemmas.{Stood, clears, cleared_left, cut_restoring, cut_so, end_follows, ends_so, file_untouched, images_end, images_follow, journal_untouched, lasts, left_before, left_restoring, put_restoring, put_so, recovers, restored_so, rests_so, settles, sync_restoring, synced_left}
use Rattle.pair_transfers.specs.Acts.{Pages}
use Rattle.pair_transfers.specs.Recovering.{IsUntouched, RecoveryStands, Recovers, Sees, SeesWhole, behind, begun, ending, is_resting, next_act, one_put, put_or_sync}
use Rattle.pair_transfers.specs.declared.recovery.Recovery.{Recovery}
use Rattle.pair_transfers.specs.declared.recovery.RecoveryAct.{RecoveryAct}
use Rattle.pair_transfers.specs.declared.recovery.RecoveryPlace.{RecoveryPlace}
use Rattle.pair_transfers.specs.declared.recovery.RecoveryPlace.TheVariants.{Resting, Settled, Found, Durable, Putting, Restored, Cleared, Recovered, Failed}
use Rattle.pair_transfers.specs.declared.recovery.Seen.{Seen}
use Rattle.pair_transfers.specs.declared.recovery.Seen.TheVariants.{Nothing, Whole, Foreign, OtherVersion}

all_put : (index images : ℕ) → nat_lt index images ≡ false → images ≤ index
all_put index images is = grind (arith, nat_tests)

module _ {P : Type 0} (file : P → Pages) (journal : P → Option Journal) (may_leave : P → Left → Type 0)
    (found : FoundJournal) (first old new : P) (done : Bool) where
  abbrev Stands : RecoveryPlace → P → Type 0
  Stands place pair = RecoveryStands file journal may_leave place found first pair

  abbrev Does : RecoveryAct → Type 0
  Does act = Recovers file journal may_leave act done old new

  -- while images are put back
  put_left : (index : ℕ) (b : Bool) → Stands (Putting index) old → Does (put_or_sync b index) →
      (c : Left) → may_leave new c → Stood file journal may_leave first c
  put_left index true is (inl none) c now =
      left_restoring file journal may_leave first old is.restoring c (subst (λ (p : P). may_leave p c) none.same now)
  put_left index true is (inr (image, puts)) c now =
      left_restoring file journal may_leave first new
      (put_restoring file journal may_leave first old new done found index is image puts) c now
  put_left index false is makes c now =
      left_restoring file journal may_leave first new
      (sync_restoring file journal may_leave first old new done found index is makes) c now

  put_stands : (index : ℕ) (b : Bool) → nat_lt index found.images ≡ b → done ≡ true → Stands (Putting index) old →
      Does (put_or_sync b index) → Stands (one_put b index) new
  put_stands index true so ok is (inl none) = absurd (let no = none.failed in cc)
  put_stands index true so ok is (inr (image, puts)) =
      put_so file journal may_leave first old new done found index is image puts ok
  put_stands index false so ok is makes =
      restored_so file journal may_leave first old new done found index is makes ok (all_put index found.images so)

  -- the images are let go
  end_left : (b : Bool) → nat_lt 0 found.calls ≡ b → Stands Restored old → Does (ending b) →
      (c : Left) → may_leave new c → Stood file journal may_leave first c
  end_left true so is makes = cleared_left file journal may_leave first old new done found is
      (images_follow file journal may_leave first old new done found is so makes)
  end_left false so is makes = cleared_left file journal may_leave first old new done found is
      (end_follows file journal may_leave first old new done found is so makes)

  end_stands : (b : Bool) → nat_lt 0 found.calls ≡ b → done ≡ true → Stands Restored old → Does (ending b) →
      Stands Cleared new
  end_stands true so ok is makes = clears file journal may_leave first old new done found is ok makes.file_is
      (images_end file journal may_leave first old new done found is so makes)
      (images_follow file journal may_leave first old new done found is so makes)
  end_stands false so ok is makes = clears file journal may_leave first old new done found is ok makes.file_is
      (ends_so file journal may_leave first old new done found is so makes)
      (end_follows file journal may_leave first old new done found is so makes)

  told : (a b : RecoveryAct) → Some a ≡ Some b → Does b → Does a
  told a b is makes = let same : b ≡ a = cc in subst Does same makes

  -- what a crash leaves behind an act, that is done or has failed
  pub left_behind : (place : RecoveryPlace) (act : RecoveryAct) → next_act found place ≡ Some act → Stands place old →
      Does act → (c : Left) → may_leave new c → Stood file journal may_leave first c
  left_behind Resting act next is makes = left_before file journal may_leave first new
      (file_untouched file journal may_leave first old new done is.untouched (told _ act next makes))
  left_behind Settled act next is makes = left_before file journal may_leave first new
      (journal_untouched file journal may_leave first old new done is.lying.untouched (told _ act next makes))
  left_behind Found act next is makes = left_before file journal may_leave first new
      (journal_untouched file journal may_leave first old new done is.untouched (told _ act next makes))
  left_behind Durable act next is makes = left_restoring file journal may_leave first new
      (cut_restoring file journal may_leave first old new done found is (told _ act next makes))
  left_behind (Putting index) act next is makes =
      put_left index (nat_lt index found.images) is (told _ act next makes)
  left_behind Restored act next is makes = end_left (nat_lt 0 found.calls) refl is (told _ act next makes)
  left_behind Cleared act next is makes =
      synced_left file journal may_leave first old new done found is (told _ act next makes)
  left_behind Recovered act next is makes = absurd cc
  left_behind Failed act next is makes = absurd is

  -- and where it is done the recovery has come further
  pub stands_behind : (place : RecoveryPlace) (act : RecoveryAct) → next_act found place ≡ Some act →
      Stands place old → Does act → done ≡ true → Stands (behind found place) new
  stands_behind Resting act next is makes ok =
      settles file journal may_leave first old new done ok is (told _ act next makes)
  stands_behind Settled act next is makes ok =
      rests_so file journal may_leave first old new done ok is (told _ act next makes)
  stands_behind Found act next is makes ok =
      lasts file journal may_leave first old new done found ok is (told _ act next makes)
  stands_behind Durable act next is makes ok =
      cut_so file journal may_leave first old new done found ok is (told _ act next makes)
  stands_behind (Putting index) act next is makes ok =
      put_stands index (nat_lt index found.images) refl ok is (told _ act next makes)
  stands_behind Restored act next is makes ok =
      end_stands (nat_lt 0 found.calls) refl ok is (told _ act next makes)
  stands_behind Cleared act next is makes ok =
      recovers file journal may_leave first old new done found is (told _ act next makes) ok
  stands_behind Recovered act next is makes ok = absurd cc
  stands_behind Failed act next is makes ok = absurd is

-- ---- a whole recovery

module _ {P : Type 0} (honest : Bool) (file : P → Pages) (journal : P → Option Journal)
    (may_leave : P → Left → Type 0) (moment : P → ℕ) (left_since : P → ℕ → Left → Type 0) (first : P) where
  -- what is so where it has come to
  pub record IsComing (pair : P) (recovery : Recovery) : Type 0 where
    pub stands : IsTrue honest → RecoveryStands file journal may_leave recovery.place recovery.found first pair
    pub unseen : IsTrue honest →
        LeavesOnly moment left_since first pair (IsFoundOrLeft (committed file journal first) (may_leave first))

  calls_lie : (found : FoundJournal) (many : ℕ) → SeesWhole found many (journal first) (file first) →
      is_resting found many ≡ true → IsResting (journal first) (file first)
  calls_lie found many sees is = by_journal (journal first) (file first) sees.found_is sees.many_is
    where
      empty : (images : List PageImage) → length images ≡ 0 → images ≡ []
      empty [] is = refl
      empty (i ∷ more) is = absurd (omega (arith, is))

      by_journal : (q : Option Journal) (pages : Pages) → Some found ≡ found_of q → many ≡ length pages →
          IsResting q pages
      by_journal None pages found_is many_is = absurd cc
      by_journal (Some j) pages found_is many_is =
          let says = says_of found j found_is in
          let calls_are = says.calls in
          let some : 0 < found.calls = grind (arith, nat_tests, is) in
          let none : found.images ≡ 0 = grind (arith, nat_tests, is) in
          let whole : found.count ≡ many = grind (arith, nat_tests, is) in
          record {
            some = omega (arith, some, calls_are);
            whole = sym says.count ∙ whole ∙ many_is;
            no_image = empty j.images (sym says.images ∙ none);
          }

  untouched : IsUntouched file journal may_leave first first
  untouched = record { file_is = refl; journal_is = refl; left = λ c now. now }

  begins_whole : (b : Bool) (found : FoundJournal) (many : ℕ) → is_resting found many ≡ b →
      SeesWhole found many (journal first) (file first) →
      RecoveryStands file journal may_leave (if b then Resting else Found) found first first
  begins_whole true found many is sees =
      record { untouched = untouched; rests = calls_lie found many sees is }
  begins_whole false found many is sees = record {
    its = record { found_is = sees.found_is; fits = sees.fits };
    untouched = untouched;
  }

  -- it begins
  pub begins : (seen : Seen) (recovery : Recovery) → Ok recovery ≡ begun seen →
      (IsTrue honest → Sees seen (journal first) (file first)) →
      ((c : Left) → left_since first (moment first) c → may_leave first c) → IsComing first recovery
  begins seen recovery is sees only_now = record {
    stands = λ sound. by_seen seen is (sees sound);
    unseen = λ sound. started moment left_since may_leave first
        (IsFoundOrLeft (committed file journal first) (may_leave first)) only_now (λ c now. inr (c, now, refl));
  }
    where
      by_seen : (seen : Seen) → Ok recovery ≡ begun seen → Sees seen (journal first) (file first) →
          RecoveryStands file journal may_leave recovery.place recovery.found first first
      by_seen Nothing is none =
          let same : recovery ≡ record { place = Resting; found = record { count = 0; calls = 0; images = 0 } } = cc in
          subst (λ (r : Recovery). RecoveryStands file journal may_leave r.place r.found first first) (sym same)
          (record {
            untouched = untouched;
            rests = subst (λ (q : Option Journal). IsResting q (file first)) (sym none) tt;
          })
      by_seen (Whole found many) is sees =
          let same : recovery ≡
          record { place = if is_resting found many then Resting else Found; found = found } = cc in
          subst (λ (r : Recovery). RecoveryStands file journal may_leave r.place r.found first first) (sym same)
          (begins_whole (is_resting found many) found many refl sees)
      by_seen Foreign is sees = absurd cc
      by_seen OtherVersion is sees = absurd cc

  module _ (old new : P) (done : Bool) (recovery : Recovery) (so_far : IsComing old recovery) (act : RecoveryAct)
      (next : Some act ≡ next_act recovery.found recovery.place)
      (makes : IsTrue honest → Recovers file journal may_leave act done old new)
      (time : Elapses moment left_since may_leave old new) where
    pub unseen_act : IsTrue honest →
        LeavesOnly moment left_since first new (IsFoundOrLeft (committed file journal first) (may_leave first))
    unseen_act sound = goes_on moment left_since may_leave first old new
        (IsFoundOrLeft (committed file journal first) (may_leave first)) (so_far.unseen sound) time
        (left_behind file journal may_leave recovery.found first old new done recovery.place act (sym next)
        (so_far.stands sound) (makes sound))

    pub next_comes : (after : Recovery) → done ≡ true →
        after ≡ record recovery { place = behind recovery.found recovery.place } → IsComing new after
    next_comes after ok is = subst (IsComing new) (sym is) (record {
      stands = λ sound. stands_behind file journal may_leave recovery.found first old new done recovery.place act
          (sym next) (so_far.stands sound) (makes sound) ok;
      unseen = unseen_act;
    })
