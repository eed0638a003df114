-- What each call of a recovery leaves.
use Rattle.std.proofs.Common.{◌≡◌, ◌∙◌, ap, inr, refl, sym, subst, ℕ, Option}
use Rattle.safe_device.specs.Left.{Left, Saved, recovered_by, rest_of}
use Rattle.safe_device.specs.Crash.{Cleared, Elapses, Follows, HasFile, HasJournal, Keeps, LeavesOnly}
use Rattle.safe_device.specs.Safe.{committed, Fits, IsAtRest, IsFoundOrLeft, IsLeftBefore, IsResting, IsRestoring, StandsFor}
use Rattle.safe_device.specs.declared.journal.Journal.{Journal}
use Rattle.safe_device.proofs.Moments.{first, goes_on, joined}
use Rattle.safe_device.proofs.Resting.{rest_recovers, rest_rests}
use Rattle.safe_device.proofs.Restoring.{Pages}
use Rattle.safe_device.proofs.Sessions.{by_parts, cleared_step, left_earlier}

-- what recovery gives of the same file and journal
pub same_committed : {P : Type 0} (file : P → Pages) (journal : P → Option Journal) (old new : P)
    → file new ≡ file old → journal new ≡ journal old → committed file journal new ≡ committed file journal old
same_committed file journal old new file_is journal_is =
    ap (λ (q : Option Journal). recovered_by q (file new)) journal_is
    ∙ ap (λ (ps : Pages). recovered_by (journal old) ps) file_is

-- a call that has no new outcome
module _ {P : Type 0} (may_leave : P → Left → Type 0) (old synced : P)
    (found : Saved) (crash : (c : Left) → may_leave synced c → may_leave old c) where
  pub was_left : (c : Left) → may_leave synced c → IsFoundOrLeft found (may_leave old) c
  was_left c now = inr (c, crash c now, refl)

  pub was_before : (c : Left) → IsLeftBefore (may_leave synced) c → IsFoundOrLeft found (may_leave old) c
  was_before c via = inr (via.0, crash via.0 via.1, via.2)

  -- the images are let go once the file is restored
  pub cleared_kept : (q : Option Journal) (pages : Pages) (mid cleared : P) → recovered_by (rest_of q) pages ≡ found
      → Keeps (HasJournal q) (may_leave mid) → ((c : Left) → may_leave mid c → c.file ≡ pages)
      → ((c : Left) → may_leave mid c → IsLeftBefore (may_leave synced) c)
      → Follows (Cleared q) (may_leave mid) (may_leave cleared)
      → (c : Left) → may_leave cleared c → IsFoundOrLeft found (may_leave old) c
  cleared_kept q pages mid cleared rest_is journal_kept file_kept pages_kept follows =
      cleared_step q pages found (may_leave old) (may_leave mid) (may_leave cleared) rest_is journal_kept file_kept
      (λ c now. left_earlier (may_leave old) (may_leave synced) crash c (pages_kept c now)) follows

-- a recovery, as far as its images are put back
module _ {P : Type 0} (file : P → Pages) (journal : P → Option Journal) (may_leave : P → Left → Type 0)
    (moment : P → ℕ) (left_since : P → ℕ → Left → Type 0) (old synced mid : P)
    (only_now : (c : Left) → left_since old (moment old) c → may_leave old c)
    (file_is : file synced ≡ file old) (journal_is : journal synced ≡ journal old)
    (crash : (c : Left) → may_leave synced c → may_leave old c)
    (time : Elapses moment left_since may_leave old synced)
    (images : LeavesOnly moment left_since synced mid (IsLeftBefore (may_leave synced))) where
  abbrev found : Saved
  found = committed file journal old

  pub at_images : LeavesOnly moment left_since old mid (IsFoundOrLeft found (may_leave old))
  at_images =
      let at_sync = first moment left_since may_leave old synced (IsFoundOrLeft found (may_leave old)) only_now
      (λ f now. inr (f, now, refl)) time (was_left may_leave old synced found crash) in
      joined moment left_since may_leave old synced mid (IsFoundOrLeft found (may_leave old))
      (IsLeftBefore (may_leave synced)) (IsFoundOrLeft found (may_leave old)) at_sync images (λ f was. was)
      (was_before may_leave old synced found crash)

  -- and let go
  module _ (cleared : P) (fits : Fits (journal old) (file old))
      (put_back : file mid ≡ (committed file journal synced).pages)
      (durable : Keeps (HasFile (file mid)) (may_leave mid))
      (restoring : IsRestoring (journal synced) (may_leave synced) (may_leave mid))
      (follows : Follows (Cleared (journal mid)) (may_leave mid) (may_leave cleared))
      (same : journal mid ≡ journal synced) where
    pub put_back_is : file mid ≡ found.pages
    put_back_is = put_back ∙ ap (λ (s : Saved). s.pages) (same_committed file journal old synced file_is journal_is)

    rest_is : recovered_by (rest_of (journal old)) (file mid) ≡ found
    rest_is =
        ap (λ (ps : Pages). recovered_by (rest_of (journal old)) ps) put_back_is
        ∙ rest_recovers (journal old) (file old) fits

    follows_old : Follows (Cleared (journal old)) (may_leave mid) (may_leave cleared)
    follows_old =
        subst (λ (q : Option Journal). Follows (Cleared q) (may_leave mid) (may_leave cleared)) (same ∙ journal_is)
        follows

    pub stands : (c : Left) → may_leave cleared c → IsFoundOrLeft found (may_leave old) c
    stands =
        cleared_kept may_leave old synced found crash (journal old) (file mid) mid cleared rest_is
        (λ c now. restoring.journal_kept c now ∙ journal_is) durable restoring.pages_kept follows_old

    pub at_clear : Elapses moment left_since may_leave mid cleared
        → LeavesOnly moment left_since old cleared (IsFoundOrLeft found (may_leave old))
    at_clear then = goes_on moment left_since may_leave old mid cleared (IsFoundOrLeft found (may_leave old)) at_images
        then stands

    -- all of which outlasts a crash
    module _ (new : P) (whole : journal cleared ≡ rest_of (journal mid)) (cleared_file : file cleared ≡ file mid)
        (new_file : file new ≡ file cleared) (new_journal : journal new ≡ journal cleared)
        (new_crash : (c : Left) → may_leave new c → may_leave cleared c)
        (kept : Keeps (HasJournal (journal cleared)) (may_leave new)) where
      pub new_rest : journal new ≡ rest_of (journal old)
      new_rest = new_journal ∙ whole ∙ ap (λ (q : Option Journal). rest_of q) (same ∙ journal_is)

      pub new_pages : file new ≡ found.pages
      new_pages = new_file ∙ cleared_file ∙ put_back_is

      left_pages : (c : Left) → may_leave new c → c.file ≡ file mid
      left_pages c now =
          let from = follows c (new_crash c now) in
          from.2.file ∙ durable from.0 from.1

      pub at_rest : IsAtRest file journal may_leave new
      at_rest = record {
        rests =
            subst (λ (q : Option Journal). IsResting q (file new)) (sym new_rest)
            (subst (λ (ps : Pages). IsResting (rest_of (journal old)) ps) (sym new_pages)
            (rest_rests (journal old) (file old) fits));
        same_journal = λ c now. kept c now ∙ sym new_journal;
        same_file = λ c now. left_pages c now ∙ sym (new_file ∙ cleared_file);
      }

      pub outlasts : Keeps (StandsFor found) (may_leave new)
      outlasts c now =
          by_parts c (rest_of (journal old)) (file mid) (kept c now ∙ sym new_journal ∙ new_rest) (left_pages c now)
          ∙ rest_is
