-- What each call of a guarded file leaves.
use Rattle.std.proofs.Common.{◌≡◌, ◌++◌, ◌≤◌, ◌∙◌, ap, sym, subst, refl, ℕ, List, true, Some, Option}
use Rattle.std.proofs.Common.{length, length-append, length-set, set, arith}
use Rattle.safe_device.specs.Left.{Left, Saved, recovered, recovered_by, added}
use Rattle.safe_device.specs.Crash.{Appended, TornAt, LongerBy, Elapses, Follows, LeavesOnly}
use Rattle.safe_device.specs.Safe.{numbers, first_count, committed, IsSafe, IsSession, StandsFor}
use Rattle.safe_device.specs.declared.guarded_file.GuardedFile.{GuardedFile}
use Rattle.safe_device.specs.declared.journal.Journal.{Journal}
use Rattle.safe_device.specs.declared.journal.PageImage.{PageImage}
use Rattle.safe_device.proofs.Moments.{first, goes_on}
use Rattle.safe_device.proofs.Restoring.{Pages, Shows}
use Rattle.safe_device.proofs.Sessions.{appended_kept, added_kept, added_session, IsGuarded, write_step, write_pages}
use Rattle.safe_device.proofs.Sessions.{extend_step, extend_pages, longer_session}

module _ {P : Type 0} (file : P → Pages) (journal : P → Option Journal) (may_leave : P → Left → Type 0)
    (moment : P → ℕ) (left_since : P → ℕ → Left → Type 0) where
  abbrev base : GuardedFile P → Saved
  base old = committed file journal old.pair

  abbrev first_of : GuardedFile P → ℕ
  first_of old = first_count old.begun old.count (file old.pair)

  -- images are added to the journal of an old file
  module _ (old : GuardedFile P) (images : List PageImage) (n : ℕ) (mid : P)
      (safe : IsSafe file journal may_leave old) (shows : Shows (base old).pages images) (starts : n ≡ first_of old)
      (follows : Follows (Appended n images) (may_leave old.pair) (may_leave mid)) where
    pub images_kept : (c : Left) → may_leave mid c → StandsFor (base old) c
    images_kept =
        appended_kept (journal old.pair) old.begun old.count old.guarded.items (file old.pair) images
        (may_leave old.pair) (may_leave mid) safe.session shows safe.journal_kept safe.pages_kept
        (subst (λ (m : ℕ). Follows (Appended m images) (may_leave old.pair) (may_leave mid)) starts follows)

    pub images_added : ((c : Left) → left_since old.pair (moment old.pair) c → may_leave old.pair c)
        → Elapses moment left_since may_leave old.pair mid
        → LeavesOnly moment left_since old.pair mid (StandsFor (base old))
    images_added only_now time =
        first moment left_since may_leave old.pair mid (StandsFor (base old)) only_now safe.pages_kept time images_kept

  -- and were waited for
  module _ (old : GuardedFile P) (images : List PageImage) (n : ℕ) (new : P)
      (safe : IsSafe file journal may_leave old) (shows : Shows (base old).pages images) (starts : n ≡ first_of old)
      (file_is : file new ≡ file old.pair) (journal_is : journal new ≡ Some (added n images (journal old.pair))) where
    journal_first : journal new ≡ Some (added (first_of old) images (journal old.pair))
    journal_first = journal_is ∙ ap (λ (m : ℕ). Some (added m images (journal old.pair))) starts

    pub images_committed : committed file journal new ≡ base old
    images_committed =
        ap (λ (o : Option Journal). recovered_by o (file new)) journal_first
        ∙ ap (λ (ps : Pages). recovered_by (Some (added (first_of old) images (journal old.pair))) ps) file_is
        ∙ added_kept (journal old.pair) old.begun old.count old.guarded.items (file old.pair) images
        safe.session shows (file old.pair) refl

    pub images_safe : (guarded : List ℕ) → guarded ≡ old.guarded.items ++ numbers images
        → IsSession true n guarded (file new) (journal new)
    images_safe guarded guarded_is =
        let session = added_session (journal old.pair) old.begun old.count old.guarded.items (file old.pair) images
        safe.session in
        let journal_of = Some (added (first_of old) images (journal old.pair)) in
        let with_count =
        subst (λ (m : ℕ). IsSession true m (old.guarded.items ++ numbers images) (file old.pair) journal_of)
        (sym starts) session in
        let with_guarded =
        subst (λ (l : List ℕ). IsSession true n l (file old.pair) journal_of) (sym guarded_is) with_count in
        let with_file = subst (λ (ps : Pages). IsSession true n guarded ps journal_of) (sym file_is) with_guarded in
        subst (λ (o : Option Journal). IsSession true n guarded (file new) o) (sym journal_first) with_file

  -- what an outcome keeps of a safe file
  abbrev pub Kept : GuardedFile P → Left → Type 0
  Kept mid c = (c.journal ≡ journal mid.pair) × (recovered c ≡ base mid)

  -- a call that kept it
  module _ (mid : GuardedFile P) (new : P) (kept : (c : Left) → may_leave new c → Kept mid c) where
    pub still_only : (old : P) (pages : Saved) → LeavesOnly moment left_since old mid.pair (StandsFor pages)
        → base mid ≡ pages → Elapses moment left_since may_leave mid.pair new
        → LeavesOnly moment left_since old new (StandsFor pages)
    still_only old pages so_far is time =
        goes_on moment left_since may_leave old mid.pair new (StandsFor pages) so_far time
        (λ c now. (kept c now).1 ∙ is)

    pub still_safe : IsSafe file journal may_leave mid → journal new ≡ journal mid.pair
        → length (file mid.pair) ≤ length (file new) → committed file journal new ≡ base mid
        → IsSafe file journal may_leave (record mid { pair = new })
    still_safe safe same longer is = record {
      journal_kept = λ c now. (kept c now).0 ∙ sym same;
      pages_kept = λ c now. (kept c now).1 ∙ sym is;
      session =
          subst (λ (o : Option Journal). IsSession mid.begun mid.count mid.guarded.items (file new) o) (sym same)
          (longer_session (journal mid.pair) mid.begun mid.count mid.guarded.items (file mid.pair) (file new) longer
          safe.session);
    }

  -- a page that is guarded is written
  module _ (mid : GuardedFile P) (page : ℕ) (new : P) (safe : IsSafe file journal may_leave mid)
      (begun : mid.begun ≡ true) (guarded : IsGuarded mid.count mid.guarded.items page) where
    pub store_kept : Follows (TornAt page) (may_leave mid.pair) (may_leave new) → (c : Left) → may_leave new c
        → Kept mid c
    store_kept =
        write_step (journal mid.pair) mid.begun mid.count page mid.guarded.items (file mid.pair) safe.session begun
        guarded (base mid) (may_leave mid.pair) (may_leave new) safe.journal_kept safe.pages_kept

    pub store_committed : (bytes : List ℕ) → journal new ≡ journal mid.pair
        → file new ≡ set (file mid.pair) page bytes → committed file journal new ≡ base mid
    store_committed bytes same is =
        ap (λ (o : Option Journal). recovered_by o (file new)) same
        ∙ ap (λ (ps : Pages). recovered_by (journal mid.pair) ps) is
        ∙ write_pages (journal mid.pair) mid.begun mid.count page mid.guarded.items (file mid.pair) safe.session begun
        guarded bytes

    pub store_length : (bytes : List ℕ) → file new ≡ set (file mid.pair) page bytes
        → length (file mid.pair) ≤ length (file new)
    store_length bytes is =
        let same : length (file new) ≡ length (file mid.pair) =
        ap length is ∙ length-set (file mid.pair) page bytes in omega (arith, same)

  -- a page is added in a session
  module _ (mid : GuardedFile P) (new : P) (safe : IsSafe file journal may_leave mid) (begun : mid.begun ≡ true) where
    pub extend_kept : Follows LongerBy (may_leave mid.pair) (may_leave new) → (c : Left) → may_leave new c
        → Kept mid c
    extend_kept =
        extend_step (journal mid.pair) mid.begun mid.count mid.guarded.items (file mid.pair) safe.session begun
        (may_leave mid.pair) (may_leave new) safe.journal_kept safe.pages_kept

    pub extend_committed : (more : Pages) → journal new ≡ journal mid.pair → file new ≡ file mid.pair ++ more
        → committed file journal new ≡ base mid
    extend_committed more same is =
        ap (λ (o : Option Journal). recovered_by o (file new)) same
        ∙ ap (λ (ps : Pages). recovered_by (journal mid.pair) ps) is
        ∙ extend_pages (journal mid.pair) mid.begun mid.count mid.guarded.items (file mid.pair) safe.session begun more

    pub extend_length : (more : Pages) → file new ≡ file mid.pair ++ more → length (file mid.pair) ≤ length (file new)
    extend_length more is = omega (arith, ap length is, length-append (file mid.pair) more)
