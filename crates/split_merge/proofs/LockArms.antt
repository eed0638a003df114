-- The steps of a merge that change locks.
use Rattle.std.proofs.Common.{◌≡◌, ◌≢◌, ◌⊎◌, refl, sym, ap, ◌∙◌, subst, ℕ, ◌+◌, ◌<◌, ◌≤◌, true, List, [], Some, length, arith, inl, inr}
use Rattle.split_merge.proofs.MergeNames.{AllKnown, Contains, FileFault, IsHeld, IsHeld-some, IsReady, IsSeat, MAX_LOCKS, OnlyReads, aside, busy, chain, contains_head, contains_none, count_at, held, kind_of, last_rank, length_push, lock_of, may_write, none_busy, page_may, without_lock}
use Rattle.step_rules.specs.declared.kind.Kind.TheVariants as kinds
use Rattle.split_merge.specs.MergeWords.{RecordKey, Lock, LockKind, Selective, Exclusive, Directory, Page, Table, row_of, PoolState, store_of, Change, Drained, Progress, Moved, Known, EndsRow, HasNoFileLock, in_directory, Sees, world, Seen, Buddies, Joint, GrantRight, GiveBack, GrantLeft, GrantRightAgain, LookLeft, LookRight, ReleaseRight, ReleaseLeft, Convert, GrantAlone, WriteFree, LowerDepth, ReleaseAlone, GiveUpRight, GiveUp, ReleaseDirectory, Done}
use Rattle.split_merge.specs.Places.{MergeView, AreBuddies, at, locks_at, on_one}
use Rattle.split_merge.specs.Facts.{facts_at, buddy_facts, left_facts}
use Rattle.split_merge.specs.Steps.{MakesStep, IsGranted}
use Rattle.split_merge.proofs.MergeRowLemmas.{directory_held, no_page_held, directory_beside, no_other_held}
use Rattle.split_merge.proofs.MoveLemmas.{nothing_read}
use Rattle.split_merge.proofs.ArmLemmas.{grants, releases}
use Rattle.split_merge.proofs.CompareLemmas.{on_chain}

drained_not_busy : (change : Change) (left right page : ℕ) → change ≡ Drained left right →
    Contains (busy change) page → ⊥
drained_not_busy change left right page is there =
    contains_none page (subst (λ (c : Change). Contains (busy c) page) is there)

module _ (seat : ℕ) (pool : PoolState) (locks : Table) (v : MergeView) (ready : IsReady pool)
    (seated : IsSeat locks seat) where
  -- ---- grants
  one_more : (kind : LockKind) (before : List Lock) → length (in_directory kind before) ≡ length before + 1
  one_more kind before = let more = length_push before (lock_of Directory kind) in omega (arith, more)

  in_room : (kind : LockKind) (before : List Lock) → length before + 3 ≤ MAX_LOCKS →
      row_of locks seat ≡ in_directory kind before → length (row_of locks seat) < MAX_LOCKS
  in_room kind before room is = omega (arith, room, ap length is, one_more kind before)

  on_room : (page : ℕ) (before : List Lock) → length before + 3 ≤ MAX_LOCKS →
      row_of locks seat ≡ on_one page before → length (row_of locks seat) < MAX_LOCKS
  on_room page before room is =
      let more = length_push (in_directory Selective before) (lock_of (Page page) Selective) in
      omega (arith, room, ap length is, one_more Selective before, more)

  directory_in : (before : List Lock) → HasNoFileLock before → row_of locks seat ≡ in_directory Selective before →
      IsHeld locks seat Directory
  directory_in before bare is = IsHeld-some locks seat Directory Selective
      (ap (λ (xs : List Lock). kind_of xs Directory) is ∙ directory_held before bare Selective)

  directory_on : (page : ℕ) (before : List Lock) → HasNoFileLock before → row_of locks seat ≡ on_one page before →
      IsHeld locks seat Directory
  directory_on page before bare is = IsHeld-some locks seat Directory Selective
      (ap (λ (xs : List Lock). kind_of xs Directory) is ∙ directory_beside before bare Selective Selective page)

  module _ (did : Progress FileFault) (new : MergeView) (locks' : Table) (b : Buddies) (are : AreBuddies b) where
    both : (facts : List Known) (hash : RecordKey → ℕ) (change : Change) →
        AllKnown seat (world pool.images locks change) (buddy_facts b v.approach.pseudokey facts) →
        Contains (chain (store_of pool.images)) b.left × Contains (chain (store_of pool.images)) b.right
    both facts hash change = on_chain seat v.key v.approach pool pool locks b are facts hash change

    pub grant_right : (seen : Seen) → v.place ≡ GrantRight b seen →
        EndsRow (locks_at (GrantRight b seen) v.approach) 3 (row_of locks seat) →
        IsGranted did seat (Page b.right) Selective v (at (LookRight b seen) v) new locks locks' →
        MakesStep seat did v new pool pool locks locks'
    grant_right seen is r given = grants seat pool locks v did (GrantRight b seen) (LookRight b seen) b.right
        Selective new
        locks' is given refl refl refl refl (λ before. refl) ready seated (on_room b.left r.before r.room r.is)
        (ap (λ (xs : List Lock). kind_of xs (Page b.right)) r.is
        ∙ no_other_held r.before r.bare Selective Selective b.left b.right are.apart)
        (λ hash change sees. inl (both (left_facts b seen []) hash change sees.known).1)
        (λ hash change sees. page_may b.right Selective seat (world pool.images locks change)
        (directory_on b.left r.before r.bare r.is) (λ e. absurd cc))
        (λ s. omega arith)

    pub grant_left : v.place ≡ GrantLeft b → EndsRow (locks_at (GrantLeft b) v.approach) 3 (row_of locks seat) →
        IsGranted did seat (Page b.left) Selective v (at (GrantRightAgain b) v) new locks locks' →
        MakesStep seat did v new pool pool locks locks'
    grant_left is r given = grants seat pool locks v did (GrantLeft b) (GrantRightAgain b) b.left Selective new
        locks' is given refl refl refl refl (λ before. refl) ready seated (in_room Selective r.before r.room r.is)
        (ap (λ (xs : List Lock). kind_of xs (Page b.left)) r.is ∙ no_page_held r.before r.bare Selective b.left)
        (λ hash change sees. inl (both [] hash change sees.known).0)
        (λ hash change sees. page_may b.left Selective seat (world pool.images locks change)
        (directory_in r.before r.bare r.is) (λ e. absurd cc))
        (λ s. omega arith)

    pub grant_right_again : v.place ≡ GrantRightAgain b →
        EndsRow (locks_at (GrantRightAgain b) v.approach) 3 (row_of locks seat) →
        IsGranted did seat (Page b.right) Selective v (at (LookLeft b) v) new locks locks' →
        MakesStep seat did v new pool pool locks locks'
    grant_right_again is r given = grants seat pool locks v did (GrantRightAgain b) (LookLeft b) b.right Selective new
        locks' is given refl refl refl refl (λ before. refl) ready seated (on_room b.left r.before r.room r.is)
        (ap (λ (xs : List Lock). kind_of xs (Page b.right)) r.is
        ∙ no_other_held r.before r.bare Selective Selective b.left b.right are.apart)
        (λ hash change sees. inl (both [] hash change sees.known).1)
        (λ hash change sees. page_may b.right Selective seat (world pool.images locks change)
        (directory_on b.left r.before r.bare r.is) (λ e. absurd cc))
        (λ s. omega arith)

  -- whoever stands on the right page is drained
  pub grant_alone : (did : Progress FileFault) (new : MergeView) (locks' : Table) (j : Joint) → v.place ≡ GrantAlone j →
      EndsRow (locks_at (GrantAlone j) v.approach) 3 (row_of locks seat) →
      IsGranted did seat (Page j.right) Exclusive v (at (WriteFree j) v) new locks locks' →
      MakesStep seat did v new pool pool locks locks'
  grant_alone did new locks' j is r given = grants seat pool locks v did (GrantAlone j) (WriteFree j) j.right Exclusive
      new locks' is given refl refl refl refl (λ before. refl) ready seated (in_room Exclusive r.before r.room r.is)
      (ap (λ (xs : List Lock). kind_of xs (Page j.right)) r.is ∙ no_page_held r.before r.bare Exclusive j.right)
      (λ hash change sees. inr (off change sees.known.0.1))
      (λ hash change sees. record {
        ordered = λ other held. last_rank other;
        shared = λ same x. absurd cc;
        in_directory = λ page same. IsHeld-some locks seat Directory Exclusive alone;
        last = λ page same x. (
          subst (λ (n : ℕ). Contains (aside change) n) (let e : j.right ≡ page = cc in e)
              (off change sees.known.0.1),
          alone,
        );
      })
      (λ s. omega arith)
    where
      off : (change : Change) → change ≡ Drained j.left j.right → Contains (aside change) j.right
      off change is = subst (λ (c : Change). Contains (aside c) j.right) (sym is) (contains_head j.right [])

      alone : held locks seat Directory ≡ Some Exclusive
      alone = ap (λ (xs : List Lock). kind_of xs Directory) r.is ∙ directory_held r.before r.bare Exclusive

  -- ---- releases
  module _ (did : Progress FileFault) (new : MergeView) (locks' : Table) (moved : did ≡ Moved kinds.Release) where
    pub give_back : (b : Buddies) → v.place ≡ GiveBack b → new ≡ at (GrantLeft b) v →
        locks' ≡ without_lock locks seat (Page b.right) → MakesStep seat did v new pool pool locks locks'
    give_back b is is_new is_locks = releases seat pool locks v did (GiveBack b) (GrantLeft b) (Page b.right) Selective
        pool new locks' is moved is_new is_locks (nothing_read pool ready) refl (λ e. absurd cc) (λ before. refl)
        (λ before bare. no_page_held before bare Selective b.right) seated
        (λ hash change sees page same there. none_busy change page sees.known.0.1 there)
        (λ before bare row hash change sees same. absurd cc)
        (λ hash change sees. sees.known)
        (λ before bare. let d = ap may_write (directory_held before bare Selective) in (d, (d, (d, (d, (d, tt))))))
        (λ hash change sees. omega arith)

    pub release_right : (j : Joint) → j.left ≢ j.right → v.place ≡ ReleaseRight j → new ≡ at (ReleaseLeft j) v →
        locks' ≡ without_lock locks seat (Page j.right) → MakesStep seat did v new pool pool locks locks'
    release_right j apart is is_new is_locks = releases seat pool locks v did (ReleaseRight j) (ReleaseLeft j)
        (Page j.right) Selective pool new locks' is moved is_new is_locks (nothing_read pool ready) refl
        (λ e. absurd cc) (λ before. refl)
        (λ before bare. no_other_held before bare Selective Selective j.left j.right apart) seated
        (λ hash change sees page same there. drained_not_busy change j.left j.right page sees.known.0.1 there)
        (λ before bare row hash change sees same. absurd cc)
        (λ hash change sees. sees.known)
        (λ before bare. (ap may_write (directory_beside before bare Selective Selective j.left), tt))
        (λ hash change sees. omega arith)

    pub release_left : (j : Joint) → v.place ≡ ReleaseLeft j → new ≡ at (Convert j) v →
        locks' ≡ without_lock locks seat (Page j.left) → MakesStep seat did v new pool pool locks locks'
    release_left j is is_new is_locks = releases seat pool locks v did (ReleaseLeft j) (Convert j)
        (Page j.left) Selective pool new locks' is moved is_new is_locks (nothing_read pool ready) refl
        (λ e. absurd cc) (λ before. refl)
        (λ before bare. no_page_held before bare Selective j.left) seated
        (λ hash change sees page same there. drained_not_busy change j.left j.right page sees.known.0.1 there)
        (λ before bare row hash change sees same. absurd cc)
        (λ hash change sees. sees.known)
        (λ before bare. (ap may_write (directory_held before bare Selective), tt))
        (λ hash change sees. omega arith)

    -- ---- given up
    pub give_up_right : (left right : ℕ) → left ≢ right → v.place ≡ GiveUpRight left right → new ≡ at (GiveUp left) v →
        locks' ≡ without_lock locks seat (Page right) → MakesStep seat did v new pool pool locks locks'
    give_up_right left right apart is is_new is_locks = releases seat pool locks v did (GiveUpRight left right)
        (GiveUp left) (Page right) Selective pool new locks' is moved is_new is_locks (nothing_read pool ready) refl
        (λ e. refl) (λ before. refl)
        (λ before bare. no_other_held before bare Selective Selective left right apart) seated
        (λ hash change sees page same there. none_busy change page sees.known.0.1 there)
        (λ before bare row hash change sees same. absurd cc)
        (λ hash change sees. sees.known)
        (λ before bare. (ap may_write (directory_beside before bare Selective Selective left), tt))
        (λ hash change sees. omega arith)

    pub give_up : (page : ℕ) → v.place ≡ GiveUp page → new ≡ at ReleaseDirectory v →
        locks' ≡ without_lock locks seat (Page page) → MakesStep seat did v new pool pool locks locks'
    give_up page is is_new is_locks = releases seat pool locks v did (GiveUp page)
        ReleaseDirectory (Page page) Selective pool new locks' is moved is_new is_locks (nothing_read pool ready) refl
        (λ e. refl) (λ before. refl)
        (λ before bare. no_page_held before bare Selective page) seated
        (λ hash change sees page same there. none_busy change page sees.known.0.1 there)
        (λ before bare row hash change sees same. absurd cc)
        (λ hash change sees. sees.known)
        (λ before bare. (ap may_write (directory_held before bare Selective), tt))
        (λ hash change sees. omega arith)

    pub release_directory : v.place ≡ ReleaseDirectory → new ≡ at Done v →
        locks' ≡ without_lock locks seat Directory → MakesStep seat did v new pool pool locks locks'
    release_directory is is_new is_locks = releases seat pool locks v did ReleaseDirectory Done Directory Selective
        pool new locks' is moved is_new is_locks (nothing_read pool ready) refl (λ e. absurd cc) (λ before. refl)
        (λ before bare. bare.directory) seated
        (λ hash change sees page same there. absurd cc)
        (λ before bare row hash change sees same. record {
          quiet = sees.known.0.1;
          bare = λ n. ap (λ (xs : List Lock). kind_of xs (Page n)) row ∙ no_page_held before bare Selective n;
          halved = λ alone. absurd (let here : held locks seat Directory ≡ Some Selective =
              ap (λ (xs : List Lock). kind_of xs Directory) row ∙ directory_held before bare Selective in
              let e : Some Selective ≡ Some Exclusive = sym here ∙ alone in cc);
        })
        (λ hash change sees. tt)
        (λ before bare. tt)
        (λ hash change sees. omega arith)

    -- the directory has no depth, or a bucket has its depth
    pub release_alone : (depth count : ℕ) → (depth ≡ 0) ⊎ (count ≢ 0) → v.place ≡ ReleaseAlone depth count →
        new ≡ at Done v → locks' ≡ without_lock locks seat Directory → MakesStep seat did v new pool pool locks locks'
    release_alone depth count halved is is_new is_locks = releases seat pool locks v did (ReleaseAlone depth count) Done
        Directory Exclusive pool new locks' is moved is_new is_locks (nothing_read pool ready) refl (λ e. absurd cc)
        (λ before. refl) (λ before bare. bare.directory) seated
        (λ hash change sees page same there. absurd cc)
        (λ before bare row hash change sees same. record {
          quiet = sees.known.0.1;
          bare = λ n. ap (λ (xs : List Lock). kind_of xs (Page n)) row ∙ no_page_held before bare Exclusive n;
          halved = λ alone. elim halved [
            | inl none ↦ inl (sees.known.1.0.1 ∙ none)
            | inr some ↦ inr (λ none. some (sym (ap (count_at (store_of pool.images)) sees.known.1.0.1
                ∙ sees.known.1.1.0.1) ∙ none))
          ];
        })
        (λ hash change sees. tt)
        (λ before bare. tt)
        (λ hash change sees. omega arith)

    -- the freed page is given back
    pub leave_page : (page depth count : ℕ) (pool' : PoolState) → OnlyReads true pool pool' →
        ((hash : RecordKey → ℕ) (change : Change) → Sees hash seat (facts_at (LowerDepth page) v.approach) pool locks
        change → ((store_of pool.images).header.depth ≡ depth) × (count_at (store_of pool.images) depth ≡ count)) →
        v.place ≡ LowerDepth page → new ≡ at (ReleaseAlone depth count) v →
        locks' ≡ without_lock locks seat (Page page) → MakesStep seat did v new pool pool' locks locks'
    leave_page page depth count pool' reads says is is_new is_locks = releases seat pool locks v did (LowerDepth page)
        (ReleaseAlone depth count) (Page page) Exclusive pool' new locks' is moved is_new is_locks reads refl
        (λ e. absurd cc) (λ before. refl)
        (λ before bare. no_page_held before bare Exclusive page) seated
        (λ hash change sees page same there. none_busy change page sees.known.0.1 there)
        (λ before bare row hash change sees same. absurd cc)
        (λ hash change sees. let said = says hash change sees in
        (sees.known.0, ((sees.known.0.0, said.0), ((sees.known.0.0, said.1), tt))))
        (λ before bare. let d = ap may_write (directory_held before bare Exclusive) in (d, (d, (d, tt))))
        (λ hash change sees. omega arith)
