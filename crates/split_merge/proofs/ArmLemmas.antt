-- The steps of a merge by what its parts answer.
use Rattle.std.proofs.Common.{◌≡◌, refl, sym, ap, ◌∙◌, subst, ℕ, ◌<◌, true, false, List, [], ◌∷◌, ◌++◌, Some, None, length, arith}
use Rattle.split_merge.proofs.MergeNames.{AllAnchored, AllKnown, AllKnown-relocked, Contains, Converts, Err, FileFault, FileHasCause, IfErr, IsDevicesFault, IsDone, IsFree-unopposed, IsReached, IsReady, IsSeat, IsTrue, Kind, MAX_LOCKS, MayBeGranted, Ok, OnErr, OnOk, OnlyReads, OnlyWrites, Result, busy, converted, held, is_ok, kind_keeps, kind_of, lock_of, may_write, row_of-same, without_lock}
use Rattle.step_rules.specs.declared.kind.Kind.TheVariants as kinds
use Rattle.split_merge.specs.MergeWords.{RecordKey, Lock, LockKind, Selective, Exclusive, LockName, Directory, Page, Table, row_of, with_row, PoolState, store_of, Store, Change, Progress, Moved, Blocked, Fault, Ended, World, ForLock, ToExclusive, HasNoFileLock, in_directory, world, Joint, MergePlace, Convert, GrantAlone}
use Rattle.split_merge.specs.Places.{MergeView, at, locks_at, is_done, is_given_up}
use Rattle.split_merge.specs.Facts.{facts_at, ask_at, left_at}
use Rattle.split_merge.specs.Steps.{MakesStep, IsGranted, IsConverted, GoesOn}
use Rattle.split_merge.proofs.MergeRowLemmas.{converted_last, directory_held}
use Rattle.split_merge.proofs.MoveLemmas.{view_at, IfSeen, IsWritten, nothing_written, blocked, granted, faulted, wrote, released}

module _ (seat : ℕ) (pool : PoolState) (locks : Table) (v : MergeView) where
  abbrev pub seen : MergePlace → ((RecordKey → ℕ) → Change → Type 0) → Type 0
  seen place P = IfSeen seat v.key v.approach pool locks place P

  -- what is so of a merge at its place is so of the merge
  pub here : (place : MergePlace) → v.place ≡ place → (P : MergeView → Type 0) →
      P (record { key = v.key; approach = v.approach; place = place }) → P v
  here place is P p =
      subst (λ (x : MergePlace). P (record { key = v.key; approach = v.approach; place = x })) (sym is) p

  -- it is where it was
  pub stays : (place : MergePlace) (fault : FileFault) (pool' : PoolState) → v.place ≡ place →
      MakesStep seat (Fault fault) (view_at seat v.key v.approach pool locks place)
      (view_at seat v.key v.approach pool locks place) pool pool' locks locks →
      MakesStep seat (Fault fault) v v pool pool' locks locks
  stays place fault pool' is step = here place is (λ u. MakesStep seat (Fault fault) u u pool pool' locks locks) step

  -- a page is locked, or another seat stands in the way
  pub grants : (did : Progress FileFault) (place place' : MergePlace) (page : ℕ) (kind : LockKind) (new : MergeView)
      (locks' : Table) → v.place ≡ place →
      IsGranted did seat (Page page) kind v (at place' v) new locks locks' →
      ask_at place v.approach ≡ Some (ForLock (Page page) kind) → is_done place ≡ false → is_given_up place' ≡ false →
      facts_at place' v.approach ≡ facts_at place v.approach →
      ((before : List Lock) →
      locks_at place' v.approach before ≡ locks_at place v.approach before ++ lock_of (Page page) kind ∷ []) →
      IsReady pool → IsSeat locks seat → length (row_of locks seat) < MAX_LOCKS → held locks seat (Page page) ≡ None →
      seen place (λ hash change. IsReached (world pool.images locks change) page) →
      seen place (λ hash change. MayBeGranted (Page page) kind seat (world pool.images locks change)) →
      ((s : Store) → left_at place' v.approach s < left_at place v.approach s) →
      MakesStep seat did v new pool pool locks locks'
  grants (Moved k) place place' page kind new locks' is (moved, is_new, nobody, is_locks) asked going on facts ends
      ready seated room fresh reached may falls =
      here place is (λ u. MakesStep seat (Moved k) u new pool pool locks locks')
      (rw (moved, is_new) (granted seat v.key v.approach pool locks place place' page kind locks' asked going on facts
      ends ready seated room fresh nobody is_locks reached may falls))
  grants (Blocked other) place place' page kind new locks' is (is_old, opposes, same) asked going on facts ends
      ready seated room fresh reached may falls =
      rw (is_old, same) (here place is (λ u. MakesStep seat (Blocked other) u u pool pool locks locks)
      (blocked seat v.key v.approach pool locks place (ForLock (Page page) kind) other asked going ready
      (λ change. opposes)))
  grants (Fault f) place place' page kind new locks' is none asked going on facts ends ready seated room fresh reached
      may falls = absurd none
  grants Ended place place' page kind new locks' is none asked going on facts ends ready seated room fresh reached
      may falls = absurd none

  -- a page is written, or could not be
  pub goes_on : (r : Result Unit FileFault) (did : Progress FileFault) (place place' : MergePlace) (kind : Kind)
      (pool' : PoolState) (t : Store) (new : MergeView) → v.place ≡ place → GoesOn r did kind v (at place' v) new →
      OnlyWrites (is_ok r) pool pool' → IfErr r (FileHasCause pool pool') →
      (IsTrue pool.honest → OnOk r (store_of pool'.images ≡ t)) →
      (IsTrue pool.honest → OnErr r (pool'.images ≡ pool.images)) → (kind ≡ kinds.WriteRecord → ⊥) →
      is_done place ≡ false → is_given_up place' ≡ false →
      ((before : List Lock) → locks_at place' v.approach before ≡ locks_at place v.approach before) →
      seen place (λ hash change. IfErr r (IsDevicesFault pool pool')) →
      seen place (λ hash change. left_at place' v.approach t < left_at place v.approach (store_of pool.images)) →
      ((before : List Lock) → HasNoFileLock before → row_of locks seat ≡ locks_at place v.approach before →
      seen place (λ hash change. hash v.key ≡ v.approach.pseudokey →
      IsWritten seat v.key v.approach pool locks hash change place place' kind t)) →
      MakesStep seat did v new pool pool' locks locks
  goes_on (Ok x) did place place' kind pool' t new is (moved, is_new) writes cause becomes spares other going on same
      risen falls
      written =
      here place is (λ u. MakesStep seat did u new pool pool' locks locks)
      (rw (moved, is_new) (wrote seat v.key v.approach pool locks place place' kind pool' t writes becomes other
      going on same
      falls written))
  goes_on (Err fault) did place place' kind pool' t new is (failed, is_old) writes cause becomes spares other going on
      same risen
      falls written =
      rw (failed, is_old) (here place is (λ u. MakesStep seat (Fault fault) u u pool pool' locks locks)
      (faulted seat v.key v.approach pool locks place fault pool' writes spares cause going risen))

  -- the last lock is given back
  pub releases : (did : Progress FileFault) (place place' : MergePlace) (name : LockName) (kind : LockKind)
      (pool' : PoolState) (new : MergeView) (locks' : Table) → v.place ≡ place → did ≡ Moved kinds.Release →
      new ≡ at place' v → locks' ≡ without_lock locks seat name → OnlyReads true pool pool' → is_done place ≡ false →
      (is_given_up place' ≡ true → is_given_up place ≡ true) →
      ((before : List Lock) →
      locks_at place v.approach before ≡ locks_at place' v.approach before ++ lock_of name kind ∷ []) →
      ((before : List Lock) → HasNoFileLock before → kind_of (locks_at place' v.approach before) name ≡ None) →
      IsSeat locks seat →
      seen place (λ hash change. (page : ℕ) → name ≡ Page page → Contains (busy change) page → ⊥) →
      ((before : List Lock) → HasNoFileLock before → row_of locks seat ≡ locks_at place v.approach before →
      seen place (λ hash change. name ≡ Directory → IsDone seat (world pool.images locks change))) →
      seen place (λ hash change. AllKnown seat (world pool.images locks change) (facts_at place' v.approach)) →
      ((before : List Lock) → HasNoFileLock before →
      AllAnchored (locks_at place' v.approach before) (facts_at place' v.approach)) →
      seen place (λ hash change.
      left_at place' v.approach (store_of pool'.images) < left_at place v.approach (store_of pool.images)) →
      MakesStep seat did v new pool pool' locks locks'
  releases did place place' name kind pool' new locks' is moved is_new is_locks reads going up ends fresh seated idle
      done known anchored falls =
      here place is (λ u. MakesStep seat did u new pool pool' locks locks')
      (rw (moved, is_new) (released seat v.key v.approach pool locks place place' name kind pool' locks' reads going up
      ends fresh seated is_locks idle done known anchored falls))

  -- the directory's lock becomes exclusive, or another seat stands in the way
  pub converts : (did : Progress FileFault) (j : Joint) (new : MergeView) (locks' : Table) → v.place ≡ Convert j →
      IsConverted did seat v (at (GrantAlone j) v) new locks locks' → IsReady pool → IsSeat locks seat →
      MakesStep seat did v new pool pool locks locks'
  converts (Moved k) j new locks' is (moved, is_new, nobody, is_locks) ready seated =
      here (Convert j) is (λ u. MakesStep seat (Moved k) u new pool pool locks locks')
      (rw (moved, is_new) (record {
        writes = record {
          writes = nothing_written pool ready;
          cause = λ f same. absurd cc;
          spares = λ f. absurd cc;
        };
        aim = record {
          key = refl;
          pseudokey = refl;
          ended = (λ e. absurd cc, λ d. absurd cc);
          stays = tt;
        };
        row = alone;
        progress = λ hash change sees. omega arith;
        step = λ hash change before keyed bare row sees fine.
            let old : World = world pool.images locks change in
            let new : World = world pool.images locks' change in
            let c : Converts seat old new = record {
              seated = seated;
              left = j.left;
              right = j.right;
              drained = sees.known.0.1;
              had = ap (λ (xs : List Lock). kind_of xs Directory) row ∙ directory_held before bare Selective;
              free = IsFree-unopposed locks seat Directory Exclusive nobody;
              is = ap (λ (t : Table). world pool.images t change) is_locks;
            } in
            let row' : row_of locks' seat ≡ in_directory Exclusive before =
            ap (λ (t : Table). row_of t seat) (alone before bare row)
            ∙ row_of-same locks seat (in_directory Exclusive before) seated in
            record {
              contents = λ k. refl;
              step = record {
                after = change;
                file = sees.file;
                others = kind_keeps kinds.Convert hash seat old new sees.sound c;
                known = AllKnown-relocked seat old locks' (facts_at (GrantAlone j) v.approach) sees.known
                    (subst (λ (xs : List Lock). AllAnchored xs (facts_at (GrantAlone j) v.approach)) (sym row')
                    (ap may_write (directory_held before bare Exclusive), tt));
                does = c;
                led = tt;
              };
            };
        answer = λ hash change keyed sees fine before_ up. absurd cc;
      }))
    where
      alone : (before : List Lock) → HasNoFileLock before → row_of locks seat ≡ in_directory Selective before →
          locks' ≡ with_row locks seat (in_directory Exclusive before)
      alone before bare row = is_locks
          ∙ ap (λ (xs : List Lock). with_row locks seat (converted xs Directory Exclusive)) row
          ∙ ap (with_row locks seat) (converted_last before bare)
  converts (Blocked other) j new locks' is (is_old, opposes, same) ready seated =
      rw (is_old, same) (here (Convert j) is
      (λ u. MakesStep seat (Blocked other) u u pool pool locks locks)
      (blocked seat v.key v.approach pool locks (Convert j) ToExclusive other refl refl ready (λ change. opposes)))
  converts (Fault f) j new locks' is none ready seated = absurd none
  converts Ended j new locks' is none ready seated = absurd none
