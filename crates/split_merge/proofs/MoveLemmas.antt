-- The steps of a merge, one lemma for each way in which a place is left.
use Rattle.std.proofs.Common.{◌≡◌, refl, sym, ap, ◌∙◌, subst, ℕ, ◌<◌, Bool, true, false, List, [], ◌∷◌, ◌++◌, Option, Some, None, length, arith}
use Rattle.split_merge.proofs.MergeNames.{AllAnchored, AllKnown, AllKnown-relocked, Contains, DoesTied, FileFault, FileHasCause, IsDevicesFault, IsDone, IsHeld-some, IsOpposed, IsReached, IsReady, IsSeat, IsTrue, KeepsContents, KeepsOthers, KeepsOthers-same, Kind, MAX_LOCKS, MayBeGranted, OnlyReads, OnlyWrites, Releases, Remove, StandsInWay, busy, held, is_of_its_kind, kind_keeps, kind_keeps_contents, kind_of, lock_of, row_of-same, true≢false, turn_keeps, with_lock, with_row-own, without, without_lock}
use Rattle.step_rules.specs.declared.kind.Kind.TheVariants as kinds
use Rattle.stale_search.proofs.CauseLemmas.{told_cause}
use Rattle.stale_search.proofs.StepLemmas.{granted as granted_lock, read as read_page}
use Rattle.split_merge.specs.MergeWords.{RecordKey, Lock, LockKind, LockName, Directory, Page, Table, row_of, with_row, PoolState, store_of, Store, Change, Progress, Moved, Blocked, Fault, Ended, World, Ask, ForLock, ApproachView, HasNoFileLock, Sees, world, MergePlace}
use Rattle.split_merge.specs.Places.{MergeView, locks_at, is_done, is_given_up}
use Rattle.split_merge.specs.Facts.{facts_at, ask_at, left_at, merge_turn}
use Rattle.split_merge.specs.Steps.{KeepsAim, MakesStep, TurnsAwayAt}
use Rattle.split_merge.proofs.MergeFactLemmas.{merge_knows_no_way}
use Rattle.split_merge.proofs.MergeRowLemmas.{held_last, without_last}
use Rattle.step_rules.proofs.SearchLemmas.{no_way}
use Rattle.step_rules.specs.Searching.{WalksTo}

pub not_both : {b : Bool} → b ≡ false → b ≡ true → ⊥
not_both {b} off on = true≢false (sym on ∙ off)

pub nothing_written : (pool : PoolState) → IsReady pool → OnlyWrites true pool pool
nothing_written pool ready = record {
  ready = ready;
  honest = refl;
  later = omega arith;
  stored = refl;
  as_many = refl;
  file = λ honest fine file. file;
}

pub nothing_read : (pool : PoolState) → IsReady pool → OnlyReads true pool pool
nothing_read pool ready = record {
  ready = ready;
  honest = refl;
  later = omega arith;
  stored = refl;
  as_many = refl;
  images = λ honest. refl;
  file = λ honest fine file. file;
}

pub read_only : (fine : Bool) (pool pool' : PoolState) → OnlyReads fine pool pool' → OnlyWrites fine pool pool'
read_only fine pool pool' reads = record {
  ready = reads.ready;
  honest = reads.honest;
  later = reads.later;
  stored = reads.stored;
  as_many = reads.as_many;
  file = reads.file;
}

module _ (seat : ℕ) (key : RecordKey) (a : ApproachView) (pool : PoolState) (locks : Table) where
  abbrev pub view_at : MergePlace → MergeView
  view_at place = record { key = key; approach = a; place = place }

  abbrev pub was : Change → World
  was change = world pool.images locks change

  -- what follows from what the seat sees at a place
  abbrev pub IfSeen : MergePlace → ((RecordKey → ℕ) → Change → Type 0) → Type 0
  IfSeen place P = (hash : RecordKey → ℕ) (change : Change) → Sees hash seat (facts_at place a) pool locks change →
      P hash change

  -- it is on no search
  merge_walks : (ask : Option Ask) (did : Progress FileFault) (old new : World) (place : MergePlace) →
      WalksTo seat ask did old new (facts_at place a)
  merge_walks ask did old new place = no_way seat ask did old new (facts_at place a) (merge_knows_no_way place a)

  moved_aim : (place place' : MergePlace) (kind : Kind) → is_done place ≡ false →
      KeepsAim {F = FileFault} (Moved kind) (view_at place) (view_at place')
  moved_aim place place' kind going = record {
    key = refl;
    pseudokey = refl;
    ended = (λ e. absurd cc, λ d. absurd (not_both going d));
    stays = tt;
  }

  -- its row stays
  same_row : (place place' : MergePlace) →
      ((before : List Lock) → locks_at place' a before ≡ locks_at place a before) →
      (before : List Lock) → HasNoFileLock before → row_of locks seat ≡ locks_at place a before →
      locks ≡ with_row locks seat (locks_at place' a before)
  same_row place place' same before bare row =
      sym (with_row-own locks seat) ∙ ap (with_row locks seat) (row ∙ sym (same before))

  -- what was only read holds what it held
  read_holds : (pool' : PoolState) → pool'.images ≡ pool.images →
      KeepsContents (store_of pool.images) (store_of pool'.images)
  read_holds pool' same = subst (λ (images : List (List ℕ)). KeepsContents (store_of pool.images) (store_of images))
      (sym same) (λ k. refl)

  -- another seat stands in the way
  pub blocked : (place : MergePlace) (ask : Ask) (other : ℕ) → ask_at place a ≡ Some ask → is_done place ≡ false →
      IsReady pool → ((change : Change) → StandsInWay (Some ask) seat other (was change)) →
      MakesStep seat (Blocked other) (view_at place) (view_at place) pool pool locks locks
  blocked place ask other asked going ready stands = record {
    writes = record { writes = nothing_written pool ready; cause = λ f same. absurd cc; spares = λ f. absurd cc };
    aim = record {
      key = refl;
      pseudokey = refl;
      ended = (λ e. absurd cc, λ d. absurd (not_both going d));
      stays = refl;
    };
    row = same_row place place (λ before. refl);
    progress = λ hash change sees. tt;
    step = λ hash change before keyed bare row sees fine. record {
      contents = λ k. refl;
      step = record {
        after = change;
        file = sees.file;
        others = KeepsOthers-same hash seat (was change) (was change) sees.sound refl;
        known = sees.known;
        does = (subst (λ (o : Option Ask). StandsInWay o seat other (was change)) (sym asked) (stands change), refl);
        led = merge_walks (ask_at place a) (Blocked other) (was change) (was change) place;
      };
    };
    answer = λ hash change keyed sees fine before_ up. absurd (not_both before_ up);
  }

  -- a page is locked
  pub granted : (place place' : MergePlace) (page : ℕ) (kind : LockKind) (locks' : Table) →
      ask_at place a ≡ Some (ForLock (Page page) kind) → is_done place ≡ false → is_given_up place' ≡ false →
      facts_at place' a ≡ facts_at place a →
      ((before : List Lock) → locks_at place' a before ≡ locks_at place a before ++ lock_of (Page page) kind ∷ []) →
      IsReady pool → IsSeat locks seat → length (row_of locks seat) < MAX_LOCKS →
      held locks seat (Page page) ≡ None → (IsOpposed locks seat (Page page) kind → ⊥) →
      locks' ≡ with_lock locks seat (Page page) kind →
      IfSeen place (λ hash change. IsReached (was change) page) →
      IfSeen place (λ hash change. MayBeGranted (Page page) kind seat (was change)) →
      ((s : Store) → left_at place' a s < left_at place a s) →
      MakesStep seat (Moved kinds.Grant) (view_at place) (view_at place') pool pool locks locks'
  granted place place' page kind locks' asked going on facts ends ready seated room fresh nobody is reached may
      falls = record {
        writes = record { writes = nothing_written pool ready; cause = λ f same. absurd cc; spares = λ f. absurd cc };
        aim = moved_aim place place' kinds.Grant going;
        row = λ before bare row. is
            ∙ ap (λ (xs : List Lock). with_row locks seat (xs ++ lock_of (Page page) kind ∷ [])) row
            ∙ ap (with_row locks seat) (sym (ends before));
        progress = λ hash change sees. falls (store_of pool.images);
        step = λ hash change before keyed bare row sees fine. record {
          contents = λ k. refl;
          step = rw (asked, facts)
              (granted_lock hash seat (facts_at place a) pool locks change sees (Some (Remove key)) locks'
              (Page page) kind
              (merge_walks (Some (ForLock (Page page) kind)) (Moved kinds.Grant) (was change)
              (world pool.images locks' change) place) seated room fresh nobody
              (λ n same. subst (IsReached (was change)) (let e : page ≡ n = cc in e) (reached hash change sees))
              (may hash change sees) is);
        };
        answer = λ hash change keyed sees fine before_ up. absurd (not_both on up);
      }

  -- a page is read
  pub read : (place place' : MergePlace) (kind : Kind) (pool' : PoolState) → OnlyReads true pool pool' →
      is_done place ≡ false →
      ((before : List Lock) → locks_at place' a before ≡ locks_at place a before) →
      IfSeen place (λ hash change. AllKnown seat (was change) (facts_at place' a)) →
      ((before : List Lock) → HasNoFileLock before → row_of locks seat ≡ locks_at place a before →
      (hash : RecordKey → ℕ) (change : Change) →
      DoesTied hash (merge_turn (view_at place)) kind seat (was change) (was change)) →
      ((s s' : Store) → left_at place' a s' < left_at place a s) →
      IfSeen place (λ hash change. hash key ≡ a.pseudokey →
      TurnsAwayAt hash seat (view_at place) (view_at place') (was change)) →
      MakesStep seat (Moved kind) (view_at place) (view_at place') pool pool' locks locks
  read place place' kind pool' reads going same known does falls turns = record {
    writes = record { writes = read_only true pool pool' reads; cause = λ f same. absurd cc; spares = λ f. absurd cc };
    aim = moved_aim place place' kind going;
    row = same_row place place' same;
    progress = λ hash change sees. falls (store_of pool.images) (store_of pool'.images);
    step = λ hash change before keyed bare row sees fine. record {
      contents = read_holds pool' (reads.images sees.honest);
      step = read_page hash seat (facts_at place a) pool locks change sees None kind (merge_turn (view_at place))
          (facts_at place' a) pool' reads (known hash change sees) (does before bare row hash change)
          (merge_walks (ask_at place a) (Moved kind) (was change) (was change) place');
    };
    answer = λ hash change keyed sees fine. subst (λ (images : List (List ℕ)).
        TurnsAwayAt hash seat (view_at place) (view_at place') (world images locks change))
        (sym (reads.images sees.honest)) (turns hash change sees keyed);
  }

  -- the device failed
  pub faulted : (place : MergePlace) (fault : FileFault) (pool' : PoolState) → OnlyWrites false pool pool' →
      (IsTrue pool.honest → pool'.images ≡ pool.images) → FileHasCause pool pool' fault → is_done place ≡ false →
      IfSeen place (λ hash change. IsDevicesFault pool pool' fault) →
      MakesStep seat (Fault fault) (view_at place) (view_at place) pool pool' locks locks
  faulted place fault pool' writes spares cause going risen = record {
    writes = record {
      writes = writes;
      cause = told_cause fault pool pool' cause;
      spares = λ f honest. spares honest;
    };
    aim = record {
      key = refl;
      pseudokey = refl;
      ended = (λ e. absurd cc, λ d. absurd (not_both going d));
      stays = refl;
    };
    row = same_row place place (λ before. refl);
    progress = risen;
    step = λ hash change before keyed bare row sees fine. absurd cc;
    answer = λ hash change keyed sees fine. absurd cc;
  }

  -- what a write of a page comes to, that leaves this file
  pub record IsWritten (hash : RecordKey → ℕ) (change : Change) (place place' : MergePlace) (kind : Kind) (t : Store) :
      Type 0 where
    pub after : Change
    pub does : DoesTied hash (merge_turn (view_at place)) kind seat (was change)
        (record { store = t; locks = locks; change = after })
    pub known : AllKnown seat (record { store = t; locks = locks; change = after }) (facts_at place' a)

  -- a page is written
  pub wrote : (place place' : MergePlace) (kind : Kind) (pool' : PoolState) (t : Store) → OnlyWrites true pool pool' →
      (IsTrue pool.honest → store_of pool'.images ≡ t) → (kind ≡ kinds.WriteRecord → ⊥) → is_done place ≡ false →
      is_given_up place' ≡ false →
      ((before : List Lock) → locks_at place' a before ≡ locks_at place a before) →
      IfSeen place (λ hash change. left_at place' a t < left_at place a (store_of pool.images)) →
      ((before : List Lock) → HasNoFileLock before → row_of locks seat ≡ locks_at place a before →
      IfSeen place (λ hash change. hash key ≡ a.pseudokey → IsWritten hash change place place' kind t)) →
      MakesStep seat (Moved kind) (view_at place) (view_at place') pool pool' locks locks
  wrote place place' kind pool' t writes becomes other going on same falls written = record {
    writes = record { writes = writes; cause = λ f same. absurd cc; spares = λ f. absurd cc };
    aim = moved_aim place place' kind going;
    row = same_row place place' same;
    progress = λ hash change sees. subst (λ (s : Store). left_at place' a s < left_at place a (store_of pool.images))
        (sym (becomes sees.honest)) (falls hash change sees);
    step = λ hash change before keyed bare row sees fine.
        let w = written before bare row hash change sees keyed in
        let new : World = record { store = t; locks = locks; change = w.after } in
        let is : world pool'.images locks w.after ≡ new =
        ap (λ (s : Store). record { store = s; locks = locks; change = w.after }) (becomes sees.honest) in
        record {
          contents = subst (KeepsContents (store_of pool.images)) (sym (becomes sees.honest))
              (kind_keeps_contents kind hash seat (was change) new sees.sound other
              (is_of_its_kind hash seat (was change) new (merge_turn (view_at place)) kind w.does));
          step = record {
            after = w.after;
            file = writes.file sees.honest refl sees.file;
            others = subst (KeepsOthers hash seat (was change)) (sym is)
                (turn_keeps kind hash (merge_turn (view_at place)) seat (was change) new sees.sound w.does);
            known = subst (λ (x : World). AllKnown seat x (facts_at place' a)) (sym is) w.known;
            does = subst (DoesTied hash (merge_turn (view_at place)) kind seat (was change)) (sym is) w.does;
            led = merge_walks (ask_at place a) (Moved kind) (was change) (world pool'.images locks w.after) place';
          };
        };
    answer = λ hash change keyed sees fine before_ up. absurd (not_both on up);
  }

  -- the last lock is given back
  pub released : (place place' : MergePlace) (name : LockName) (kind : LockKind) (pool' : PoolState) (locks' : Table) →
      OnlyReads true pool pool' → is_done place ≡ false → (is_given_up place' ≡ true → is_given_up place ≡ true) →
      ((before : List Lock) → locks_at place a before ≡ locks_at place' a before ++ lock_of name kind ∷ []) →
      ((before : List Lock) → HasNoFileLock before → kind_of (locks_at place' a before) name ≡ None) →
      IsSeat locks seat → locks' ≡ without_lock locks seat name →
      IfSeen place (λ hash change. (page : ℕ) → name ≡ Page page → Contains (busy change) page → ⊥) →
      ((before : List Lock) → HasNoFileLock before → row_of locks seat ≡ locks_at place a before →
      IfSeen place (λ hash change. name ≡ Directory → IsDone seat (was change))) →
      IfSeen place (λ hash change. AllKnown seat (was change) (facts_at place' a)) →
      ((before : List Lock) → HasNoFileLock before → AllAnchored (locks_at place' a before) (facts_at place' a)) →
      IfSeen place (λ hash change. left_at place' a (store_of pool'.images) < left_at place a (store_of pool.images)) →
      MakesStep seat (Moved kinds.Release) (view_at place) (view_at place') pool pool' locks locks'
  released place place' name kind pool' locks' reads going up ends fresh seated is idle done known anchored falls
      = record {
        writes = record {
          writes = read_only true pool pool' reads;
          cause = λ f same. absurd cc;
          spares = λ f. absurd cc;
        };
        aim = moved_aim place place' kinds.Release going;
        row = given_back;
        progress = falls;
        step = λ hash change before keyed bare row sees fine.
            let new : World = world pool.images locks' change in
            let r : Releases seat (was change) new = record {
              seated = seated;
              name = name;
              had = IsHeld-some locks seat name kind (ap (λ (xs : List Lock). kind_of xs name) (row ∙ ends before)
                  ∙ held_last (locks_at place' a before) name kind (fresh before bare));
              idle = λ page same w there. idle hash change sees page same there;
              done = λ same w. done before bare row hash change sees same;
              is = ap (λ (t : Table). world pool.images t change) is;
            } in
            let same : world pool'.images locks' change ≡ new =
            ap (λ (images : List (List ℕ)). world images locks' change) (reads.images sees.honest) in
            let row' : row_of locks' seat ≡ locks_at place' a before =
            ap (λ (t : Table). row_of t seat) (given_back before bare row)
            ∙ row_of-same locks seat (locks_at place' a before) seated in
            record {
              contents = read_holds pool' (reads.images sees.honest);
              step = record {
                after = change;
                file = reads.file sees.honest refl sees.file;
                others = rw same (kind_keeps kinds.Release hash seat (was change) new sees.sound r);
                known = subst (λ (w : World). AllKnown seat w (facts_at place' a)) (sym same)
                    (AllKnown-relocked seat (was change) locks' (facts_at place' a) (known hash change sees)
                    (subst (λ (xs : List Lock). AllAnchored xs (facts_at place' a)) (sym row') (anchored before bare)));
                does = rw same r;
                led = merge_walks (ask_at place a) (Moved kinds.Release) (was change)
                    (world pool'.images locks' change) place';
              };
            };
        answer = λ hash change keyed sees fine before_ given. absurd (not_both before_ (up given));
      }
    where
      given_back : (before : List Lock) → HasNoFileLock before → row_of locks seat ≡ locks_at place a before →
          locks' ≡ with_row locks seat (locks_at place' a before)
      given_back before bare row = is
          ∙ ap (λ (xs : List Lock). with_row locks seat (without xs name)) (row ∙ ends before)
          ∙ ap (with_row locks seat) (without_last (locks_at place' a before) name kind (fresh before bare))

  -- it had ended
  pub ended : (place : MergePlace) → is_done place ≡ true → IsReady pool →
      MakesStep seat Ended (view_at place) (view_at place) pool pool locks locks
  ended place done ready = record {
    writes = record { writes = nothing_written pool ready; cause = λ f same. absurd cc; spares = λ f. absurd cc };
    aim = record { key = refl; pseudokey = refl; ended = (λ e. done, λ d. refl); stays = refl };
    row = same_row place place (λ before. refl);
    progress = λ hash change sees. tt;
    step = λ hash change before keyed bare row sees fine. record {
      contents = λ k. refl;
      step = record {
        after = change;
        file = sees.file;
        others = KeepsOthers-same hash seat (was change) (was change) sees.sound refl;
        known = sees.known;
        does = refl;
        led = merge_walks (ask_at place a) Ended (was change) (was change) place;
      };
    };
    answer = λ hash change keyed sees fine before_ up. absurd (not_both before_ up);
  }
