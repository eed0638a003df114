-- The steps of a second try, one lemma for each way in which a place is left.
use Rattle.std.proofs.Common.{◌≡◌, refl, sym, ap, ◌∙◌, subst, ℕ, ◌<◌, true, false, List, [], ◌∷◌, ◌++◌, Option, Some, None, IsSome}
use Rattle.std.proofs.lemmas.Bool.{true≢false}
use Rattle.std.specs.Prelude.{IsTrue}
use Rattle.page_locks.proofs.ChangeLemmas.{with_row-own}
use Rattle.page_locks.proofs.TableLemmas.{row_of-same}
use Rattle.split_merge.specs.file_pages.declared.fault.FileFault.{FileFault}
use Rattle.step_rules.specs.declared.kind.Kind.{Kind}
use Rattle.step_rules.specs.declared.kind.Kind.TheVariants as kinds
use Rattle.step_rules.specs.Known.{AllAnchored}
use Rattle.step_rules.specs.LockSteps.{Releases}
use Rattle.step_rules.specs.Searching.{WalksTo}
use Rattle.step_rules.specs.Turns.{Ask, DoesTied}
use Rattle.step_rules.proofs.KindLemmas.{kind_keeps}
use Rattle.step_rules.proofs.LockLemmas.{IsHeld-some}
use Rattle.step_rules.proofs.LockStepLemmas.{KeepsOthers-same, none_busy}
use Rattle.step_rules.proofs.MachineLemmas.{AllKnown-relocked}
use Rattle.step_rules.proofs.SearchLemmas.{no_way}
use Rattle.split_merge.proofs.of_stale_search.CauseLemmas.{told_cause}
use Rattle.split_merge.proofs.of_stale_search.StepLemmas.{read as read_page}
use Rattle.record_file.proofs.of_split_merge.MoveLemmas.{nothing_written, read_only}
use Rattle.record_file.proofs.of_split_merge.MergeRowLemmas.{held_last, without_last}
use Rattle.record_file.specs.InsertWords.{RecordKey, pair, PoolState, FileHasCause, IsDevicesFault, Table, IsSeat, Lock, LockKind, Selective, Exclusive, LockName, Directory, Page, Change, Quiet, kind_of, lock_of, row_of, held, with_row, without, without_lock, store_of, IsReady, OnlyReads, OnlyWrites, Progress, Moved, Fault, Ended, World, AllKnown, HasNoFileLock, world, Sees, Tried, SecondPlace, HasEnded}
use Rattle.record_file.specs.SecondTries.{SecondTryView, ask_at, locks_at, facts_at, left_at, said_at, tried_at, second_turn}
use Rattle.record_file.proofs.FactLemmas.{second_knows_no_way}
use Rattle.record_file.specs.SecondSteps.{KeepsSecondTry, MakesStep, SaysAt}

-- what has ended has an end
not_ended : (place : SecondPlace) → tried_at place ≡ None → IsSome (tried_at place) → ⊥
not_ended place none some = true≢false (sym (subst IsSome none some))

module _ (hash : RecordKey → ℕ) (seat : ℕ) (key : RecordKey) (k bytes : ℕ) (value : List ℕ) (pool : PoolState)
    (locks : Table) where
  abbrev pub view_at : SecondPlace → SecondTryView
  view_at place = record { key = key; pseudokey = k; bytes = bytes; place = place }

  abbrev pub was : Change → World
  was change = world pool.images locks change

  -- what follows from what the seat sees at a place
  abbrev pub IfSeen : SecondPlace → (Change → Type 0) → Type 0
  IfSeen place P = (change : Change) → hash key ≡ k → Sees hash seat (facts_at place key k) pool locks change →
      P change

  abbrev pub Makes : Progress FileFault → (place place' : SecondPlace) → PoolState → Table → Type 0
  Makes did place place' pool' locks' =
      MakesStep hash seat value did (view_at place) (view_at place') pool pool' locks locks'

  -- it is on no search
  second_walks : (ask : Option Ask) (did : Progress FileFault) (old new : World) (place : SecondPlace) →
      WalksTo seat ask did old new (facts_at place key k)
  second_walks ask did old new place =
      no_way seat ask did old new (facts_at place key k) (second_knows_no_way place key k)

  pub moved_aim : (place place' : SecondPlace) (kind : Kind) → tried_at place ≡ None →
      KeepsSecondTry {F = FileFault} (Moved kind) (view_at place) (view_at place')
  moved_aim place place' kind going = record {
    key = refl;
    pseudokey = refl;
    bytes = refl;
    ended = (λ e. absurd cc, λ d. absurd (not_ended place going d));
    stays = tt;
  }

  -- its row stays
  pub same_row : (place place' : SecondPlace) →
      ((before : List Lock) → locks_at place' before ≡ locks_at place before) →
      (before : List Lock) → HasNoFileLock before → row_of locks seat ≡ locks_at place before →
      locks ≡ with_row locks seat (locks_at place' before)
  same_row place place' same before bare row =
      sym (with_row-own locks seat) ∙ ap (with_row locks seat) (row ∙ sym (same before))

  -- a page is read
  pub read : (place place' : SecondPlace) (kind : Kind) (pool' : PoolState) → OnlyReads true pool pool' →
      tried_at place ≡ None → ((before : List Lock) → locks_at place' before ≡ locks_at place before) →
      IfSeen place (λ change. AllKnown seat (was change) (facts_at place' key k)) →
      ((before : List Lock) → HasNoFileLock before → row_of locks seat ≡ locks_at place before → IfSeen place
      (λ change. DoesTied hash (second_turn (view_at place) value) kind seat (was change) (was change))) →
      IfSeen place (λ change. left_at place' k (store_of pool.images) < left_at place k (store_of pool.images)) →
      IfSeen place (λ change. SaysAt {F = FileFault} hash seat (Moved kind) (pair key value) (said_at place)
      (said_at place') (was change) (was change)) →
      Makes (Moved kind) place place' pool' locks
  read place place' kind pool' reads going same known does falls says = record {
    writes = read_only true pool pool' reads;
    cause = λ fault same. absurd cc;
    aim = moved_aim place place' kind going;
    row = same_row place place' same;
    progress = λ change keyed sees. subst (λ (images : List (List ℕ)).
        left_at place' k (store_of images) < left_at place k (store_of pool.images)) (sym (reads.images sees.honest))
        (falls change keyed sees);
    step = λ change before bare owns row keyed sees fine.
        read_page hash seat (facts_at place key k) pool locks change sees None kind
        (second_turn (view_at place) value) (facts_at place' key k) pool' reads (known change keyed sees)
        (does before bare row change keyed sees)
        (second_walks (ask_at place k) (Moved kind) (was change) (was change) place');
    answer = λ change keyed sees fine. subst (λ (images : List (List ℕ)). SaysAt {F = FileFault} hash seat (Moved kind)
        (pair key value) (said_at place) (said_at place') (was change) (world images locks change))
        (sym (reads.images sees.honest)) (says change keyed sees);
  }

  -- the device failed
  pub faulted : (place : SecondPlace) (fault : FileFault) (pool' : PoolState) → OnlyWrites false pool pool' →
      (IsTrue pool.honest → pool'.images ≡ pool.images) → FileHasCause pool pool' fault → tried_at place ≡ None →
      IfSeen place (λ change. IsDevicesFault pool pool' fault) → Makes (Fault fault) place place pool' locks
  faulted place fault pool' writes spares cause going risen = record {
    writes = writes;
    cause = told_cause fault pool pool' cause;
    aim = record {
      key = refl;
      pseudokey = refl;
      bytes = refl;
      ended = (λ e. absurd cc, λ d. absurd (not_ended place going d));
      stays = refl;
    };
    row = same_row place place (λ before. refl);
    progress = λ change keyed sees. record { devices = risen change keyed sees; images = spares sees.honest };
    step = λ change before bare owns row keyed sees fine. absurd cc;
    answer = λ change keyed sees fine. absurd cc;
  }

  -- the last lock is given back
  pub released : (place place' : SecondPlace) (name : LockName) (kind : LockKind) (locks' : Table) (tried : Tried) →
      tried_at place ≡ None → said_at place ≡ Some tried → said_at place' ≡ Some tried →
      ((before : List Lock) → locks_at place before ≡ locks_at place' before ++ lock_of name kind ∷ []) →
      ((before : List Lock) → HasNoFileLock before → kind_of (locks_at place' before) name ≡ None) →
      IsReady pool → IsSeat locks seat → locks' ≡ without_lock locks seat name →
      IfSeen place (λ change. change ≡ Quiet) →
      (name ≡ Directory → (kind ≡ Selective) × ((before : List Lock) → HasNoFileLock before → (n : ℕ) →
      kind_of (locks_at place before) (Page n) ≡ None)) →
      IfSeen place (λ change. AllKnown seat (was change) (facts_at place' key k)) →
      ((before : List Lock) → HasNoFileLock before → AllAnchored (locks_at place' before) (facts_at place' key k)) →
      ((s : _) → left_at place' k s < left_at place k s) →
      Makes (Moved kinds.Release) place place' pool locks'
  released place place' name kind locks' tried going said said' ends fresh ready seated is quiet done known anchored
      falls = record {
        writes = nothing_written pool ready;
        cause = λ fault same. absurd cc;
        aim = moved_aim place place' kinds.Release going;
        row = given_back;
        progress = λ change keyed sees. falls (store_of pool.images);
        step = λ change before bare owns row keyed sees fine.
            let new : World = world pool.images locks' change in
            let had : held locks seat name ≡ Some kind =
            ap (λ (xs : List Lock). kind_of xs name) (row ∙ ends before)
            ∙ held_last (locks_at place' before) name kind (fresh before bare) in
            let r : Releases seat (was change) new = record {
              seated = seated;
              name = name;
              had = IsHeld-some locks seat name kind had;
              idle = λ page same w there. none_busy change page (quiet change keyed sees) there;
              done = λ same w. record {
                quiet = quiet change keyed sees;
                bare = λ n. ap (λ (xs : List Lock). kind_of xs (Page n)) row ∙ (done same).1 before bare n;
                halved = λ alone. absurd (
                    let shared : held locks seat Directory ≡ Some Selective =
                    subst (λ (n : LockName). held locks seat n ≡ Some Selective) same
                    (had ∙ ap (λ (x : LockKind). Some x) (done same).0) in
                    let e : Some Selective ≡ Some Exclusive = sym shared ∙ alone in cc);
              };
              is = ap (λ (t : Table). world pool.images t change) is;
            } in
            let row' : row_of locks' seat ≡ locks_at place' before =
            ap (λ (t : Table). row_of t seat) (given_back before bare row)
            ∙ row_of-same locks seat (locks_at place' before) seated in
            record {
              after = change;
              file = sees.file;
              others = kind_keeps kinds.Release hash seat (was change) new sees.sound r;
              known = AllKnown-relocked seat (was change) locks' (facts_at place' key k) (known change keyed sees)
                  (subst (λ (xs : List Lock). AllAnchored xs (facts_at place' key k)) (sym row')
                  (anchored before bare));
              does = r;
              led = second_walks (ask_at place k) (Moved kinds.Release) (was change) new place';
            };
        answer = λ change keyed sees fine. subst (λ (x : Option Tried). SaysAt {F = FileFault} hash seat
            (Moved kinds.Release) (pair key value) x (said_at place') (was change) (world pool.images locks' change))
            (sym said) said';
      }
    where
      given_back : (before : List Lock) → HasNoFileLock before → row_of locks seat ≡ locks_at place before →
          locks' ≡ with_row locks seat (locks_at place' before)
      given_back before bare row = is
          ∙ ap (λ (xs : List Lock). with_row locks seat (without xs name)) (row ∙ ends before)
          ∙ ap (with_row locks seat) (without_last (locks_at place' before) name kind (fresh before bare))

  -- it had ended
  pub ended : (tried : Tried) → IsReady pool → Makes Ended (HasEnded tried) (HasEnded tried) pool locks
  ended tried ready = record {
    writes = nothing_written pool ready;
    cause = λ fault same. absurd cc;
    aim = record {
      key = refl;
      pseudokey = refl;
      bytes = refl;
      ended = (λ e. refl, λ d. refl);
      stays = refl;
    };
    row = same_row (HasEnded tried) (HasEnded tried) (λ before. refl);
    progress = λ change keyed sees. tt;
    step = λ change before bare owns row keyed sees fine. record {
      after = change;
      file = sees.file;
      others = KeepsOthers-same hash seat (was change) (was change) sees.sound refl;
      known = sees.known;
      does = refl;
      led = tt;
    };
    answer = λ change keyed sees fine. refl;
  }
