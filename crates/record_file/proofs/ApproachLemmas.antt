-- The steps of a second try on its way to the bucket.
use Rattle.std.proofs.Common.{◌≡◌, refl, sym, ap, ◌∙◌, subst, ℕ, ◌+◌, ◌<◌, true, not, List, Some, None, IsSome, arith}
use Rattle.std.proofs.lemmas.Bool.{true≢false}
use Rattle.page_locks.specs.Writers.{may_write}
use Rattle.page_locks.proofs.TableLemmas.{row_of-same}
use Rattle.split_merge.specs.file_pages.declared.fault.FileFault.{FileFault}
use Rattle.split_merge.specs.stale_search.Approaches.{KeepsGoal, approach_facts_at, approach_locks_at, approach_turn}
use Rattle.split_merge.specs.stale_search.Steps.{Advances, MakesStep as MakesApproachStep, Nears}
use Rattle.split_merge.specs.stale_search.declared.place.ApproachPlace.{ApproachPlace}
use Rattle.split_merge.specs.stale_search.declared.place.ApproachPlace.TheVariants.{GrantDirectory, ReadDepth, ReadEntry, GrantPage, At}
use Rattle.record_file.proofs.of_split_merge.MoveLemmas.{read_only}
use Rattle.record_file.proofs.of_split_merge.MergeRowLemmas.{page_held}
use Rattle.record_file.specs.InsertWords.{RecordKey, pair, Put, PoolState, Table, IsSeat, Lock, Selective, Page, kind_of, row_of, held, with_row, store_of, Progress, Moved, Blocked, Fault, Ended, World, AllKnown, is_fault, HasNoFileLock, ReadsPages, Stays, world, ApproachView, approach_locks, approach_facts, approach_left, reached_at, FollowsRow, SecondPlace, Approaching, Look}
use Rattle.record_file.specs.SecondTries.{IsOnWayTo, splits_left, left_at, on_one}
use Rattle.record_file.specs.SecondSteps.{KeepsSecondTry, NearsOrSpares}
use Rattle.record_file.proofs.HomeLemmas.{look_is_less, near_bucket}
use Rattle.record_file.proofs.MoveLemmas.{Makes, view_at}

-- further by as many, where a fault changes no page
spares : (did : Progress FileFault) (left left' more : ℕ) (pool pool' : PoolState) → pool'.images ≡ pool.images →
    Nears did left left' pool pool' → NearsOrSpares did (left + more) (left' + more) pool pool'
spares (Moved kind) left left' more pool pool' same n = omega (arith, n)
spares (Blocked other) left left' more pool pool' same n = tt
spares (Fault fault) left left' more pool pool' same n = record { devices = n; images = same }
spares Ended left left' more pool pool' same n = tt

-- it has come there
comes : (did : Progress FileFault) (left left' more more' : ℕ) (pool pool' : PoolState) → pool'.images ≡ pool.images →
    more' < more → Nears did left left' pool pool' → NearsOrSpares did (left + more) more' pool pool'
comes (Moved kind) left left' more more' pool pool' same less n = omega (arith, less)
comes (Blocked other) left left' more more' pool pool' same less n = tt
comes (Fault fault) left left' more more' pool pool' same less n = record { devices = n; images = same }
comes Ended left left' more more' pool pool' same less n = tt

-- it has not come there
pub not_reached : (p : ApproachPlace) → ((depth page : ℕ) → p ≡ At depth page → ⊥) → reached_at p ≡ None
not_reached GrantDirectory other = refl
not_reached ReadDepth other = refl
not_reached (ReadEntry depth) other = refl
not_reached (GrantPage depth page) other = refl
not_reached (At depth page) other = absurd (other depth page refl)

-- where an approach did not move it is what it was, and so is what is the same while it is
stays_by : {T : Type 0} (did : Progress FileFault) (a a' : ApproachView) (old new : T) → Stays did a a' →
    (a' ≡ a → new ≡ old) → Stays did old new
stays_by (Moved kind) a a' old new still same = tt
stays_by (Blocked other) a a' old new still same = same still
stays_by (Fault fault) a a' old new still same = same still
stays_by Ended a a' old new still same = same still

module _ (hash : RecordKey → ℕ) (seat : ℕ) (key : RecordKey) (k bytes : ℕ) (value : List ℕ) (pool pool' : PoolState)
    (locks locks' : Table) (a a' : ApproachView) (did : Progress FileFault) (way : IsOnWayTo k a)
    (reads : ReadsPages did pool pool') (goal : KeepsGoal did a a')
    (row : FollowsRow seat (approach_locks a) (approach_locks a') locks locks')
    (nears : Advances seat (approach_facts a) did (approach_left a) (approach_left a') pool pool' locks)
    (step : MakesApproachStep seat (approach_locks a) (approach_facts a) (approach_facts a') (approach_turn a) did pool
    pool' locks locks') where
  aim : (place : SecondPlace) → (a' ≡ a → place ≡ Approaching a) →
      KeepsSecondTry did (view_at hash seat key k bytes value pool locks (Approaching a))
      (view_at hash seat key k bytes value pool locks place)
  aim place same = record {
    key = refl;
    pseudokey = refl;
    bytes = refl;
    ended = (
      λ e. absurd (let some : IsSome (reached_at a.place) = goal.ended.0 e in
          true≢false (sym (subst IsSome way.going some))),
      λ d. absurd cc,
    );
    stays = stays_by did a a' _ _ goal.stays (λ is. ap (view_at hash seat key k bytes value pool locks) (same is));
  }

  -- it goes on
  pub goes_on : Makes hash seat key k bytes value pool locks did (Approaching a) (Approaching a') pool' locks'
  goes_on = record {
    writes = read_only (not (is_fault did)) pool pool' reads.reads;
    cause = reads.cause;
    aim = aim (Approaching a') (λ same. ap Approaching same);
    row = row;
    progress = λ change keyed sees. spares did (approach_left a) (approach_left a') (splits_left 0 + 7) pool pool'
        (reads.reads.images sees.honest) (nears hash change sees);
    step = λ change before bare owns here keyed sees fine.
        step hash change (Some (Put (pair key value))) before bare here sees fine;
    answer = λ change keyed sees fine. tt;
  }

  -- it has come to the bucket
  pub arrives : IsSeat locks seat → (depth n : ℕ) → a'.place ≡ At depth n →
      Makes hash seat key k bytes value pool locks did (Approaching a) (Look depth n) pool' locks'
  arrives seated depth n is = record {
    writes = read_only (not (is_fault did)) pool pool' reads.reads;
    cause = reads.cause;
    aim = aim (Look depth n) (λ same. absurd (moved same));
    row = there;
    progress = λ change keyed sees. comes did (approach_left a) (approach_left a') (splits_left 0 + 7)
        (left_at (Look depth n) k (store_of pool'.images)) pool pool'
        (reads.reads.images sees.honest) (look_is_less (store_of pool'.images) n k) (nears hash change sees);
    step = λ change before bare owns here keyed sees fine.
        let s = step hash change (Some (Put (pair key value))) before bare here sees fine in
        let new : World = world pool'.images locks' s.after in
        let known : AllKnown seat new (approach_facts_at (At depth n) k) =
        subst (λ (x : ℕ). AllKnown seat new (approach_facts_at (At depth n) x)) (goal.pseudokey ∙ way.pseudokey)
        (subst (λ (p : ApproachPlace). AllKnown seat new (approach_facts_at p a'.pseudokey)) is s.known) in
        let now : row_of locks' seat ≡ on_one n before =
        ap (λ (t : Table). row_of t seat) (there before bare here) ∙ row_of-same locks seat (on_one n before) seated in
        let own : may_write (held locks' seat (Page n)) ≡ true =
        ap (λ (xs : List Lock). may_write (kind_of xs (Page n))) now
        ∙ ap may_write (page_held before bare Selective Selective n) in
        record {
          after = s.after;
          file = s.file;
          others = s.others;
          known = (
            known.0,
            (
              known.1.0,
              (
                (known.0.0, near_bucket hash new n k s.others.sound known.1.1.0.1),
                ((own, known.1.1.0.1.0), tt),
              ),
            ),
          );
          does = s.does;
          led = tt;
        };
    answer = λ change keyed sees fine. tt;
  }
    where
      -- it was on its way
      moved : a' ≡ a → ⊥
      moved same =
          let both : None ≡ Some (depth, n) =
          sym way.going ∙ sym (ap (λ (x : ApproachView). reached_at x.place) same) ∙ ap reached_at is in cc

      there : (before : List Lock) → HasNoFileLock before → row_of locks seat ≡ approach_locks a before →
          locks' ≡ with_row locks seat (on_one n before)
      there before bare here = row before bare here
          ∙ ap (λ (p : ApproachPlace). with_row locks seat (approach_locks_at p before)) is
