-- A call goes on in one go: errands are made, one behind the other.
use Rattle.std.proofs.Common.{◌≡◌, refl, sym, ap, ◌∙◌, subst, ℕ, ◌+◌, ◌≤◌, Bool, false, List, [], ◌∷◌, ◌++◌, None, Some, Option, arith}
use Rattle.file_pages.specs.declared.fault.FileFault.{FileFault}
use Rattle.step_rules.specs.Runs.{Stop, end_of}
use Rattle.xsi_calls.specs.CallSteps.{MakesCall}
use Rattle.xsi_calls.specs.Machine.{CallView, call_locks, is_searching}
use Rattle.xsi_calls.specs.OneGo.{Errand, Asks, Writes, GoesAtOnce, MakesErrand, RunsAtOnce, RunsErrands, all_moves, all_single, moves_of, single_of}
use Rattle.call_writes.specs.WriteRuns.{Promise}
use Rattle.xsi_calls.specs.Words.{AskStep, AsksAtOnce, At, IsReady, IsSeat, Kind, Moved, MovesAlong, PoolState, RecordKey, Table, WritesAtOnce, at, row_of, stops_on, stops_through}
use Rattle.xsi_calls.proofs.WriteRunLemmas.{row_behind}

-- ---- runs

module _ {V : Type 0} (Makes : Promise V) (searches : V → Bool) (seat : ℕ) (old : At V) where
  pub none_run : RunsAtOnce Makes searches seat 0 0 old old
  none_run = record { errands = []; many = refl; few = omega arith; runs = refl }

  pub one_more : (errand : Errand) (moves single : ℕ) (s new : At V) →
      RunsAtOnce Makes searches seat moves single old s → MakesErrand Makes searches seat errand s new →
      RunsAtOnce Makes searches seat (moves + moves_of errand) (single + single_of errand) old new
  one_more errand moves single s new so_far makes = record {
    errands = errand ∷ so_far.errands;
    many = ap (λ (n : ℕ). n + moves_of errand) so_far.many;
    few = let few = so_far.few in omega (arith, few);
    runs = record { before = s; stands = so_far.runs; makes = makes };
  }

  -- those, and these behind them
  both_run : (errands first : List Errand) (s new : At V) → RunsErrands Makes searches seat first old s →
      RunsErrands Makes searches seat errands s new → RunsErrands Makes searches seat (errands ++ first) old new
  both_run [] first s new before same =
      subst (λ (x : At V). RunsErrands Makes searches seat first old x) (sym same) before
  both_run (errand ∷ rest) first s new before runs = record {
    before = runs.before;
    stands = both_run rest first s runs.before before runs.stands;
    makes = runs.makes;
  }

  as_many : (errands first : List Errand) → all_moves first + all_moves errands ≡ all_moves (errands ++ first)
  as_many [] first = omega arith
  as_many (errand ∷ rest) first =
      let more = as_many rest first in
      omega (arith, more)

  as_single : (errands first : List Errand) → all_single first + all_single errands ≡ all_single (errands ++ first)
  as_single [] first = omega arith
  as_single (errand ∷ rest) first =
      let more = as_single rest first in
      omega (arith, more)

  pub joined : (moves n single k : ℕ) (s new : At V) → RunsAtOnce Makes searches seat moves single old s →
      RunsAtOnce Makes searches seat n k s new → RunsAtOnce Makes searches seat (moves + n) (single + k) old new
  joined moves n single k s new first last = record {
    errands = last.errands ++ first.errands;
    many = ap (λ (x : ℕ). x + n) first.many ∙ ap (λ (x : ℕ). all_moves first.errands + x) last.many
        ∙ as_many last.errands first.errands;
    few =
        let all = as_single last.errands first.errands in
        let few = first.few in
        let more = last.few in
        omega (arith, all, few, more);
    runs = both_run last.errands first.errands s new first.runs last.runs;
  }

-- ---- where a call may go on from

pub record MayGoOn (seat : ℕ) (s : At CallView) : Type 0 where
  pub seated : IsSeat s.locks seat
  pub ready : IsReady s.pool
  pub row : row_of s.locks seat ≡ call_locks s.machine

module _ (hash : RecordKey → ℕ) (seat : ℕ) (stopped : Bool) where
  pub stands_behind : (kind : Kind) (s t : At CallView) → MayGoOn seat s →
      AskStep (MakesCall hash seat stopped) (Moved kind) s t → MayGoOn seat t
  stands_behind kind s t stands step =
      let behind = row_behind seat s.locks t.locks (call_locks t.machine) stands.seated step.row in
      record { seated = behind.0; ready = step.writes.ready; row = behind.1 }

  stands_along : (stops : List (Stop (At CallView))) (s : At CallView) →
      MovesAlong (AskStep (MakesCall hash seat stopped)) s stops → MayGoOn seat s → MayGoOn seat (end_of s stops)
  stands_along [] s moves stands = stands
  stands_along (next ∷ stops) s moves stands =
      stands_along stops next.state moves.1 (stands_behind next.kind s next.state stands moves.0)

  stands_asked : (m m' : CallView) (pool : PoolState) (locks : Table) →
      AsksAtOnce (MakesCall hash seat stopped) is_searching seat m m' pool locks → MayGoOn seat (at m pool locks) →
      MayGoOn seat (at m' pool locks)
  stands_asked m m' pool locks asks stands =
      stands_along (stops_on asks.way (at m' pool locks)) (at m pool locks) asks.moves stands

  stands_written : (m m' : CallView) (pool pool' : PoolState) (locks : Table) →
      WritesAtOnce (MakesCall hash seat stopped) is_searching seat m m' pool pool' locks →
      MayGoOn seat (at m pool locks) → MayGoOn seat (at m' pool' locks)
  stands_written m m' pool pool' locks writes stands =
      stands_along (stops_through writes.way writes.written (at m' pool' locks)) (at m pool locks) writes.moves stands

-- ---- so far

-- so many moves were made, behind which it may go on
pub record HasGone (hash : RecordKey → ℕ) (seat moves : ℕ) (old now : At CallView) : Type 0 where
  pub runs : (stopped : Bool) → RunsAtOnce (MakesCall hash seat stopped) is_searching seat moves 0 old now
  pub stands : MayGoOn seat now

module _ (hash : RecordKey → ℕ) (seat : ℕ) (old : At CallView) where
  pub none_gone : MayGoOn seat old → HasGone hash seat 0 old old
  none_gone stands = record {
    runs = λ stopped. none_run (MakesCall hash seat stopped) is_searching seat old;
    stands = stands;
  }

  module _ (moves : ℕ) (m : CallView) (pool : PoolState) (locks : Table)
      (so_far : HasGone hash seat moves old (at m pool locks)) where
    pub asked_more : (m' : CallView) (pool' : PoolState) → pool' ≡ pool → ((stopped : Bool) →
        AsksAtOnce (MakesCall hash seat stopped) is_searching seat m m' pool locks) →
        HasGone hash seat (moves + 7) old (at m' pool' locks)
    asked_more m' pool' same asks = record {
      runs = λ stopped. one_more (MakesCall hash seat stopped) is_searching seat old Asks moves 0 (at m pool locks)
          (at m' pool' locks) (so_far.runs stopped) (same, (refl, asks stopped));
      stands = subst (λ (p : PoolState). MayGoOn seat (at m' p locks)) (sym same)
          (stands_asked hash seat false m m' pool locks (asks false) so_far.stands);
    }

    pub written_more : (m' : CallView) (pool' : PoolState) → ((stopped : Bool) →
        WritesAtOnce (MakesCall hash seat stopped) is_searching seat m m' pool pool' locks) →
        HasGone hash seat (moves + 8) old (at m' pool' locks)
    written_more m' pool' writes = record {
      runs = λ stopped. one_more (MakesCall hash seat stopped) is_searching seat old Writes moves 0 (at m pool locks)
          (at m' pool' locks) (so_far.runs stopped) (refl, writes stopped);
      stands = stands_written hash seat false m m' pool pool' locks (writes false) so_far.stands;
    }

    -- what is tried in vain changes nothing
    pub in_vain : (m' : CallView) (pool' : PoolState) → m' ≡ m → pool' ≡ pool →
        HasGone hash seat moves old (at m' pool' locks)
    in_vain m' pool' same same_pool =
        subst (λ (x : CallView). HasGone hash seat moves old (at x pool' locks)) (sym same)
        (subst (λ (p : PoolState). HasGone hash seat moves old (at m p locks)) (sym same_pool) so_far)

-- ---- up to an end

-- a run that met no fault
pub ran : {V : Type 0} (Makes : Promise V) (searches : V → Bool) (seat moves single : ℕ)
    (fault : Option FileFault) (old new : At V) → fault ≡ None →
    GoesAtOnce Makes searches seat moves single fault old new → RunsAtOnce Makes searches seat moves single old new
ran {V} Makes searches seat moves single None old new none gone =
    subst (λ (s : At V). RunsAtOnce Makes searches seat moves single old s) (sym gone.ends) gone.runs
ran {V} Makes searches seat moves single (Some fault) old new none gone = absurd cc

-- and one that goes no further
pub goes_so_far : {V : Type 0} (Makes : Promise V) (searches : V → Bool) (seat moves single : ℕ)
    (old new : At V) → RunsAtOnce Makes searches seat moves single old new →
    GoesAtOnce Makes searches seat moves single None old new
goes_so_far Makes searches seat moves single old new runs = record { before = new; runs = runs; ends = refl }

-- of which more errands may be one step
pub goes_within : {V : Type 0} (Makes : Promise V) (searches : V → Bool) (seat moves single more : ℕ)
    (fault : Option FileFault) (old new : At V) → single ≤ more →
    GoesAtOnce Makes searches seat moves single fault old new → GoesAtOnce Makes searches seat moves more fault old new
goes_within Makes searches seat moves single more fault old new less gone = record {
  before = gone.before;
  runs = record {
    errands = gone.runs.errands;
    many = gone.runs.many;
    few = let few = gone.runs.few in omega (arith, few, less);
    runs = gone.runs.runs;
  };
  ends = gone.ends;
}
