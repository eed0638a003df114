-- What seats hold once they have begun, stepped or given the lock of their record back.
use Rattle.std.proofs.Common.{arith, ◌≡◌, ◌∙◌, refl, sym, ap, subst, ℕ, suc, ◌<◌, List, [], Option, Some, None, length, replicate, slice_get, slice_index_or, slice_set, ◌≤◌, Bool, true, false, inl, inr, get_or-set_other, Result, Ok, Err, IfOk, IfErr}
use Rattle.std.specs.Option.{is_some}
use Rattle.std.proofs.lemmas.Bool.{cases_eq, true≢false}
use Rattle.std.proofs.lemmas.Grind.{get_or-set_at}
use Rattle.std.proofs.lemmas.List.{get_or-replicate, length-replicate, length-set}
use Rattle.std.proofs.lemmas.Option.{get_or_from_slice_get, slice_get-get_or, slice_get_read, slice_get_within}
use Rattle.buffer_pool.specs.Pool.{PoolState}
use Rattle.file_pages.specs.Files.{IsReady}
use Rattle.file_pages.specs.declared.fault.FileFault.{FileFault}
use Rattle.page_locks.specs.declared.lock.Lock.{Lock}
use Rattle.page_locks.specs.declared.lock.LockKind.TheVariants.{Exclusive}
use Rattle.page_locks.specs.declared.lock.LockName.{LockName}
use Rattle.page_locks.specs.Locks.{without}
use Rattle.page_locks.specs.Table.{Table, row_of, with_row, with_lock, without_lock}
use Rattle.page_locks.proofs.ChangeLemmas.{length-with_row, with_row-own, with_row-twice}
use Rattle.page_locks.proofs.TableLemmas.{row_of-empty, row_of-other, row_of-same}
use Rattle.record_file.specs.AccessRuns.{FailsAtOnce, WritesAtOnce}
use Rattle.record_file.specs.Accesses.{AccessView, access_locks}
use Rattle.machine_trials.specs.declared.task.Task.{Task}
use Rattle.machine_trials.specs.declared.task.Value.{Value}
use Rattle.machine_trials.specs.declared.task.TheConstants.{MAX_VALUE_BYTES}
use Rattle.machine_trials.specs.declared.work.Work.{Work}
use Rattle.machine_trials.specs.Seats.{AreIdle, Follows, Holds, HoldsGuard, IsBegun, IsGuard, IsTrial, MayLend, guarded, work_locks}

-- a seat that held nothing was granted the lock of a record
pub Follows-begun : (t new : Table) (seat : ℕ) (w : Work) (v : Value) (name : LockName) →
    row_of t seat ≡ [] → IsGuard name → v.bytes ≤ MAX_VALUE_BYTES → IsBegun w →
    new ≡ with_lock t seat name Exclusive →
    Follows seat t (Some (record { work = w; value = v; guard = Some name })) new
Follows-begun t new seat w v name idle guard few begun granted = record {
  row = guarded name;
  is = granted ∙ rw idle refl;
  holds = record {
    guard = guard;
    locks = sym (begun.bare (guarded name));
    few = few;
    lent = begun.lent v.bytes;
  };
}

-- a seat whose work goes on holds what that says then, where all bytes of its value were lent
pub Follows-stepped : (t new : Table) (seat : ℕ) (w : Work) (v : Value) (guard : Option LockName) (name : LockName)
    (lent : ℕ) → guard ≡ Some name → IsGuard name → v.bytes ≤ MAX_VALUE_BYTES → lent ≡ v.bytes → MayLend lent w →
    new ≡ with_row t seat (work_locks w (guarded name)) →
    Follows seat t (Some (record { work = w; value = v; guard = guard })) new
Follows-stepped t new seat w v guard name lent its is_guard few all may made = record {
  row = work_locks w (guarded name);
  is = made;
  holds = subst (λ (g : Option LockName).
      HoldsGuard (record { work = w; value = v; guard = g }) g (work_locks w (guarded name))) (sym its)
      (record {
        guard = is_guard;
        locks = refl;
        few = few;
        lent = subst (λ (n : ℕ). MayLend n w) all may;
      });
}

-- a seat that has given a name back: no more is said of its row
pub Follows-released : (t stepped new : Table) (seat : ℕ) (row : List Lock) (w : Work) (v : Value)
    (name : LockName) → stepped ≡ with_row t seat row → new ≡ without_lock stepped seat name →
    Follows seat t (Some (record { work = w; value = v; guard = None })) new
Follows-released t stepped new seat row w v name made given = record {
  row = without (row_of stepped seat) name;
  is = given ∙ ap (λ (u : Table). with_row u seat (without (row_of stepped seat) name)) made
      ∙ with_row-twice t seat row (without (row_of stepped seat) name);
  holds = tt;
}

-- a write that has made all its steps in one go holds nothing, and one that has made none is what it was
module _ (done : Result Bool FileFault) (seat : ℕ) (old new : AccessView) (pool pool' : PoolState) (t : Table)
    (made : IfOk done (λ (d : Bool). d ≡ true → WritesAtOnce seat old new pool pool' t))
    (spares : IfOk done (λ (d : Bool). d ≡ false → (new ≡ old) × (pool' ≡ pool)))
    (failed : IfErr done (λ (fault : FileFault). FailsAtOnce seat fault old new pool pool' t)) where
  abbrev ThroughAs : Result Bool FileFault → Type 0
  ThroughAs d = IfOk d (λ (d : Bool). d ≡ true → WritesAtOnce seat old new pool pool' t)
      × IfOk d (λ (d : Bool). d ≡ false → (new ≡ old) × (pool' ≡ pool))
      × IfErr d (λ (fault : FileFault). FailsAtOnce seat fault old new pool pool' t)

  pub through_ready : IsReady pool → IsReady pool'
  through_ready ready = by done (made, spares, failed)
    where
      by : (d : Result Bool FileFault) → ThroughAs d → IsReady pool'
      by (Ok true) all = ((all.0 refl).moves (λ key. 0)).1.1.1.1.1.1.1.0.may.ready
      by (Ok false) all = subst IsReady (sym (all.1 refl).1) ready
      by (Err fault) all = (all.2.step (λ key. 0)).makes.writes.ready

  pub row_through : (before : List Lock) → row_of t seat ≡ access_locks old before →
      t ≡ with_row t seat (access_locks new before)
  row_through before row = sym (with_row-own t seat) ∙ ap (with_row t seat) (row ∙ by done (made, spares, failed))
    where
      by : (d : Result Bool FileFault) → ThroughAs d → access_locks old before ≡ access_locks new before
      by (Ok true) all = let done = all.0 refl in done.bare before ∙ sym (done.given before)
      by (Ok false) all = ap (λ (a : AccessView). access_locks a before) (sym (all.1 refl).0)
      by (Err fault) all = ap (λ (a : AccessView). access_locks a before) (sym all.2.same)

-- a seat that was read is idle
pub idle_read : (seats : List (Option Task)) (place : ℕ) (s : Option Task) → place < length seats →
    s ≡ slice_index_or seats place s → is_some s ≡ false → slice_get seats place ≡ Some None
idle_read seats place (Some task) within read no_task = absurd (true≢false no_task)
idle_read seats place None within read no_task = slice_get_read seats (length seats) place None refl within read

-- a seat that was read is at this task
pub task_read : (seats : List (Option Task)) (place : ℕ) (s : Option Task) (task : Task) → place < length seats →
    s ≡ slice_index_or seats place s → s ≡ Some task → slice_get seats place ≡ Some (Some task)
task_read seats place s task within read is =
    slice_get_read seats (length seats) place s refl within read ∙ ap Some is

idle_at : (many place : ℕ) (s : Option Task) → slice_get (replicate many None) place ≡ Some s → s ≡ None
idle_at many place s is =
    let within : place < many =
    omega (arith, slice_get_within (replicate many None) place s is, length-replicate {A = Option Task} many None)
    in
    sym (get_or_from_slice_get (replicate many None) place s None is) ∙ get_or-replicate many place None None within

-- where no lock is held and no seat has begun
pub IsTrial-idle : (pool : PoolState) (t : Table) (seats : List (Option Task)) (many : ℕ) → IsReady pool →
    t ≡ replicate many [] → AreIdle many seats → IsTrial pool t seats
IsTrial-idle pool t seats many ready free idle = record {
  ready = ready;
  as_many = ap length idle ∙ length-replicate many None ∙ sym (length-replicate many []) ∙ sym (ap length free);
  holds = λ place s is.
      let here : s ≡ None =
      idle_at many place s (ap (λ (xs : List (Option Task)). slice_get xs place) (sym idle) ∙ is) in
      subst (λ (x : Option Task). Holds x (row_of t (suc place))) (sym here)
      (ap (λ (u : Table). row_of u (suc place)) free ∙ row_of-empty many (suc place));
}

module _ (pool : PoolState) (t : Table) (seats : List (Option Task)) (trial : IsTrial pool t seats) (place seat : ℕ)
    (s : Option Task) (is : seat ≡ suc place) where
  -- what a seat holds
  pub Holds-at : slice_get seats place ≡ Some s → Holds s (row_of t seat)
  Holds-at at = subst (λ (n : ℕ). Holds s (row_of t n)) (sym is) (trial.holds place s at)

  -- of two seats one has changed
  pub IsTrial-set : (pool' : PoolState) (t' : Table) → IsReady pool' → place < length seats → Follows seat t s t' →
      IsTrial pool' t' (slice_set seats place s)
  IsTrial-set pool' t' ready within follows =
      let changed : List (Option Task) = slice_set seats place s in
      let own : row_of t' seat ≡ follows.row =
      ap (λ (u : Table). row_of u seat) follows.is ∙
      row_of-same t seat follows.row (omega (arith, is), omega (arith, is, within, trial.as_many))
      in
      record {
        ready = ready;
        as_many = length-set seats place s ∙ trial.as_many
            ∙ sym (ap length follows.is ∙ length-with_row t seat follows.row);
        holds = λ other u at. elim (cases_eq other place) [
          | inl same ↦
              let new : u ≡ s =
              sym (get_or_from_slice_get changed other u None at) ∙ get_or-set_at seats place other s None same within
              in
              let its : suc other ≡ seat = omega (arith, is, same) in
              subst (λ (x : Option Task). Holds x (row_of t' (suc other))) (sym new)
              (subst (λ (n : ℕ). Holds s (row_of t' n)) (sym its)
              (subst (λ (row : List Lock). Holds s row) (sym own) follows.holds))
          | inr apart ↦
              let below : other < length seats =
              omega (arith, slice_get_within changed other u at, length-set seats place s)
              in
              let old : slice_get seats other ≡ Some u =
              slice_get-get_or seats other None below ∙ ap Some
              (sym (get_or-set_other seats place other s None apart) ∙ get_or_from_slice_get changed other u None at)
              in
              let kept : row_of t' (suc other) ≡ row_of t (suc other) =
              ap (λ (u : Table). row_of u (suc other)) follows.is ∙
              row_of-other t seat (suc other) follows.row (λ (e : suc other ≡ seat). apart (omega (arith, is, e)))
              in
              subst (λ (row : List Lock). Holds u row) (sym kept) (trial.holds other u old)
        ];
      }
