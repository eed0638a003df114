-- A kernel over a system, with no call under way or with one. docs/STEPS.md, "Calls".
use Rattle.std.specs.Prelude.{ℕ, ◌≡◌, ◌≢◌, ◌≤◌, Bool, true, false, ◌&&◌, IsSome, List, Some, None, length}
use Rattle.interleaving_core.specs.Words.{Entry}
use Rattle.interleavings.specs.LoneKernelWords.{ActiveView, Begins, Call, CallView, Caller, IsFileAtRest, IsServed, KernelState, MOST_CALL_STEPS, RecordKey, State, call_at, call_left, conclusion_of, is_waiting, is_woken, outcome, stays_waiting, store_of}

-- no call is under way, and the file is at rest with this system
pub record RestsOver {K : Type 0} (hash : RecordKey → ℕ) (s : State) (k : KernelState K) : Type 0 where
  pub file : IsFileAtRest hash s k.pool k.locks
  pub idle : (seat : ℕ) → call_at k.seats seat ≡ None
  -- no step has failed
  pub sound : k.failed ≡ false
  -- it is stopped exactly where the kernel is
  pub mark : s.stopped ≡ k.stopped

-- a call that is to begin anew over a system, once something wakes it that is behind so many entries of the journal
pub record IsAsleep {K : Type 0} (hash : RecordKey → ℕ) (caller : Caller) (call : Call) (s : State) (m : CallView)
    (since : ℕ) (k : KernelState K) : Type 0 where
  -- it is at its beginning, and the file is at rest
  pub begins : Begins caller call m
  pub file : IsFileAtRest hash s k.pool k.locks
  -- the journal has so many
  pub within : since ≤ length k.journal

-- it was decided to wait, and something has woken it since: it begins anew where it would wait
abbrev pub is_to_begin_anew : ActiveView → List Entry → Bool
is_to_begin_anew a journal = is_waiting (conclusion_of a.machine) && is_woken a.machine.call a.decided journal

-- this caller's call over a system is under way on a seat, and no other call
pub record ServesOver {K : Type 0} (hash : RecordKey → ℕ) (seat : ℕ) (caller : Caller) (call : Call) (s : State)
    (k : KernelState K) : Type 0 where
  pub active : ActiveView
  pub there : call_at k.seats seat ≡ Some active
  pub served : IsServed hash seat caller call s active.machine k.pool k.locks
  -- no more steps of it are left than a call has that has just begun
  pub few : call_left active.machine (store_of k.pool.images) ≤ MOST_CALL_STEPS
  -- where its seat was told that it waits, and nothing has woken it since, the rules have no answer
  pub waits : stays_waiting active.wait active.machine.call k.journal ≡ true → outcome caller call s ≡ None
  -- woken or not, where its seat was told so it has not begun anew yet
  pub asleep : (since : ℕ) → active.wait ≡ Some since → IsAsleep hash caller call s active.machine since k
  -- where it was decided to wait nothing has woken it since
  pub quiet : is_to_begin_anew active k.journal ≡ false
  -- once it has decided, the journal is no shorter than at its Decide
  pub decided : IsSome (conclusion_of active.machine) → active.decided ≤ length k.journal
  pub others : (other : ℕ) → other ≢ seat → call_at k.seats other ≡ None
  pub sound : k.failed ≡ false
  pub mark : s.stopped ≡ k.stopped

-- it is under way so, the rules have no answer, and its seat was told that it waits
pub record WaitsOver {K : Type 0} (hash : RecordKey → ℕ) (seat : ℕ) (caller : Caller) (call : Call) (s : State)
    (k : KernelState K) : Type 0 where
  pub serves : ServesOver hash seat caller call s k
  pub none : outcome caller call s ≡ None
  pub told : IsSome serves.active.wait
