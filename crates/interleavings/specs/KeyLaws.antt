-- Which key a Remove takes. The contract of a function of key_laws.rt. docs/STEPS.md, "What a call reads".
use Rattle.std.specs.Prelude.{ℕ, ◌≡◌, ◌⊎◌, false, Some}
use Rattle.interleaving_core.specs.Owing.{is_failure}
use Rattle.interleaving_core.specs.xsi_calls.ToldNames.{IsKeyOf}
use Rattle.interleavings.specs.Refining.{Refines}
use Rattle.interleavings.specs.Words.{ActiveView, IsStep, KernelState, RecordKey, State, Step, Table, after, call_at}
use Rattle.page_locks.specs.declared.lock.LockName.TheVariants.{Key}
use Rattle.queue_model.specs.declared.call.Call.TheVariants.{Remove}
use Rattle.step_rules.specs.World.{IsHeld}

-- the seat holds the name of this key
abbrev pub HoldsKey : Table → ℕ → ℕ → Type 0
HoldsKey locks seat key = IsHeld locks seat (Key key)

-- by what Kernel::step promises, until a step has failed: after a step of a seat with a Remove, whatever that has come
-- to, a key that the seat holds it held before; or it is that of its queue in the system after the journal
abbrev pub RemovesTakeTheirKey : Type 0 → Type 0
RemovesTakeTheirKey K = (hash : RecordKey → ℕ) (base : State) (seat : ℕ) (a : ActiveView) (did : Step)
    (old new : KernelState K) (id key : ℕ) → Refines hash base old → old.failed ≡ false →
    call_at old.seats seat ≡ Some a → a.machine.call ≡ Remove id → IsStep hash seat did old new →
    is_failure did ≡ false → HoldsKey new.locks seat key →
    HoldsKey old.locks seat key ⊎ IsKeyOf id (after old.callers old.journal base) key
