-- Calls that lack room: they have something to insert. docs/FAULTS.md.
use Rattle.std.specs.Prelude.{ℕ, ◌≡◌, true, false, List, Option, Some, None, ⊤}
use Rattle.interleavings.specs.Moments.{HasToInsert}
use Rattle.interleavings.specs.Words.{ActiveView, Caller, Entry, KernelState, State, call_at, lacks_room}

-- where it lacks room it has something to insert
abbrev pub IsInsertingAt : State → List Caller → List Entry → Option ActiveView → Type 0
IsInsertingAt base callers journal None = ⊤
IsInsertingAt base callers journal (Some a) =
    lacks_room a.machine ≡ true → HasToInsert callers base a.machine.call journal

-- until a step fails
abbrev pub AreInserting : {K : Type 0} → State → KernelState K → Type 0
AreInserting base k = k.failed ≡ false → (seat : ℕ) → IsInsertingAt base k.callers k.journal (call_at k.seats seat)
