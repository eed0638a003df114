-- Who holds one name: the seats that read it, seat s at bit s - 1 of a word, and the seat that
-- holds it selectively and the one that holds it exclusively, or 0.
use Rattle.std.specs.Prelude.{◌≡◌, ◌≢◌, ◌==◌, ◌&&◌, ℕ, ◌-◌, Bool, if◌then◌else◌, Option, Some, None}
use Rattle.std.specs.Int.{bit_at}
use Rattle.page_locks.specs.declared.holders.Holders.{Holders}
use Rattle.page_locks.specs.declared.lock.LockKind.{LockKind}
use Rattle.page_locks.specs.declared.lock.LockKind.TheVariants.{Read, Selective, Exclusive}

abbrev pub nobody : Holders
nobody = record { readers = 0; selective = 0; exclusive = 0 }

abbrev pub is_nobody : Holders → Bool
is_nobody h = h.readers == 0 && h.selective == 0 && h.exclusive == 0

-- whether the seat is among the readers
abbrev pub reads : Holders → ℕ → Bool
reads h seat = bit_at h.readers (seat - 1) == 1

-- the kind in which the seat holds the name; no seat has the number 0
abbrev pub kind_at : Holders → ℕ → Option LockKind
kind_at h seat =
    if seat == 0 then None else if h.exclusive == seat then Some Exclusive
    else if h.selective == seat then Some Selective else if reads h seat then Some Read else None

-- a seat now holds the name so, and every other as it did
pub record ChangesSeat (seat : ℕ) (kind : Option LockKind) (old new : Holders) : Type 0 where
  pub own : kind_at new seat ≡ kind
  pub others : (other : ℕ) → other ≢ seat → kind_at new other ≡ kind_at old other
