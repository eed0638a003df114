-- What a call does with names that holds some and needs others. docs/STEPS.md, "Locks", "What a call reads".
use Rattle.std.specs.Prelude.{ℕ, ◌+◌, ◌&&◌, Bool, true, false, if◌then◌else◌, List, [], ◌∷◌, length, Option, Some, None}
use Rattle.page_locks.specs.declared.lock.Lock.{Lock}
use Rattle.page_locks.specs.declared.lock.LockKind.{LockKind}
use Rattle.page_locks.specs.declared.lock.LockKind.TheVariants.{Read, Selective, Exclusive}
use Rattle.page_locks.specs.Locks.{is_same}
use Rattle.xsi_calls.specs.declared.turn.NameTurn.{NameTurn}
use Rattle.xsi_calls.specs.declared.turn.NameTurn.TheVariants.{Take, GiveBack, Ready}

abbrev pub is_kind : LockKind → LockKind → Bool
is_kind Read Read = true
is_kind Selective Selective = true
is_kind Exclusive Exclusive = true
is_kind a b = false

-- whether both are one name in one kind
abbrev pub is_lock : Lock → Lock → Bool
is_lock a b = is_same a.name b.name && is_kind a.kind b.kind

abbrev pub is_there : Option Lock → Lock → Bool
is_there None lock = false
is_there (Some found) lock = is_lock found lock

-- by the locks that are held, and those that are needed
abbrev pub name_turn : (held goal : List Lock) → NameTurn
name_turn [] [] = Ready
name_turn [] (lock ∷ goal) = Take lock
name_turn (lock ∷ held) [] = GiveBack
name_turn (lock ∷ held) (next ∷ goal) = if is_lock next lock then name_turn held goal else GiveBack

-- the turns until they are held: what does not begin them is given back, and the rest is taken
abbrev pub names_left : (held goal : List Lock) → ℕ
names_left [] goal = length goal
names_left (lock ∷ held) [] = length (lock ∷ held)
names_left (lock ∷ held) (next ∷ goal) =
    if is_lock next lock then names_left held goal else length (lock ∷ held) + length (next ∷ goal)
