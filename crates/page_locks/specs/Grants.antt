-- What a clause says of an answer to a seat that asks for a lock.
use Rattle.std.specs.Prelude.{ℕ, ⊤}
use Rattle.page_locks.specs.declared.grant.Grant.{Grant}
use Rattle.page_locks.specs.declared.grant.Grant.TheVariants.{Granted, Blocked}

-- P, if the lock was granted
abbrev pub OnGranted : Grant → Type 0 → Type 0
OnGranted Granted P = P
OnGranted (Blocked other) P = ⊤

-- P of the seat that stands in the way, if one does
abbrev pub IfBlocked : Grant → (ℕ → Type 0) → Type 0
IfBlocked Granted P = ⊤
IfBlocked (Blocked other) P = P other

abbrev pub IsBlocked : Grant → Type 0
IsBlocked Granted = ⊥
IsBlocked (Blocked other) = ⊤
