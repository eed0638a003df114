-- A seat's facts through its own locks, each answer of a turn, and what a seat may be granted.
use Rattle.std.proofs.Common.{◌≡◌, ◌≤◌, false, List, [], ◌∷◌, ℕ, None, IsSome, sym, subst, arith}
use Rattle.std.proofs.lemmas.Bool.{true≢false}
use Rattle.page_locks.specs.Locks.{kind_of}
use Rattle.page_locks.specs.Table.{Table, row_of}
use Rattle.step_rules.specs.Words.{LockKind, LockName, Exclusive, Key, Counter, Queue, Directory, Page}
use Rattle.step_rules.specs.World.{World, with_locks, IsHeld}
use Rattle.step_rules.specs.Known.{Known, AllKnown, AllAnchored}
use Rattle.step_rules.specs.LockSteps.{Grants}
use Rattle.step_rules.specs.Turns.{rank_of, MayBeGranted}
use Rattle.step_rules.proofs.OwnLemmas.{own_locks_keep, own_grant_keeps}

pub AllKnown-granted : (seat : ℕ) (old new : World) (facts : List Known) → Grants seat old new →
    AllKnown seat old facts → AllKnown seat new facts
AllKnown-granted seat old new [] g h = tt
AllKnown-granted seat old new (fact ∷ facts) g h =
    (own_grant_keeps seat old new g fact h.0, AllKnown-granted seat old new facts g h.1)

pub AllKnown-relocked : (seat : ℕ) (w : World) (t : Table) (facts : List Known) → AllKnown seat w facts →
    AllAnchored (row_of t seat) facts → AllKnown seat (with_locks t w) facts
AllKnown-relocked seat w t [] h a = tt
AllKnown-relocked seat w t (fact ∷ facts) h a =
    (own_locks_keep seat w t fact h.0 a.0, AllKnown-relocked seat w t facts h.1 a.1)

-- ---- what a seat may be granted

-- the directory, by a seat that holds no page
pub directory_may : (seat : ℕ) (kind : LockKind) (w : World) → (kind ≡ Exclusive → ⊥) →
    ((n : ℕ) → kind_of (row_of w.locks seat) (Page n) ≡ None) → MayBeGranted Directory kind seat w
directory_may seat kind w shared bare = record {
  ordered = ordered;
  shared = λ same x. shared x;
  in_directory = λ page same. absurd cc;
  last = λ page same x. absurd cc;
}
  where
    ordered : (other : LockName) → IsHeld w.locks seat other → rank_of other ≤ 3
    ordered (Key k) there = omega arith
    ordered Counter there = omega arith
    ordered (Queue id) there = omega arith
    ordered Directory there = omega arith
    ordered (Page n) there = absurd (true≢false (sym (subst IsSome (bare n) there)))

pub last_rank : (name : LockName) → rank_of name ≤ 4
last_rank (Key k) = omega arith
last_rank Counter = omega arith
last_rank (Queue id) = omega arith
last_rank Directory = omega arith
last_rank (Page n) = omega arith

-- a page, by a seat that holds the directory
pub page_may : (n : ℕ) (kind : LockKind) (seat : ℕ) (w : World) → IsHeld w.locks seat Directory
    → (kind ≡ Exclusive → ⊥) →
    MayBeGranted (Page n) kind seat w
page_may n kind seat w there shared = record {
  ordered = λ other held. last_rank other;
  shared = λ same x. shared x;
  in_directory = λ page same. there;
  last = λ page same x. absurd (shared x);
}
