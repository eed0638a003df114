-- Names are told apart, and kinds go together both ways.
use Rattle.std.proofs.Common.{◌≡◌, ◌≢◌, true, false, Option, Some, None, refl, sym, ap, ◌∙◌, inl, inr, eqb-true}
use Rattle.std.proofs.lemmas.Bool.{eq-eqb, not-false, cases_Bool}
use Rattle.page_locks.specs.declared.lock.LockKind.{LockKind}
use Rattle.page_locks.specs.declared.lock.LockKind.TheVariants.{Read, Selective, Exclusive}
use Rattle.page_locks.specs.declared.lock.LockName.{LockName}
use Rattle.page_locks.specs.declared.lock.LockName.TheVariants.{Key, Counter, Queue, Directory, Page}
use Rattle.page_locks.specs.Locks.{compatible, is_against, is_same}

pub is_same-itself : (a : LockName) → is_same a a ≡ true
is_same-itself (Key k) = eq-eqb k k refl
is_same-itself Counter = refl
is_same-itself (Queue i) = eq-eqb i i refl
is_same-itself Directory = refl
is_same-itself (Page n) = eq-eqb n n refl

pub is_same-true : (a b : LockName) → is_same a b ≡ true → a ≡ b
is_same-true (Key k) (Key l) e = ap Key (eqb-true k l e)
is_same-true (Key k) Counter e = cc
is_same-true (Key k) (Queue j) e = cc
is_same-true (Key k) Directory e = cc
is_same-true (Key k) (Page n) e = cc
is_same-true Counter (Key l) e = cc
is_same-true Counter Counter e = refl
is_same-true Counter (Queue j) e = cc
is_same-true Counter Directory e = cc
is_same-true Counter (Page n) e = cc
is_same-true (Queue i) (Key l) e = cc
is_same-true (Queue i) Counter e = cc
is_same-true (Queue i) (Queue j) e = ap Queue (eqb-true i j e)
is_same-true (Queue i) Directory e = cc
is_same-true (Queue i) (Page n) e = cc
is_same-true Directory (Key l) e = cc
is_same-true Directory Counter e = cc
is_same-true Directory (Queue j) e = cc
is_same-true Directory Directory e = refl
is_same-true Directory (Page n) e = cc
is_same-true (Page m) (Key l) e = cc
is_same-true (Page m) Counter e = cc
is_same-true (Page m) (Queue j) e = cc
is_same-true (Page m) Directory e = cc
is_same-true (Page m) (Page n) e = ap Page (eqb-true m n e)

pub is_same-false : (a b : LockName) → a ≢ b → is_same a b ≡ false
is_same-false a b other = elim (cases_Bool (is_same a b)) [ inl e ↦ absurd (other (is_same-true a b e)) | inr e ↦ e ]

pub compatible-comm : (k l : LockKind) → compatible k l ≡ compatible l k
compatible-comm Read Read = refl
compatible-comm Read Selective = refl
compatible-comm Read Exclusive = refl
compatible-comm Selective Read = refl
compatible-comm Selective Selective = refl
compatible-comm Selective Exclusive = refl
compatible-comm Exclusive Read = refl
compatible-comm Exclusive Selective = refl
compatible-comm Exclusive Exclusive = refl

-- what does not stand in the way goes with the kind
pub not_against : (kind l : LockKind) (o : Option LockKind) → is_against kind o ≡ false → o ≡ Some l →
    compatible kind l ≡ true
not_against kind l None free is = absurd cc
not_against kind l (Some other) free is = not-false (compatible kind l) (ap (is_against kind) (sym is) ∙ free)
