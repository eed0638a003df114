-- The turn of a call with names, by what is left of both lists.
use Rattle.std.proofs.Common.{ℕ, zero, suc, ◌≡◌, ◌+◌, ◌<◌, ◌≤◌, ◌&&◌, Bool, true, false, List, [], ◌∷◌, ◌++◌, Option, Some, None, drop, length, refl, sym, ap, ◌∙◌, arith, slice_index_or}
use Rattle.std.proofs.lemmas.List.{append_assoc, append-nil, length_push}
use Rattle.std.proofs.Math.Seq.{drop-length}
use Rattle.std.specs.Prelude.{IfSome, slice_get, if◌then◌else◌}
use Rattle.page_locks.specs.declared.lock.Lock.{Lock}
use Rattle.page_locks.specs.declared.lock.LockKind.{LockKind}
use Rattle.page_locks.specs.declared.lock.LockKind.TheVariants.{Read, Selective, Exclusive}
use Rattle.page_locks.proofs.NameLemmas.{is_same-itself, is_same-true}
use Rattle.page_locks.specs.Locks.{is_same, lock_of}
use Rattle.xsi_calls.specs.declared.turn.NameTurn.{NameTurn}
use Rattle.xsi_calls.specs.declared.turn.NameTurn.TheVariants.{Take, GiveBack, Ready}
use Rattle.xsi_calls.specs.NameTurns.{is_kind, is_lock, is_there, name_turn, names_left}
use Rattle.xsi_calls.specs.HeldLaws.{AreFewTurns, Begins, IsNext, TurnsAreRight, TurnsComeNearer}

-- ---- from one place to the next

-- a lock that is held at a place, and needed there
pub goes_on : (held goal : List Lock) (i : ℕ) (d : Lock) → i < length held →
    is_there (slice_get goal i) (slice_index_or held i d) ≡ true →
    name_turn (drop i held) (drop i goal) ≡ name_turn (drop (suc i) held) (drop (suc i) goal)
goes_on [] goal i d within there = absurd (omega (arith, within))
goes_on (x ∷ held) [] i d within there = absurd cc
goes_on (x ∷ held) (y ∷ goal) zero d within there = let same : is_lock y x ≡ true = there in rw same refl
goes_on (x ∷ held) (y ∷ goal) (suc i) d within there = goes_on held goal i d (omega (arith, within)) there

drop_none : (i : ℕ) → drop {A = Lock} i [] ≡ []
drop_none zero = refl
drop_none (suc i) = refl

-- and one that is not
pub differs : (held goal : List Lock) (i : ℕ) (d : Lock) → i < length held →
    is_there (slice_get goal i) (slice_index_or held i d) ≡ false → name_turn (drop i held) (drop i goal) ≡ GiveBack
differs [] goal i d within there = absurd (omega (arith, within))
differs (x ∷ held) [] zero d within there = refl
differs (x ∷ held) [] (suc i) d within there =
    ap (name_turn (drop i held)) (sym (drop_none i)) ∙ differs held [] i d (omega (arith, within)) refl
differs (x ∷ held) (y ∷ goal) zero d within there = let other : is_lock y x ≡ false = there in rw other refl
differs (x ∷ held) (y ∷ goal) (suc i) d within there = differs held goal i d (omega (arith, within)) there

-- behind the last that is held
pub takes_next : (goal : List Lock) (i : ℕ) (lock : Lock) → slice_get goal i ≡ Some lock →
    name_turn [] (drop i goal) ≡ Take lock
takes_next [] i lock at = absurd cc
takes_next (y ∷ goal) zero lock at = let is : y ≡ lock = cc in ap Take is
takes_next (y ∷ goal) (suc i) lock at = takes_next goal i lock at

pub is_ready : (goal : List Lock) (i : ℕ) → slice_get goal i ≡ None → name_turn [] (drop i goal) ≡ Ready
is_ready [] zero none = refl
is_ready [] (suc i) none = refl
is_ready (y ∷ goal) zero none = absurd cc
is_ready (y ∷ goal) (suc i) none = is_ready goal i none

-- the same of lists that are one with what is held
pub goes_on_in : (self held goal : List Lock) (i : ℕ) (d : Lock) (found : Option Lock) → held ≡ self →
    i < length held → found ≡ slice_get goal i → is_there found (slice_index_or held i d) ≡ true →
    name_turn (drop i self) (drop i goal) ≡ name_turn (drop (i + 1) self) (drop (i + 1) goal)
goes_on_in self held goal i d found is within at there =
    let one : suc i ≡ i + 1 = omega arith in
    rw (← is, ← one)
    (goes_on held goal i d within (ap (λ o. is_there o (slice_index_or held i d)) (sym at) ∙ there))

pub differs_in : (self held goal : List Lock) (i : ℕ) (d : Lock) (found : Option Lock) → held ≡ self →
    i < length held → found ≡ slice_get goal i → is_there found (slice_index_or held i d) ≡ false →
    name_turn (drop i self) (drop i goal) ≡ GiveBack
differs_in self held goal i d found is within at there =
    rw (← is) (differs held goal i d within (ap (λ o. is_there o (slice_index_or held i d)) (sym at) ∙ there))

pub ends_in : (self held goal : List Lock) (i : ℕ) → held ≡ self → i ≡ length held →
    name_turn (drop i self) (drop i goal) ≡ name_turn [] (drop (length held) goal)
ends_in self held goal i is end =
    rw (← is, end) (ap (λ xs. name_turn xs (drop (length held) goal)) (drop-length held))

-- exactly the one that is needed is held
pub is_alone : (self held goal : List Lock) (d : Lock) (found : Option Lock) → held ≡ self → length held ≡ 1 →
    IfSome found (λ lock. goal ≡ lock ∷ []) → is_there found (slice_index_or held 0 d) ≡ true →
    name_turn self goal ≡ Ready
is_alone self [] goal d found is one only there = absurd (omega (arith, one))
is_alone self (x ∷ y ∷ held) goal d found is one only there = absurd (omega (arith, one))
is_alone self (x ∷ []) goal d None is one only there = absurd cc
is_alone self (x ∷ []) goal d (Some lock) is one only there =
    let same : is_lock lock x ≡ true = there in rw (← is, only, same) refl

-- ---- what a turn tells

is_kind-itself : (a : LockKind) → is_kind a a ≡ true
is_kind-itself Read = refl
is_kind-itself Selective = refl
is_kind-itself Exclusive = refl

is_kind-true : (a b : LockKind) → is_kind a b ≡ true → a ≡ b
is_kind-true Read Read e = refl
is_kind-true Read Selective e = absurd cc
is_kind-true Read Exclusive e = absurd cc
is_kind-true Selective Read e = absurd cc
is_kind-true Selective Selective e = refl
is_kind-true Selective Exclusive e = absurd cc
is_kind-true Exclusive Read e = absurd cc
is_kind-true Exclusive Selective e = absurd cc
is_kind-true Exclusive Exclusive e = refl

is_lock-itself : (a : Lock) → is_lock a a ≡ true
is_lock-itself a = rw (is_same-itself a.name) (is_kind-itself a.kind)

is_lock-true : (a b : Lock) → is_lock a b ≡ true → a ≡ b
is_lock-true a b e =
    let parts = both (is_same a.name b.name) (is_kind a.kind b.kind) e in
    ap (λ n. lock_of n a.kind) (is_same-true a.name b.name parts.0)
    ∙ ap (lock_of b.name) (is_kind-true a.kind b.kind parts.1)
  where
    both : (x y : Bool) → (x && y) ≡ true → (x ≡ true) × (y ≡ true)
    both true y e = (refl, e)
    both false y e = absurd cc

-- what begins the goal leaves the turn of the rest
begun : (held more : List Lock) → name_turn held (held ++ more) ≡ name_turn [] more
begun [] more = refl
begun (x ∷ held) more = rw (is_lock-itself x) (begun held more)

begun_left : (held more : List Lock) → names_left held (held ++ more) ≡ length more
begun_left [] more = refl
begun_left (x ∷ held) more = rw (is_lock-itself x) (begun_left held more)

begun_by : (held goal more : List Lock) → goal ≡ held ++ more → name_turn held goal ≡ name_turn [] more
begun_by held goal more is = ap (name_turn held) is ∙ begun held more

-- the lists where the turn is to take, and where all is held
next_of : (held goal : List Lock) (lock : Lock) → name_turn held goal ≡ Take lock → IsNext lock held goal
next_of [] [] lock is = absurd cc
next_of [] (y ∷ goal) lock is = (goal, ap (λ x. x ∷ goal) (let same : y ≡ lock = cc in same))
next_of (x ∷ held) [] lock is = absurd cc
next_of (x ∷ held) (y ∷ goal) lock is = by (is_lock y x) refl (next_of held goal lock) is
  where
    by : (b : Bool) → is_lock y x ≡ b → (name_turn held goal ≡ Take lock → IsNext lock held goal) →
        (if b then name_turn held goal else GiveBack) ≡ Take lock → IsNext lock (x ∷ held) (y ∷ goal)
    by true same later is =
        let rest = later is in
        (rest.0, ap (λ z. z ∷ goal) (is_lock-true y x same) ∙ ap (λ zs. x ∷ zs) rest.1)
    by false same later is = absurd cc

all_of : (held goal : List Lock) → name_turn held goal ≡ Ready → held ≡ goal
all_of [] [] is = refl
all_of [] (y ∷ goal) is = absurd cc
all_of (x ∷ held) [] is = absurd cc
all_of (x ∷ held) (y ∷ goal) is = by (is_lock y x) refl (all_of held goal) is
  where
    by : (b : Bool) → is_lock y x ≡ b → (name_turn held goal ≡ Ready → held ≡ goal) →
        (if b then name_turn held goal else GiveBack) ≡ Ready → x ∷ held ≡ y ∷ goal
    by true same later is = ap (λ z. z ∷ held) (sym (is_lock-true y x same)) ∙ ap (λ zs. y ∷ zs) (later is)
    by false same later is = absurd cc

not_begun : (held goal : List Lock) → name_turn held goal ≡ GiveBack → Begins held goal → ⊥
not_begun held goal is (more, begins) = by more (sym (begun_by held goal more begins) ∙ is)
  where
    by : (more : List Lock) → name_turn [] more ≡ GiveBack → ⊥
    by [] e = cc
    by (y ∷ more) e = cc

else_back : (held goal : List Lock) → (Begins held goal → ⊥) → name_turn held goal ≡ GiveBack
else_back held goal other = by (name_turn held goal) refl
  where
    by : (t : NameTurn) → name_turn held goal ≡ t → t ≡ GiveBack
    by Ready is = absurd (other ([], sym (all_of held goal is) ∙ sym (append-nil held)))
    by (Take lock) is = let next = next_of held goal lock is in absurd (other (lock ∷ next.0, next.1))
    by GiveBack is = refl

pub turns_are_right : TurnsAreRight
turns_are_right held goal = record {
  ready = (all_of held goal, λ is. begun_by held goal [] (sym is ∙ sym (append-nil held)));
  take = λ lock. (next_of held goal lock, λ next. begun_by held goal (lock ∷ next.0) next.1);
  give_back = (not_begun held goal, else_back held goal);
}

-- ---- the turns that are left

none_left : (held goal : List Lock) → names_left held goal ≡ 0 → held ≡ goal
none_left [] [] none = refl
none_left [] (y ∷ goal) none = absurd (omega (arith, none))
none_left (x ∷ held) [] none = absurd (omega (arith, none))
none_left (x ∷ held) (y ∷ goal) none = by (is_lock y x) refl (none_left held goal) none
  where
    by : (b : Bool) → is_lock y x ≡ b → (names_left held goal ≡ 0 → held ≡ goal) →
        (if b then names_left held goal else length (x ∷ held) + length (y ∷ goal)) ≡ 0 → x ∷ held ≡ y ∷ goal
    by true same later none = ap (λ z. z ∷ held) (sym (is_lock-true y x same)) ∙ ap (λ zs. y ∷ zs) (later none)
    by false same later none = absurd (omega (arith, none))

-- one that is taken
one_taken : (held goal : List Lock) (lock : Lock) → IsNext lock held goal →
    names_left held goal ≡ suc (names_left (held ++ lock ∷ []) goal)
one_taken held goal lock (more, is) =
    ap (names_left held) is ∙ begun_left held (lock ∷ more)
    ∙ ap suc (sym (ap (names_left (held ++ lock ∷ [])) (is ∙ sym (append_assoc held (lock ∷ []) more))
    ∙ begun_left (held ++ lock ∷ []) more))

-- one that is given back
one_given : (rest : List Lock) (last : Lock) (goal : List Lock) → name_turn (rest ++ last ∷ []) goal ≡ GiveBack →
    names_left (rest ++ last ∷ []) goal ≡ suc (names_left rest goal)
one_given [] last [] is = refl
one_given [] last (y ∷ goal) is = by (is_lock y last) refl is
  where
    by : (b : Bool) → is_lock y last ≡ b → (if b then name_turn [] goal else GiveBack) ≡ GiveBack →
        (if b then names_left [] goal else 1 + length (y ∷ goal)) ≡ suc (length (y ∷ goal))
    by true same is = absurd (not_begun [] goal is (goal, refl))
    by false same is = omega arith
one_given (x ∷ rest) last [] is = ap suc (omega (arith, length_push rest last))
one_given (x ∷ rest) last (y ∷ goal) is = by (is_lock y x) (one_given rest last goal) is
  where
    by : (b : Bool) →
        (name_turn (rest ++ last ∷ []) goal ≡ GiveBack →
        names_left (rest ++ last ∷ []) goal ≡ suc (names_left rest goal)) →
        (if b then name_turn (rest ++ last ∷ []) goal else GiveBack) ≡ GiveBack →
        (if b then names_left (rest ++ last ∷ []) goal else length (x ∷ rest ++ last ∷ []) + length (y ∷ goal))
        ≡ suc (if b then names_left rest goal else length (x ∷ rest) + length (y ∷ goal))
    by true later is = later is
    by false later is = omega (arith, length_push rest last)

pub turns_come_nearer : TurnsComeNearer
turns_come_nearer held goal = record {
  ready = (
    none_left held goal,
    λ is. ap (names_left held) (sym is ∙ sym (append-nil held)) ∙ begun_left held [],
  );
  take = λ lock is. one_taken held goal lock (next_of held goal lock is);
  give_back = λ rest last is back.
      let back' : name_turn (rest ++ last ∷ []) goal ≡ GiveBack = ap (λ h. name_turn h goal) (sym is) ∙ back in
      ap (λ h. names_left h goal) is ∙ one_given rest last goal back';
}

few_left : (held goal : List Lock) → names_left held goal ≤ length held + length goal
few_left [] goal = omega arith
few_left (x ∷ held) [] = omega arith
few_left (x ∷ held) (y ∷ goal) = by (is_lock y x) (few_left held goal)
  where
    by : (b : Bool) → names_left held goal ≤ length held + length goal →
        (if b then names_left held goal else length (x ∷ held) + length (y ∷ goal))
        ≤ length (x ∷ held) + length (y ∷ goal)
    by true few = omega (arith, few)
    by false few = omega arith

pub are_few_turns : AreFewTurns
are_few_turns held goal mine theirs = omega (arith, few_left held goal, mine.few, theirs.few)
