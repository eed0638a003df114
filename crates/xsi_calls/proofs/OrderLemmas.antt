-- The names of a call stand in order, so the next one may be granted, and the last one is held once.
use Rattle.std.proofs.Common.{ℕ, ◌≡◌, ◌≢◌, ◌<◌, Bool, true, false, List, [], ◌∷◌, ◌++◌, Option, Some, None, IsSome, refl, sym, ap, ◌∙◌, subst, arith, if◌then◌else◌}
use Rattle.std.specs.List.{AllByRecursion}
use Rattle.std.proofs.lemmas.Bool.{true≢false}
use Rattle.std.proofs.lemmas.List.{append-nil, length-append}
use Rattle.std.proofs.lemmas.List.Elements.{filter-append}
use Rattle.page_locks.proofs.NameLemmas.{is_same-itself, is_same-true}
use Rattle.page_locks.proofs.RowLemmas.{first_kind, kind_of-append}
use Rattle.page_locks.specs.Table.{row_of}
use Rattle.step_rules.specs.Words.{Lock, LockKind, LockName, Directory, Page}
use Rattle.step_rules.specs.World.{World}
use Rattle.step_rules.specs.Turns.{MayBeGranted, rank_of}
use Rattle.call_writes.specs.call_decisions.stale_search.Words.{is_on, kind_of, without}
use Rattle.call_writes.proofs.of_call_decisions.of_stale_search.RowLemmas.{without-none}
use Rattle.call_writes.specs.call_decisions.NameLaws.{AreNames, IsInOrder}

-- ---- the last of a list in order

abbrev IsBefore : Lock → Lock → Type 0
IsBefore a b = rank_of a.name < rank_of b.name

last_of_all : (P : Lock → Type 0) (xs : List Lock) (last : Lock) → AllByRecursion P (xs ++ last ∷ []) → P last
last_of_all P [] last all = all.0
last_of_all P (x ∷ xs) last all = last_of_all P xs last all.1

pub begin_all : (P : Lock → Type 0) (xs ys : List Lock) → AllByRecursion P (xs ++ ys) → AllByRecursion P xs
begin_all P [] ys all = tt
begin_all P (x ∷ xs) ys all = (all.0, begin_all P xs ys all.1)

begin_in_order : (xs ys : List Lock) → IsInOrder (xs ++ ys) → IsInOrder xs
begin_in_order [] ys ordered = tt
begin_in_order (x ∷ xs) ys ordered =
    (begin_all (IsBefore x) xs ys ordered.0, begin_in_order xs ys ordered.1)

-- it stands behind each name of the others
behind : (xs : List Lock) (last : Lock) (name : LockName) → IsInOrder (xs ++ last ∷ []) →
    IsSome (kind_of xs name) → rank_of name < rank_of last.name
behind [] last name ordered there = absurd (true≢false (sym there))
behind (x ∷ xs) last name ordered there = by (is_on name x) refl there (behind xs last name ordered.1)
  where
    by : (b : Bool) → is_on name x ≡ b → IsSome (if b then Some x.kind else kind_of xs name) →
        (IsSome (kind_of xs name) → rank_of name < rank_of last.name) → rank_of name < rank_of last.name
    by true on there later =
        subst (λ (n : LockName). rank_of n < rank_of last.name) (is_same-true x.name name on)
        (last_of_all (IsBefore x) xs last ordered.0)
    by false on there later = later there

pub last_is_new : (xs : List Lock) (last : Lock) → IsInOrder (xs ++ last ∷ []) → kind_of xs last.name ≡ None
last_is_new xs last ordered = by (kind_of xs last.name) refl
  where
    by : (o : Option LockKind) → kind_of xs last.name ≡ o → o ≡ None
    by None is = refl
    by (Some k) is = let less = behind xs last last.name ordered (subst IsSome (sym is) refl) in
        absurd (omega (arith, less))

-- without it the others are left
pub without_last : (xs : List Lock) (last : Lock) → IsInOrder (xs ++ last ∷ []) →
    without (xs ++ last ∷ []) last.name ≡ xs
without_last xs last ordered =
    filter-append _ xs (last ∷ [])
    ∙ rw (is_same-itself last.name) (append-nil (without xs last.name))
    ∙ without-none xs last.name (last_is_new xs last ordered)

pub begin_are_names : (xs ys : List Lock) → AreNames (xs ++ ys) → AreNames xs
begin_are_names xs ys names = record {
  ordered = begin_in_order xs ys names.ordered;
  few = let few = names.few in let sum = length-append xs ys in omega (arith, few, sum);
  no_file = record {
    directory = none_in Directory names.no_file.directory;
    pages = λ n. none_in (Page n) (names.no_file.pages n);
  };
}
  where
    first_none : (o p : Option LockKind) → first_kind o p ≡ None → o ≡ None
    first_none None p is = refl
    first_none (Some k) p is = absurd cc

    none_in : (name : LockName) → kind_of (xs ++ ys) name ≡ None → kind_of xs name ≡ None
    none_in name none = first_none (kind_of xs name) (kind_of ys name) (sym (kind_of-append xs ys name) ∙ none)

-- the last one is on no name that is not held
pub last_is_not : (xs : List Lock) (last : Lock) (name : LockName) → kind_of (xs ++ last ∷ []) name ≡ None →
    last.name ≢ name
last_is_not xs last name none same =
    by (kind_of xs name)
    (sym (ap (first_kind (kind_of xs name)) there) ∙ sym (kind_of-append xs (last ∷ []) name) ∙ none)
  where
    there : kind_of (last ∷ []) name ≡ Some last.kind
    there = rw (← same, is_same-itself last.name) refl

    by : (o : Option LockKind) → first_kind o (Some last.kind) ≡ None → ⊥
    by None is = cc
    by (Some k) is = cc

-- ---- what may be granted

pub next_may : (held : List Lock) (lock : Lock) (seat : ℕ) (w : World) → AreNames (held ++ lock ∷ []) →
    row_of w.locks seat ≡ held → MayBeGranted lock.name lock.kind seat w
next_may held lock seat w names row = record {
  ordered = λ other there.
      let there' = subst (λ (xs : List Lock). IsSome (kind_of xs other)) row there in
      let less = behind held lock other names.ordered there' in
      omega (arith, less);
  shared = λ same x. last_is_not held lock Directory names.no_file.directory same;
  in_directory = λ page same. absurd (last_is_not held lock (Page page) (names.no_file.pages page) same);
  last = λ page same x. absurd (last_is_not held lock (Page page) (names.no_file.pages page) same);
}
