-- A search is counted where a step is granted the directory to read: of a call that asks, by the first step of a
-- question alone.
use Rattle.std.proofs.Common.{ℕ, zero, suc, ◌≡◌, ◌≤◌, ◌+◌, ◌-◌, ◌++◌, ◌∷◌, Bool, true, false, not, ◌&&◌, min, List, [], length, Option, Some, None, if◌then◌else◌, refl, sym, ap, ◌∙◌, subst, arith, inl, inr, ◌⊎◌, ◌<◌}
use Rattle.std.proofs.lemmas.Bool.{true≢false}
use Rattle.std.proofs.lemmas.Int.{clamps}
use Rattle.std.specs.Prelude.{slice_get}
use Rattle.file_pages.specs.declared.fault.FileFault.{FileFault}
use Rattle.page_locks.proofs.TableLemmas.{row_of-same}
use Rattle.page_locks.specs.Locks.{is_same, kind_of, lock_of}
use Rattle.page_locks.specs.declared.lock.LockName.TheVariants as names
use Rattle.call_writes.proofs.of_record_file.AskLemmas.{GrantsPage, grants_pages}
use Rattle.call_writes.specs.record_file.AccessSteps.{Rests}
use Rattle.call_writes.specs.record_file.Accesses.{IsOfKind}
use Rattle.step_rules.specs.Turns.{TurnsAt}
use Rattle.step_rules.specs.declared.kind.Kind.{Kind}
use Rattle.step_rules.specs.declared.kind.Kind.TheVariants as kinds
use Rattle.xsi_calls.proofs.QuestionNames.{LockKind}
use Rattle.xsi_calls.specs.Counting.{MOST_FINDS, enters_directory, finds_behind}
use Rattle.call_writes.proofs.LastLemmas.{last_there}
use Rattle.call_writes.specs.WriteRuns.{is_directory_read, is_to_search, last_of}
use Rattle.xsi_calls.specs.QuestionWords.{AccessView, Blocked, Ended, Fault, HasNoFileLock, Lock, LockName, Moved, Progress, RecordKey, Store, ToFind, World, access_turn, has_set_out, is_fault, row_of}

pub granted_of : (did : Progress FileFault) (row : List Lock) → enters_directory did row ≡ true →
    did ≡ Moved kinds.Grant
granted_of (Moved kinds.Grant) row is = refl
granted_of (Moved kinds.Release) row is = absurd cc
granted_of (Moved kinds.ReadDepth) row is = absurd cc
granted_of (Moved kinds.ReadEntry) row is = absurd cc
granted_of (Moved kinds.Look) row is = absurd cc
granted_of (Moved kinds.Hop) row is = absurd cc
granted_of (Moved kinds.WriteRecord) row is = absurd cc
granted_of (Moved kinds.Decide) row is = absurd cc
granted_of (Moved kinds.TakePage) row is = absurd cc
granted_of (Moved kinds.CopyDirectory) row is = absurd cc
granted_of (Moved kinds.RaiseDepth) row is = absurd cc
granted_of (Moved kinds.WriteNew) row is = absurd cc
granted_of (Moved kinds.WriteOld) row is = absurd cc
granted_of (Moved kinds.Retarget) row is = absurd cc
granted_of (Moved kinds.SetCounts) row is = absurd cc
granted_of (Moved kinds.WriteLeft) row is = absurd cc
granted_of (Moved kinds.Tombstone) row is = absurd cc
granted_of (Moved kinds.Convert) row is = absurd cc
granted_of (Moved kinds.WriteFree) row is = absurd cc
granted_of (Moved kinds.LinkFree) row is = absurd cc
granted_of (Moved kinds.LowerDepth) row is = absurd cc
granted_of (Blocked other) row is = absurd cc
granted_of (Fault fault) row is = absurd cc
granted_of Ended row is = absurd cc

granted_last : (did : Progress FileFault) (row : List Lock) → enters_directory did row ≡ true →
    is_to_search (last_of row) ≡ true
granted_last did row is =
    subst (λ (d : Progress FileFault). enters_directory d row ≡ true) (granted_of did row is) is

-- ---- at most one

pub one_more : (did : Progress FileFault) (row : List Lock) (finds : ℕ) → finds_behind did row finds ≤ finds + 1
one_more did row finds = by (enters_directory did row)
  where
    by : (b : Bool) → (if b then min (finds + 1) MOST_FINDS else finds) ≤ finds + 1
    by true = omega (arith, clamps)
    by false = omega arith

pub none_more : (did : Progress FileFault) (row : List Lock) (finds : ℕ) → enters_directory did row ≡ false →
    finds_behind did row finds ≡ finds
none_more did row finds none = ap (λ (b : Bool). if b then min (finds + 1) MOST_FINDS else finds) none

-- ---- a seat that has names alone

directory_is : (name : LockName) (kind : LockKind) → is_directory_read name kind ≡ true → name ≡ names.Directory
directory_is (names.Key key) kind is = absurd cc
directory_is names.Counter kind is = absurd cc
directory_is (names.Queue id) kind is = absurd cc
directory_is names.Directory kind is = refl
directory_is (names.Page page) kind is = absurd cc

not_there : (b : Bool) (kind : LockKind) (rest : Option LockKind) → b ≡ true →
    (if b then Some kind else rest) ≡ None → ⊥
not_there true kind rest on none = absurd cc
not_there false kind rest on none = absurd cc

nor_behind : (b : Bool) (kind : LockKind) (rest : Option LockKind) → (if b then Some kind else rest) ≡ None →
    rest ≡ None
nor_behind true kind rest none = absurd cc
nor_behind false kind rest none = none

held_there : (row : List Lock) (k : ℕ) (lock : Lock) → slice_get row k ≡ Some lock → lock.name ≡ names.Directory →
    kind_of row names.Directory ≡ None → ⊥
held_there [] k lock is named none = absurd cc
held_there (x ∷ xs) zero lock is named none =
    let same : x ≡ lock = cc in
    let name : x.name ≡ names.Directory = ap (λ (l : Lock). l.name) same ∙ named in
    not_there (is_same x.name names.Directory) x.kind (kind_of xs names.Directory)
    (ap (λ (n : LockName). is_same n names.Directory) name) none
held_there (x ∷ xs) (suc k) lock is named none =
    held_there xs k lock is named (nor_behind (is_same x.name names.Directory) x.kind (kind_of xs names.Directory) none)

bare_last : (row : List Lock) → HasNoFileLock row → is_to_search (last_of row) ≡ true → ⊥
bare_last row bare is = by (slice_get row (length row - 1)) refl is
  where
    by : (o : Option Lock) → slice_get row (length row - 1) ≡ o → is_to_search o ≡ true → ⊥
    by None at is = absurd cc
    by (Some lock) at is = held_there row (length row - 1) lock at (directory_is lock.name lock.kind is) bare.directory

pub uncounted : (did : Progress FileFault) (row : List Lock) (finds : ℕ) → HasNoFileLock row →
    finds_behind did row finds ≡ finds
uncounted did row finds bare = none_more did row finds (by (enters_directory did row) refl)
  where
    by : (b : Bool) → enters_directory did row ≡ b → b ≡ false
    by false is = refl
    by true is = absurd (bare_last row bare (granted_last did row is))

-- ---- a question that is under way

page_last : (seat : ℕ) (w w' : World) → GrantsPage seat w w' → is_to_search (last_of (row_of w'.locks seat)) ≡ false
page_last seat w w' (grants, page, is) =
    let row : row_of w'.locks seat ≡ row_of w.locks seat ++ lock_of grants.name grants.kind ∷ [] =
    ap (λ (v : World). row_of v.locks seat) grants.is ∙ row_of-same w.locks seat _ grants.seated in
    ap (λ (ls : List Lock). is_to_search (last_of ls)) row
    ∙ ap is_to_search (last_there (row_of w.locks seat) (lock_of grants.name grants.kind))
    ∙ ap (λ (n : LockName). is_directory_read n grants.kind) is

-- it is granted the directory by its first step
pub enters_first : (hash : RecordKey → ℕ) (seat : ℕ) (did : Progress FileFault) (key : RecordKey) (a : AccessView)
    (s : Store) (w w' : World) → IsOfKind (ToFind key) a.operation → TurnsAt hash (access_turn a s) did seat w w' →
    enters_directory did (row_of w'.locks seat) ≡ true → has_set_out a ≡ false
enters_first hash seat did key a s w w' kind does enters = by (has_set_out a) refl
  where
    by : (b : Bool) → has_set_out a ≡ b → b ≡ false
    by false is = refl
    by true is =
        let granted = granted_of did (row_of w'.locks seat) enters in
        let page = grants_pages seat w w' key a s kind is
        (subst (λ (d : Progress FileFault). TurnsAt hash (access_turn a s) d seat w w') granted does) in
        absurd (true≢false (sym (granted_last did (row_of w'.locks seat) enters) ∙ page_last seat w w' page))

-- behind a step that is no fault its search has begun, or it is what it was, and looked at no page
pub moved_or_same : (did : Progress FileFault) (a a' : AccessView) → is_fault did ≡ false → Rests did a a' →
    ((kind : Kind) → did ≡ Moved kind → has_set_out a' ≡ true) →
    (has_set_out a' ≡ true) ⊎ ((did ≡ Moved kinds.Look → ⊥) × (a' ≡ a))
moved_or_same (Moved kind) a a' fine rests out = inl (out kind refl)
moved_or_same (Blocked other) a a' fine rests out = inr (λ look. absurd cc, rests)
moved_or_same (Fault fault) a a' fine rests out = absurd (true≢false fine)
moved_or_same Ended a a' fine rests out = inr (λ look. absurd cc, rests)

-- ---- whose search has begun, and of which nothing is told yet

abbrev pub untold_of : (begun told : Bool) → ℕ
untold_of begun told = if begun && not told then 1 else 0

untold_once : (begun told : Bool) → untold_of begun told ≤ 1
untold_once false told = omega arith
untold_once true true = omega arith
untold_once true false = omega arith

pub told_none : (begun told : Bool) → told ≡ true → untold_of begun told ≡ 0
told_none false told is = refl
told_none true true is = refl
told_none true false is = absurd cc

untold_still : (begun begun' told : Bool) → (begun ≡ true → begun' ≡ true) →
    untold_of begun told ≤ untold_of begun' told
untold_still false begun' told on = omega arith
untold_still true true told on = omega arith
untold_still true false told on = absurd (true≢false (sym (on refl)))

-- ---- few searches

-- no search is counted, or that of the question is, which has then begun
abbrev pub SetsOut : (begun begun' told : Bool) → (searches more : ℕ) → Type 0
SetsOut begun begun' told searches more = ((more ≡ searches) × (begun ≡ true → begun' ≡ true))
    ⊎ ((more ≤ searches + 1) × (begun ≡ false) × (begun' ≡ true) × (told ≡ false))

-- with the questions that are left they are no more than before, but for one that was not told yet
pub few_on : (begun begun' told told' : Bool) (searches more left left' most : ℕ) →
    searches + left ≤ most + untold_of begun told → SetsOut begun begun' told searches more →
    ((told' ≡ told) × (left' ≡ left)) ⊎ ((told ≡ false) × (told' ≡ true) × (left' < left)) →
    more + left' ≤ most + untold_of begun' told'
few_on begun begun' told told' searches more left left' most few (inl stays) (inl same) =
    let grows = untold_still begun begun' told stays.1 in
    let kept : untold_of begun' told' ≡ untold_of begun' told = ap (untold_of begun') same.0 in
    let still = stays.0 in
    let lefts = same.1 in
    omega (arith, few, still, grows, kept, lefts)
few_on begun begun' told told' searches more left left' most few (inl stays) (inr heard) =
    let once = untold_once begun told in
    let still = stays.0 in
    let fewer = heard.2 in
    omega (arith, few, still, once, fewer)
few_on begun begun' told told' searches more left left' most few (inr begins) (inl same) =
    let was : untold_of begun told ≡ 0 = ap (λ (b : Bool). untold_of b told) begins.1 in
    let one : untold_of begun' told' ≡ 1 =
    ap (λ (b : Bool). untold_of b told') begins.2 ∙ ap (untold_of true) (same.0 ∙ begins.3) in
    let less = begins.0 in
    let lefts = same.1 in
    omega (arith, few, less, was, one, lefts)
few_on begun begun' told told' searches more left left' most few (inr begins) (inr heard) =
    let was : untold_of begun told ≡ 0 = ap (λ (b : Bool). untold_of b told) begins.1 in
    let less = begins.0 in
    let fewer = heard.2 in
    omega (arith, few, less, was, fewer)
