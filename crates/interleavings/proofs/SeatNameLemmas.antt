-- The names of a call among the locks of its seat.
use Rattle.std.proofs.Common.{ℕ, zero, suc, ◌≡◌, refl, sym, ap, ◌∙◌, subst, Bool, true, false, List, [], ◌∷◌, Option, Some, None, IsSome, if◌then◌else◌, arith}
use Rattle.std.specs.List.{Contains}
use Rattle.xsi_calls.specs.call_writes.PaymentStages as stages
use Rattle.xsi_calls.specs.call_writes.PaymentWords.{Work, sweep_locks}
use Rattle.xsi_calls.proofs.UndecidedNames.{operation_aside}
use Rattle.xsi_calls.specs.UndecidedBelow.{AccessView, locks_behind, locks_under}
use Rattle.xsi_calls.specs.declared.question.Question.{Question}
use Rattle.page_locks.proofs.NameLemmas.{is_same-itself}
use Rattle.page_locks.proofs.WriterLemmas.{exclusive_alone}
use Rattle.page_locks.specs.declared.lock.LockName.TheVariants as names_are
use Rattle.page_locks.specs.Locks.{is_on, is_same}
use Rattle.queue_records.specs.Keys.{key_of_key, key_of_queue}
use Rattle.xsi_calls.proofs.HeldLemmas.{is_among}
use Rattle.xsi_calls.specs.Knowing.{IsUndecidedIn}
use Rattle.interleavings.specs.SeatWords.{Call, Change, Exclusive, HasNoFileLock, Lock, LockName, Owns, PoolState, QuestionsView, RecordKey, Records, State, Table, Trials, counter_key, guard_of, held, kind_of, names_in, row_of}
use Rattle.interleavings.specs.Beside.{HoldsNames}
use Rattle.interleavings.specs.SeatLaws.{AskUnderNames, NamesAreApart, PayUnderNames, RecordsStay}

-- ---- names before the locks of an access

pub writes_aside : (o : Option AccessView) (names : List Lock) (key : RecordKey) →
    kind_of (locks_under o names) (guard_of key) ≡ kind_of names (guard_of key)
writes_aside None names key = refl
writes_aside (Some a) names key = operation_aside a.operation names key

pub sweep_aside : (v : Option Work) (names : List Lock) (key : RecordKey) →
    kind_of (sweep_locks v names) (guard_of key) ≡ kind_of names (guard_of key)
sweep_aside None names key = refl
sweep_aside (Some w) names key = operation_aside w.access.operation names key

pub questions_aside : (o : Option Question) (names : List Lock) (key : RecordKey) →
    kind_of (locks_behind o names) (guard_of key) ≡ kind_of names (guard_of key)
questions_aside None names key = refl
questions_aside (Some q) names key = operation_aside q.access.operation names key

pub holds_names : (locks : Table) (seat : ℕ) (names row : List Lock) → row_of locks seat ≡ row →
    ((key : RecordKey) → kind_of row (guard_of key) ≡ kind_of names (guard_of key)) → HoldsNames locks seat names
holds_names locks seat names row is aside key = ap (λ (ls : List Lock). kind_of ls (guard_of key)) is ∙ aside key

pub held_so : (locks : Table) (seat : ℕ) (names : List Lock) → HoldsNames locks seat names → (key : RecordKey) →
    IsSome (kind_of names (guard_of key)) → IsSome (held locks seat (guard_of key))
held_so locks seat names holds key mine = subst IsSome (sym (holds key)) mine

pub owned : (names : List Lock) (key : RecordKey) → Owns names key → IsSome (kind_of names (guard_of key))
owned names key owns = subst IsSome (sym owns) refl

-- ---- those of a call

pub pay_under_names : PayUnderNames
pay_under_names hash seat names p (stages.Sweeping v) records pool locks change y =
    holds_names locks seat names (sweep_locks v names) y.faces.row (sweep_aside v names)
pay_under_names hash seat names p (stages.Writing w) records pool locks change y =
    holds_names locks seat names (locks_under w.access names) y.carries.row (writes_aside w.access names)

asks_under : (hash : RecordKey → ℕ) (seat : ℕ) (call : Call) (s : State) (q : QuestionsView) (t : Option Trials)
    (records : Records) (pool : PoolState) (locks : Table) (change : Change) →
    IsUndecidedIn hash seat call s q t records pool locks change → HoldsNames locks seat q.names
asks_under hash seat call s q None records pool locks change a =
    holds_names locks seat q.names (locks_behind q.question q.names) a.row (questions_aside q.question q.names)
asks_under hash seat call s q (Some t) records pool locks change y =
    holds_names locks seat q.names (locks_under t.writes.access q.names) y.carries.row
    (writes_aside t.writes.access q.names)

pub ask_under_names : AskUnderNames
ask_under_names hash seat call s u records pool locks change is =
    asks_under hash seat call s u.questions u.trials records pool locks change is

-- ---- beside those of another seat

-- a name that stands among locks is held
pub is_held : (locks : List Lock) (name : LockName) → Contains (names_in locks) name → IsSome (kind_of locks name)
is_held [] name (k, within, at) = absurd (omega (arith, within))
is_held (l ∷ ls) name (zero, within, at) =
    let on : is_on name l ≡ true =
    ap (λ (m : LockName). is_same m name) at ∙ is_same-itself name in
    subst (λ (b : Bool). IsSome (if b then Some l.kind else kind_of ls name)) (sym on) refl
is_held (l ∷ ls) name (suc k, within, at) =
    by (is_on name l) (is_held ls name (k, omega (arith, within), at))
  where
    by : (b : Bool) → IsSome (kind_of ls name) → IsSome (if b then Some l.kind else kind_of ls name)
    by true behind = refl
    by false behind = behind

-- a record is under each name that is none of the file
guards : (theirs : List Lock) → HasNoFileLock theirs → (name : LockName) → kind_of theirs name ≡ Some Exclusive →
    (key : RecordKey) × (guard_of key ≡ name)
guards theirs bare (names_are.Key k) there = (key_of_key k, refl)
guards theirs bare names_are.Counter there = (counter_key, refl)
guards theirs bare (names_are.Queue id) there = (key_of_queue id, refl)
guards theirs bare names_are.Directory there = absurd (let clash = sym bare.directory ∙ there in cc)
guards theirs bare (names_are.Page n) there = absurd (let clash = sym (bare.pages n) ∙ there in cc)

pub none_is : {X : Type 0} (o : Option X) → o ≡ None → IsSome o → ⊥
none_is None none some = absurd cc
none_is (Some x) none some = absurd cc

pub names_are_apart : NamesAreApart
names_are_apart seat other names theirs locks apart lawful mine others bare name has there =
    let (key, is) = guards theirs bare name there in
    let owned : held locks other (guard_of key) ≡ Some Exclusive =
    others key ∙ ap (kind_of theirs) is ∙ there in
    let own : IsSome (held locks seat (guard_of key)) =
    held_so locks seat names mine key (subst (λ (n : LockName). IsSome (kind_of names n)) (sym is)
    (is_held names name has)) in
    none_is (held locks seat (guard_of key))
    (exclusive_alone locks lawful.pairs other seat (guard_of key) apart owned) own

pub records_stay : RecordsStay
records_stay names theirs records after apart elsewhere = (
  λ key mine. under key (is_among names (guard_of key) mine),
  under,
)
  where
    under : (key : RecordKey) → Contains (names_in names) (guard_of key) → records key ≡ after key
    under key has = sym (elsewhere key (λ owns. apart (guard_of key) has owns))
