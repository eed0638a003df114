-- What a call holds and owes at each of its places.
use Rattle.std.proofs.Common.{ℕ, ◌≡◌, ap, ◌∙◌, true, List, Option, Some, None}
use Rattle.std.specs.List.{All}
use Rattle.interleavings.proofs.of_xsi_calls.of_call_writes.OwnLemmas.{own_written, owes_what_it_holds, undone_own}
use Rattle.interleavings.proofs.SeesLemmas.{names_aside}
use Rattle.interleavings.specs.xsi_calls.UndecidedBelow.{Owns, key_of}
use Rattle.interleavings.specs.xsi_calls.call_writes.declared.due.Due.{Due}
use Rattle.interleavings.specs.xsi_calls.call_writes.declared.due.Due.TheVariants.{Full, Trying, Undoing, Writing}
use Rattle.interleavings.specs.xsi_calls.UndecidedWords.{owes}
use Rattle.page_locks.specs.Table.{held}
use Rattle.queue_records.specs.declared.record.Record.{Record}
use Rattle.interleavings.specs.xsi_calls.Knowing.{IsOnTrial, IsUndecidedIn}
use Rattle.interleavings.specs.xsi_calls.Undecided.{owes_in}
use Rattle.interleavings.specs.xsi_calls.Calling.{IsCallingAt}
use Rattle.interleavings.specs.xsi_calls.Machine.{owes_at as owes_of_call}
use Rattle.interleavings.specs.xsi_calls.Words.{Exclusive, Plan, QuestionsView, guard_of, its_plan, kind_of}
use Rattle.interleavings.specs.xsi_calls.Undecided.{Trials}
use Rattle.interleavings.specs.xsi_calls.Stages.{Undecided, Paying, Releasing}
use Rattle.interleavings.specs.ConcurrentWords.{Call, CallView, Change, IsCalling, Lock, PoolState, RecordKey, Records, Stage, State, Table, UndecidedCall, call_locks, call_owes, owes_at, row_of}

abbrev pub names_of : CallView → List Lock
names_of m = m.undecided.questions.names

-- ---- it owes records alone of which it holds the names Exclusive

tries_own : (names : List Lock) (p : Plan) → All (λ (r : Record). Owns names (key_of r)) p.trials → (due : Due) →
    IsOnTrial due → (key : RecordKey) → owes_at (owes p due) key ≡ true → Owns names key
tries_own names p own (Trying place) on key there =
    own_written (Owns names) _ key (undone_own (Owns names) place p.trials own) there
tries_own names p own (Full place) on key there =
    own_written (Owns names) _ key (undone_own (Owns names) place p.trials own) there
tries_own names p own (Undoing place) on key there = absurd on
tries_own names p own (Writing from) on key there = absurd on

asks_own : (hash : RecordKey → ℕ) (seat : ℕ) (call : Call) (s : State) (q : QuestionsView) (o : Option Trials)
    (records : Records) (pool : PoolState) (locks : Table) (change : Change) →
    IsUndecidedIn hash seat call s q o records pool locks change → (key : RecordKey) →
    owes_at (owes_in call q o) key ≡ true → Owns q.names key
asks_own hash seat call s q None records pool locks change is key there = absurd cc
asks_own hash seat call s q (Some t) records pool locks change is key there =
    tries_own q.names (its_plan call q) is.carries.own.trials t.writes.due is.on_trial key there

owns_at : (hash : RecordKey → ℕ) (seat : ℕ) (call : Call) (s : State) (u : UndecidedCall) (stage : Stage)
    (records : Records) (pool : PoolState) (locks : Table) (change : Change) →
    IsCallingAt hash seat call s u stage records pool locks change → (key : RecordKey) →
    owes_at (owes_of_call call u stage) key ≡ true → Owns u.questions.names key
owns_at hash seat call s u Undecided records pool locks change is key there =
    asks_own hash seat call s u.questions u.trials records pool locks change is key there
owns_at hash seat call s u (Paying v conclusion) records pool locks change is key there =
    owes_what_it_holds hash seat u.questions.names (its_plan call u.questions) v records pool locks change is.pays key
    there
owns_at hash seat call s u (Releasing conclusion) records pool locks change is key there = absurd cc

pub owns : (hash : RecordKey → ℕ) (seat : ℕ) (s : State) (m : CallView) (records : Records) (pool : PoolState)
    (locks : Table) (change : Change) → IsCalling hash seat s m records pool locks change → (key : RecordKey) →
    owes_at (call_owes m) key ≡ true → kind_of (names_of m) (guard_of key) ≡ Some Exclusive
owns hash seat s m records pool locks change is key there =
    owns_at hash seat m.call s m.undecided m.stage records pool locks change is key there

-- ---- the names among its locks

pub held_by : (locks : Table) (seat : ℕ) (m : CallView) → row_of locks seat ≡ call_locks m → (key : RecordKey) →
    held locks seat (guard_of key) ≡ kind_of (names_of m) (guard_of key)
held_by locks seat m row key = ap (λ (ls : List Lock). kind_of ls (guard_of key)) row
    ∙ names_aside m.undecided m.stage key
