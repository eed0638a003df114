-- What a call sees and holds at each of its places.
use Rattle.std.proofs.Common.{ℕ, ◌≡◌, refl, List, Option, Some, None}
use Rattle.xsi_calls.specs.Below.{IsUndecidedIn, facts_in, locks_in}
use Rattle.xsi_calls.specs.call_writes.PaymentStages.{Sweeping, Writing}
use Rattle.xsi_calls.specs.Calling.{IsCallingAt}
use Rattle.xsi_calls.specs.Machine.{facts_at, locks_at}
use Rattle.xsi_calls.specs.Words.{IsPaying, Lock, Plan, QuestionsView, Sees, guard_of, kind_of, payment_facts}
use Rattle.xsi_calls.specs.call_writes.PaymentStages.{Stage as PaymentStage}
use Rattle.xsi_calls.specs.Undecided.{Trials}
use Rattle.xsi_calls.specs.Undecided.{UndecidedCall}
use Rattle.xsi_calls.specs.Stages.{Stage, Undecided, Paying, Releasing}
use Rattle.interleavings.specs.LoneCallWords.{Call, Change, PoolState, RecordKey, Records, State, Table}
use Rattle.interleavings.proofs.SeatNameLemmas.{questions_aside, sweep_aside, writes_aside}

-- ---- it sees a sound world

sees_in : (hash : RecordKey → ℕ) (seat : ℕ) (call : Call) (s : State) (q : QuestionsView) (o : Option Trials)
    (records : Records) (pool : PoolState) (locks : Table) (change : Change) →
    IsUndecidedIn hash seat call s q o records pool locks change → Sees hash seat (facts_in q o) pool locks change
sees_in hash seat call s q None records pool locks change is = is.faces.sees
sees_in hash seat call s q (Some t) records pool locks change is = is.carries.sees

pays_sees : (hash : RecordKey → ℕ) (seat : ℕ) (names : List Lock) (p : Plan) (v : PaymentStage) (records : Records)
    (pool : PoolState) (locks : Table) (change : Change) → IsPaying hash seat names p v records pool locks change →
    Sees hash seat (payment_facts v) pool locks change
pays_sees hash seat names p (Sweeping v) records pool locks change is = is.faces.sees
pays_sees hash seat names p (Writing w) records pool locks change is = is.carries.sees

module _ (hash : RecordKey → ℕ) (seat : ℕ) (call : Call) (s : State) (u : UndecidedCall) (records : Records)
    (pool : PoolState) (locks : Table) (change : Change) where
  pub sees_at : (stage : Stage) → IsCallingAt hash seat call s u stage records pool locks change →
      Sees hash seat (facts_at u stage) pool locks change
  sees_at Undecided is = sees_in hash seat call s u.questions u.trials records pool locks change is
  sees_at (Paying v conclusion) is = pays_sees hash seat u.questions.names _ v records pool locks change is.pays
  sees_at (Releasing conclusion) is = is.sees

-- ---- behind its names its seat has locks of the file alone

tries_aside : (q : QuestionsView) (o : Option Trials) (key : RecordKey) →
    kind_of (locks_in q o) (guard_of key) ≡ kind_of q.names (guard_of key)
tries_aside q None key = questions_aside q.question q.names key
tries_aside q (Some t) key = writes_aside t.writes.access q.names key

pub names_aside : (u : UndecidedCall) (stage : Stage) (key : RecordKey) →
    kind_of (locks_at u stage) (guard_of key) ≡ kind_of u.questions.names (guard_of key)
names_aside u Undecided key = tries_aside u.questions u.trials key
names_aside u (Paying (Sweeping v) conclusion) key = sweep_aside v u.questions.names key
names_aside u (Paying (Writing w) conclusion) key = writes_aside w.access u.questions.names key
names_aside u (Releasing conclusion) key = refl
