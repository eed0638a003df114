-- What a call owes after its decision: how its payment begins, what it holds, knows and asks for, and what is still
-- owed. docs/STEPS.md, "What a call writes", "Remove".
use Rattle.std.specs.Prelude.{ℕ, ◌+◌, List, Option, Some, None}
use Rattle.call_decisions.specs.Owing as owed
use Rattle.call_decisions.specs.declared.settled.Settled.TheVariants as settlements
use Rattle.call_writes.specs.Views.{IsOver}
use Rattle.call_writes.specs.PaymentStages.{Stage}
use Rattle.call_writes.specs.PaymentStages as stages
use Rattle.call_writes.specs.WriteWords.{AccessView}
use Rattle.call_writes.specs.PaymentWords.{RecordKey, Lock, Store, Known, Turn, Plan, writes_of, Owes, Sweep, Settled, Due, Writing, CallWrites, owes, decided_at, writes_facts, writes_left_in, writes_locks, writes_turn, Work, begun_sweep, sweep_access, sweep_facts, sweep_left, sweep_locks, sweep_turn}

-- ---- its beginning

-- nothing of the plan is written yet
abbrev pub unwritten : CallWrites
unwritten = record { due = Writing 0; access = None }

-- once it has decided, of trials of which this was due
abbrev pub decided : Due → CallWrites
decided due = record { due = decided_at due; access = None }

abbrev pub sweep_of : Option Settled → Option Sweep
sweep_of None = None
sweep_of (Some (settlements.Answers verdict)) = None
sweep_of (Some (settlements.Sweeps sweep)) = Some sweep
sweep_of (Some settlements.Waits) = None

-- after this sweep, which is over at once where the queue has no message
abbrev pub begun_behind : Option Work → Due → Stage
begun_behind None due = stages.Writing (decided due)
begun_behind (Some w) due = stages.Sweeping (Some w)

abbrev pub begun_by : (RecordKey → ℕ) → Option Sweep → Due → Stage
begun_by hash None due = stages.Writing (decided due)
begun_by hash (Some sweep) due = begun_behind (begun_sweep hash sweep) due

-- that of a call which has come to this, to nothing where a trial had no room; of its trials, which rest, this is due
abbrev pub begun_payment : (RecordKey → ℕ) → Option Settled → Due → Stage
begun_payment hash settled due = begun_by hash (sweep_of settled) due

-- ---- what is owed

-- what is still to be swept, and the writes behind it; or the writes and deletions that are left
abbrev pub owes_now : Plan → Stage → Owes
owes_now p (stages.Sweeping None) = owed.Writes (writes_of p)
owes_now p (stages.Sweeping (Some w)) = owed.Sweeps w.turn.id (writes_of p)
owes_now p (stages.Writing w) = owes p w.due

-- nothing is left to do
abbrev pub IsPaid : Plan → Stage → Type 0
IsPaid p (stages.Sweeping v) = ⊥
IsPaid p (stages.Writing w) = IsOver p w

-- ---- locks, access, facts and turns: those of the part under way

abbrev pub payment_locks : Stage → List Lock → List Lock
payment_locks (stages.Sweeping v) names = sweep_locks v names
payment_locks (stages.Writing w) names = writes_locks w names

abbrev pub payment_access : Stage → Option AccessView
payment_access (stages.Sweeping v) = sweep_access v
payment_access (stages.Writing w) = w.access

abbrev pub payment_facts : Stage → List Known
payment_facts (stages.Sweeping v) = sweep_facts v
payment_facts (stages.Writing w) = writes_facts w

abbrev pub payment_turn : (RecordKey → ℕ) → Plan → Stage → Store → Turn
payment_turn hash p (stages.Sweeping v) s = sweep_turn v s
payment_turn hash p (stages.Writing w) s = writes_turn hash p w s

-- ---- the steps that are left, if no other seat steps

abbrev pub payment_left : Plan → Stage → Store → ℕ
payment_left p (stages.Sweeping v) s = sweep_left v s + writes_left_in p unwritten s
payment_left p (stages.Writing w) s = writes_left_in p w s
