-- The file's Counter after a step of a call beside others.
use Rattle.std.proofs.Common.{ℕ, ◌≡◌, ◌⊎◌, ◌+◌, inl, inr, refl, ap, Option, Some, arith}
use Rattle.page_locks.specs.declared.lock.LockKind.{LockKind}
use Rattle.page_locks.specs.declared.lock.LockKind.TheVariants.{Exclusive}
use Rattle.queue_records.specs.declared.record.Record.{Record}
use Rattle.queue_records.specs.declared.record.Record.TheVariants as records_are
use Rattle.type_chains.specs.Entries.{counter_of}
use Rattle.interleavings.specs.ConcurrentWords.{Counter, IsUncounted, Records, State, counter_key}
use Rattle.interleavings.specs.Together.{IsStillToCount, Seats}
use Rattle.interleavings.proofs.SameLemmas.{next_says}

-- the file has a Counter, and it tells of ids what the system does, but of one that is still to be counted
pub record HasCounter (records : Records) (s : State) : Type 0 where
  pub counter : Counter
  pub counts : records counter_key ≡ Some (records_are.Counter counter)
  pub next : (s.next_id ≡ counter.next_id) ⊎ IsUncounted counter.next_id s

-- and whose call is at one of these seats
pub record IsCountedBy (records : Records) (s : State) (seats : Seats) : Type 0 where
  pub counter : Counter
  pub counts : records counter_key ≡ Some (records_are.Counter counter)
  pub next : (s.next_id ≡ counter.next_id) ⊎ IsStillToCount counter.next_id s seats

pub has_counter : {records : Records} {s : State} {seats : Seats} → IsCountedBy records s seats → HasCounter records s
has_counter c = record {
  counter = c.counter;
  counts = c.counts;
  next = elim c.next [ inl same ↦ inl same | inr more ↦ inr more.uncounted ];
}

pub exclusive_or_not : (o : Option LockKind) → (o ≡ Some Exclusive) ⊎ (o ≡ Some Exclusive → ⊥)
exclusive_or_not (Some Exclusive) = inl refl
exclusive_or_not _ = inr (λ is. absurd cc)

-- a Counter that is that of the system has its next id
pub counted : (records : Records) (s : State) (seats : Seats) →
    records counter_key ≡ Some (records_are.Counter (counter_of s)) → IsCountedBy records s seats
counted records s seats is = record { counter = counter_of s; counts = is; next = inl refl }

-- the next id that a Counter has
pub same_next : (a b : Counter) →
    ◌≡◌ {A = Option Record} (Some (records_are.Counter a)) (Some (records_are.Counter b)) → a.next_id ≡ b.next_id
same_next a b is = ap next_says is

pub one_more : (n : ℕ) → n ≡ n + 1 → ⊥
one_more n is = omega (arith, is)
