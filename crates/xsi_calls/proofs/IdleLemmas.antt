-- A call that writes nothing leaves all records as they were, whatever names it holds.
use Rattle.std.proofs.Common.{◌≡◌, refl, sym, subst, inl, inr, ℕ, List, [], arith}
use Rattle.std.specs.List.{Contains}
use Rattle.std.proofs.lemmas.List.Elements.{All-nil}
use Rattle.xsi_calls.proofs.Names.{Writes, Answer, HasRange, IsAnswer, Record, Write, has_or_not}
use Rattle.xsi_calls.specs.Words.{Call, Caller, LockName, RecordKey, State, guard_of, record_of}

pub none_in : (name : LockName) → Contains {X = LockName} [] name → ⊥
none_in name within = let few = within.1 in omega (arith, few)

module _ (c : Caller) (call : Call) (held : List LockName) (s : State) (answer : Answer)
    (is : IsAnswer c call held [] answer (Writes []) s) where
  same : (key : RecordKey) → record_of is.after key ≡ record_of s key
  same key = elim (has_or_not held (guard_of key)) [
    | inl has ↦ sym (is.owes.leads (record_of s) (λ k under. refl) key has)
    | inr none ↦ is.owes.rest key none
  ]

  idle_answer : IsAnswer c call [] [] answer (Writes []) s
  idle_answer = record {
    after = is.after;
    outcome = is.outcome;
    owes = record {
      leads = λ records alike key under. absurd (none_in (guard_of key) under);
      can = λ records alike. tt;
      in_range = All-nil HasRange;
      own = λ key owes. absurd cc;
      rest = λ key none. same key;
    };
  }

-- so what it is answered means the same without a name
pub idle_means : (c : Caller) (call : Call) (held : List LockName) (bytes : List ℕ) (s : State) (answer : Answer)
    (trials : List Record) (writes : List Write) → trials ≡ [] → writes ≡ [] →
    IsAnswer c call held trials answer (Writes writes) s → IsAnswer c call [] trials answer (Writes writes) s
idle_means c call held bytes s answer trials writes no_trials no_writes is =
    subst (λ (rs : List Record). IsAnswer c call [] rs answer (Writes writes) s) (sym no_trials)
    (subst (λ (ws : List Write). IsAnswer c call [] [] answer (Writes ws) s) (sym no_writes)
    (idle_answer c call held s answer
    (subst (λ (ws : List Write). IsAnswer c call held [] answer (Writes ws) s) no_writes
    (subst (λ (rs : List Record). IsAnswer c call held rs answer (Writes writes) s) no_trials is))))
