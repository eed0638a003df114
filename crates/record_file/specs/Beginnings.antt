-- What is so of an access that has just begun.
use Rattle.std.specs.Prelude.{ℕ, ◌≡◌, false, List, [], Option}
use Rattle.record_file.specs.AccessWords.{Lock, HasEnded, Record}
use Rattle.record_file.specs.Purposes.{CanBegin, KeepsLimits, Purpose}
use Rattle.record_file.specs.Accesses.{AccessView, Allows, Serves, access_facts, access_locks, access_pseudokey, begun, has_no_room}

-- it holds and knows nothing of the file, and has written nothing
pub record IsAtBeginning (p : Purpose) (k : ℕ) (a : AccessView) : Type 0 where
  pub serves : KeepsLimits p → Serves p a
  pub pseudokey : access_pseudokey a ≡ k
  pub locks : (before : List Lock) → access_locks a before ≡ before
  pub facts : access_facts a ≡ []
  pub written : a.written ≡ false
  pub room : has_no_room a ≡ false
  pub goes_on : HasEnded a.operation → ⊥
  pub allows : (found : Option Record) → CanBegin p found → Allows p a found

abbrev pub Begins : Type 0
Begins = (p : Purpose) (k : ℕ) → IsAtBeginning p k (begun p k)
