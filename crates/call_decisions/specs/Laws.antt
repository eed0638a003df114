-- Laws of decisions. Each is the contract of a function of laws.rt.
use Rattle.std.specs.Prelude.{ℕ, List}
use Rattle.std.specs.List.{All, Contains}
use Rattle.call_decisions.specs.Words.{AreAbsent, Call, Caller, Decision, IsInRange, LockName, Plan, Record, Records, State, guard_of, key_of, record_of}
use Rattle.call_decisions.specs.Settling.{AreAlike, IsRight}

-- a plan's trials can be made in each file that has the records of s under the names
pub record CanTry (held : List LockName) (s : State) (p : Plan) : Type 0 where
  pub absent : (records : Records) → AreAlike held records (record_of s) → AreAbsent p.trials records
  pub in_range : All IsInRange p.trials
  pub own : All (λ (r : Record). Contains held (guard_of (key_of r))) p.trials

abbrev pub TriesRightly : Type 0
TriesRightly = (c : Caller) (call : Call) (held : List LockName) (bytes : List ℕ) (s : State) (p : Plan)
    (decision : Decision) → IsRight c call held bytes s p decision → CanTry held s p
