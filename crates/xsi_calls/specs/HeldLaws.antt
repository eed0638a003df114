-- Laws of the turns of a call with names. Each is the contract of a function of held_laws.rt.
use Rattle.std.specs.Prelude.{suc, ◌≡◌, ◌↔◌, ◌≤◌, ◌*◌, List, [], ◌∷◌, ◌++◌}
use Rattle.page_locks.specs.declared.lock.Lock.{Lock}
use Rattle.call_writes.specs.call_decisions.NameLaws.{AreNames}
use Rattle.call_writes.specs.call_decisions.declared.held.TheConstants.{MAX_NAMES}
use Rattle.xsi_calls.specs.declared.turn.NameTurn.TheVariants.{Take, GiveBack, Ready}
use Rattle.xsi_calls.specs.NameTurns.{name_turn, names_left}

-- the first locks begin the second
abbrev pub Begins : (held goal : List Lock) → Type 0
Begins held goal = (more : List Lock) × (goal ≡ held ++ more)

-- the first begin the second, and this one comes next
abbrev pub IsNext : Lock → (held goal : List Lock) → Type 0
IsNext lock held goal = (more : List Lock) × (goal ≡ held ++ lock ∷ more)

pub record TurnsRight (held goal : List Lock) : Type 0 where
  pub ready : (name_turn held goal ≡ Ready) ↔ (held ≡ goal)
  pub take : (lock : Lock) → (name_turn held goal ≡ Take lock) ↔ IsNext lock held goal
  pub give_back : (name_turn held goal ≡ GiveBack) ↔ (Begins held goal → ⊥)

abbrev pub TurnsAreRight : Type 0
TurnsAreRight = (held goal : List Lock) → TurnsRight held goal

-- by the turn that is made there
pub record ComesNearer (held goal : List Lock) : Type 0 where
  pub ready : (names_left held goal ≡ 0) ↔ (held ≡ goal)
  pub take : (lock : Lock) → name_turn held goal ≡ Take lock →
      names_left held goal ≡ suc (names_left (held ++ lock ∷ []) goal)
  pub give_back : (rest : List Lock) (last : Lock) → held ≡ rest ++ last ∷ [] → name_turn held goal ≡ GiveBack →
      names_left held goal ≡ suc (names_left rest goal)

abbrev pub TurnsComeNearer : Type 0
TurnsComeNearer = (held goal : List Lock) → ComesNearer held goal

abbrev pub AreFewTurns : Type 0
AreFewTurns = (held goal : List Lock) → AreNames held → AreNames goal → names_left held goal ≤ 2 * MAX_NAMES
