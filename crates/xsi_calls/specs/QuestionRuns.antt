-- A question that is asked in one go, by each machine of a call. docs/STEPS.md, "Search".
use Rattle.std.specs.Prelude.{ℕ, ◌≡◌, Bool, false, List, [], ◌∷◌}
use Rattle.step_rules.specs.declared.kind.Kind.TheVariants as kinds
use Rattle.call_writes.specs.WriteRuns.{AskStep, At, MovesAlong, Promise, SearchesOnce, Stop, Way, at, stop}
use Rattle.xsi_calls.specs.QuestionWords.{PoolState, Table}

-- its moves; by the last one the page is given back
abbrev pub stops_on : {S : Type 0} → Way S → S → List (Stop S)
stops_on way new =
    stop kinds.Grant way.locked
    ∷ stop kinds.ReadDepth way.deep
    ∷ stop kinds.ReadEntry way.named
    ∷ stop kinds.Grant way.arrived
    ∷ stop kinds.Release way.alone
    ∷ stop kinds.Look way.looked
    ∷ stop kinds.Release new
    ∷ []

-- a question is asked, and answered, by such moves; the pool and the locks are then what they were. Its search is over
-- behind the Look
pub record AsksAtOnce {V : Type 0} (Makes : Promise V) (searches : V → Bool) (seat : ℕ) (old new : V)
    (pool : PoolState) (locks : Table) : Type 0 where
  pub way : Way (At V)
  pub moves : MovesAlong (AskStep Makes) (at old pool locks) (stops_on way (at new pool locks))
  pub counted : SearchesOnce seat way
  pub answered : searches way.looked.machine ≡ false
