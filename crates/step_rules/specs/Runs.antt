-- Moves that are made one after the other, each from where the one before it led. docs/STEPS.md, "The kinds of step".
use Rattle.std.specs.Prelude.{List, [], ◌∷◌, ⊤}
use Rattle.step_rules.specs.declared.kind.Kind.{Kind}
use Rattle.step_rules.specs.declared.progress.Progress.{Progress}
use Rattle.step_rules.specs.declared.progress.Progress.TheVariants.{Moved}

-- a state, and the kind of the move that leads there
pub record Stop (S : Type 0) : Type 0 where
  pub kind : Kind
  pub state : S

abbrev pub stop : {S : Type 0} → Kind → S → Stop S
stop kind state = record { kind = kind; state = state }

-- moves to each of these states from the one before it, the first from this one
abbrev pub MovesAlong : {S F : Type 0} → (Progress F → S → S → Type 0) → S → List (Stop S) → Type 0
MovesAlong Makes old [] = ⊤
MovesAlong Makes old (next ∷ stops) = Makes (Moved next.kind) old next.state × MovesAlong Makes next.state stops

-- the same moves, of what has that state as a part
abbrev pub stops_in : {S T : Type 0} → (S → T) → List (Stop S) → List (Stop T)
stops_in whole [] = []
stops_in whole (next ∷ stops) = stop next.kind (whole next.state) ∷ stops_in whole stops

-- where they end
abbrev pub end_of : {S : Type 0} → S → List (Stop S) → S
end_of old [] = old
end_of old (next ∷ stops) = end_of next.state stops
