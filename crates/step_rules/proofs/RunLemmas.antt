-- Moves that are made one after the other.
use Rattle.std.proofs.Common.{List, [], ◌∷◌, ◌++◌}
use Rattle.step_rules.specs.Runs.{MovesAlong, Stop, end_of, stops_in}
use Rattle.step_rules.specs.declared.kind.Kind.{Kind}
use Rattle.step_rules.specs.declared.progress.Progress.{Progress}
use Rattle.step_rules.specs.declared.progress.Progress.TheVariants.{Moved}

-- moves after moves
pub joined : {S F : Type 0} (Makes : Progress F → S → S → Type 0) (old : S) (stops stops' : List (Stop S)) →
    MovesAlong Makes old stops → MovesAlong Makes (end_of old stops) stops' → MovesAlong Makes old (stops ++ stops')
joined Makes old [] stops' first then = then
joined Makes old (next ∷ stops) stops' first then =
    (first.0, joined Makes next.state stops stops' first.1 then)

-- where each move of one machine is a move of another, moves of the one are moves of the other
pub lifted : {S T F : Type 0} (A : Progress F → S → S → Type 0) (B : Progress F → T → T → Type 0) (whole : S → T) →
    ((kind : Kind) (old new : S) → A (Moved kind) old new → B (Moved kind) (whole old) (whole new)) →
    (old : S) (stops : List (Stop S)) → MovesAlong A old stops → MovesAlong B (whole old) (stops_in whole stops)
lifted A B whole each old [] moves = tt
lifted A B whole each old (next ∷ stops) moves = (
  each next.kind old next.state moves.0,
  lifted A B whole each next.state stops moves.1,
)
