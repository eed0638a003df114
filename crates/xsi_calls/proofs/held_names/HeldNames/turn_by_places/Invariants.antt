use Rattle.std.proofs.Common.{◌≡◌, drop}
use Rattle.call_writes.specs.call_decisions.Names.{names_for}
use Rattle.xsi_calls.specs.NameTurns.{name_turn}
use Rattle.xsi_calls.proofs.held_names.HeldNames.turn_by_places.Given as goal

-- what is left of both tells the turn
abbrev pub invariant-loop-place : goal.invariant-loop-place
invariant-loop-place l =
    name_turn l.self (names_for l.call l.inquiry)
    ≡ name_turn (drop l.place l.self) (drop l.place (names_for l.call l.inquiry))
