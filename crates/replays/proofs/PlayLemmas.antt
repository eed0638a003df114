-- What each event and each stop keeps, the words of a schedule keep, and so do the rounds behind them.
use Rattle.std.proofs.Common.{◌≡◌, ◌⊎◌, inl, inr, refl, sym, subst, ℕ, zero, suc, ◌+◌, Bool, true, false, List, [], ◌∷◌, Option, Some, None}
use Rattle.schedules.specs.declared.event.Event.{Event}
use Rattle.schedules.specs.declared.event.Event.TheVariants as events
use Rattle.step_rules.specs.declared.kind.Kind.{Kind}
use Rattle.replays.specs.Events.{Acts, Drives, HasEvent, IsEvent, IsReadied, IsStepped, MovesFurther, Plays, PlaysAll, ReplayState, StepsOn, Stops, Times, line_under_way}
use Rattle.replays.specs.Rounds.{ComesToRest, GetsStuck, InTurn, IsRound, MakesRounds, MovesOn, MovesToEnd, most_rounds}
use Rattle.replays.specs.declared.deed.Deed.{Deed}

module _ (P : ReplayState → Type 0)
    (event : (seat : ℕ) (did : Deed) (s t : ReplayState) → IsEvent seat did s t → P s → P t)
    (stop : (s t : ReplayState) → Stops s t → P s → P t) where
  along : (R : ReplayState → ReplayState → Type 0) → ((s t : ReplayState) → R s t → P s → P t) → (n : ℕ)
      (s t : ReplayState) → Times R n s t → P s → P t
  along R one zero s t same kept = subst P (sym same) kept
  along R one (suc n) s t (u, times, more) kept = one u t more (along R one n s u times kept)

  readied : (seat : ℕ) (line : Option ℕ) (s t : ReplayState) → line_under_way seat s ≡ line →
      IsReadied seat line s t → P s → P t
  readied seat None s t is (did, begins) kept =
      event seat did s t (subst (λ (o : Option ℕ). Acts seat o did s t) (sym is) begins) kept
  readied seat (Some place) s t is same kept = subst P (sym same) kept

  further : (seat : ℕ) (last : Option Kind) (s t : ReplayState) → MovesFurther seat last s t → P s → P t
  further seat last s t (did, on, is) kept = event seat did s t is kept

  steps_on : (seat : ℕ) (last : Option Kind) (s t : ReplayState) → StepsOn seat last s t → P s → P t
  steps_on seat last s t steps kept =
      let before = along (MovesFurther seat last) (further seat last) steps.moves s steps.before steps.further kept in
      elim steps.ends [
        | inl spent ↦ subst P (sym spent.1) before
        | inr ended ↦ event seat ended.1.0 steps.before t ended.1.2 before
      ]

  stepped : (seat : ℕ) (last : Option Kind) (line : Option ℕ) (s t : ReplayState) → IsStepped seat last line s t →
      P s → P t
  stepped seat last None s t same kept = subst P (sym same) kept
  stepped seat last (Some place) s t steps kept = steps_on seat last s t steps kept

  drives : (seat : ℕ) (last : Option Kind) (s t : ReplayState) → Drives seat last s t → P s → P t
  drives seat last s t is kept =
      stepped seat last (line_under_way seat is.ready) is.ready t is.stepped
      (readied seat (line_under_way seat s) s is.ready refl is.readied kept)

  has_event : (seat : ℕ) (s t : ReplayState) → HasEvent seat s t → P s → P t
  has_event seat s t (did, is) kept = event seat did s t is kept

  plays : (word : Event) (s t : ReplayState) → Plays word s t → P s → P t
  plays (events.Steps seat count) s t times kept = along (HasEvent seat) (has_event seat) count s t times kept
  plays (events.Drive seat) s t is kept = drives seat None s t is kept
  plays (events.Until seat kind) s t is kept = drives seat (Some kind) s t is kept
  plays events.Stop s t stops kept = stop s t stops kept

  pub plays_all : (words : List Event) (s t : ReplayState) → PlaysAll words s t → P s → P t
  plays_all [] s t same kept = subst P (sym same) kept
  plays_all (word ∷ words) s t (next, first, rest) kept = plays_all words next t rest (plays word s next first kept)

  in_turn : (seat : ℕ) (dids : List Deed) (s t : ReplayState) → InTurn seat dids s t → P s → P t
  in_turn seat [] s t same kept = subst P (sym same) kept
  in_turn seat (did ∷ dids) s t (next, is, more) kept =
      in_turn (seat + 1) dids next t more (event seat did s next is kept)

  round : (moves : Bool) (s t : ReplayState) → IsRound moves s t → P s → P t
  round moves s t is kept = in_turn 1 is.turns.deeds s t is.turns.in_turn kept

  moves_on : (rounds : ℕ) (s t : ReplayState) → MovesOn rounds s t → P s → P t
  moves_on rounds s t moves kept = along (IsRound true) (round true) rounds s t moves kept

  to_end : (most : ℕ) (s t : ReplayState) → MovesToEnd most s t → P s → P t
  to_end most s t is kept = moves_on is.rounds s t is.moves kept

  to_rest : (rounds : ℕ) (s t : ReplayState) → ComesToRest rounds s t → P s → P t
  to_rest rounds s t is kept = round false is.before t is.rests (moves_on is.moving s is.before is.moves kept)

  behind_stop : (most : ℕ) (s t : ReplayState) → MovesToEnd most s t ⊎ GetsStuck most s t → P s → P t
  behind_stop most s t (inl ends) kept = to_end most s t ends kept
  behind_stop most s t (inr stuck) kept = to_rest stuck.rounds s t stuck.comes kept

  pub rounds : (s t : ReplayState) → MakesRounds s t → P s → P t
  rounds s t (inl ends) kept = to_end (most_rounds s) s t ends kept
  rounds s t (inr is) kept =
      behind_stop is.more is.stopped t is.goes_on
      (stop is.rest is.stopped is.stops (to_rest is.rounds s is.rest is.comes kept))
