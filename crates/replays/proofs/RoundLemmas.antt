-- Rounds after a schedule, seat by seat and round by round.
use Rattle.std.proofs.Common.{◌≡◌, ◌≤◌, ◌<◌, ◌⊎◌, ◌||◌, inl, inr, refl, sym, ap, ◌∙◌, subst, ℕ, ◌+◌, ◌-◌, ◌*◌, Bool, true, false, List, [], ◌∷◌, ◌++◌, Option, Some, None, length, arith}
use Rattle.std.specs.List.{list_all, list_any}
use Rattle.std.proofs.lemmas.List.{length-append}
use Rattle.std.proofs.lemmas.List.Folds.{list_any-append}
use Rattle.interleavings.specs.interleaving_core.declared.step.Step.{Step}
use Rattle.interleavings.specs.interleaving_core.declared.step.Step.TheVariants as steps
use Rattle.msgq_cli.specs.declared.reply.Reply.{Reply}
use Rattle.replays.specs.Events.{Acts, BeginsNext, IsEvent, ReplayState, Stops, deed_at_once, deed_by, line_under_way, next_line, reply_by, told}
use Rattle.replays.specs.Places.{ProgressState, is_idle_for_good}
use Rattle.replays.specs.Rounds.{ComesToRest, GetsStuck, GoesOnStopped, InTurn, IsRound, MakesRounds, MovesOn, MovesToEnd, TakesTurns, has_moved, is_over, most_rounds}
use Rattle.replays.specs.declared.deed.Deed.{Deed}
use Rattle.replays.specs.declared.replay.TheConstants.{MOST_STEPS}
use Rattle.replays.proofs.EventLemmas.{Times-then}

-- ---- the seats of a round

InTurn-push : (seat at : ℕ) (dids : List Deed) (did : Deed) (a b c : ReplayState) → at ≡ seat + length dids →
    InTurn seat dids a b → IsEvent at did b c → InTurn seat (dids ++ did ∷ []) a c
InTurn-push seat at [] did a b c is same event =
    let it : at ≡ seat = omega (arith, is) in
    (c, subst (λ (s : ReplayState). IsEvent seat did s c) same (subst (λ (n : ℕ). IsEvent n did b c) it event), refl)
InTurn-push seat at (d ∷ dids) did a b c is (next, first, rest) event =
    let it : at ≡ (seat + 1) + length dids = omega (arith, is) in
    (next, first, InTurn-push (seat + 1) at dids did next b c it rest event)

or_false : (x : Bool) → (x || false) ≡ x
or_false true = refl
or_false false = refl

-- one seat more
pub TakesTurns-next : (seats : ℕ) (moves moved : Bool) (did : Deed) (a b c : ReplayState) → TakesTurns seats moves a b →
    IsEvent (seats + 1) did b c → moved ≡ has_moved did → TakesTurns (seats + 1) (moves || moved) a c
TakesTurns-next seats moves moved did a b c turns event is =
    let each = turns.each in
    let at : seats + 1 ≡ 1 + length turns.deeds = omega (arith, each) in
    record {
      deeds = turns.deeds ++ did ∷ [];
      each = length-append turns.deeds (did ∷ []) ∙ ap (λ (n : ℕ). n + 1) each;
      in_turn = InTurn-push 1 (seats + 1) turns.deeds did a b c at turns.in_turn event;
      moves_is = ap (λ (x : Bool). x || moved) turns.moves_is
          ∙ ap (λ (x : Bool). list_any has_moved turns.deeds || x) (is ∙ sym (or_false (has_moved did)))
          ∙ sym (list_any-append has_moved turns.deeds (did ∷ []));
    }

-- ---- a seat that does not move leaves the script as it is

begun_moves : (reply : Option Reply) → has_moved (deed_at_once reply) ≡ false → ⊥
begun_moves None rests = absurd cc
begun_moves (Some reply) rests = absurd cc

next_rests : (seat : ℕ) (line : Option ℕ) (did : Deed) (s t : ReplayState) → BeginsNext seat line did s t →
    has_moved did ≡ false → t.script ≡ s.script
next_rests seat None did s t (nothing, same) rests = ap (λ (x : ReplayState). x.script) same
next_rests seat (Some place) did s t begins rests =
    absurd (begun_moves begins.reply (subst (λ (d : Deed). has_moved d ≡ false) begins.did_is rests))

step_rests : (seat place : ℕ) (step : Step) (s : ProgressState) → has_moved (deed_by step) ≡ false →
    told seat place (reply_by step) s ≡ s
step_rests seat place (steps.Moved kind) s rests = absurd cc
step_rests seat place (steps.Blocked other) s rests = refl
step_rests seat place steps.Waiting s rests = refl
step_rests seat place (steps.Answered answer) s rests = absurd cc
step_rests seat place steps.Idle s rests = refl
step_rests seat place (steps.Fault fault) s rests = absurd cc

acts_rest : (seat : ℕ) (line : Option ℕ) (did : Deed) (s t : ReplayState) → Acts seat line did s t →
    has_moved did ≡ false → t.script ≡ s.script
acts_rest seat None did s t begins rests = next_rests seat (next_line seat s) did s t begins rests
acts_rest seat (Some place) did s t told rests =
    told.script
    ∙ step_rests seat place told.step s.script (subst (λ (d : Deed). has_moved d ≡ false) told.did_is rests)

neither : (x y : Bool) → (x || y) ≡ false → (x ≡ false) × (y ≡ false)
neither true y is = absurd cc
neither false y is = (refl, is)

turns_rest : (seat : ℕ) (dids : List Deed) (s t : ReplayState) → InTurn seat dids s t →
    list_any has_moved dids ≡ false → t.script ≡ s.script
turns_rest seat [] s t same rest = ap (λ (x : ReplayState). x.script) same
turns_rest seat (did ∷ dids) s t (next, is, more) rest =
    let both = neither (has_moved did) (list_any has_moved dids) rest in
    turns_rest (seat + 1) dids next t more both.1 ∙ acts_rest seat (line_under_way seat s) did s next is both.0

-- so does a round that moves nobody: a line is still left
pub rests_left : (s t : ReplayState) → IsRound false s t → is_over t ≡ false
rests_left s t round =
    ap (λ (x : ProgressState). list_all is_idle_for_good x.places)
    (turns_rest 1 round.turns.deeds s t round.turns.in_turn (sym round.turns.moves_is)) ∙ round.left

-- ---- rounds so far

-- the system was stopped behind one of them
pub record HasStopped (made : ℕ) (old new : ReplayState) : Type 0 where
  pub rounds : ℕ
  pub rest : ReplayState
  pub comes : ComesToRest rounds old rest
  pub stopped : ReplayState
  pub stops : Stops rest stopped
  pub others : ℕ
  pub moves : MovesOn others stopped new
  pub all : rounds + others ≡ made

-- so many rounds were made, and by them the system was stopped, or not yet
abbrev pub SoFar : Bool → ℕ → ReplayState → ReplayState → Type 0
SoFar false made old new = MovesOn made old new
SoFar true made old new = HasStopped made old new

-- one more, in which somebody moves
pub SoFar-next : (stopped : Bool) (made : ℕ) (a b c : ReplayState) → SoFar stopped made a b → IsRound true b c →
    SoFar stopped (made + 1) a c
SoFar-next false made a b c far round = Times-then (IsRound true) made a b c far round
SoFar-next true made a b c far round =
    let all = far.all in
    record {
      rounds = far.rounds;
      rest = far.rest;
      comes = far.comes;
      stopped = far.stopped;
      stops = far.stops;
      others = far.others + 1;
      moves = Times-then (IsRound true) far.others far.stopped b c far.moves round;
      all = omega (arith, all);
    }

at_rest : (made : ℕ) (a b c : ReplayState) → MovesOn made a b → IsRound false b c → ComesToRest (made + 1) a c
at_rest made a b c moves round = record {
  moving = made;
  many = refl;
  before = b;
  moves = moves;
  rests = round;
  left = rests_left b c round;
}

-- one in which nobody moves, and the system is stopped
pub SoFar-stops : (made : ℕ) (a b c d : ReplayState) → SoFar false made a b → IsRound false b c → Stops c d →
    SoFar true (made + 1) a d
SoFar-stops made a b c d far round stops = record {
  rounds = made + 1;
  rest = c;
  comes = at_rest made a b c far round;
  stopped = d;
  stops = stops;
  others = 0;
  moves = refl;
  all = omega arith;
}

-- ---- the end

pub most_is : (s : ReplayState) (lines steps : ℕ) → lines ≡ length s.script.lines → steps ≡ MOST_STEPS →
    lines * steps ≡ most_rounds s
most_is s lines steps same is = rw (same, is) refl

-- what comes after the stop
goes_on : (most made : ℕ) (a b c : ReplayState) (far : HasStopped made a b) → made ≤ most →
    MovesToEnd (most - far.rounds) far.stopped c ⊎ GetsStuck (most - far.rounds) far.stopped c → GoesOnStopped most a c
goes_on most made a b c far few behind =
    let all = far.all in
    record {
      rounds = far.rounds;
      rest = far.rest;
      comes = far.comes;
      stopped = far.stopped;
      stops = far.stops;
      more = most - far.rounds;
      all = omega (arith, all, few);
      goes_on = behind;
    }

-- no line is left, or as many rounds were made as may be
pub SoFar-ends : (stopped : Bool) (made : ℕ) (a b : ReplayState) → made ≤ most_rounds a → SoFar stopped made a b →
    (is_over b ≡ true) ⊎ (made ≡ most_rounds a) → MakesRounds a b
SoFar-ends false made a b few far ends = inl (record { rounds = made; few = few; moves = far; ends = ends })
SoFar-ends true made a b few far ends =
    let all = far.all in
    inr (goes_on (most_rounds a) made a b b far few (inl (record {
      rounds = far.others;
      few = omega (arith, all, few);
      moves = far.moves;
      ends = spent ends;
    })))
  where
    spent : (is_over b ≡ true) ⊎ (made ≡ most_rounds a) →
        (is_over b ≡ true) ⊎ (far.others ≡ most_rounds a - far.rounds)
    spent (inl over) = inl over
    spent (inr most) = let all = far.all in inr (omega (arith, all, most))

-- nobody moves, though the system is stopped
pub SoFar-stuck : (made : ℕ) (a b c : ReplayState) → made < most_rounds a → SoFar true made a b → IsRound false b c →
    MakesRounds a c
SoFar-stuck made a b c few far round =
    let all = far.all in
    inr (goes_on (most_rounds a) made a b c far (omega (arith, few)) (inr (record {
      rounds = far.others + 1;
      few = omega (arith, all, few);
      comes = at_rest far.others far.stopped b c far.moves round;
    })))
