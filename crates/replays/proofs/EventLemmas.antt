-- Events one after the other.
use Rattle.std.proofs.Common.{◌≡◌, refl, sym, subst, ℕ, suc, ◌+◌, ◌<◌, List, [], ◌∷◌, ◌++◌, get_or, length, take, arith}
use Rattle.std.proofs.lemmas.List.{take_more}
use Rattle.schedules.specs.declared.event.Event.{Event}
use Rattle.replays.specs.Events.{Plays, PlaysAll, ReplayState, Times}

-- one word more
pub PlaysAll-push : (events : List Event) (event : Event) (a b c : ReplayState) → PlaysAll events a b →
    Plays event b c → PlaysAll (events ++ event ∷ []) a c
PlaysAll-push [] event a b c same plays = (c, subst (λ (s : ReplayState). Plays event s c) same plays, refl)
PlaysAll-push (e ∷ es) event a b c (next, first, rest) plays =
    (next, first, PlaysAll-push es event next b c rest plays)

-- the next word of a list
pub PlaysAll-next : (events : List Event) (i : ℕ) (d : Event) (a b c : ReplayState) → i < length events →
    PlaysAll (take i events) a b → Plays (get_or events i d) b c → PlaysAll (take (i + 1) events) a c
PlaysAll-next events i d a b c below played plays =
    subst (λ (es : List Event). PlaysAll es a c) (sym (take_more events i d below))
    (PlaysAll-push (take i events) (get_or events i d) a b c played plays)

-- one more
pub Times-then : {S : Type 0} (R : S → S → Type 0) (n : ℕ) (a b c : S) → Times R n a b → R b c → Times R (n + 1) a c
Times-then R n a b c times more =
    let same : suc n ≡ n + 1 = omega arith in
    subst (λ (k : ℕ). Times R k a c) same (b, times, more)
