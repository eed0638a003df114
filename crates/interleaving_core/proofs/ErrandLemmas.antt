-- What a call's errands leave of the counts, and how many moves they are.
use Rattle.std.proofs.Common.{◌≡◌, refl, ap, ℕ, ◌+◌, ◌≤◌, Bool, true, false, List, [], ◌∷◌, arith}
use Rattle.xsi_calls.specs.OneGo.{Asks, Decides, Errand, GivesBack, Writes, all_moves, all_single}
use Rattle.interleaving_core.specs.Counting.{CountsState}

-- ---- what is counted

-- behind one, where a search leaves this
abbrev pub count_by : CountsState → Errand → CountsState → CountsState
count_by ended Asks n = ended
count_by ended Writes n = ended
count_by ended Decides n = n
count_by ended GivesBack n = n

-- and behind all, where so much was counted before them
abbrev pub counts_of : (s ended : CountsState) → List Errand → CountsState
counts_of s ended [] = s
counts_of s ended (errand ∷ before) = count_by ended errand (counts_of s ended before)

-- whether a search is among them
abbrev pub searches_in : List Errand → Bool
searches_in [] = false
searches_in (Asks ∷ before) = true
searches_in (Writes ∷ before) = true
searches_in (Decides ∷ before) = searches_in before
searches_in (GivesBack ∷ before) = searches_in before

-- so many moves at least, or else no more than there are errands
pub few_moves : (errands : List Errand) → searches_in errands ≡ false → all_moves errands ≡ all_single errands
few_moves [] none = refl
few_moves (Asks ∷ before) none = absurd cc
few_moves (Writes ∷ before) none = absurd cc
few_moves (Decides ∷ before) none = ap (λ (n : ℕ). n + 1) (few_moves before none)
few_moves (GivesBack ∷ before) none = ap (λ (n : ℕ). n + 1) (few_moves before none)

pub many_moves : (errands : List Errand) → searches_in errands ≡ true → 7 ≤ all_moves errands
many_moves [] some = absurd cc
many_moves (Asks ∷ before) some = omega arith
many_moves (Writes ∷ before) some = omega arith
many_moves (Decides ∷ before) some = let more = many_moves before some in omega (arith, more)
many_moves (GivesBack ∷ before) some = let more = many_moves before some in omega (arith, more)

-- what is counted behind them is what a search leaves, or what was counted
pub counts_with : (s ended : CountsState) (errands : List Errand) → searches_in errands ≡ true →
    counts_of s ended errands ≡ ended
counts_with s ended [] some = absurd cc
counts_with s ended (Asks ∷ before) some = refl
counts_with s ended (Writes ∷ before) some = refl
counts_with s ended (Decides ∷ before) some = counts_with s ended before some
counts_with s ended (GivesBack ∷ before) some = counts_with s ended before some

pub counts_without : (s ended : CountsState) (errands : List Errand) → searches_in errands ≡ false →
    counts_of s ended errands ≡ s
counts_without s ended [] none = refl
counts_without s ended (Asks ∷ before) none = absurd cc
counts_without s ended (Writes ∷ before) none = absurd cc
counts_without s ended (Decides ∷ before) none = counts_without s ended before none
counts_without s ended (GivesBack ∷ before) none = counts_without s ended before none

-- nothing was made where there are no moves
pub none_made : (errands : List Errand) → all_moves errands ≡ 0 → errands ≡ []
none_made [] none = refl
none_made (Asks ∷ before) none = absurd (omega (arith, none))
none_made (Writes ∷ before) none = absurd (omega (arith, none))
none_made (Decides ∷ before) none = absurd (omega (arith, none))
none_made (GivesBack ∷ before) none = absurd (omega (arith, none))
