-- A seat that knows nothing of a search is on none.
use Rattle.std.proofs.Common.{ℕ, List, [], ◌∷◌, Option}
use Rattle.step_rules.specs.declared.progress.Progress.{Progress}
use Rattle.step_rules.specs.World.{World}
use Rattle.step_rules.specs.Known.{Known, Deep, LeadsTo, OnPage, Live, Built, Told}
use Rattle.step_rules.specs.Turns.{Ask}
use Rattle.step_rules.specs.Searching.{WalksTo}

-- it knows nothing, or first what is known under a lock on the directory that others don't share
abbrev pub KnowsNoWay : List Known → Type 0
KnowsNoWay [] = Unit {0}
KnowsNoWay (Built fact ∷ facts) = Unit {0}
KnowsNoWay facts = ⊥

pub no_way : {F : Type 0} → (seat : ℕ) (ask : Option Ask) (did : Progress F) (old new : World) (facts : List Known) →
    KnowsNoWay facts → WalksTo seat ask did old new facts
no_way seat ask did old new [] none = tt
no_way seat ask did old new (Built fact ∷ facts) none = tt
no_way seat ask did old new (Deep depth ∷ facts) none = absurd none
no_way seat ask did old new (LeadsTo page k ∷ facts) none = absurd none
no_way seat ask did old new (OnPage page fact ∷ facts) none = absurd none
no_way seat ask did old new (Live page ∷ facts) none = absurd none
no_way seat ask did old new (Told key value ∷ facts) none = absurd none
