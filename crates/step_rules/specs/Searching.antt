-- Where a step of a search leads, told by what it asks for and by what its seat then knows. docs/STEPS.md, "Search".
use Rattle.std.specs.Prelude.{ℕ, ◌≡◌, ◌%◌, ◌^◌, List, [], ◌∷◌, Option, Some, None, ◌⊎◌, ⊤}
use Rattle.page_locks.specs.declared.lock.LockKind.{LockKind}
use Rattle.page_locks.specs.declared.lock.LockKind.TheVariants.{Read}
use Rattle.page_locks.specs.declared.lock.LockName.TheVariants.{Directory}
use Rattle.page_locks.specs.Table.{held}
use Rattle.hash_file.specs.Store.{entry_at, next_at}
use Rattle.hash_file.specs.Looks.{Answers}
use Rattle.step_rules.specs.declared.kind.Kind.TheVariants as kinds
use Rattle.step_rules.specs.declared.progress.Progress.{Progress}
use Rattle.step_rules.specs.declared.progress.Progress.TheVariants.{Moved}
use Rattle.step_rules.specs.World.{World, with_locks}
use Rattle.step_rules.specs.Known.{Known, Deep, LeadsTo, Built}
use Rattle.step_rules.specs.Turns.{Ask, ForEntry, ForPage, ForAnswer, HopFrom}

-- the depth is read by a search, that of the directory at that moment
pub record TakesDepth {F : Type 0} (seat : ℕ) (did : Progress F) (depth : ℕ) (new : World) : Type 0 where
  pub moved : did ≡ Moved kinds.ReadDepth
  -- a seat that is to change the structure holds the directory otherwise
  pub shared : held new.locks seat Directory ≡ Some Read
  pub is : depth ≡ new.store.header.depth

-- a search stands before a page, or on it, for the bucket of a pseudokey: the pseudokey's entry named it; it was there
-- before; it hops, and the page answers by now, or it is blocked; or it hops there from a page that does not answer
pub data StepsTo {F : Type 0} (seat : ℕ) (ask : Option Ask) (did : Progress F) (page k : ℕ) (old new : World)
    : Type 0 where
  ByEntry : (depth : ℕ) → ask ≡ Some (ForEntry depth k) → page ≡ entry_at old.store (k % 2 ^ depth) →
      StepsTo seat ask did page k old new
  WasBefore : (kind : LockKind) → ask ≡ Some (ForPage page k kind) → StepsTo seat ask did page k old new
  Stays : ask ≡ Some (ForAnswer page k) → StepsTo seat ask did page k old new
  HopsBack : ask ≡ Some (HopFrom page k) → held old.locks seat Directory ≡ None → new ≡ old →
      StepsTo seat ask did page k old new
  HopsOn : (before : ℕ) → ask ≡ Some (HopFrom before k) → held old.locks seat Directory ≡ None →
      did ≡ Moved kinds.Hop → (Answers old.store before k → ⊥) → page ≡ next_at old.store before →
      StepsTo seat ask did page k old new

-- and nothing but locks has changed
pub record WalksToPage {F : Type 0} (seat : ℕ) (ask : Option Ask) (did : Progress F) (page k : ℕ) (old new : World)
    : Type 0 where
  pub still : new ≡ with_locks new.locks old
  -- the depth was read before
  pub behind : did ≡ Moved kinds.ReadDepth → ⊥
  pub by : StepsTo seat ask did page k old new

-- what its seat then knows first tells how far a search has come; of a seat that knows anything else nothing is said
abbrev pub WalksTo : {F : Type 0} → ℕ → Option Ask → Progress F → (old new : World) → List Known → Type 0
WalksTo seat ask did old new (Deep depth ∷ []) = TakesDepth seat did depth new
WalksTo seat ask did old new (LeadsTo page k ∷ facts) = WalksToPage seat ask did page k old new
WalksTo seat ask did old new facts = ⊤

-- ---- what a search asks for is what its seat knows there

-- what is known under a lock on the directory that others don't share
abbrev pub IsOfStructure : List Known → Type 0
IsOfStructure (Built fact ∷ facts) = ⊤
IsOfStructure facts = ⊥

-- it knows this first
abbrev pub KnowsFirst : Known → List Known → Type 0
KnowsFirst fact [] = ⊥
KnowsFirst fact (first ∷ facts) = first ≡ fact

abbrev pub IsAimed : Option Ask → List Known → Type 0
IsAimed (Some (ForEntry depth k)) facts = facts ≡ Deep depth ∷ []
IsAimed (Some (ForPage page k kind)) facts = KnowsFirst (LeadsTo page k) facts
IsAimed (Some (ForAnswer page k)) facts = KnowsFirst (LeadsTo page k) facts
-- an Insert hops in its second try too, after a split of its own
IsAimed (Some (HopFrom page k)) facts = KnowsFirst (LeadsTo page k) facts ⊎ IsOfStructure facts
IsAimed ask facts = ⊤
