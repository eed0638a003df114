-- What a seat may know: one constructor for each shape of fact. Each fact stands beside its anchor, the lock under
-- which it lives. docs/STEPS.md, "What a seat may know".
use Rattle.std.specs.Prelude.{ℕ, ◌≡◌, ◌≤◌, true, IsSome, ◌⊎◌, List, [], ◌∷◌, Option}
use Rattle.std.specs.List.{Contains}
use Rattle.bucket_page.specs.declared.record_key.RecordKey.{RecordKey}
use Rattle.page_locks.specs.declared.lock.Lock.{Lock}
use Rattle.page_locks.specs.declared.lock.LockName.TheVariants.{Directory, Page}
use Rattle.page_locks.specs.Locks.{kind_of}
use Rattle.page_locks.specs.Table.{row_of}
use Rattle.page_locks.specs.Writers.{may_write}
use Rattle.hash_file.specs.Chain.{chain, contents}
use Rattle.hash_file.specs.Search.{PageLeads}
use Rattle.step_rules.specs.World.{World, guard_of}
use Rattle.step_rules.specs.Structure.{Structural, IsSo}
use Rattle.step_rules.specs.Pages.{PageFact, IsOf}

pub data Known : Type 0 where
  -- the directory is at least so deep
  Deep : (depth : ℕ) → Known
  -- the page leads to the pseudokey
  LeadsTo : (page pseudokey : ℕ) → Known
  -- this is so of what stands on the page
  OnPage : (page : ℕ) (fact : PageFact) → Known
  -- the page is on the chain
  Live : (page : ℕ) → Known
  -- something of the structure
  Built : (fact : Structural) → Known
  -- what the file holds at a key
  Told : (key : RecordKey) (value : Option (List ℕ)) → Known

-- the lock or the aim under which a fact lives, among the locks of a seat
abbrev pub HasAnchor : List Lock → Known → Type 0
HasAnchor row (Deep depth) = IsSome (kind_of row Directory)
HasAnchor row (LeadsTo page pseudokey) = IsSome (kind_of row Directory) ⊎ IsSome (kind_of row (Page page))
HasAnchor row (OnPage page fact) = may_write (kind_of row (Page page)) ≡ true
HasAnchor row (Live page) = may_write (kind_of row (Page page)) ≡ true
HasAnchor row (Built fact) = may_write (kind_of row Directory) ≡ true
HasAnchor row (Told key value) = IsSome (kind_of row (guard_of key))

abbrev pub IsTrueIn : World → Known → Type 0
IsTrueIn w (Deep depth) = depth ≤ w.store.header.depth
IsTrueIn w (LeadsTo page pseudokey) = PageLeads w.store w.change page pseudokey
IsTrueIn w (OnPage page fact) = IsOf w.store page fact
IsTrueIn w (Live page) = Contains (chain w.store) page
IsTrueIn w (Built fact) = IsSo w fact
IsTrueIn w (Told key value) = contents w.store key ≡ value

-- the seat has the anchor, and it is so
abbrev pub IsKnown : ℕ → World → Known → Type 0
IsKnown seat w fact = HasAnchor (row_of w.locks seat) fact × IsTrueIn w fact

abbrev pub AllKnown : ℕ → World → List Known → Type 0
AllKnown seat w [] = Unit {0}
AllKnown seat w (fact ∷ facts) = IsKnown seat w fact × AllKnown seat w facts

-- each of the facts has its anchor
abbrev pub AllAnchored : List Lock → List Known → Type 0
AllAnchored row [] = Unit {0}
AllAnchored row (fact ∷ facts) = HasAnchor row fact × AllAnchored row facts
