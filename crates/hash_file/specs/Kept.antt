-- What a change of the file keeps.
use Rattle.std.specs.Prelude.{ℕ, ◌≡◌, ◌≢◌, ◌≤◌, ◌+◌, if◌then◌else◌}
use Rattle.bucket_page.specs.declared.record_key.RecordKey.{RecordKey}
use Rattle.bucket_page.specs.Keys.{is_same}
use Rattle.hash_file.specs.Store.{Store, has_bucket, range_at, next_at}
use Rattle.hash_file.specs.Chain.{contents}
use Rattle.hash_file.specs.Change.{Change}
use Rattle.hash_file.specs.Search.{PageLeads, distance}
use Rattle.hash_file.specs.Sound.{IsSoundFile}
use Rattle.hash_file.specs.Changes.{RecordWrite, key_of, value_after}

-- the file holds what it held
abbrev pub KeepsContents : Store → Store → Type 0
KeepsContents old new = (key : RecordKey) → contents new key ≡ contents old key

-- one record of what the file holds has changed
abbrev pub ChangesRecord : RecordWrite → Store → Store → Type 0
ChangesRecord w old new = (key : RecordKey) →
    contents new key ≡ (if is_same (key_of w) key then value_after w else contents old key)

-- each page leads where it led
abbrev pub KeepsLeading : Store → Change → Store → Change → Type 0
KeepsLeading old c new d = (n k : ℕ) → PageLeads old c n k → PageLeads new d n k

-- page n has the shape that it had: all that a chain sees of it
pub record HasShapeOf (old new : Store) (n : ℕ) : Type 0 where
  pub live : has_bucket new n ≡ has_bucket old n
  pub range : range_at new n ≡ range_at old n
  pub next : next_at new n ≡ next_at old n

-- a change that keeps all of this, in going on from phase c to phase d
pub record KeepsFile (hash : RecordKey → ℕ) (old : Store) (c : Change) (new : Store) (d : Change) : Type 0 where
  pub sound : IsSoundFile hash new d
  pub contents : KeepsContents old new
  pub leads : KeepsLeading old c new d

-- no way to the bucket of a pseudokey grows by more than so many hops
abbrev pub LengthensWays : ℕ → Store → Change → Store → Type 0
LengthensWays hops old c new = (n k : ℕ) → PageLeads old c n k → distance new n k ≤ distance old n k + hops

-- nor at all, where the page is another than this
abbrev pub KeepsWaysBut : ℕ → Store → Change → Store → Type 0
KeepsWaysBut right old c new = (n k : ℕ) → n ≢ right → PageLeads old c n k → distance new n k ≤ distance old n k
