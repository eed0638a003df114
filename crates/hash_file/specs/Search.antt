-- From which pages a search for a pseudokey finds its bucket, and in how many hops (Ellis 1983).
use Rattle.std.specs.Prelude.{ℕ, suc, ◌≡◌, ◌≤◌, ◌+◌, ◌-◌, ◌⊎◌, List, if◌then◌else◌}
use Rattle.std.specs.List.{Contains}
use Rattle.directory.specs.Positions.{position_of}
use Rattle.directory.specs.Ranges.{start_of}
use Rattle.directory.specs.Tiles.{begun}
use Rattle.hash_file.specs.Store.{Store, has_bucket, range_at, next_at}
use Rattle.hash_file.specs.Chain.{chain}
use Rattle.hash_file.specs.Change.{Change, aside}

-- the first position that a search from page n can come to; a tombstone leads where its link does
abbrev pub reach : Store → ℕ → ℕ
reach s n = if has_bucket s n then start_of (range_at s n) else start_of (range_at s (next_at s n))

-- from page n next links lead to the bucket of pseudokey k, where this list is the chain
pub record PageLeadsOn (s : Store) (c : Change) (ns : List ℕ) (n k : ℕ) : Type 0 where
  -- a live bucket, or the page that a merge took off the chain
  pub stands : Contains ns n ⊎ Contains (aside c) n
  -- that does not begin behind the pseudokey
  pub reaches : reach s n ≤ position_of k

abbrev pub PageLeads : Store → Change → ℕ → ℕ → Type 0
PageLeads s c n k = PageLeadsOn s c (chain s) n k

-- the hops from page n to the bucket of k: one for each bucket that begins on the way, and one off a tombstone
abbrev pub distance_on : Store → List ℕ → ℕ → ℕ → ℕ
distance_on s ns n k =
    (begun (range_at s) ns (position_of k) - begun (range_at s) ns (reach s n))
    + (if has_bucket s n then 0 else 1)

abbrev pub distance : Store → ℕ → ℕ → ℕ
distance s n k = distance_on s (chain s) n k

-- the page that a page names leads on, and is one hop nearer
pub record IsNearer (s : Store) (c : Change) (ns : List ℕ) (n k : ℕ) : Type 0 where
  pub leads : PageLeadsOn s c ns (next_at s n) k
  pub nearer : distance_on s ns n k ≡ suc (distance_on s ns (next_at s n) k)
