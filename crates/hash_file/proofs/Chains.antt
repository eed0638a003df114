-- The chain of a file: it is what next links lead to, and each pseudokey has one bucket on it.
use Rattle.std.proofs.Common.{ℕ, ◌≡◌, List, arith}
use Rattle.std.specs.List.{Contains}
use Rattle.directory.specs.declared.pseudokey.TheConstants.{POSITIONS}
use Rattle.directory.specs.Positions.{position_of}
use Rattle.directory.specs.Ranges.{IsRange, HasPosition}
use Rattle.directory.proofs.PositionLaws.{position_below}
use Rattle.directory.proofs.RangeLaws.{range_has, range_covers}
use Rattle.directory.proofs.TileLaws.{tiles_within, tiles_found, tiles_unique}
use Rattle.directory.proofs.WalkLaws.{walk_meets_all}
use Rattle.hash_file.specs.Store.{Store, has_bucket, range_at, next_at}
use Rattle.hash_file.specs.Chain.{chain, IsChain, IsBucketOn}
use Rattle.hash_file.specs.Sound.{HasLayout}

-- a list that is a chain is what next links lead to
pub chain_is : (s : Store) (ns : List ℕ) → HasLayout s → IsChain s ns → chain s ≡ ns
unfolding chain
chain_is s ns layout h =
    walk_meets_all (range_at s) (has_bucket s) (next_at s) ns s.layout.root 0 s.layout.greatest h.tiled h.linked
    layout.greatest
    (λ n c. (omega (arith, h.shallow n c, layout.depth), h.buckets n c)) layout.header

-- a page of the chain has a range
pub chain_valid : (s : Store) (ns : List ℕ) (n : ℕ) → IsChain s ns → Contains ns n → IsRange (range_at s n)
chain_valid s ns n h c = (tiles_within (range_at s) ns 0 POSITIONS n h.tiled c).valid

-- a page whose range has a pseudokey has its position
pub has_position : (s : Store) (ns : List ℕ) (k n : ℕ) → IsChain s ns → IsBucketOn s ns k n →
    HasPosition (range_at s n) (position_of k)
has_position s ns k n h b = range_has (range_at s n) k (chain_valid s ns n h b.0) b.1

-- each pseudokey has a bucket
pub bucket_found : (s : Store) (ns : List ℕ) (k : ℕ) → IsChain s ns → (n : ℕ) × IsBucketOn s ns k n
bucket_found s ns k h =
    found (tiles_found (range_at s) ns 0 POSITIONS (position_of k) h.tiled (omega arith) (position_below k))
  where
    found : (n : ℕ) × Contains ns n × HasPosition (range_at s n) (position_of k) → (n : ℕ) × IsBucketOn s ns k n
    found (n, c, has) = (n, (c, range_covers (range_at s n) k (chain_valid s ns n h c) has))

-- and only one
pub bucket_unique : (s : Store) (ns : List ℕ) (k m n : ℕ) → IsChain s ns → IsBucketOn s ns k m → IsBucketOn s ns k n →
    m ≡ n
bucket_unique s ns k m n h b d =
    tiles_unique (range_at s) ns 0 POSITIONS (position_of k) m n h.tiled b.0 d.0 (has_position s ns k m h b)
    (has_position s ns k n h d)
