-- A root bucket that has each pseudokey is the only one on the chain.
use Rattle.std.proofs.Common.{ℕ, ◌≡◌, ◌<◌, List, [], ◌∷◌, sym, ap, ◌∙◌, arith}
use Rattle.directory.specs.Ranges.{stop_of, whole_range}
use Rattle.directory.proofs.PartitionLaws.{partition_tiles}
use Rattle.directory.proofs.PositionLaws.{position_below, position_zero, width_whole}
use Rattle.hash_file.specs.Store.{Store, range_at}
use Rattle.file_walk.specs.Walks.{IsRightChain}

pub alone : (s : Store) (ns : List ℕ) → 0 < s.layout.root → range_at s s.layout.root ≡ whole_range →
    IsRightChain s ns → ns ≡ s.layout.root ∷ []
alone s [] some whole c = absurd (omega (arith, some, c.linked))
alone s (n ∷ []) some whole c = ap (λ m. m ∷ []) (sym c.linked.0)
alone s (n ∷ m ∷ ns) some whole c =
    let tiles = partition_tiles (range_at s) (n ∷ m ∷ ns) c.partition in
    let here = ap stop_of (ap (range_at s) (sym c.linked.0) ∙ whole) in
    let behind = tiles.1.0.begins in
    let below = position_below (range_at s m).pattern in
    absurd (omega (arith, here, behind, below, position_zero, width_whole))
