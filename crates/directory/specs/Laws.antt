-- The laws that a reader of the definitions wants, each on the contract of a function of
-- src/laws.rt. Those on tilings hold for items of each type X.
use Rattle.std.specs.Prelude.{ℕ, ◌≡◌, ◌<◌, ◌≤◌, ◌-◌, ◌%◌, ◌^◌, ◌↔◌, ◌⊎◌, List, [], ◌∷◌, ◌++◌, Bool, true, false}
use Rattle.std.specs.List.{Contains}
use Rattle.directory.specs.declared.pseudokey.TheConstants.{PSEUDOKEY_BITS, POSITIONS}
use Rattle.directory.specs.declared.range.Range.{Range}
use Rattle.directory.specs.Positions.{position_of}
use Rattle.directory.specs.Ranges.{IsRange, Covers, HasPosition, whole_range, AreHalvesOf, lower_half_of, upper_half_of, start_of, stop_of, is_lower, parent_of, buddy_of}
use Rattle.directory.specs.Tiles.{Tiles, Splits, AreNeighbours, begun}
use Rattle.directory.specs.Links.{Links, after_hops, met_from}
use Rattle.directory.specs.Partition.{LiesInOne, IsPartition}

abbrev pub PositionsAreOneToOne : Type 0
PositionsAreOneToOne = (k : ℕ) → k < POSITIONS → position_of (position_of k) ≡ k

abbrev pub RangeIsInterval : Type 0
RangeIsInterval = (r : Range) (k : ℕ) → IsRange r → Covers r k ↔ HasPosition r (position_of k)

abbrev pub TruncatedIsNoFurtherRight : Type 0
TruncatedIsNoFurtherRight = (d k : ℕ) → position_of (k % 2 ^ d) ≤ position_of k

-- the halves of a range, as intervals: the first from its start, the second to its stop
pub record MeetInTheMiddle (r low high : Range) : Type 0 where
  pub starts : start_of low ≡ start_of r
  pub meet : start_of high ≡ stop_of low
  pub stops : stop_of high ≡ stop_of r

abbrev pub HalvesMeet : Type 0
HalvesMeet = (r : Range) → IsRange r → r.depth < PSEUDOKEY_BITS → MeetInTheMiddle r (lower_half_of r) (upper_half_of r)

abbrev pub HalvesMakeUpRange : Type 0
HalvesMakeUpRange = (r : Range) (k : ℕ) → IsRange r → r.depth < PSEUDOKEY_BITS →
    Covers r k ↔ (Covers (lower_half_of r) k ⊎ Covers (upper_half_of r) k)

abbrev pub LowerBuddyIsLowerHalf : Type 0
LowerBuddyIsLowerHalf = (r : Range) → IsRange r → 1 ≤ r.depth → is_lower r ≡ true →
    AreHalvesOf (parent_of r) r (buddy_of r)

abbrev pub UpperBuddyIsUpperHalf : Type 0
UpperBuddyIsUpperHalf = (r : Range) → IsRange r → 1 ≤ r.depth → is_lower r ≡ false →
    AreHalvesOf (parent_of r) (buddy_of r) r

abbrev pub WholeIsTiling : Type 0 → Type 0
WholeIsTiling X = (range : X → Range) (x : X) → range x ≡ whole_range → Tiles range 0 (x ∷ []) POSITIONS

abbrev pub LiesInOneTile : Type 0 → Type 0
LiesInOneTile X = (range : X → Range) (xs : List X) (k : ℕ) → Tiles range 0 xs POSITIONS → LiesInOne range xs k

abbrev pub SplitKeepsTiling : Type 0 → Type 0
SplitKeepsTiling X = (old new : X → Range) (front : List X) (x low high : X) (back : List X) (a b : ℕ) →
    Splits old new front x low high back → (old x).depth < PSEUDOKEY_BITS →
    Tiles old a (front ++ x ∷ back) b → Tiles new a (front ++ low ∷ high ∷ back) b

-- a join is a split taken back: what stands is what a split of x in the new tiling would give
abbrev pub JoinKeepsTiling : Type 0 → Type 0
JoinKeepsTiling X = (old new : X → Range) (front : List X) (x low high : X) (back : List X) (a b : ℕ) →
    Splits new old front x low high back →
    Tiles old a (front ++ low ∷ high ∷ back) b → Tiles new a (front ++ x ∷ back) b

abbrev pub BuddiesAreNeighbours : Type 0 → Type 0
BuddiesAreNeighbours X = (range : X → Range) (xs : List X) (a b : ℕ) (r : Range) (x y : X) → Tiles range a xs b →
    Contains xs x → Contains xs y → AreHalvesOf r (range x) (range y) → AreNeighbours xs x y

-- the number of hops is that of the tiles that begin on the way
abbrev pub WalkFindsTile : Type 0 → Type 0
WalkFindsTile X = (range : X → Range) (next : X → X) (xs : List X) (a b : ℕ) (n e x : X) (p : ℕ) → Tiles range a xs b →
    Links next n xs e → Contains xs x → start_of (range x) ≤ p → p < b →
    HasPosition (range (after_hops next (begun range xs p - begun range xs (start_of (range x))) x)) p

-- where no depth is above l, 2 ^ l is fuel enough
abbrev pub WalkMeetsAll : Type 0 → Type 0
WalkMeetsAll X = (range : X → Range) (live : X → Bool) (next : X → X) (xs : List X) (n e : X) (l : ℕ) →
    Tiles range 0 xs POSITIONS → Links next n xs e → l ≤ PSEUDOKEY_BITS →
    ((x : X) → Contains xs x → ((range x).depth ≤ l) × (live x ≡ true)) → live e ≡ false →
    met_from live next (2 ^ l) n ≡ xs

abbrev pub PartitionIsTiling : Type 0 → Type 0
PartitionIsTiling X = (range : X → Range) (xs : List X) → IsPartition range xs ↔ Tiles range 0 xs POSITIONS
