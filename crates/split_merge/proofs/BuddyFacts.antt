-- What is so of a bucket and its buddy.
use Rattle.std.proofs.Common.{◌≡◌, refl, sym, ap, ◌∙◌, subst, ℕ, ◌+◌, ◌<◌, ◌≤◌, Bool, true, false, List, arith, if◌then◌else◌, length, inl}
use Rattle.std.specs.List.{Contains}
use Rattle.directory.proofs.BuddyLaws.{lower_buddies, upper_buddies, buddy_is}
use Rattle.hash_file.specs.Store.{Store, page_at, range_at, has_bucket}
use Rattle.hash_file.specs.Chain.{chain, IsBucketOf}
use Rattle.hash_file.proofs.Roles.{numbered}
use Rattle.stale_search.specs.file_pages.declared.sight.BucketSight.{BucketSight}
use Rattle.stale_search.specs.file_pages.Reads.{IsSeen}
use Rattle.stale_search.proofs.of_file_pages.StoreLemmas.{layout_is, pages_are}
use Rattle.page_locks.specs.Writers.{IsWriter}
use Rattle.step_rules.specs.World.{World}
use Rattle.step_rules.specs.Sound.{IsSoundWorld}
use Rattle.step_rules.specs.Structure.{HasShape}
use Rattle.step_rules.specs.Pages.{used_on}
use Rattle.step_rules.specs.Rooms.{HoldsBuddies, TurnsAway, Differs, AreLarge}
use Rattle.split_merge.specs.MergeWords.{RecordKey, Range, is_lower, parent_of, buddy_of, lower_half_of, upper_half_of, ROOT_PAGE, MERGED_BYTES, Page, Change, store_of, world, Table, Buddies}
use Rattle.split_merge.specs.Places.{own_of, other_of, AreBuddies}

-- a live bucket is a page of the file
pub record IsLivePage (images : List (List ℕ)) (n : ℕ) : Type 0 where
  pub behind : ROOT_PAGE ≤ n
  pub within : n < length images
  pub bucket : has_bucket (store_of images) n ≡ true

pub live_page : (hash : RecordKey → ℕ) (images : List (List ℕ)) (locks : Table) (change : Change) (n : ℕ) →
    IsSoundWorld hash (world images locks change) → Contains (chain (store_of images)) n → IsLivePage images n
live_page hash images locks change n sound on =
    let has = numbered hash (store_of images) change (chain (store_of images)) sound.file n (inl on) in
    record {
      behind = rw (layout_is images) at has.0;
      within = rw (pages_are images) at has.1;
      bucket = sound.file.chained.buckets n on;
    }

-- what was seen of a bucket is its shape
abbrev pub seen_range : BucketSight → Range
seen_range sight = record { depth = sight.depth; pattern = sight.pattern }

pub seen_shape : (s : Store) (n : ℕ) (sight : BucketSight) → IsSeen sight (page_at s n) →
    HasShape s n (seen_range sight) sight.next
seen_shape s n sight seen = record {
  is_bucket = seen.bucket;
  range_is = ap seen_range (sym seen.says);
  next_is = ap (λ (x : BucketSight). x.next) (sym seen.says);
}

pub seen_used : (s : Store) (n : ℕ) (sight : BucketSight) → IsSeen sight (page_at s n) → used_on s n ≡ sight.used
seen_used s n sight seen = ap (λ (x : BucketSight). x.used) (sym seen.says)

pub seen_depth : (s : Store) (n : ℕ) (sight : BucketSight) → IsSeen sight (page_at s n) →
    (range_at s n).depth ≡ sight.depth
seen_depth s n sight seen = ap (λ (x : BucketSight). x.depth) (sym seen.says)

-- what is so of both is so of each
pub both_pages : (b : Buddies) (P : ℕ → Type 0) → P (own_of b) → P (other_of b) → P b.left × P b.right
both_pages b P = by (is_lower b.range)
  where
    by : (c : Bool) → P (if c then b.left else b.right) → P (if c then b.right else b.left) → P b.left × P b.right
    by true own other = (own, other)
    by false own other = (other, own)

pub own_and_other : (b : Buddies) (P : ℕ → Type 0) → P b.left → P b.right → P (own_of b) × P (other_of b)
own_and_other b P = by (is_lower b.range)
  where
    by : (c : Bool) → P b.left → P b.right → P (if c then b.left else b.right) × P (if c then b.right else b.left)
    by true left right = (left, right)
    by false left right = (right, left)

module _ (hash : RecordKey → ℕ) (seat : ℕ) (w : World) (b : Buddies) (k : ℕ) (are : AreBuddies b)
    (home : IsBucketOf w.store k (own_of b)) (shape : HasShape w.store (own_of b) b.range b.next)
    (found : IsBucketOf w.store (buddy_of b.range).pattern (other_of b)) where
  abbrev s : Store
  s = w.store

  pub both_on : Contains (chain s) b.left × Contains (chain s) b.right
  both_on = both_pages b (Contains (chain s)) home.0 found.0

  -- the left one, if it is as deep, is the lower half
  pub left_half : (range_at s b.left).depth ≡ b.range.depth → range_at s b.left ≡ lower_half_of (parent_of b.range)
  left_half = by (is_lower b.range) refl shape.range_is found
    where
      by : (c : Bool) → is_lower b.range ≡ c → range_at s (if c then b.left else b.right) ≡ b.range →
          IsBucketOf s (buddy_of b.range).pattern (if c then b.right else b.left) →
          (range_at s b.left).depth ≡ b.range.depth → range_at s b.left ≡ lower_half_of (parent_of b.range)
      by true is own other same = own ∙ (lower_buddies b.range are.range.deep is).lower
      by false is own other same =
          buddy_is b.range (range_at s b.left) are.range.valid are.range.deep same other.1
          ∙ (upper_buddies b.range are.range.valid are.range.deep is).lower

  -- and the right one the upper half
  pub right_half : (range_at s b.right).depth ≡ b.range.depth →
      range_at s b.right ≡ upper_half_of (parent_of b.range)
  right_half = by (is_lower b.range) refl shape.range_is found
    where
      by : (c : Bool) → is_lower b.range ≡ c → range_at s (if c then b.left else b.right) ≡ b.range →
          IsBucketOf s (buddy_of b.range).pattern (if c then b.right else b.left) →
          (range_at s b.right).depth ≡ b.range.depth → range_at s b.right ≡ upper_half_of (parent_of b.range)
      by true is own other same =
          buddy_is b.range (range_at s b.right) are.range.valid are.range.deep same other.1
          ∙ (lower_buddies b.range are.range.deep is).upper
      by false is own other same = own ∙ (upper_buddies b.range are.range.valid are.range.deep is).upper

  module _ (key : RecordKey) (keyed : hash key ≡ k) (left_owned : IsWriter w.locks seat (Page b.left))
      (right_owned : IsWriter w.locks seat (Page b.right)) where
    holds : HoldsBuddies hash key seat (own_of b) (other_of b) w
    holds =
        let owned = own_and_other b (λ (n : ℕ). IsWriter w.locks seat (Page n)) left_owned right_owned in
        record {
          home = subst (λ (x : ℕ). IsBucketOf s x (own_of b)) (sym keyed) home;
          deep = subst (λ (r : Range). 1 ≤ r.depth) (sym shape.range_is) are.range.deep;
          found = subst (λ (r : Range). IsBucketOf s (buddy_of r).pattern (other_of b)) (sym shape.range_is) found;
          page_owned = owned.0;
          buddy_owned = owned.1;
        }

    -- the two differ in depth
    pub differ : ((range_at s b.left).depth ≡ b.range.depth → (range_at s b.right).depth ≡ b.range.depth → ⊥) →
        TurnsAway hash key seat w
    differ other = Differs (own_of b) (other_of b) holds (λ same.
        let own : (range_at s (own_of b)).depth ≡ b.range.depth = ap (λ (r : Range). r.depth) shape.range_is in
        let both = both_pages b (λ (n : ℕ). (range_at s n).depth ≡ b.range.depth) own (sym same ∙ own) in
        other both.0 both.1)

    -- or have too many bytes
    pub are_large : MERGED_BYTES < used_on s b.left + used_on s b.right → TurnsAway hash key seat w
    are_large many = AreLarge (own_of b) (other_of b) holds
        (subst (λ (n : ℕ). MERGED_BYTES < n) (sym (sum (is_lower b.range))) many)
      where
        sum : (c : Bool) → used_on s (if c then b.left else b.right) + used_on s (if c then b.right else b.left)
            ≡ used_on s b.left + used_on s b.right
        sum true = refl
        sum false = omega arith
