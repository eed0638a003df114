-- What a seat learns by a step of its own, each on the contract of a function of src/learns.rt.
-- docs/STEPS.md, "Search", "Merge" and "What a seat may know".
use Rattle.std.specs.Prelude.{ℕ, ◌≡◌, ◌≢◌, ◌≤◌, ◌⊎◌, true, false, Some, List}
use Rattle.std.specs.List.{Contains}
use Rattle.directory.specs.Ranges.{AreHalvesOf, is_lower, parent_of, buddy_of}
use Rattle.bucket_page.specs.declared.record_key.RecordKey.{RecordKey}
use Rattle.bucket_page.specs.Records.{lookup}
use Rattle.page_locks.specs.declared.lock.LockKind.TheVariants.{Exclusive}
use Rattle.page_locks.specs.declared.lock.LockName.TheVariants.{Directory, Page}
use Rattle.page_locks.specs.Table.{Table, row_of, held}
use Rattle.page_locks.specs.Writers.{IsWriter}
use Rattle.hash_file.specs.Store.{Store, records_at, bucket_at, range_at}
use Rattle.hash_file.specs.Chain.{chain, IsBucketOf}
use Rattle.hash_file.specs.Change.{Quiet}
use Rattle.hash_file.specs.Looks.{Answers}
use Rattle.step_rules.specs.World.{World, with_locks, IsHeld, MayAim, guard_of}
use Rattle.step_rules.specs.Sound.{IsSoundWorld}
use Rattle.step_rules.specs.Known.{Known, LeadsTo, Live, Told, HasAnchor, IsKnown}
use Rattle.step_rules.specs.LockSteps.{Grants, Releases}
use Rattle.step_rules.specs.PageSteps.{WritesFree, LinksFree}

-- a page that answers has of the key what the file holds
abbrev pub LookTells : Type 0
LookTells = (hash : RecordKey → ℕ) (seat : ℕ) (w : World) (page : ℕ) (key : RecordKey) → IsSoundWorld hash w →
    IsKnown seat w (LeadsTo page (hash key)) → Answers w.store page (hash key) → IsHeld w.locks seat (guard_of key) →
    IsKnown seat w (Told key (lookup key (records_at w.store page)))

-- who may write a page that leads to a pseudokey and answers for it, between changes of its own, holds the live bucket
abbrev pub OwnedAnswerIsLive : Type 0
OwnedAnswerIsLive = (hash : RecordKey → ℕ) (seat : ℕ) (w : World) (page k : ℕ) → IsSoundWorld hash w →
    IsKnown seat w (LeadsTo page k) → IsWriter w.locks seat (Page page) →
    (IsWriter w.locks seat Directory → w.change ≡ Quiet) → Answers w.store page k → IsKnown seat w (Live page)

-- a seat keeps through its own change of locks what it knows under a lock that it still has
abbrev pub OwnLocksKeep : Type 0
OwnLocksKeep = (seat : ℕ) (w : World) (t : Table) (fact : Known) → IsKnown seat w fact
    → HasAnchor (row_of t seat) fact →
    IsKnown seat (with_locks t w) fact

-- and through a grant everything
abbrev pub OwnGrantKeeps : Type 0
OwnGrantKeeps = (seat : ℕ) (old new : World) (fact : Known) → Grants seat old new → IsKnown seat old fact →
    IsKnown seat new fact

-- no other seat holds, or may aim at, a page that is being freed
abbrev pub FreesNobodysPage : Type 0
FreesNobodysPage = (hash : RecordKey → ℕ) (seat other : ℕ) (old new : World) (does : WritesFree seat old new) →
    IsSoundWorld hash old → other ≢ seat → MayAim old.locks other does.right → ⊥

-- or that comes onto the free list
abbrev pub LinksNobodysPage : Type 0
LinksNobodysPage = (hash : RecordKey → ℕ) (seat other : ℕ) (old new : World) (does : LinksFree seat old new) →
    IsSoundWorld hash old → other ≢ seat → MayAim old.locks other does.right → ⊥

-- page n is of these, and a bucket of this depth
abbrev pub IsLiveOn : Store → List ℕ → ℕ → ℕ → Type 0
IsLiveOn s ns depth n = Contains ns n × ((bucket_at s n).depth ≡ depth)

-- the bucket that has the turned pattern of page x is another page, and no less deep; where it is as deep, it is the
-- other half of what both were
pub record IsFoundAsBuddy (s : Store) (x y : ℕ) : Type 0 where
  pub apart : y ≢ x
  pub deep : (range_at s x).depth ≤ (range_at s y).depth
  pub lower : (range_at s y).depth ≡ (range_at s x).depth → is_lower (range_at s x) ≡ true →
      AreHalvesOf (parent_of (range_at s x)) (range_at s x) (range_at s y)
  pub upper : (range_at s y).depth ≡ (range_at s x).depth → is_lower (range_at s x) ≡ false →
      AreHalvesOf (parent_of (range_at s x)) (range_at s y) (range_at s x)

abbrev pub BuddyIsOtherHalf : Type 0
BuddyIsOtherHalf = (hash : RecordKey → ℕ) (w : World) (x y : ℕ) → IsSoundWorld hash w →
    Contains (chain w.store) x → 1 ≤ (range_at w.store x).depth →
    IsBucketOf w.store (buddy_of (range_at w.store x)).pattern y → IsFoundAsBuddy w.store x y

-- who gives the directory back from an exclusive lock leaves it no depth, or a bucket as deep as it
abbrev pub DirectoryIsHalved : Type 0
DirectoryIsHalved = (hash : RecordKey → ℕ) (seat : ℕ) (old new : World) (r : Releases seat old new) →
    IsSoundWorld hash old → r.name ≡ Directory → held old.locks seat Directory ≡ Some Exclusive →
    (old.store.header.depth ≡ 0) ⊎ ((n : ℕ) × IsLiveOn old.store (chain old.store) old.store.header.depth n)
