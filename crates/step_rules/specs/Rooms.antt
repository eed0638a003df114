-- Where a record has no room, and where a merge is turned away from. docs/STEPS.md, "Insert, Replace, Delete" and
-- "Merge".
use Rattle.std.specs.Prelude.{ℕ, ◌≡◌, ◌≢◌, ◌<◌, ◌≤◌, ◌+◌, ◌⊎◌, Some, length}
use Rattle.std.specs.List.{Contains}
use Rattle.directory.specs.Ranges.{buddy_of}
use Rattle.bucket_page.specs.declared.layout.TheConstants.{ROOM_BYTES}
use Rattle.bucket_page.specs.declared.record_key.RecordKey.{RecordKey}
use Rattle.bucket_page.specs.Records.{Pair}
use Rattle.page_locks.specs.declared.lock.LockName.TheVariants.{Page}
use Rattle.page_locks.specs.Writers.{IsWriter}
use Rattle.hash_file.specs.Store.{range_at}
use Rattle.hash_file.specs.Chain.{chain, IsBucketOf}
use Rattle.hash_file.specs.Change.{owned}
use Rattle.hash_file.specs.Changes.{Put, Remove}
use Rattle.step_rules.specs.declared.kind.Kind.TheVariants.{WriteRecord, TakePage, WriteLeft}
use Rattle.step_rules.specs.declared.kind.TheConstants.{MERGED_BYTES}
use Rattle.step_rules.specs.World.{World}
use Rattle.step_rules.specs.Sound.{IsSoundWorld}
use Rattle.step_rules.specs.Structure.{BucketOf, HasFirstFree}
use Rattle.step_rules.specs.Pages.{Lacking, Using, used_on, size_of}
use Rattle.step_rules.specs.Known.{OnPage, Built, IsKnown}
use Rattle.step_rules.specs.Turns.{Turn, DoesTied, LacksRoom}

-- a record does not fit its bucket, and no page is free or the bucket is as deep as one can be: an Insert turns to
-- fault 50 only at a step behind which this is so
pub record HasNoRoom (hash : RecordKey → ℕ) (p : Pair) (w : World) : Type 0 where
  pub page : ℕ
  pub lacks : LacksRoom hash p page w
  pub stuck : (w.store.header.first_free ≡ 0) ⊎ ((range_at w.store page).depth ≡ w.store.layout.greatest)

-- what a seat knows of the page and the directory that it holds tells it
abbrev pub NoRoomIsSeen : Type 0
NoRoomIsSeen = (hash : RecordKey → ℕ) (seat : ℕ) (p : Pair) (page used : ℕ) (w : World) →
    IsKnown seat w (Built (BucketOf (hash p.key) page)) → IsKnown seat w (OnPage page (Lacking p.key)) →
    IsKnown seat w (OnPage page (Using used)) → ROOM_BYTES < used + size_of p →
    IsKnown seat w (Built (HasFirstFree 0)) ⊎ ((range_at w.store page).depth ≡ w.store.layout.greatest) →
    HasNoRoom hash p w

-- neither can the record be put then, nor a split begin that makes room for it
abbrev pub NoRoomIsStuck : Type 0
NoRoomIsStuck = (hash : RecordKey → ℕ) (seat : ℕ) (p : Pair) (turn : Turn) (old new : World) →
    IsSoundWorld hash old → HasNoRoom hash p old → turn.write ≡ Some (Put p) →
    DoesTied hash turn WriteRecord seat old new ⊎ DoesTied hash turn TakePage seat old new → ⊥

-- where the list of free pages is empty, each page from the root on is live, or owned by a change
abbrev pub NoPageIsFree : Type 0
NoPageIsFree = (hash : RecordKey → ℕ) (w : World) (n : ℕ) → IsSoundWorld hash w → w.store.header.first_free ≡ 0 →
    w.store.layout.root ≤ n → n < length w.store.pages → Contains (chain w.store) n ⊎ Contains (owned w.change) n

-- ---- merges

-- the bucket of a key, and the one that has its pattern with the last bit turned; the seat may write both
pub record HoldsBuddies (hash : RecordKey → ℕ) (key : RecordKey) (seat page buddy : ℕ) (w : World) : Type 0 where
  pub home : IsBucketOf w.store (hash key) page
  pub deep : 1 ≤ (range_at w.store page).depth
  pub found : IsBucketOf w.store (buddy_of (range_at w.store page)).pattern buddy
  pub page_owned : IsWriter w.locks seat (Page page)
  pub buddy_owned : IsWriter w.locks seat (Page buddy)

-- a Delete turns away from its merge only at a step behind which one of these is so
pub data TurnsAway (hash : RecordKey → ℕ) (key : RecordKey) (seat : ℕ) (w : World) : Type 0 where
  -- the bucket of its key has no buddy
  IsWhole : (page : ℕ) → IsBucketOf w.store (hash key) page → (range_at w.store page).depth ≡ 0 →
      TurnsAway hash key seat w
  -- or too many bytes by itself
  IsLarge : (page : ℕ) → IsBucketOf w.store (hash key) page → MERGED_BYTES < used_on w.store page →
      TurnsAway hash key seat w
  -- or the two differ in depth
  Differs : (page buddy : ℕ) → HoldsBuddies hash key seat page buddy w →
      (range_at w.store page).depth ≢ (range_at w.store buddy).depth → TurnsAway hash key seat w
  -- or have too many bytes together
  AreLarge : (page buddy : ℕ) → HoldsBuddies hash key seat page buddy w →
      MERGED_BYTES < used_on w.store page + used_on w.store buddy → TurnsAway hash key seat w

-- no merge can be made then
abbrev pub TurnedAwayIsStuck : Type 0
TurnedAwayIsStuck = (hash : RecordKey → ℕ) (key : RecordKey) (seat : ℕ) (turn : Turn) (old new : World) →
    IsSoundWorld hash old → TurnsAway hash key seat old → turn.write ≡ Some (Remove key) →
    DoesTied hash turn WriteLeft seat old new → ⊥
