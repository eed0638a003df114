-- What a step of a seat leaves to the others.
use Rattle.std.specs.Prelude.{ℕ, ◌≡◌, ◌≢◌, ◌≤◌, Some, length}
use Rattle.std.specs.List.{Contains}
use Rattle.bucket_page.specs.declared.record_key.RecordKey.{RecordKey}
use Rattle.page_locks.specs.declared.lock.LockKind.TheVariants.{Exclusive}
use Rattle.page_locks.specs.declared.lock.LockName.TheVariants.{Directory, Page}
use Rattle.page_locks.specs.Table.{row_of, held}
use Rattle.page_locks.specs.Writers.{IsWriter}
use Rattle.hash_file.specs.Store.{page_at}
use Rattle.hash_file.specs.Chain.{chain, contents}
use Rattle.hash_file.specs.Search.{PageLeads}
use Rattle.step_rules.specs.World.{World, IsHeld, MayAim, guard_of}
use Rattle.step_rules.specs.Structure.{KeepsStructure}

pub record Leaves (seat : ℕ) (old new : World) : Type 0 where
  -- there are as many seats
  pub seats : length new.locks ≡ length old.locks
  -- each other seat holds what it held
  pub rows : (i : ℕ) → i ≢ seat → row_of new.locks i ≡ row_of old.locks i
  -- a page that another seat may write is as it was
  pub pages : (i n : ℕ) → i ≢ seat → IsWriter old.locks i (Page n) →
      page_at new.store n ≡ page_at old.store n
  -- and stays on the chain
  pub live : (i n : ℕ) → i ≢ seat → IsWriter old.locks i (Page n) →
      Contains (chain old.store) n → Contains (chain new.store) n
  -- who may not write the directory leaves the structure
  pub structure : (IsWriter old.locks seat Directory → ⊥) → KeepsStructure old new
  -- a page on which another seat may stand leads where it led
  pub leads : (i n k : ℕ) → i ≢ seat → MayAim old.locks i n →
      PageLeads old.store old.change n k → PageLeads new.store new.change n k
  -- beside another seat in the directory the depth does not fall
  pub depth : (i : ℕ) → i ≢ seat → IsHeld old.locks i Directory →
      old.store.header.depth ≤ new.store.header.depth
  -- a record of which the seat does not hold the name exclusively is as it was
  pub records : (key : RecordKey) → held old.locks seat (guard_of key) ≢ Some Exclusive →
      contents new.store key ≡ contents old.store key
