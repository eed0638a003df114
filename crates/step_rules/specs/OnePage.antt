-- A step in plain words: it changes one page at most, and one lock at most, or for a Hop one lock for another.
-- docs/STEPS.md, "The kinds of step".
use Rattle.std.specs.Prelude.{ℕ, ◌≡◌, ◌≢◌, ◌⊎◌, Some, length}
use Rattle.page_locks.specs.declared.lock.LockKind.{LockKind}
use Rattle.page_locks.specs.declared.lock.LockName.{LockName}
use Rattle.page_locks.specs.declared.lock.LockName.TheVariants.{Directory, Page}
use Rattle.page_locks.specs.Table.{held, with_lock, without_lock}
use Rattle.page_locks.specs.Writers.{ChangesOnly}
use Rattle.bucket_page.specs.declared.page.PageKind.{PageKind}
use Rattle.bucket_page.specs.declared.record_key.RecordKey.{RecordKey}
use Rattle.bucket_page.specs.directory.declared.header.Header.{Header}
use Rattle.bucket_page.specs.directory.Entries.{page_of}
use Rattle.hash_file.specs.Store.{Store, entry_at, next_at}
use Rattle.hash_file.specs.Changes.{with_header, with_page}
use Rattle.step_rules.specs.declared.kind.Kind.{Kind}
use Rattle.step_rules.specs.declared.kind.Kind.TheVariants.{Grant, Release, ReadDepth, ReadEntry, Look, Hop, WriteRecord, Decide, TakePage, CopyDirectory, RaiseDepth, WriteNew, WriteOld, Retarget, SetCounts, WriteLeft, Tombstone, Convert, WriteFree, LinkFree, LowerDepth}
use Rattle.step_rules.specs.World.{World}
use Rattle.step_rules.specs.Does.{Does}

-- the header is another, and all else as it was
abbrev pub WritesHeader : Store → Store → Type 0
WritesHeader old new = (h : Header) × (new ≡ with_header h old)

-- entries are others on one page of the directory, and all else is as it was
pub record WritesEntries (old new : Store) : Type 0 where
  pub page : ℕ
  pub as_many : length new.entries ≡ length old.entries
  pub others : (i : ℕ) → page_of i ≢ page → entry_at new i ≡ entry_at old i
  pub rest : new ≡ record old { entries = new.entries }

-- one page is another, and all else as it was
abbrev pub WritesPage : Store → Store → Type 0
WritesPage old new = (n : ℕ) × (page : PageKind) × (new ≡ with_page n page old)

-- the page that each kind changes
abbrev pub ChangesPage : Kind → Store → Store → Type 0
ChangesPage Grant old new = new ≡ old
ChangesPage Release old new = new ≡ old
ChangesPage ReadDepth old new = new ≡ old
ChangesPage ReadEntry old new = new ≡ old
ChangesPage Look old new = new ≡ old
ChangesPage Hop old new = new ≡ old
ChangesPage WriteRecord old new = WritesPage old new
ChangesPage Decide old new = new ≡ old
ChangesPage TakePage old new = WritesHeader old new
ChangesPage CopyDirectory old new = WritesEntries old new
ChangesPage RaiseDepth old new = WritesHeader old new
ChangesPage WriteNew old new = WritesPage old new
ChangesPage WriteOld old new = WritesPage old new
ChangesPage Retarget old new = WritesEntries old new
ChangesPage SetCounts old new = WritesHeader old new
ChangesPage WriteLeft old new = WritesPage old new
ChangesPage Tombstone old new = WritesPage old new
ChangesPage Convert old new = new ≡ old
ChangesPage WriteFree old new = WritesPage old new
ChangesPage LinkFree old new = WritesHeader old new
ChangesPage LowerDepth old new = WritesHeader old new

-- one lock is granted or given back or converted; in a Hop the page that its page names is granted in the same kind,
-- and its page given back, or nothing is done; any other step leaves the locks
abbrev pub ChangesLocks : Kind → ℕ → World → World → Type 0
ChangesLocks Grant seat old new = (name : LockName) × ChangesOnly seat name old.locks new.locks
ChangesLocks Release seat old new = (name : LockName) × ChangesOnly seat name old.locks new.locks
ChangesLocks Convert seat old new = ChangesOnly seat Directory old.locks new.locks
ChangesLocks Hop seat old new = (new.locks ≡ old.locks) ⊎ ((page : ℕ) × (kind : LockKind) ×
    (held old.locks seat (Page page) ≡ Some kind) ×
    (new.locks ≡ without_lock (with_lock old.locks seat (Page (next_at old.store page)) kind) seat (Page page)))
ChangesLocks kind seat old new = new.locks ≡ old.locks

-- a step of this kind changes no more than that
abbrev pub KindChangesLittle : Kind → Type 0
KindChangesLittle kind = (hash : RecordKey → ℕ) (seat : ℕ) (old new : World) → Does hash kind seat old new →
    ChangesPage kind old.store new.store × ChangesLocks kind seat old new
