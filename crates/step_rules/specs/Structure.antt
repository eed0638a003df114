-- The structure of the file: all of it but the records. Facts of it, for the seat that may change it.
-- docs/STEPS.md, "Words".
use Rattle.std.specs.Prelude.{ℕ, ◌≡◌, ◌<◌, ◌≤◌, ◌+◌, ◌^◌, true, []}
use Rattle.std.specs.List.{Contains}
use Rattle.directory.specs.declared.range.Range.{Range}
use Rattle.directory.specs.Ranges.{Covers}
use Rattle.bucket_page.specs.declared.page.PageKind.{PageKind}
use Rattle.bucket_page.specs.declared.page.PageKind.TheVariants as kinds
use Rattle.bucket_page.specs.directory.Entries.{page_of}
use Rattle.hash_file.specs.Store.{Store, page_at, entry_at, count_at, has_bucket, range_at, next_at}
use Rattle.hash_file.specs.Chain.{chain, IsBucketOf}
use Rattle.hash_file.specs.Change.{Change, Linked, Buried}
use Rattle.hash_file.specs.Search.{PageLeads, distance}
use Rattle.step_rules.specs.World.{World}

-- a page without its records
abbrev pub bare : PageKind → PageKind
bare (kinds.Bucket b) = kinds.Bucket (record b { records = [] })
bare (kinds.Directory es) = kinds.Directory es
bare (kinds.Tombstone link) = kinds.Tombstone link
bare (kinds.Free link) = kinds.Free link

-- nothing but records has changed
pub record KeepsStructure (old new : World) : Type 0 where
  pub change : new.change ≡ old.change
  pub header : new.store.header ≡ old.store.header
  pub entries : new.store.entries ≡ old.store.entries
  pub chain : chain new.store ≡ chain old.store
  pub pages : (n : ℕ) → bare (page_at new.store n) ≡ bare (page_at old.store n)

-- the page is a bucket of this range, and followed by this page
pub record HasShape (s : Store) (page : ℕ) (range : Range) (next : ℕ) : Type 0 where
  pub is_bucket : has_bucket s page ≡ true
  pub range_is : range_at s page ≡ range
  pub next_is : next_at s page ≡ next

-- the page leads to the pseudokey, in one hop at most
pub record IsNear (w : World) (page pseudokey : ℕ) : Type 0 where
  pub leads : PageLeads w.store w.change page pseudokey
  pub near : distance w.store page pseudokey ≤ 1

-- the directory pages before this one have the upper entries of a directory that doubles
abbrev pub IsCopiedBefore : Store → ℕ → Type 0
IsCopiedBefore s page = (i : ℕ) → i < 2 ^ s.header.depth → page_of (i + 2 ^ s.header.depth) < page →
    entry_at s (i + 2 ^ s.header.depth) ≡ entry_at s i

-- on the directory pages before this one the entries of a range name page n
abbrev pub IsRetargetedBefore : Store → Range → ℕ → ℕ → Type 0
IsRetargetedBefore s range n page = (i : ℕ) → i < 2 ^ s.header.depth → Covers range i → page_of i < page →
    entry_at s i ≡ n

-- an entry of the upper half of a directory that doubles stands on the page
pub record HasUpperEntry (s : Store) (page : ℕ) : Type 0 where
  pub entry : ℕ
  pub below : entry < 2 ^ s.header.depth
  pub there : page_of (entry + 2 ^ s.header.depth) ≡ page

-- an entry of the range stands on the page
pub record HasEntryOf (s : Store) (range : Range) (page : ℕ) : Type 0 where
  pub entry : ℕ
  pub below : entry < 2 ^ s.header.depth
  pub covered : Covers range entry
  pub there : page_of entry ≡ page

-- the page that entries of the upper range come to name
abbrev pub target_of : Change → ℕ
target_of (Linked old new whole) = new
target_of (Buried left right whole) = left
target_of change = 0

pub data Structural : Type 0 where
  InPhase : (change : Change) → Structural
  HasDepth : (depth : ℕ) → Structural
  HasFirstFree : (page : ℕ) → Structural
  HasCount : (depth count : ℕ) → Structural
  Names : (entry page : ℕ) → Structural
  Copied : (page : ℕ) → Structural
  Retargeted : (range : Range) (n page : ℕ) → Structural
  Shaped : (page : ℕ) (range : Range) (next : ℕ) → Structural
  OnChain : (page : ℕ) → Structural
  BucketOf : (pseudokey page : ℕ) → Structural
  Near : (page pseudokey : ℕ) → Structural

abbrev pub IsSo : World → Structural → Type 0
IsSo w (InPhase change) = w.change ≡ change
IsSo w (HasDepth depth) = w.store.header.depth ≡ depth
IsSo w (HasFirstFree page) = w.store.header.first_free ≡ page
IsSo w (HasCount depth count) = count_at w.store depth ≡ count
IsSo w (Names entry page) = entry_at w.store entry ≡ page
IsSo w (Copied page) = IsCopiedBefore w.store page
IsSo w (Retargeted range n page) = IsRetargetedBefore w.store range n page
IsSo w (Shaped page range next) = HasShape w.store page range next
IsSo w (OnChain page) = Contains (chain w.store) page
IsSo w (BucketOf pseudokey page) = IsBucketOf w.store pseudokey page
IsSo w (Near page pseudokey) = IsNear w page pseudokey
