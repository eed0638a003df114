-- What a split holds, knows and asks for at each place. docs/STEPS.md, "Split".
use Rattle.std.specs.Prelude.{ℕ, ◌≡◌, ◌↔◌, ◌≤◌, ◌+◌, ◌-◌, ◌<◌, Bool, true, false, IsTrue, List, [], ◌∷◌, ◌++◌, length, None, Some, ⊤}
use Rattle.split_merge.specs.Words.{RecordKey, RECORD_HEAD_BYTES, ROOM_BYTES, Pair, PoolState, DIRECTORY_PAGES, GREATEST_DEPTH, ROOT_PAGE, page_of, Range, IsRange, upper_half_of, Lock, Selective, Directory, Page, lock_of, Quiet, Taken, Filled, Linked, WriteRecord, Progress, Moved, Fault, Ended, World, Known, OnPage, Live, Built, InPhase, HasDepth, Copied, Retargeted, Shaped, BucketOf, Near, Lacking, Using, SplitPlace, TakePage, CopyDirectory, RaiseDepth, WriteNew, WriteOld, Retarget, SetCounts, Done, Full}
use Rattle.stale_search.specs.file_pages.Fault.{IsDevicesFault}
use Rattle.stale_search.specs.file_pages.declared.fault.FileFault.{FileFault}
use Rattle.hash_file.specs.Changes.{Put}
use Rattle.step_rules.specs.Rooms.{HasNoRoom}
use Rattle.step_rules.specs.Turns.{Turn}
use Rattle.split_merge.specs.declared.wanted.Wanted.{Wanted}
use Rattle.split_merge.specs.Order.{IsMove, IsPlaced}

pub record SplitView : Type 0 where
  -- the record that is to be put
  pub wanted : Wanted
  -- the bucket's page, and what it said before the split: its range, its next page, the bytes of its records
  pub page : ℕ
  pub whole : Range
  pub next : ℕ
  pub used : ℕ
  -- of the directory
  pub depth : ℕ
  pub place : SplitPlace

-- what is always so of a split
pub record IsSplit (v : SplitView) : Type 0 where
  pub range : IsRange v.whole
  pub shallow : v.whole.depth < GREATEST_DEPTH
  pub depth : v.depth ≤ GREATEST_DEPTH
  pub full : ROOM_BYTES < v.used + (RECORD_HEAD_BYTES + v.wanted.bytes)
  pub placed : IsPlaced v.whole v.depth v.place

-- ---- locks

-- no lock on the directory or a page, but for the directory and the bucket, which it may write
abbrev pub in_directory : List Lock → List Lock
in_directory before = before ++ lock_of Directory Selective ∷ []

abbrev pub on_bucket : ℕ → List Lock → List Lock
on_bucket page before = in_directory before ++ lock_of (Page page) Selective ∷ []

-- its locks, behind those that the seat had before
abbrev pub locks_at : SplitPlace → ℕ → List Lock → List Lock
locks_at Full page before = in_directory before
locks_at place page before = on_bucket page before

abbrev pub split_locks : SplitView → List Lock → List Lock
split_locks v before = locks_at v.place v.page before

-- ---- facts

-- the bucket of the record: its shape, and that it lacks the record and has no room for it
abbrev pub bucket_facts : SplitView → List Known
bucket_facts v =
    Built (BucketOf v.wanted.pseudokey v.page) ∷ Built (Shaped v.page v.whole v.next)
    ∷ OnPage v.page (Lacking v.wanted.key) ∷ OnPage v.page (Using v.used) ∷ []

-- the lower half is live, and one hop at most from the bucket of the record
abbrev pub half_facts : SplitView → List Known
half_facts v = Built (Near v.page v.wanted.pseudokey) ∷ Live v.page ∷ []

abbrev pub facts_at : SplitPlace → SplitView → List Known
facts_at TakePage v = Built (InPhase Quiet) ∷ Built (HasDepth v.depth) ∷ bucket_facts v
facts_at (CopyDirectory new page) v =
    Built (InPhase (Taken new)) ∷ Built (HasDepth v.depth) ∷ Built (Copied page) ∷ bucket_facts v
facts_at (RaiseDepth new) v =
    Built (InPhase (Taken new)) ∷ Built (HasDepth v.depth) ∷ Built (Copied ROOT_PAGE) ∷ bucket_facts v
facts_at (WriteNew new) v = Built (InPhase (Taken new)) ∷ Built (HasDepth v.depth) ∷ bucket_facts v
facts_at (WriteOld new) v = Built (InPhase (Filled v.page new)) ∷ Built (HasDepth v.depth) ∷ bucket_facts v
facts_at (Retarget new entry) v =
    Built (InPhase (Linked v.page new v.whole)) ∷ Built (HasDepth v.depth)
    ∷ Built (Retargeted (upper_half_of v.whole) new (page_of entry)) ∷ half_facts v
facts_at (SetCounts new) v =
    Built (InPhase (Linked v.page new v.whole)) ∷ Built (HasDepth v.depth)
    ∷ Built (Retargeted (upper_half_of v.whole) new ROOT_PAGE) ∷ half_facts v
facts_at Done v = Built (InPhase Quiet) ∷ Built (HasDepth v.depth) ∷ half_facts v
facts_at Full v = Built (InPhase Quiet) ∷ Built (HasDepth v.depth) ∷ []

abbrev pub split_facts : SplitView → List Known
split_facts v = facts_at v.place v

-- ---- turns

-- it asks for nothing, and is made for the record that is to be put
abbrev pub split_turn : Pair → Turn
split_turn p = record { ask = None; write = Some (Put p) }

-- the record is the one that is wanted
pub record IsWanted (hash : RecordKey → ℕ) (wanted : Wanted) (p : Pair) : Type 0 where
  pub key : p.key ≡ wanted.key
  pub pseudokey : hash wanted.key ≡ wanted.pseudokey
  pub bytes : length p.value ≡ wanted.bytes

-- ---- ends

abbrev pub has_ended : SplitPlace → Bool
has_ended Done = true
has_ended Full = true
has_ended place = false

-- a move is made in the order of a split; else the split stands where it stood
abbrev pub Goes : {F : Type 0} → Progress F → SplitView → SplitView → Type 0
Goes (Moved kind) old new = IsMove old.whole old.depth old.place kind new.place
Goes did old new = new ≡ old

-- what is split and for what stays, it has ended at two places alone, and writes no record
pub record KeepsAim {F : Type 0} (did : Progress F) (old new : SplitView) : Type 0 where
  pub task : new ≡ record old { depth = new.depth; place = new.place }
  pub goes : Goes did old new
  pub ended : (did ≡ Ended) ↔ IsTrue (has_ended old.place)
  pub no_record : did ≡ Moved WriteRecord → ⊥

-- it comes to `Full` from its first place alone, by a step after which the record has no room
abbrev pub FullMeans : (RecordKey → ℕ) → Pair → SplitPlace → SplitPlace → World → Type 0
FullMeans hash p TakePage Full after = HasNoRoom hash p after
FullMeans hash p Full Full after = ⊤
FullMeans hash p place Full after = ⊥
FullMeans hash p place place' after = ⊤

-- ---- the steps that are left, if no other seat steps

-- one for each page of the directory that may be to come, and one for each place behind
abbrev pub left_at : SplitPlace → ℕ
left_at TakePage = (DIRECTORY_PAGES + 4) + (DIRECTORY_PAGES + 2)
left_at (CopyDirectory new page) = (DIRECTORY_PAGES + 4) + (DIRECTORY_PAGES + 1 - page)
left_at (RaiseDepth new) = DIRECTORY_PAGES + 4
left_at (WriteNew new) = DIRECTORY_PAGES + 3
left_at (WriteOld new) = DIRECTORY_PAGES + 2
left_at (Retarget new entry) = 1 + (DIRECTORY_PAGES + 1 - page_of entry)
left_at (SetCounts new) = 1
left_at Done = 0
left_at Full = 0

abbrev pub steps_left : SplitView → ℕ
steps_left v = left_at v.place

-- a fault is the device's, and changes no page
pub record IsSparingFault (pool pool' : PoolState) (fault : FileFault) : Type 0 where
  pub devices : IsDevicesFault pool pool' fault
  pub images : pool'.images ≡ pool.images

-- a move brings the end nearer
abbrev pub Progresses : Progress FileFault → SplitView → SplitView → PoolState → PoolState → Type 0
Progresses (Moved kind) old new pool pool' = steps_left new < steps_left old
Progresses (Fault fault) old new pool pool' = IsSparingFault pool pool' fault
Progresses did old new pool pool' = ⊤
