-- What a crash may leave of files in memory, now and since a moment.
use Rattle.std.specs.Prelude.{◌≡◌, ◌⊎◌, ℕ, ◌≤◌, List, [], ◌∷◌, length, drop, take}
use mathlib.Core.Logic.{inl, inr}
use mathlib.Core.Path.{refl}
use Rattle.safe_device.specs.Crash.{IsTornAt, IsLongerBy}
use Rattle.safe_device.specs.Left.{Left}
use Rattle.safe_device.specs.declared.snapshot.FileChange.{FileChange}
use Rattle.safe_device.specs.declared.snapshot.FileChange.TheVariants.{Stored, Added, Cut}
use Rattle.safe_device.specs.Safe.{IsAtRest}
use Rattle.safe_device.specs.declared.memory.MemPair.{MemPair}
use Rattle.safe_device.specs.declared.snapshot.Snapshot.{Snapshot}

-- a change is met in full, in part or not at all
abbrev pub Meets : FileChange → List (List ℕ) → List (List ℕ) → Type 0
Meets (Stored page) old new = IsTornAt page old new
Meets Added old new = IsLongerBy old new
Meets (Cut pages) old new = (end : ℕ) × (pages ≤ end) × (new ≡ take end old)

-- each change, in order, is met in full, in part or not at all
abbrev pub FileMay : List FileChange → List (List ℕ) → List (List ℕ) → Type 0
FileMay [] old new = new ≡ old
FileMay (change ∷ changes) old new = (mid : List (List ℕ)) × Meets change old mid × FileMay changes mid new

-- the files as a read gives them
abbrev pub left_of : Snapshot → Left
left_of s = record { file = s.seen_file; journal = s.seen_journal }

-- the file has what was written, or of each change since the sync any part; the journal what was written or synced
abbrev pub MayLeave : Snapshot → Left → Type 0
MayLeave s c =
    ((c.file ≡ s.seen_file) ⊎ FileMay s.changes s.synced_file c.file)
    × ((c.journal ≡ s.seen_journal) ⊎ (c.journal ≡ s.synced_journal))

-- one of them may have left it
abbrev pub MightLeave : List Snapshot → Left → Type 0
MightLeave [] c = ⊥
MightLeave (s ∷ past) c = MayLeave s c ⊎ MightLeave past c

-- what there is now may leave it, or what there was since
abbrev pub Since : List Snapshot → Snapshot → ℕ → Left → Type 0
Since past now t c = MayLeave now c ⊎ MightLeave (drop t past) c

none_left : (past : List Snapshot) (c : Left) → MightLeave (drop (length past) past) c → ⊥
none_left [] c had = had
none_left (s ∷ past) c had = none_left past c had

pub only : (past : List Snapshot) (now : Snapshot) (c : Left) → Since past now (length past) c → MayLeave now c
only past now c (inl here) = here
only past now c (inr had) = absurd (none_left past c had)

pub counts : (past : List Snapshot) (now : Snapshot) (t : ℕ) (c : Left) → MayLeave now c → Since past now t c
counts past now t c here = inl here

pub seen_stays : (s : Snapshot) → MayLeave s (left_of s)
seen_stays s = (inl refl, inl refl)

-- there is no journal, and a crash leaves what a read gives
abbrev pub IsQuiet : MemPair → Type 0
IsQuiet m = IsAtRest (λ (p : MemPair). p.newest.seen_file) (λ (p : MemPair). p.newest.seen_journal)
    (λ (p : MemPair) (c : Left). MayLeave p.newest c) m
