-- In which order the pages of the directory are gone through, and what a place may say. docs/STEPS.md, "Split".
use Rattle.std.specs.Prelude.{ℕ, suc, ◌≡◌, ◌+◌, ◌^◌, ◌<◌, ◌≤◌, nat_lt, if◌then◌else◌, ⊤}
use Rattle.step_rules.specs.declared.kind.Kind.{Kind}
use Rattle.step_rules.specs.declared.kind.Kind.TheVariants as kinds
use Rattle.split_merge.specs.Words.{Range, Covers, upper_half_of, SplitPlace, TakePage, CopyDirectory, RaiseDepth, WriteNew, WriteOld, Retarget, SetCounts, Done, Full}
use Rattle.split_merge.specs.Entries.{first_upper, last_upper, stride}

-- what a place may say, where the bucket had this range and the directory has this depth
abbrev pub IsPlaced : Range → ℕ → SplitPlace → Type 0
IsPlaced whole depth TakePage = ⊤
IsPlaced whole depth (CopyDirectory new page) =
    (depth ≤ whole.depth) × (first_upper depth ≤ page) × (page ≤ last_upper depth)
IsPlaced whole depth (RaiseDepth new) = depth ≤ whole.depth
IsPlaced whole depth (WriteNew new) = whole.depth < depth
IsPlaced whole depth (WriteOld new) = whole.depth < depth
IsPlaced whole depth (Retarget new entry) =
    (whole.depth < depth) × (entry < 2 ^ depth) × Covers (upper_half_of whole) entry
IsPlaced whole depth (SetCounts new) = ⊤
IsPlaced whole depth Done = ⊤
IsPlaced whole depth Full = ⊤

-- a bucket that is as deep as the directory needs it doubled
abbrev pub after_take : Range → ℕ → ℕ → SplitPlace
after_take whole depth new =
    if nat_lt whole.depth depth then WriteNew new else CopyDirectory new (first_upper depth)

abbrev pub after_copy : ℕ → ℕ → ℕ → SplitPlace
after_copy depth new page =
    if nat_lt page (last_upper depth) then CopyDirectory new (page + 1) else RaiseDepth new

abbrev pub after_retarget : Range → ℕ → ℕ → ℕ → SplitPlace
after_retarget whole depth new entry =
    let next : ℕ = entry + stride (suc whole.depth) in
    if nat_lt next (2 ^ depth) then Retarget new next else SetCounts new

-- which step is made at a place, and the place behind it: the order of docs/STEPS.md, "Split"
abbrev pub IsMove : Range → ℕ → SplitPlace → Kind → SplitPlace → Type 0
IsMove whole depth TakePage kinds.TakePage next = (new : ℕ) × (next ≡ after_take whole depth new)
IsMove whole depth TakePage kinds.Release next = next ≡ Full
IsMove whole depth (CopyDirectory new page) kinds.CopyDirectory next = next ≡ after_copy depth new page
IsMove whole depth (RaiseDepth new) kinds.RaiseDepth next = next ≡ WriteNew new
IsMove whole depth (WriteNew new) kinds.WriteNew next = next ≡ WriteOld new
IsMove whole depth (WriteOld new) kinds.WriteOld next = next ≡ Retarget new (upper_half_of whole).pattern
IsMove whole depth (Retarget new entry) kinds.Retarget next = next ≡ after_retarget whole depth new entry
IsMove whole depth (SetCounts new) kinds.SetCounts next = next ≡ Done
IsMove whole depth place kind next = ⊥
