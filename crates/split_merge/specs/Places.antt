-- What a merge is, and what it holds at each place. docs/STEPS.md, "Merge".
use Rattle.std.specs.Prelude.{ℕ, ◌≡◌, ◌≢◌, ◌≤◌, ◌<◌, ◌+◌, ◌*◌, ◌^◌, ◌⊎◌, nat_lt, Bool, true, false, List, if◌then◌else◌, ⊤}
use Rattle.directory.specs.declared.pseudokey.TheConstants.{PSEUDOKEY_BITS}
use Rattle.split_merge.specs.MergeWords.{RecordKey, Range, IsRange, Covers, is_lower, parent_of, upper_half_of, GREATEST_DEPTH, PAGE_ENTRIES, MERGED_BYTES, Lock, Selective, Exclusive, ApproachView, approach_locks, EndsRow, in_directory, on_page, Own, Buddies, Joint, MergePlace, Approaching, ReadBuddy, GrantRight, GiveBack, GrantLeft, GrantRightAgain, LookLeft, LookRight, WriteLeft, Tombstone, Retarget, SetCounts, ReleaseRight, ReleaseLeft, Convert, GrantAlone, WriteFree, LinkFree, LowerDepth, ReleaseAlone, GiveUpRight, GiveUp, ReleaseDirectory, Done}

pub record MergeView : Type 0 where
  pub key : RecordKey
  -- how it comes to the bucket of its key
  pub approach : ApproachView
  pub place : MergePlace

-- the same merge at another place
abbrev pub at : MergePlace → MergeView → MergeView
at place v = record v { place = place }

-- ---- what is always so of a place, whatever the device gives

-- a range has a buddy
pub record HasBuddy (range : Range) : Type 0 where
  pub valid : IsRange range
  pub deep : 1 ≤ range.depth

pub record IsOwn (o : Own) : Type 0 where
  pub depth : o.depth ≤ GREATEST_DEPTH
  pub range : HasBuddy o.range

pub record AreBuddies (b : Buddies) : Type 0 where
  pub depth : b.depth ≤ GREATEST_DEPTH
  pub range : HasBuddy b.range
  pub apart : b.left ≢ b.right

pub record IsJoint (j : Joint) : Type 0 where
  pub depth : j.depth ≤ GREATEST_DEPTH
  pub whole : IsRange j.whole
  pub shallow : j.whole.depth < PSEUDOKEY_BITS
  pub apart : j.left ≢ j.right

-- an entry of the right page's range
pub record HasEntry (j : Joint) (entry : ℕ) : Type 0 where
  pub joint : IsJoint j
  pub below : entry < 2 ^ j.depth
  pub covered : Covers (upper_half_of j.whole) entry

abbrev pub IsMergePlace : MergePlace → Type 0
IsMergePlace (ReadBuddy o) = IsOwn o
IsMergePlace (GrantRight b seen) = AreBuddies b
IsMergePlace (GiveBack b) = AreBuddies b
IsMergePlace (GrantLeft b) = AreBuddies b
IsMergePlace (GrantRightAgain b) = AreBuddies b
IsMergePlace (LookLeft b) = AreBuddies b
IsMergePlace (LookRight b seen) = AreBuddies b
IsMergePlace (WriteLeft b left right) = AreBuddies b × (left.used + right.used ≤ MERGED_BYTES)
IsMergePlace (Tombstone j) = IsJoint j
IsMergePlace (Retarget j entry) = HasEntry j entry
IsMergePlace (SetCounts j) = IsJoint j
IsMergePlace (ReleaseRight j) = IsJoint j
IsMergePlace (ReleaseAlone depth count) = (depth ≡ 0) ⊎ (count ≢ 0)
IsMergePlace (GiveUpRight left right) = left ≢ right
IsMergePlace place = ⊤

-- ---- the pages

-- the page of the key's bucket
abbrev pub own_of : Buddies → ℕ
own_of b = if is_lower b.range then b.left else b.right

-- and that of its buddy
abbrev pub other_of : Buddies → ℕ
other_of b = if is_lower b.range then b.right else b.left

-- the key's bucket with its buddy, as the left one and the right one
abbrev pub beside : Own → (left right : ℕ) → Buddies
beside o left right = record {
  depth = o.depth;
  range = o.range;
  next = o.seen.next;
  left = left;
  right = right;
}

-- the one that both become
abbrev pub joint_of : Buddies → Joint
joint_of b = record { depth = b.depth; left = b.left; right = b.right; whole = parent_of b.range }

-- ---- the pages of the directory that have an entry of the right range, in ascending order

-- the first entry
abbrev pub first_entry : Joint → ℕ
first_entry j = (upper_half_of j.whole).pattern

-- entries of the range are so far apart; on one page one is enough
abbrev pub stride_of : Joint → ℕ
stride_of j = if nat_lt (2 * 2 ^ j.whole.depth) PAGE_ENTRIES then PAGE_ENTRIES else 2 * 2 ^ j.whole.depth

abbrev pub entry_behind : Joint → ℕ → ℕ
entry_behind j entry = entry + stride_of j

-- where a merge goes on after its tombstone, or behind a page of the directory: to the page with this entry, if the
-- directory has it
abbrev pub retargets_from : Joint → ℕ → MergePlace
retargets_from j entry = if nat_lt entry (2 ^ j.depth) then Retarget j entry else SetCounts j

-- ---- locks

-- the left page is granted first
abbrev pub on_both : (left right : ℕ) → List Lock → List Lock
on_both left right before = on_page right Selective (on_page left Selective (in_directory Selective before))

abbrev pub on_one : ℕ → List Lock → List Lock
on_one page before = on_page page Selective (in_directory Selective before)

-- alone in the directory, and alone on the page
abbrev pub alone_on : ℕ → List Lock → List Lock
alone_on page before = on_page page Exclusive (in_directory Exclusive before)

abbrev pub locks_at : MergePlace → ApproachView → List Lock → List Lock
locks_at Approaching a before = approach_locks a before
locks_at (ReadBuddy o) a before = on_one o.page before
locks_at (GrantRight b seen) a before = on_one b.left before
locks_at (GiveBack b) a before = on_one b.right before
locks_at (GrantLeft b) a before = in_directory Selective before
locks_at (GrantRightAgain b) a before = on_one b.left before
locks_at (LookLeft b) a before = on_both b.left b.right before
locks_at (LookRight b seen) a before = on_both b.left b.right before
locks_at (WriteLeft b left right) a before = on_both b.left b.right before
locks_at (Tombstone j) a before = on_both j.left j.right before
locks_at (Retarget j entry) a before = on_both j.left j.right before
locks_at (SetCounts j) a before = on_both j.left j.right before
locks_at (ReleaseRight j) a before = on_both j.left j.right before
locks_at (ReleaseLeft j) a before = on_one j.left before
locks_at (Convert j) a before = in_directory Selective before
locks_at (GrantAlone j) a before = in_directory Exclusive before
locks_at (WriteFree j) a before = alone_on j.right before
locks_at (LinkFree page) a before = alone_on page before
locks_at (LowerDepth page) a before = alone_on page before
locks_at (ReleaseAlone depth count) a before = in_directory Exclusive before
locks_at (GiveUpRight left right) a before = on_both left right before
locks_at (GiveUp page) a before = on_one page before
locks_at ReleaseDirectory a before = in_directory Selective before
locks_at Done a before = before

-- its locks, behind those that the seat had before
abbrev pub merge_locks : MergeView → List Lock → List Lock
merge_locks v before = locks_at v.place v.approach before

-- it holds three locks at most
abbrev pub HasMergeRow : MergeView → List Lock → Type 0
HasMergeRow v row = EndsRow (merge_locks v) 3 row

-- ---- its end

abbrev pub is_done : MergePlace → Bool
is_done Done = true
is_done place = false

-- it has turned away, and gives back what it holds
abbrev pub is_given_up : MergePlace → Bool
is_given_up (GiveUpRight left right) = true
is_given_up (GiveUp page) = true
is_given_up ReleaseDirectory = true
is_given_up place = false
