-- What a merge knows and asks for at each place, and the steps that it has left. docs/STEPS.md, "Merge".
use Rattle.std.specs.Prelude.{ℕ, ◌+◌, ◌-◌, List, [], ◌∷◌, Option, Some, None}
use Rattle.hash_file.specs.Changes.{Remove}
use Rattle.split_merge.specs.MergeWords.{parent_of, buddy_of, lower_half_of, upper_half_of, ROOT_PAGE, page_of, Selective, Exclusive, Page, Store, Quiet, Absorbed, Buried, Drained, Freed, Using, InPhase, HasDepth, HasCount, Retargeted, Shaped, BucketOf, Known, OnPage, Built, Ask, ForLock, ToExclusive, Turn, ApproachView, approach_facts, approach_turn, approach_left, Seen, Own, Buddies, Joint, MergePlace, Approaching, ReadBuddy, GrantRight, GiveBack, GrantLeft, GrantRightAgain, LookLeft, LookRight, WriteLeft, Tombstone, Retarget, SetCounts, ReleaseRight, ReleaseLeft, Convert, GrantAlone, WriteFree, LinkFree, LowerDepth, ReleaseAlone, GiveUpRight, GiveUp, ReleaseDirectory, Done}
use Rattle.split_merge.specs.Places.{MergeView, own_of, other_of}

-- ---- facts

-- no change is under way, the directory is so deep, and the page is the bucket of the pseudokey
abbrev pub quiet_facts : (depth page k : ℕ) → List Known → List Known
quiet_facts depth page k facts =
    Built (InPhase Quiet) ∷ Built (HasDepth depth) ∷ Built (BucketOf k page) ∷ facts

abbrev pub own_facts : Own → ℕ → List Known
own_facts o k = quiet_facts o.depth o.page k
    (Built (Shaped o.page o.range o.seen.next) ∷ OnPage o.page (Using o.seen.used) ∷ [])

-- and the buddy is the bucket of the pattern with the last bit turned
abbrev pub buddy_facts : Buddies → ℕ → List Known → List Known
buddy_facts b k facts = quiet_facts b.depth (own_of b) k
    (Built (Shaped (own_of b) b.range b.next) ∷ Built (BucketOf (buddy_of b.range).pattern (other_of b)) ∷ facts)

-- the left page, which is locked, is the lower half
abbrev pub left_facts : Buddies → Seen → List Known → List Known
left_facts b seen facts =
    Built (Shaped b.left (lower_half_of (parent_of b.range)) seen.next) ∷ OnPage b.left (Using seen.used) ∷ facts

-- and the right one the upper half
abbrev pub right_facts : Buddies → Seen → List Known
right_facts b seen =
    Built (Shaped b.right (upper_half_of (parent_of b.range)) seen.next) ∷ OnPage b.right (Using seen.used) ∷ []

-- after WriteLeft the phase says what is so of the pages. Entries of the right range that stand before this page name
-- the left one
abbrev pub buried_facts : Joint → ℕ → List Known
buried_facts j page = Built (InPhase (Buried j.left j.right j.whole)) ∷ Built (HasDepth j.depth)
    ∷ Built (Retargeted (upper_half_of j.whole) j.left page) ∷ []

abbrev pub drained_facts : Joint → List Known
drained_facts j = Built (InPhase (Drained j.left j.right)) ∷ []

abbrev pub facts_at : MergePlace → ApproachView → List Known
facts_at Approaching a = approach_facts a
facts_at (ReadBuddy o) a = own_facts o a.pseudokey
facts_at (GrantRight b seen) a = buddy_facts b a.pseudokey (left_facts b seen [])
facts_at (GiveBack b) a = buddy_facts b a.pseudokey []
facts_at (GrantLeft b) a = buddy_facts b a.pseudokey []
facts_at (GrantRightAgain b) a = buddy_facts b a.pseudokey []
facts_at (LookLeft b) a = buddy_facts b a.pseudokey []
facts_at (LookRight b seen) a = buddy_facts b a.pseudokey (left_facts b seen [])
facts_at (WriteLeft b left right) a = buddy_facts b a.pseudokey (left_facts b left (right_facts b right))
facts_at (Tombstone j) a = Built (InPhase (Absorbed j.left j.right j.whole)) ∷ Built (HasDepth j.depth) ∷ []
facts_at (Retarget j entry) a = buried_facts j (page_of entry)
facts_at (SetCounts j) a = buried_facts j ROOT_PAGE
facts_at (ReleaseRight j) a = drained_facts j
facts_at (ReleaseLeft j) a = drained_facts j
facts_at (Convert j) a = drained_facts j
facts_at (GrantAlone j) a = drained_facts j
facts_at (WriteFree j) a = drained_facts j
facts_at (LinkFree page) a = Built (InPhase (Freed page)) ∷ []
facts_at (LowerDepth page) a = Built (InPhase Quiet) ∷ []
facts_at (ReleaseAlone depth count) a =
    Built (InPhase Quiet) ∷ Built (HasDepth depth) ∷ Built (HasCount depth count) ∷ []
facts_at (GiveUpRight left right) a = Built (InPhase Quiet) ∷ []
facts_at (GiveUp page) a = Built (InPhase Quiet) ∷ []
facts_at ReleaseDirectory a = Built (InPhase Quiet) ∷ []
facts_at Done a = []

abbrev pub merge_facts : MergeView → List Known
merge_facts v = facts_at v.place v.approach

-- ---- turns

abbrev pub ask_at : MergePlace → ApproachView → Option Ask
ask_at Approaching a = (approach_turn a None).ask
ask_at (GrantRight b seen) a = Some (ForLock (Page b.right) Selective)
ask_at (GrantLeft b) a = Some (ForLock (Page b.left) Selective)
ask_at (GrantRightAgain b) a = Some (ForLock (Page b.right) Selective)
ask_at (Convert j) a = Some ToExclusive
ask_at (GrantAlone j) a = Some (ForLock (Page j.right) Exclusive)
ask_at place a = None

-- it follows the removal of its key
abbrev pub merge_turn : MergeView → Turn
merge_turn v = record { ask = ask_at v.place v.approach; write = Some (Remove v.key) }

-- ---- the steps that are left, if no other seat steps

-- one for each page of the directory from that of the entry on, and one for each bit of the depth
abbrev pub left_at : MergePlace → ApproachView → Store → ℕ
left_at Approaching a s = approach_left a + 291
left_at (ReadBuddy o) a s = 290
left_at (GiveBack b) a s = 289
left_at (GrantLeft b) a s = 288
left_at (GrantRightAgain b) a s = 287
left_at (LookLeft b) a s = 286
left_at (GrantRight b seen) a s = 286
left_at (LookRight b seen) a s = 285
left_at (WriteLeft b left right) a s = 284
left_at (Tombstone j) a s = 283
left_at (Retarget j entry) a s = (ROOT_PAGE - page_of entry) + 26
left_at (SetCounts j) a s = 26
left_at (ReleaseRight j) a s = 25
left_at (ReleaseLeft j) a s = 24
left_at (Convert j) a s = 23
left_at (GrantAlone j) a s = 22
left_at (WriteFree j) a s = 21
left_at (LinkFree page) a s = 20
left_at (LowerDepth page) a s = s.header.depth + 2
left_at (ReleaseAlone depth count) a s = 1
left_at (GiveUpRight left right) a s = 3
left_at (GiveUp page) a s = 2
left_at ReleaseDirectory a s = 1
left_at Done a s = 0

abbrev pub steps_left : MergeView → Store → ℕ
steps_left v s = left_at v.place v.approach s
