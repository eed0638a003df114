-- A merge is on no search.
use Rattle.std.proofs.Common.{ℕ, List}
use Rattle.step_rules.proofs.SearchLemmas.{KnowsNoWay}
use Rattle.step_rules.specs.Known.{Known}
use Rattle.step_rules.specs.Searching.{IsAimed}
use Rattle.stale_search.specs.Approaches.{ApproachView, approach_ask_at, approach_facts_at}
use Rattle.stale_search.specs.declared.place.ApproachPlace.{ApproachPlace}
use Rattle.stale_search.specs.declared.place.ApproachPlace.TheVariants.{GrantDirectory, ReadDepth, ReadEntry, GrantPage, At}
use Rattle.split_merge.specs.Facts.{ask_at, facts_at}
use Rattle.split_merge.specs.MergeWords.{MergePlace, Approaching, ReadBuddy, GrantRight, GiveBack, GrantLeft, GrantRightAgain, LookLeft, LookRight, WriteLeft, Tombstone, Retarget, SetCounts, ReleaseRight, ReleaseLeft, Convert, GrantAlone, WriteFree, LinkFree, LowerDepth, ReleaseAlone, GiveUpRight, GiveUp, ReleaseDirectory, Done}

pub approach_knows_no_way : (p : ApproachPlace) (k : ℕ) → KnowsNoWay (approach_facts_at p k)
approach_knows_no_way GrantDirectory k = tt
approach_knows_no_way ReadDepth k = tt
approach_knows_no_way (ReadEntry depth) k = tt
approach_knows_no_way (GrantPage depth n) k = tt
approach_knows_no_way (At depth n) k = tt

pub merge_knows_no_way : (place : MergePlace) (a : ApproachView) → KnowsNoWay (facts_at place a)
merge_knows_no_way Approaching a = approach_knows_no_way a.place a.pseudokey
merge_knows_no_way (ReadBuddy o) a = tt
merge_knows_no_way (GrantRight b seen) a = tt
merge_knows_no_way (GiveBack b) a = tt
merge_knows_no_way (GrantLeft b) a = tt
merge_knows_no_way (GrantRightAgain b) a = tt
merge_knows_no_way (LookLeft b) a = tt
merge_knows_no_way (LookRight b seen) a = tt
merge_knows_no_way (WriteLeft b left right) a = tt
merge_knows_no_way (Tombstone j) a = tt
merge_knows_no_way (Retarget j entry) a = tt
merge_knows_no_way (SetCounts j) a = tt
merge_knows_no_way (ReleaseRight j) a = tt
merge_knows_no_way (ReleaseLeft j) a = tt
merge_knows_no_way (Convert j) a = tt
merge_knows_no_way (GrantAlone j) a = tt
merge_knows_no_way (WriteFree j) a = tt
merge_knows_no_way (LinkFree page) a = tt
merge_knows_no_way (LowerDepth page) a = tt
merge_knows_no_way (ReleaseAlone depth count) a = tt
merge_knows_no_way (GiveUpRight left right) a = tt
merge_knows_no_way (GiveUp page) a = tt
merge_knows_no_way ReleaseDirectory a = tt
merge_knows_no_way Done a = tt

-- and asks for nothing of one
pub approach_aimed : (p : ApproachPlace) (facts : List Known) → IsAimed (approach_ask_at p) facts
approach_aimed GrantDirectory facts = tt
approach_aimed ReadDepth facts = tt
approach_aimed (ReadEntry depth) facts = tt
approach_aimed (GrantPage depth n) facts = tt
approach_aimed (At depth n) facts = tt

pub merge_aimed : (place : MergePlace) (a : ApproachView) (facts : List Known) → IsAimed (ask_at place a) facts
merge_aimed Approaching a facts = approach_aimed a.place facts
merge_aimed (ReadBuddy o) a facts = tt
merge_aimed (GrantRight b seen) a facts = tt
merge_aimed (GiveBack b) a facts = tt
merge_aimed (GrantLeft b) a facts = tt
merge_aimed (GrantRightAgain b) a facts = tt
merge_aimed (LookLeft b) a facts = tt
merge_aimed (LookRight b seen) a facts = tt
merge_aimed (WriteLeft b left right) a facts = tt
merge_aimed (Tombstone j) a facts = tt
merge_aimed (Retarget j entry) a facts = tt
merge_aimed (SetCounts j) a facts = tt
merge_aimed (ReleaseRight j) a facts = tt
merge_aimed (ReleaseLeft j) a facts = tt
merge_aimed (Convert j) a facts = tt
merge_aimed (GrantAlone j) a facts = tt
merge_aimed (WriteFree j) a facts = tt
merge_aimed (LinkFree page) a facts = tt
merge_aimed (LowerDepth page) a facts = tt
merge_aimed (ReleaseAlone depth count) a facts = tt
merge_aimed (GiveUpRight left right) a facts = tt
merge_aimed (GiveUp page) a facts = tt
merge_aimed ReleaseDirectory a facts = tt
merge_aimed Done a facts = tt
