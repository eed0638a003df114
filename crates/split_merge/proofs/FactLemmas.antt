-- A split is on no search.
use Rattle.step_rules.proofs.SearchLemmas.{KnowsNoWay}
use Rattle.split_merge.specs.Splits.{SplitView, facts_at}
use Rattle.split_merge.specs.Words.{SplitPlace, TakePage, CopyDirectory, RaiseDepth, WriteNew, WriteOld, Retarget, SetCounts, Done, Full}

pub split_knows_no_way : (place : SplitPlace) (v : SplitView) → KnowsNoWay (facts_at place v)
split_knows_no_way TakePage v = tt
split_knows_no_way (CopyDirectory new page) v = tt
split_knows_no_way (RaiseDepth new) v = tt
split_knows_no_way (WriteNew new) v = tt
split_knows_no_way (WriteOld new) v = tt
split_knows_no_way (Retarget new entry) v = tt
split_knows_no_way (SetCounts new) v = tt
split_knows_no_way Done v = tt
split_knows_no_way Full v = tt
