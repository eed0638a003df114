-- A second try has few steps left.
use Rattle.std.proofs.Common.{ℕ, ◌+◌, ◌≤◌, arith}
use Rattle.split_merge.specs.stale_search.Approaches.{approach_left_at}
use Rattle.split_merge.specs.stale_search.declared.place.ApproachPlace.{ApproachPlace}
use Rattle.split_merge.specs.stale_search.declared.place.ApproachPlace.TheVariants as way
use Rattle.split_merge.specs.Splits.{left_at as split_left_at}
use Rattle.split_merge.specs.declared.place.SplitPlace.{SplitPlace}
use Rattle.split_merge.specs.declared.place.SplitPlace.TheVariants as to
use Rattle.record_file.specs.InsertWords.{Store, SecondPlace, Approaching, Look, Hop, Write, Splitting, GiveBackPage, GiveBackDirectory, HasEnded}
use Rattle.record_file.specs.SecondTries.{SPLIT_STEPS, left_at}
use Rattle.record_file.specs.Inserts.{SECOND_STEPS}
use Rattle.record_file.proofs.HomeLemmas.{look_is_less}

few_on_way : (place : ApproachPlace) → approach_left_at place ≤ 4
few_on_way way.GrantDirectory = omega arith
few_on_way way.ReadDepth = omega arith
few_on_way (way.ReadEntry depth) = omega arith
few_on_way (way.GrantPage depth n) = omega arith
few_on_way (way.At depth n) = omega arith

few_in_split : (place : SplitPlace) → split_left_at place + 8 ≤ SPLIT_STEPS
few_in_split to.TakePage = omega arith
few_in_split (to.CopyDirectory new page) = omega arith
few_in_split (to.RaiseDepth new) = omega arith
few_in_split (to.WriteNew new) = omega arith
few_in_split (to.WriteOld new) = omega arith
few_in_split (to.Retarget new entry) = omega arith
few_in_split (to.SetCounts new) = omega arith
few_in_split to.Done = omega arith
few_in_split to.Full = omega arith

pub few_left : (place : SecondPlace) (k : ℕ) (s : Store) → left_at place k s ≤ SECOND_STEPS
few_left (Approaching a) k s = omega (arith, few_on_way a.place)
few_left (Look depth n) k s = omega (arith, look_is_less s n k)
few_left (Hop depth n) k s = omega arith
few_left (Write n used) k s = omega arith
few_left (Splitting n v) k s = omega (arith, few_in_split v.place)
few_left (GiveBackPage n tried) k s = omega arith
few_left (GiveBackDirectory tried) k s = omega arith
few_left (HasEnded tried) k s = omega arith
