-- A second try is on no search.
use Rattle.std.proofs.Common.{ℕ, List, inr}
use Rattle.record_file.proofs.AimLemmas.{bucket_aimed}
use Rattle.record_file.proofs.of_split_merge.MergeFactLemmas.{approach_aimed, approach_knows_no_way}
use Rattle.record_file.specs.declared.bucket_access.Deed.TheVariants as deeds
use Rattle.step_rules.specs.Searching.{IsAimed}
use Rattle.record_file.specs.Inserts.{InsertView, ask_in, facts_in, insert_facts, insert_turn}
use Rattle.record_file.specs.declared.insert.InsertStage.{InsertStage}
use Rattle.record_file.specs.declared.insert.InsertStage.TheVariants.{First, Second}
use Rattle.record_file.proofs.of_step_rules.SearchLemmas.{KnowsNoWay}
use Rattle.split_merge.proofs.FactLemmas.{split_knows_no_way}
use Rattle.record_file.specs.SecondTries.{ask_at, facts_at}
use Rattle.record_file.specs.InsertWords.{RecordKey, SecondPlace, Approaching, Look, Hop, Write, Splitting, GiveBackPage, GiveBackDirectory, HasEnded}

pub second_knows_no_way : (place : SecondPlace) (key : RecordKey) (k : ℕ) → KnowsNoWay (facts_at place key k)
second_knows_no_way (Approaching a) key k = approach_knows_no_way a.place a.pseudokey
second_knows_no_way (Look depth n) key k = tt
second_knows_no_way (Hop depth n) key k = tt
second_knows_no_way (Write n used) key k = tt
second_knows_no_way (Splitting n v) key k = split_knows_no_way v.place v
second_knows_no_way (GiveBackPage n tried) key k = tt
second_knows_no_way (GiveBackDirectory tried) key k = tt
second_knows_no_way (HasEnded tried) key k = tt

-- it hops after a split of its own alone
second_aimed : (place : SecondPlace) (key : RecordKey) (k : ℕ) → IsAimed (ask_at place k) (facts_at place key k)
second_aimed (Approaching a) key k = approach_aimed a.place _
second_aimed (Look depth n) key k = tt
second_aimed (Hop depth n) key k = inr tt
second_aimed (Write n used) key k = tt
second_aimed (Splitting n v) key k = tt
second_aimed (GiveBackPage n tried) key k = tt
second_aimed (GiveBackDirectory tried) key k = tt
second_aimed (HasEnded tried) key k = tt

pub insert_aimed : (i : InsertView) (value : List ℕ) → IsAimed (insert_turn i value).ask (insert_facts i)
insert_aimed i value = by i.stage
  where
    by : (stage : InsertStage) → IsAimed (ask_in stage) (facts_in stage)
    by (First t said) = bucket_aimed deeds.Put t
    by (Second t) = second_aimed t.place t.key t.pseudokey
