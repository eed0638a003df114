-- What a machine asks for while it searches is what its seat knows.
use Rattle.std.proofs.Common.{ℕ, refl, inl, true, false, [], Some, None}
use Rattle.step_rules.specs.Searching.{IsAimed}
use Rattle.split_merge.proofs.MergeFactLemmas.{merge_aimed}
use Rattle.split_merge.proofs.of_stale_search.AimLemmas.{search_aimed}
use Rattle.split_merge.specs.stale_search.Searches.{ask_at}
use Rattle.split_merge.specs.stale_search.declared.place.SearchPlace.{SearchPlace}
use Rattle.split_merge.specs.stale_search.declared.place.SearchPlace.TheVariants.{GrantDirectory, ReadDepth, ReadEntry, GrantPage, ReleaseDirectory, Look, Hop, Found}
use Rattle.record_file.specs.Words.{RecordKey, LockKind, SearchView}
use Rattle.record_file.specs.Writers.{seen_at}
use Rattle.record_file.specs.BucketAccesses.{BucketView, ask_in, bucket_facts, facts_in, seen_by}
use Rattle.record_file.specs.declared.bucket_access.BucketStage.{BucketStage}
use Rattle.record_file.specs.declared.bucket_access.BucketStage.TheVariants.{Searching, Written, Ended as HasEnded}
use Rattle.record_file.specs.declared.bucket_access.Deed.{Deed}
use Rattle.record_file.specs.declared.bucket_access.Deed.TheVariants as deeds
use Rattle.record_file.specs.Deletes.{DeleteView, delete_facts, delete_turn, part}
use Rattle.split_merge.specs.Facts.{merge_facts, merge_turn}
use Rattle.split_merge.specs.Places.{MergeView}

seen_aimed : (place : SearchPlace) (kind : LockKind) (key : RecordKey) (k : ℕ) →
    IsAimed (ask_at place kind k) (seen_at place key k)
seen_aimed GrantDirectory kind key k = tt
seen_aimed ReadDepth kind key k = tt
seen_aimed (ReadEntry depth) kind key k = refl
seen_aimed (GrantPage n) kind key k = refl
seen_aimed (ReleaseDirectory n) kind key k = refl
seen_aimed (Look n) kind key k = refl
seen_aimed (Hop n) kind key k = inl refl
seen_aimed (Found n (Some bytes)) kind key k = refl
seen_aimed (Found n None) kind key k = refl

pub bucket_aimed : (deed : Deed) (b : BucketView) → IsAimed (ask_in b.stage b.search) (bucket_facts deed b)
bucket_aimed deed b = by b.stage
  where
    v : SearchView
    v = b.search

    searching : (deed : Deed) → IsAimed (ask_in Searching v) (seen_by deed v)
    searching deeds.Find = search_aimed v.place v.kind v.pseudokey
    searching deeds.Put = seen_aimed v.place v.kind v.key v.pseudokey
    searching deeds.Replace = seen_aimed v.place v.kind v.key v.pseudokey
    searching deeds.Remove = seen_aimed v.place v.kind v.key v.pseudokey

    by : (stage : BucketStage) → IsAimed (ask_in stage v) (facts_in deed stage v)
    by Searching = searching deed
    by (Written n due) = tt
    by (HasEnded due) = tt

pub delete_aimed : (d : DeleteView) → IsAimed (delete_turn d).ask (delete_facts d)
delete_aimed d = by d.removal.stage
  where
    v : SearchView
    v = d.removal.search

    m : MergeView
    m = d.merge

    by : (stage : BucketStage) → IsAimed (part stage (ask_in stage v) None (merge_turn m).ask)
        (part stage (facts_in deeds.Remove stage v) [] (merge_facts m))
    by Searching = seen_aimed v.place v.kind v.key v.pseudokey
    by (Written n due) = tt
    by (HasEnded true) = merge_aimed m.place m.approach (merge_facts m)
    by (HasEnded false) = tt
