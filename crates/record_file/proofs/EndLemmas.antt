-- A write that has ended has written.
use Rattle.std.proofs.Common.{◌≡◌, refl, sym, ◌∙◌, Bool, true, false, Option}
use Rattle.std.proofs.lemmas.Bool.{true≢false}
use Rattle.record_file.specs.split_merge.declared.merge_place.MergePlace.{MergePlace}
use Rattle.record_file.specs.Deletes.{IsOver}
use Rattle.record_file.specs.BucketAccesses.{has_ended, has_searched as bucket_has_searched}
use Rattle.record_file.specs.declared.bucket_access.BucketStage.{BucketStage}
use Rattle.record_file.specs.declared.bucket_access.BucketStage.TheVariants.{Searching, Written, Ended}
use Rattle.record_file.specs.declared.operation.RecordOperation.TheVariants as operations
use Rattle.record_file.specs.AccessWords.{HasEnded, Record, RecordOperation, has_searched, Write, Replace, Relink, Delete}
use Rattle.record_file.specs.Purposes.{ToWrite}
use Rattle.record_file.specs.Accesses.{AccessView, Allows, IsOfKind, Serves}

over_searched : (stage : BucketStage) (place : MergePlace) → IsOver stage place → bucket_has_searched stage ≡ true
over_searched Searching place over = absurd over
over_searched (Written n due) place over = absurd over
over_searched (Ended due) place over = refl

bucket_searched : (stage : BucketStage) → has_ended stage ≡ true → bucket_has_searched stage ≡ true
bucket_searched Searching over = absurd cc
bucket_searched (Written n due) over = refl
bucket_searched (Ended due) over = refl

-- one that has ended has its search behind it
ended_searched : (write : Write) (o : RecordOperation) → IsOfKind (ToWrite write) o → HasEnded o →
    has_searched o ≡ true
ended_searched (Replace r) (operations.Find f) kind ended = absurd kind
ended_searched (Replace r) (operations.Insert i) kind ended = absurd kind
ended_searched (Replace r) (operations.Replace q) kind ended = bucket_searched q.stage ended
ended_searched (Replace r) (operations.Delete d) kind ended = absurd kind
ended_searched (Relink key links) (operations.Find f) kind ended = absurd kind
ended_searched (Relink key links) (operations.Insert i) kind ended = absurd kind
ended_searched (Relink key links) (operations.Replace q) kind ended = bucket_searched q.stage ended
ended_searched (Relink key links) (operations.Delete d) kind ended = absurd kind
ended_searched (Delete key) (operations.Find f) kind ended = absurd kind
ended_searched (Delete key) (operations.Insert i) kind ended = absurd kind
ended_searched (Delete key) (operations.Replace q) kind ended = absurd kind
ended_searched (Delete key) (operations.Delete d) kind ended =
    over_searched d.removal.stage d.merge.place ended

pub ended_written : (write : Write) (a : AccessView) (found : Option Record) → Serves (ToWrite write) a →
    Allows (ToWrite write) a found → HasEnded a.operation → a.written ≡ true
ended_written write a found serves allows ended = by a.written refl
  where
    by : (b : Bool) → a.written ≡ b → a.written ≡ true
    by true is = is
    by false is =
        absurd (true≢false (sym (ended_searched write a.operation serves.kind ended) ∙ (allows.due is).searches))
