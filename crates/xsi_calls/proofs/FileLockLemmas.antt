-- The locks of the file that a call holds are those of its access, behind its names.
use Rattle.std.proofs.Common.{ℕ, ◌≡◌, refl, sym, ap, ◌∙◌, true, false, List, [], ◌∷◌, ◌++◌, Option, Some, None, append-nil, append_assoc}
use Rattle.page_locks.proofs.RowLemmas.{first_kind, kind_of-append}
use Rattle.page_locks.specs.Locks.{kind_of}
use Rattle.page_locks.specs.declared.lock.LockKind.{LockKind}
use Rattle.page_locks.specs.declared.lock.LockKind.TheVariants.{Selective}
use Rattle.page_locks.specs.declared.lock.LockName.{LockName}
use Rattle.page_locks.specs.declared.lock.LockName.TheVariants.{Directory, Page}
use Rattle.call_writes.specs.record_file.AccessWords.{HasNoFileLock, operation_locks}
use Rattle.call_writes.specs.record_file.BucketAccesses.{locks_in as bucket_locks_in}
use Rattle.call_writes.specs.record_file.Deletes.{part}
use Rattle.call_writes.specs.record_file.Inserts.{locks_in as insert_locks_in}
use Rattle.call_writes.specs.record_file.SecondTries.{locks_at as second_locks_at}
use Rattle.call_writes.specs.record_file.declared.bucket_access.BucketStage.{BucketStage}
use Rattle.call_writes.specs.record_file.declared.bucket_access.BucketStage.TheVariants as stages
use Rattle.call_writes.specs.record_file.declared.insert.InsertStage.{InsertStage}
use Rattle.call_writes.specs.record_file.declared.insert.InsertStage.TheVariants as tries
use Rattle.call_writes.specs.record_file.declared.operation.RecordOperation.{RecordOperation}
use Rattle.call_writes.specs.record_file.declared.operation.RecordOperation.TheVariants as operations
use Rattle.call_writes.specs.record_file.declared.second_place.SecondPlace.{SecondPlace}
use Rattle.call_writes.specs.record_file.declared.second_place.SecondPlace.TheVariants as second
use Rattle.call_writes.specs.record_file.split_merge.Places.{locks_at as merge_locks_at}
use Rattle.call_writes.specs.record_file.split_merge.Splits.{locks_at as split_locks_at}
use Rattle.call_writes.specs.record_file.split_merge.declared.merge_place.MergePlace.{MergePlace}
use Rattle.call_writes.specs.record_file.split_merge.declared.merge_place.MergePlace.TheVariants as merge
use Rattle.call_writes.specs.record_file.split_merge.declared.place.SplitPlace.{SplitPlace}
use Rattle.call_writes.specs.record_file.split_merge.declared.place.SplitPlace.TheVariants as split
use Rattle.call_writes.specs.record_file.stale_search.Approaches.{ApproachView, approach_locks_at}
use Rattle.call_writes.specs.record_file.stale_search.Searches.{SearchView, locks_at}
use Rattle.call_writes.specs.record_file.stale_search.declared.place.ApproachPlace.{ApproachPlace}
use Rattle.call_writes.specs.record_file.stale_search.declared.place.ApproachPlace.TheVariants as approach
use Rattle.call_writes.specs.record_file.stale_search.declared.place.SearchPlace.{SearchPlace}
use Rattle.call_writes.specs.record_file.stale_search.declared.place.SearchPlace.TheVariants as search_at
use Rattle.xsi_calls.specs.FileLocks.{HoldTheirFileLocks, HoldsOfFile, bucket_directory, directory_under, insert_directory, merge_directory, operation_directory, search_directory, second_directory, approach_directory}
use Rattle.xsi_calls.specs.Machine.{CallView, access_under_way, asking_access, call_locks, locks_at as call_locks_at, under_way_at}
use Rattle.call_writes.specs.PaymentStages as payments
use Rattle.call_writes.specs.Payments.{payment_access, payment_locks}
use Rattle.xsi_calls.specs.Questions.{QuestionsView, locks_behind, question_access}
use Rattle.xsi_calls.specs.Stages.{Stage, Undecided, Paying, Releasing}
use Rattle.xsi_calls.specs.Undecided.{Trials, UndecidedCall, locks_in}
use Rattle.call_writes.specs.Views.{locks_under}
use Rattle.call_writes.specs.WriteWords.{AccessView, Lock}
use Rattle.call_writes.specs.PaymentWords.{Work, sweep_access, sweep_locks}
use Rattle.xsi_calls.specs.declared.question.Question.{Question}

-- ---- the locks of an access are behind the names

-- these stand behind what was held before
abbrev Follow : (List Lock → List Lock) → Type 0
Follow locks = (before : List Lock) → locks before ≡ before ++ locks []

none_more : Follow (λ (before : List Lock). before)
none_more before = sym (append-nil before)

one_more : (a : Lock) → Follow (λ (before : List Lock). before ++ a ∷ [])
one_more a before = refl

two_more : (a b : Lock) → Follow (λ (before : List Lock). (before ++ a ∷ []) ++ b ∷ [])
two_more a b before = append_assoc before (a ∷ []) (b ∷ [])

three_more : (a b c : Lock) → Follow (λ (before : List Lock). ((before ++ a ∷ []) ++ b ∷ []) ++ c ∷ [])
three_more a b c before =
    ap (λ (ls : List Lock). ls ++ c ∷ []) (two_more a b before) ∙ append_assoc before (a ∷ b ∷ []) (c ∷ [])

search_follow : (place : SearchPlace) (kind : LockKind) → Follow (locks_at place kind)
search_follow search_at.GrantDirectory kind before = none_more before
search_follow search_at.ReadDepth kind before = refl
search_follow (search_at.ReadEntry depth) kind before = refl
search_follow (search_at.GrantPage n) kind before = refl
search_follow (search_at.ReleaseDirectory n) kind before = two_more _ _ before
search_follow (search_at.Look n) kind before = refl
search_follow (search_at.Hop n) kind before = refl
search_follow (search_at.Found n found) kind before = refl

bucket_follow : (stage : BucketStage) (v : SearchView) → Follow (bucket_locks_in stage v)
bucket_follow stages.Searching v before = search_follow v.place v.kind before
bucket_follow (stages.Written n due) v before = refl
bucket_follow (stages.Ended due) v before = none_more before

approach_follow : (place : ApproachPlace) → Follow (approach_locks_at place)
approach_follow approach.GrantDirectory before = none_more before
approach_follow approach.ReadDepth before = refl
approach_follow (approach.ReadEntry depth) before = refl
approach_follow (approach.GrantPage depth n) before = refl
approach_follow (approach.At depth n) before = two_more _ _ before

split_follow : (place : SplitPlace) (page : ℕ) → Follow (split_locks_at place page)
split_follow split.TakePage page before = two_more _ _ before
split_follow (split.CopyDirectory new entry) page before = two_more _ _ before
split_follow (split.RaiseDepth new) page before = two_more _ _ before
split_follow (split.WriteNew new) page before = two_more _ _ before
split_follow (split.WriteOld new) page before = two_more _ _ before
split_follow (split.Retarget new entry) page before = two_more _ _ before
split_follow (split.SetCounts new) page before = two_more _ _ before
split_follow split.Done page before = two_more _ _ before
split_follow split.Full page before = refl

second_follow : (place : SecondPlace) → Follow (second_locks_at place)
second_follow (second.Approaching a) before = approach_follow a.place before
second_follow (second.Look depth n) before = two_more _ _ before
second_follow (second.Hop depth n) before = two_more _ _ before
second_follow (second.Write n used) before = two_more _ _ before
second_follow (second.Splitting n v) before = split_follow v.place v.page before
second_follow (second.GiveBackPage n tried) before = two_more _ _ before
second_follow (second.GiveBackDirectory tried) before = refl
second_follow (second.Ended tried) before = none_more before

merge_follow : (place : MergePlace) (a : ApproachView) → Follow (merge_locks_at place a)
merge_follow merge.Approaching a before = approach_follow a.place before
merge_follow (merge.ReadBuddy o) a before = two_more _ _ before
merge_follow (merge.GrantRight b seen) a before = two_more _ _ before
merge_follow (merge.GiveBack b) a before = two_more _ _ before
merge_follow (merge.GrantLeft b) a before = refl
merge_follow (merge.GrantRightAgain b) a before = two_more _ _ before
merge_follow (merge.LookLeft b) a before = three_more _ _ _ before
merge_follow (merge.LookRight b seen) a before = three_more _ _ _ before
merge_follow (merge.WriteLeft b left right) a before = three_more _ _ _ before
merge_follow (merge.Tombstone j) a before = three_more _ _ _ before
merge_follow (merge.Retarget j entry) a before = three_more _ _ _ before
merge_follow (merge.SetCounts j) a before = three_more _ _ _ before
merge_follow (merge.ReleaseRight j) a before = three_more _ _ _ before
merge_follow (merge.ReleaseLeft j) a before = two_more _ _ before
merge_follow (merge.Convert j) a before = refl
merge_follow (merge.GrantAlone j) a before = refl
merge_follow (merge.WriteFree j) a before = two_more _ _ before
merge_follow (merge.LinkFree page) a before = two_more _ _ before
merge_follow (merge.LowerDepth page) a before = two_more _ _ before
merge_follow (merge.ReleaseAlone depth count) a before = refl
merge_follow (merge.GiveUpRight left right) a before = three_more _ _ _ before
merge_follow (merge.GiveUp page) a before = two_more _ _ before
merge_follow merge.ReleaseDirectory a before = refl
merge_follow merge.Done a before = none_more before

insert_follow : (stage : InsertStage) → Follow (insert_locks_in stage)
insert_follow (tries.First t said) before = bucket_follow t.stage t.search before
insert_follow (tries.Second t) before = second_follow t.place before

-- of a delete: of its removal, of its end, or of its merge
part_follow : (stage : BucketStage) (removing ended merging : List Lock → List Lock) → Follow removing → Follow ended →
    Follow merging → Follow (λ (before : List Lock). part stage (removing before) (ended before) (merging before))
part_follow stages.Searching removing ended merging first none last before = first before
part_follow (stages.Written n due) removing ended merging first none last before = first before
part_follow (stages.Ended true) removing ended merging first none last before = last before
part_follow (stages.Ended false) removing ended merging first none last before = none before

operation_follow : (o : RecordOperation) → Follow (operation_locks o)
operation_follow (operations.Find f) before = bucket_follow f.stage f.search before
operation_follow (operations.Insert i) before = insert_follow i.stage before
operation_follow (operations.Replace r) before = bucket_follow r.stage r.search before
operation_follow (operations.Delete d) before =
    part_follow d.removal.stage (bucket_locks_in d.removal.stage d.removal.search) (λ (ls : List Lock). ls)
    (merge_locks_at d.merge.place d.merge.approach) (bucket_follow d.removal.stage d.removal.search) none_more
    (merge_follow d.merge.place d.merge.approach) before

under_follow : (access : Option AccessView) → Follow (locks_under access)
under_follow None before = none_more before
under_follow (Some a) before = operation_follow a.operation before

-- ---- the directory among them

search_in : (place : SearchPlace) (kind : LockKind) →
    kind_of (locks_at place kind []) Directory ≡ search_directory place
search_in search_at.GrantDirectory kind = refl
search_in search_at.ReadDepth kind = refl
search_in (search_at.ReadEntry depth) kind = refl
search_in (search_at.GrantPage n) kind = refl
search_in (search_at.ReleaseDirectory n) kind = refl
search_in (search_at.Look n) kind = refl
search_in (search_at.Hop n) kind = refl
search_in (search_at.Found n found) kind = refl

bucket_in : (stage : BucketStage) (v : SearchView) →
    kind_of (bucket_locks_in stage v []) Directory ≡ bucket_directory stage v.place
bucket_in stages.Searching v = search_in v.place v.kind
bucket_in (stages.Written n due) v = refl
bucket_in (stages.Ended due) v = refl

approach_in : (place : ApproachPlace) → kind_of (approach_locks_at place []) Directory ≡ approach_directory place
approach_in approach.GrantDirectory = refl
approach_in approach.ReadDepth = refl
approach_in (approach.ReadEntry depth) = refl
approach_in (approach.GrantPage depth n) = refl
approach_in (approach.At depth n) = refl

split_in : (place : SplitPlace) (page : ℕ) → kind_of (split_locks_at place page []) Directory ≡ Some Selective
split_in split.TakePage page = refl
split_in (split.CopyDirectory new entry) page = refl
split_in (split.RaiseDepth new) page = refl
split_in (split.WriteNew new) page = refl
split_in (split.WriteOld new) page = refl
split_in (split.Retarget new entry) page = refl
split_in (split.SetCounts new) page = refl
split_in split.Done page = refl
split_in split.Full page = refl

second_in : (place : SecondPlace) → kind_of (second_locks_at place []) Directory ≡ second_directory place
second_in (second.Approaching a) = approach_in a.place
second_in (second.Look depth n) = refl
second_in (second.Hop depth n) = refl
second_in (second.Write n used) = refl
second_in (second.Splitting n v) = split_in v.place v.page
second_in (second.GiveBackPage n tried) = refl
second_in (second.GiveBackDirectory tried) = refl
second_in (second.Ended tried) = refl

merge_in : (place : MergePlace) (a : ApproachView) →
    kind_of (merge_locks_at place a []) Directory ≡ merge_directory place a.place
merge_in merge.Approaching a = approach_in a.place
merge_in (merge.ReadBuddy o) a = refl
merge_in (merge.GrantRight b seen) a = refl
merge_in (merge.GiveBack b) a = refl
merge_in (merge.GrantLeft b) a = refl
merge_in (merge.GrantRightAgain b) a = refl
merge_in (merge.LookLeft b) a = refl
merge_in (merge.LookRight b seen) a = refl
merge_in (merge.WriteLeft b left right) a = refl
merge_in (merge.Tombstone j) a = refl
merge_in (merge.Retarget j entry) a = refl
merge_in (merge.SetCounts j) a = refl
merge_in (merge.ReleaseRight j) a = refl
merge_in (merge.ReleaseLeft j) a = refl
merge_in (merge.Convert j) a = refl
merge_in (merge.GrantAlone j) a = refl
merge_in (merge.WriteFree j) a = refl
merge_in (merge.LinkFree page) a = refl
merge_in (merge.LowerDepth page) a = refl
merge_in (merge.ReleaseAlone depth count) a = refl
merge_in (merge.GiveUpRight left right) a = refl
merge_in (merge.GiveUp page) a = refl
merge_in merge.ReleaseDirectory a = refl
merge_in merge.Done a = refl

insert_in : (stage : InsertStage) → kind_of (insert_locks_in stage []) Directory ≡ insert_directory stage
insert_in (tries.First t said) = bucket_in t.stage t.search
insert_in (tries.Second t) = second_in t.place

part_in : (stage : BucketStage) (removing merging : List Lock) (first last : Option LockKind) →
    kind_of removing Directory ≡ first → kind_of merging Directory ≡ last →
    kind_of (part stage removing [] merging) Directory ≡ part stage first None last
part_in stages.Searching removing merging first last is_first is_last = is_first
part_in (stages.Written n due) removing merging first last is_first is_last = is_first
part_in (stages.Ended true) removing merging first last is_first is_last = is_last
part_in (stages.Ended false) removing merging first last is_first is_last = refl

operation_in : (o : RecordOperation) → kind_of (operation_locks o []) Directory ≡ operation_directory o
operation_in (operations.Find f) = bucket_in f.stage f.search
operation_in (operations.Insert i) = insert_in i.stage
operation_in (operations.Replace r) = bucket_in r.stage r.search
operation_in (operations.Delete d) =
    part_in d.removal.stage (bucket_locks_in d.removal.stage d.removal.search [])
    (merge_locks_at d.merge.place d.merge.approach [])
    (bucket_directory d.removal.stage d.removal.search.place) (merge_directory d.merge.place d.merge.approach.place)
    (bucket_in d.removal.stage d.removal.search) (merge_in d.merge.place d.merge.approach)

under_in : (access : Option AccessView) → kind_of (locks_under access []) Directory ≡ directory_under access
under_in None = refl
under_in (Some a) = operation_in a.operation

-- ---- a call's row is its names, and the locks of its access

asking_row : (q : QuestionsView) → locks_behind q.question q.names ≡ locks_under (question_access q.question) q.names
asking_row q = by q.question
  where
    by : (o : Option Question) → locks_behind o q.names ≡ locks_under (question_access o) q.names
    by None = refl
    by (Some question) = refl

undecided_row : (u : UndecidedCall) →
    call_locks_at u Undecided ≡ locks_under (under_way_at u Undecided) u.questions.names
undecided_row u = by u.trials
  where
    by : (o : Option Trials) →
        locks_in u.questions o ≡ locks_under (asking_access u.questions.question o) u.questions.names
    by None = asking_row u.questions
    by (Some t) = refl

sweep_row : (o : Option Work) (names : List Lock) → sweep_locks o names ≡ locks_under (sweep_access o) names
sweep_row None names = refl
sweep_row (Some w) names = refl

payment_row : (payment : payments.Stage) (names : List Lock) →
    payment_locks payment names ≡ locks_under (payment_access payment) names
payment_row (payments.Sweeping v) names = sweep_row v names
payment_row (payments.Writing w) names = refl

row_at : (u : UndecidedCall) (stage : Stage) →
    call_locks_at u stage ≡ locks_under (under_way_at u stage) u.questions.names
row_at u Undecided = undecided_row u
row_at u (Paying payment conclusion) = payment_row payment u.questions.names
row_at u (Releasing conclusion) = refl

-- ---- the law

module _ (m : CallView) (bare : HasNoFileLock m.undecided.questions.names) where
  abbrev access : Option AccessView
  access = access_under_way m

  held_in : (name : LockName) → kind_of m.undecided.questions.names name ≡ None →
      kind_of (call_locks m) name ≡ kind_of (locks_under (access_under_way m) []) name
  held_in name none =
      ap (λ (ls : List Lock). kind_of ls name)
      (row_at m.undecided m.stage ∙ under_follow access m.undecided.questions.names)
      ∙ kind_of-append m.undecided.questions.names (locks_under (access_under_way m) []) name
      ∙ ap (λ (o : Option LockKind). first_kind o (kind_of (locks_under (access_under_way m) []) name)) none

  holds : HoldsOfFile m
  holds = record {
    directory = held_in Directory bare.directory ∙ under_in access;
    pages = λ n. held_in (Page n) (bare.pages n);
  }

pub hold_their_file_locks : HoldTheirFileLocks
hold_their_file_locks m bare = holds m bare
