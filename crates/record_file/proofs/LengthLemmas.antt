-- An operation has few steps left.
use Rattle.std.proofs.Common.{◌≡◌, ap, ℕ, ◌+◌, ◌*◌, ◌≤◌, Bool, true, false, if◌then◌else◌, List, [], ◌∷◌, length, arith}
use Rattle.record_file.proofs.OperationNames.{ApproachPlace, ApproachView, Header, Layout, MergePlace, MergeView, ROOT_PAGE, Range, SearchPlace, SearchView, answers_at, approach_left_at, begun, begun_one, chain, distance, header_at, header_is, hops_between, image, layout_is, merge_left, merge_left_at, operation_left, position_of, range_at, search_left_at, steps_left, ways_are_short}
use Rattle.record_file.specs.split_merge.declared.merge_place.MergePlace.TheVariants as to
use Rattle.hash_file.specs.Words.{HasShortWays}
use Rattle.record_file.specs.stale_search.declared.place.ApproachPlace.TheVariants as way
use Rattle.record_file.specs.stale_search.declared.place.SearchPlace.TheVariants.{GrantDirectory, ReadDepth, ReadEntry, GrantPage, ReleaseDirectory, Look, Hop, Found}
use Rattle.record_file.specs.BucketAccesses.{left_in as bucket_left_in, steps_behind}
use Rattle.record_file.specs.Deletes.{part}
use Rattle.record_file.specs.declared.bucket_access.BucketStage.{BucketStage}
use Rattle.record_file.specs.declared.bucket_access.BucketStage.TheVariants.{Searching, Written, Ended as HasEnded}
use Rattle.record_file.specs.declared.bucket_access.Deed.{Deed}
use Rattle.record_file.specs.declared.bucket_access.Deed.TheVariants as deeds
use Rattle.record_file.proofs.FewLemmas.{few_left}
use Rattle.record_file.specs.Inserts.{left_in as insert_left_in}
use Rattle.record_file.specs.declared.insert.InsertStage.{InsertStage}
use Rattle.record_file.specs.declared.insert.InsertStage.TheVariants.{First, Second}
use Rattle.record_file.specs.OperationWords.{Change, PoolState, RecordKey, Sees, Store, Table, store_of, SECOND_STEPS, RecordOperation, Find, Insert, Replace, Delete}
use Rattle.record_file.specs.Lengths.{MOST_STEPS}
use Rattle.record_file.specs.Operations.{operation_facts}

few_behind : (deed : Deed) → steps_behind deed ≤ 2
few_behind deeds.Find = omega arith
few_behind deeds.Put = omega arith
few_behind deeds.Replace = omega arith
few_behind deeds.Remove = omega arith

begun_few : (range : ℕ → Range) (ns : List ℕ) (p : ℕ) → begun range ns p ≤ length ns
begun_few range [] p = omega arith
begun_few range (n ∷ ns) p = omega (arith, begun_few range ns p, begun_one range n p)

-- ---- in a file whose ways are short

module _ (s : Store) (short : HasShortWays s) where
  abbrev few : ℕ
  few = 2 * length (chain s) + 8

  few_between : (depth k : ℕ) → hops_between s depth k ≤ length (chain s)
  few_between depth k = omega (arith, begun_few (range_at s) (chain s) (position_of k))

  few_at_hop : (b : Bool) (d : ℕ) → d ≤ length (chain s) → (if b then 2 * d + 1 + 1 else 2 * d) ≤ few
  few_at_hop true d less = omega (arith, less)
  few_at_hop false d less = omega (arith, less)

  few_in_search : (place : SearchPlace) (k : ℕ) → search_left_at place k s ≤ few
  few_in_search GrantDirectory k = omega arith
  few_in_search ReadDepth k = omega arith
  few_in_search (ReadEntry depth) k = omega (arith, few_between depth k)
  few_in_search (GrantPage n) k = omega (arith, short.ways n k)
  few_in_search (ReleaseDirectory n) k = omega (arith, short.ways n k)
  few_in_search (Look n) k = omega (arith, short.ways n k)
  few_in_search (Hop n) k = few_at_hop (answers_at s n k) (distance s n k) (short.ways n k)
  few_in_search (Found n found) k = omega arith

  few_searching : (v : SearchView) → steps_left v s ≤ few
  few_searching v = few_in_search v.place v.pseudokey

  few_in_bucket : (deed : Deed) (stage : BucketStage) (v : SearchView) → bucket_left_in deed stage v s ≤ few + 2
  few_in_bucket deed Searching v = omega (arith, few_searching v, few_behind deed)
  few_in_bucket deed (Written n due) v = omega arith
  few_in_bucket deed (HasEnded due) v = omega arith

  few_inserting : (stage : InsertStage) → insert_left_in stage s ≤ few + 2 + SECOND_STEPS
  few_inserting (First t said) = omega (arith, few_in_bucket deeds.Put t.stage t.search)
  few_inserting (Second t) = omega (arith, few_left t.place t.pseudokey s)

  -- ---- a merge

  few_on_way : (place : ApproachPlace) → approach_left_at place ≤ 4
  few_on_way way.GrantDirectory = omega arith
  few_on_way way.ReadDepth = omega arith
  few_on_way (way.ReadEntry depth) = omega arith
  few_on_way (way.GrantPage depth n) = omega arith
  few_on_way (way.At depth n) = omega arith

  module _ (shallow : s.header.depth ≤ 32) where
    few_in_merge : (place : MergePlace) (a : ApproachView) → merge_left_at place a s ≤ 295
    few_in_merge to.Approaching a = omega (arith, few_on_way a.place)
    few_in_merge (to.ReadBuddy o) a = omega arith
    few_in_merge (to.GrantRight b seen) a = omega arith
    few_in_merge (to.GiveBack b) a = omega arith
    few_in_merge (to.GrantLeft b) a = omega arith
    few_in_merge (to.GrantRightAgain b) a = omega arith
    few_in_merge (to.LookLeft b) a = omega arith
    few_in_merge (to.LookRight b seen) a = omega arith
    few_in_merge (to.WriteLeft b left right) a = omega arith
    few_in_merge (to.Tombstone j) a = omega arith
    few_in_merge (to.Retarget j entry) a = omega arith
    few_in_merge (to.SetCounts j) a = omega arith
    few_in_merge (to.ReleaseRight j) a = omega arith
    few_in_merge (to.ReleaseLeft j) a = omega arith
    few_in_merge (to.Convert j) a = omega arith
    few_in_merge (to.GrantAlone j) a = omega arith
    few_in_merge (to.WriteFree j) a = omega arith
    few_in_merge (to.LinkFree page) a = omega arith
    few_in_merge (to.LowerDepth page) a = omega (arith, shallow)
    few_in_merge (to.ReleaseAlone depth count) a = omega arith
    few_in_merge (to.GiveUpRight left right) a = omega arith
    few_in_merge (to.GiveUp page) a = omega arith
    few_in_merge to.ReleaseDirectory a = omega arith
    few_in_merge to.Done a = omega arith

    few_merging : (m : MergeView) → merge_left m s ≤ 295
    few_merging m = few_in_merge m.place m.approach

    few_deleting : (stage : BucketStage) (v : SearchView) (m : MergeView) →
        part stage (bucket_left_in deeds.Remove stage v s + merge_left m s) 0 (merge_left m s) ≤ few + 2 + SECOND_STEPS
    few_deleting Searching v m = omega (arith, few_in_bucket deeds.Remove Searching v, few_merging m)
    few_deleting (Written n due) v m = omega (arith, few_merging m)
    few_deleting (HasEnded true) v m = omega (arith, few_merging m)
    few_deleting (HasEnded false) v m = omega arith

    few_steps : (o : RecordOperation) → operation_left o s ≤ few + 2 + SECOND_STEPS
    few_steps (Find f) = omega (arith, few_in_bucket deeds.Find f.stage f.search)
    few_steps (Insert i) = few_inserting i.stage
    few_steps (Replace r) = omega (arith, few_in_bucket deeds.Replace r.stage r.search)
    few_steps (Delete d) = few_deleting d.removal.stage d.removal.search d.merge

-- ---- in a file on its pages

pub has_few_steps : (hash : RecordKey → ℕ) (seat : ℕ) (o : RecordOperation) (pool : PoolState) (locks : Table)
    (change : Change) → Sees hash seat (operation_facts o) pool locks change →
    operation_left o (store_of pool.images) ≤ MOST_STEPS
has_few_steps hash seat o pool locks change sees =
    let images : List (List ℕ) = pool.images in
    let s : Store = store_of images in
    let layout = sees.sound.file.layout in
    let short = ways_are_short hash s change sees.sound.file in
    let most = sees.file.file.header.in_range.most in
    let root : s.layout.root ≡ ROOT_PAGE = ap (λ (l : Layout). l.root) (layout_is images) in
    let pages : s.header.pages ≡ (header_at (image images 0)).pages =
    ap (λ (h : Header). h.pages) (header_is images) in
    let shallow : s.header.depth ≤ 32 = omega (arith, layout.depth, layout.greatest) in
    omega (arith, few_steps s short shallow o, short.short, layout.pages, pages, most, root)
