-- Each kind of step, and schedules of steps.
use Rattle.std.proofs.Common.{◌≡◌, ℕ, refl, sym, subst, inl, inr}
use Rattle.step_rules.proofs.Names.{Absorbed, Buried, Change, Drained, Filled, Freed, Linked, Quiet, RecordKey, Store, Taken, range_at, upper_half_of}
use Rattle.hash_file.specs.Changes.{take_page, copy_directory, raise_depth, write_new, write_old, retarget, set_counts, split_counts, merge_counts, write_left, write_tombstone, write_free, link_free, lower_depth}
use Rattle.hash_file.specs.Kept.{KeepsContents}
use Rattle.hash_file.proofs.TakePage.{take_page_keeps, link_free_keeps}
use Rattle.hash_file.proofs.Doubling.{copy_directory_keeps, raise_depth_keeps, lower_depth_keeps}
use Rattle.hash_file.proofs.OffChain.{write_new_keeps, write_tombstone_keeps, write_free_keeps}
use Rattle.hash_file.proofs.Splitting.{write_old_keeps}
use Rattle.hash_file.proofs.Merging.{write_left_keeps}
use Rattle.hash_file.proofs.Retargeting.{retarget_keeps_split, retarget_keeps_merge, set_counts_keeps_split, set_counts_keeps_merge}
use Rattle.step_rules.specs.declared.kind.Kind.{Kind}
use Rattle.step_rules.specs.declared.kind.Kind.TheVariants.{Grant, Release, ReadDepth, ReadEntry, Look, Hop, WriteRecord, Decide, TakePage, CopyDirectory, RaiseDepth, WriteNew, WriteOld, Retarget, SetCounts, WriteLeft, Tombstone, Convert, WriteFree, LinkFree, LowerDepth}
use Rattle.step_rules.specs.World.{World}
use Rattle.step_rules.specs.Sound.{IsSoundWorld}
use Rattle.step_rules.specs.LockSteps.{Hops}
use Rattle.step_rules.specs.PageSteps.{Restructures, Retargets, SetsCounts}
use Rattle.step_rules.specs.Laws.{KindKeeps, KindKeepsContents}
use Rattle.step_rules.proofs.LockStepLemmas.{KeepsOthers-same, KeepsOthers-grant, KeepsOthers-release, KeepsOthers-convert}
use Rattle.step_rules.proofs.HopStepLemmas.{KeepsOthers-hop}
use Rattle.step_rules.proofs.ChangeLemmas.{file}
use Rattle.step_rules.proofs.RecordStepLemmas.{KeepsOthers-record}
use Rattle.step_rules.proofs.SplitStepLemmas.{KeepsOthers-take_page, KeepsOthers-copy_directory, KeepsOthers-raise_depth, KeepsOthers-write_new, KeepsOthers-write_old}
use Rattle.step_rules.proofs.MergeStepLemmas.{KeepsOthers-retarget, KeepsOthers-set_counts, KeepsOthers-write_left, KeepsOthers-tombstone, KeepsOthers-write_free, KeepsOthers-link_free, KeepsOthers-lower_depth}

pub kind_keeps : (kind : Kind) → KindKeeps kind
kind_keeps Grant hash seat old new sound does = KeepsOthers-grant hash seat old sound new does
kind_keeps Release hash seat old new sound does = KeepsOthers-release hash seat old sound new does
kind_keeps ReadDepth hash seat old new sound does = KeepsOthers-same hash seat old new sound does.is
kind_keeps ReadEntry hash seat old new sound does = KeepsOthers-same hash seat old new sound does.is
kind_keeps Look hash seat old new sound does = KeepsOthers-same hash seat old new sound does.reads.is
kind_keeps Hop hash seat old new sound does = KeepsOthers-hop hash seat old new sound does
kind_keeps WriteRecord hash seat old new sound does = KeepsOthers-record hash seat old sound new does
kind_keeps Decide hash seat old new sound does = KeepsOthers-same hash seat old new sound does
kind_keeps TakePage hash seat old new sound does = KeepsOthers-take_page hash seat old new sound does
kind_keeps CopyDirectory hash seat old new sound does = KeepsOthers-copy_directory hash seat old new sound does
kind_keeps RaiseDepth hash seat old new sound does = KeepsOthers-raise_depth hash seat old new sound does
kind_keeps WriteNew hash seat old new sound does = KeepsOthers-write_new hash seat old new sound does
kind_keeps WriteOld hash seat old new sound does = KeepsOthers-write_old hash seat old new sound does
kind_keeps Retarget hash seat old new sound does = KeepsOthers-retarget hash seat old new sound does
kind_keeps SetCounts hash seat old new sound does = KeepsOthers-set_counts hash seat old new sound does
kind_keeps WriteLeft hash seat old new sound does = KeepsOthers-write_left hash seat old new sound does
kind_keeps Tombstone hash seat old new sound does = KeepsOthers-tombstone hash seat old new sound does
kind_keeps Convert hash seat old new sound does = KeepsOthers-convert hash seat old sound new does
kind_keeps WriteFree hash seat old new sound does = KeepsOthers-write_free hash seat old new sound does
kind_keeps LinkFree hash seat old new sound does = KeepsOthers-link_free hash seat old new sound does
kind_keeps LowerDepth hash seat old new sound does = KeepsOthers-lower_depth hash seat old new sound does

-- ---- what the file holds

-- where the world is made of the old one's file, the file holds what it held
held_same : (old new next : World) → new ≡ next → KeepsContents old.store next.store → KeepsContents old.store new.store
held_same old new next is keeps = subst (λ (w : World). KeepsContents old.store w.store) (sym is) keeps

module _ (hash : RecordKey → ℕ) (seat : ℕ) (old new : World) (sound : IsSoundWorld hash old) where
  hop_holds : Hops seat old new → KeepsContents old.store new.store
  hop_holds does = elim does.hops [
    | inl back ↦ held_same old new old back.1 (λ key. refl)
    | inr on ↦ subst (λ (w : World). KeepsContents old.store w.store) (sym on.1.is) (λ key. refl)
  ]

  -- by the law of its change
  changed : (c : Change) (t : Store) (d : Change) → Restructures seat c t d old new → KeepsContents old.store t →
      KeepsContents old.store new.store
  changed c t d changes keeps = subst (λ (w : World). KeepsContents old.store w.store) (sym changes.is) keeps

  retargets : Retargets seat old new → KeepsContents old.store new.store
  retargets does = elim does.changes [
    | inl split ↦
        let c : Change = Linked does.lower does.upper does.whole in
        let t : Store = retarget does.page (upper_half_of does.whole) does.upper old.store in
        changed c t c split (retarget_keeps_split hash old.store does.lower does.upper does.whole does.page
        (file hash seat old new sound c t c split)).contents
    | inr merge ↦
        let c : Change = Buried does.lower does.upper does.whole in
        let t : Store = retarget does.page (upper_half_of does.whole) does.lower old.store in
        changed c t c merge (retarget_keeps_merge hash old.store does.lower does.upper does.whole does.page
        (file hash seat old new sound c t c merge)).contents
  ]

  counts : SetsCounts seat old new → KeepsContents old.store new.store
  counts does = elim does.sets [
    | inl split ↦
        let c : Change = Linked does.lower does.upper does.whole in
        let t : Store = set_counts (split_counts does.whole.depth old.store.header.counts) old.store in
        changed c t Quiet split.changes (set_counts_keeps_split hash old.store does.lower does.upper does.whole
        (file hash seat old new sound c t Quiet split.changes) split.retargeted).contents
    | inr merge ↦
        let c : Change = Buried does.lower does.upper does.whole in
        let d : Change = Drained does.lower does.upper in
        let t : Store = set_counts (merge_counts does.whole.depth old.store.header.counts) old.store in
        changed c t d merge.changes (set_counts_keeps_merge hash old.store does.lower does.upper does.whole
        (file hash seat old new sound c t d merge.changes) merge.retargeted).contents
  ]

pub kind_keeps_contents : (kind : Kind) → KindKeepsContents kind
kind_keeps_contents Grant hash seat old new sound other does =
    subst (λ (w : World). KeepsContents old.store w.store) (sym does.is) (λ key. refl)
kind_keeps_contents Release hash seat old new sound other does =
    subst (λ (w : World). KeepsContents old.store w.store) (sym does.is) (λ key. refl)
kind_keeps_contents Convert hash seat old new sound other does =
    subst (λ (w : World). KeepsContents old.store w.store) (sym does.is) (λ key. refl)
kind_keeps_contents ReadDepth hash seat old new sound other does = held_same old new old does.is (λ key. refl)
kind_keeps_contents ReadEntry hash seat old new sound other does = held_same old new old does.is (λ key. refl)
kind_keeps_contents Look hash seat old new sound other does = held_same old new old does.reads.is (λ key. refl)
kind_keeps_contents Hop hash seat old new sound other does = hop_holds hash seat old new sound does
kind_keeps_contents Decide hash seat old new sound other does = held_same old new old does (λ key. refl)
kind_keeps_contents WriteRecord hash seat old new sound other does = absurd (other refl)
kind_keeps_contents TakePage hash seat old new sound other does =
    let t : Store = take_page old.store in
    let d : Change = Taken old.store.header.first_free in
    changed hash seat old new sound Quiet t d does.changes
    (take_page_keeps hash old.store (file hash seat old new sound Quiet t d does.changes) does.some_free).contents
kind_keeps_contents CopyDirectory hash seat old new sound other does =
    let t : Store = copy_directory does.page old.store in
    let c : Change = Taken does.taken in
    changed hash seat old new sound c t c does.changes
    (copy_directory_keeps hash old.store does.taken does.page
    (file hash seat old new sound c t c does.changes)).contents
kind_keeps_contents RaiseDepth hash seat old new sound other does =
    let t : Store = raise_depth old.store in
    let c : Change = Taken does.taken in
    changed hash seat old new sound c t c does.changes
    (raise_depth_keeps hash old.store does.taken
    (file hash seat old new sound c t c does.changes) does.room does.copied).contents
kind_keeps_contents WriteNew hash seat old new sound other does =
    let t : Store = write_new hash does.split does.taken old.store in
    let c : Change = Taken does.taken in
    let d : Change = Filled does.split does.taken in
    changed hash seat old new sound c t d does.changes
    (write_new_keeps hash old.store does.split does.taken (file hash seat old new sound c t d does.changes)
    does.on_chain does.shallow).contents
kind_keeps_contents WriteOld hash seat old new sound other does =
    let t : Store = write_old hash does.split does.filled old.store in
    let c : Change = Filled does.split does.filled in
    let d : Change = Linked does.split does.filled (range_at old.store does.split) in
    changed hash seat old new sound c t d does.changes
    (write_old_keeps hash old.store does.split does.filled (file hash seat old new sound c t d does.changes)).contents
kind_keeps_contents Retarget hash seat old new sound other does = retargets hash seat old new sound does
kind_keeps_contents SetCounts hash seat old new sound other does = counts hash seat old new sound does
kind_keeps_contents WriteLeft hash seat old new sound other does =
    let t : Store = write_left does.left does.right old.store in
    let d : Change = Absorbed does.left does.right does.whole in
    changed hash seat old new sound Quiet t d does.changes
    (write_left_keeps hash old.store does.left does.right does.whole
    (file hash seat old new sound Quiet t d does.changes)
    does.left_on does.right_on does.halves).contents
kind_keeps_contents Tombstone hash seat old new sound other does =
    let t : Store = write_tombstone does.left does.right old.store in
    let c : Change = Absorbed does.left does.right does.whole in
    let d : Change = Buried does.left does.right does.whole in
    changed hash seat old new sound c t d does.changes
    (write_tombstone_keeps hash old.store does.left does.right does.whole
    (file hash seat old new sound c t d does.changes)).contents
kind_keeps_contents WriteFree hash seat old new sound other does =
    let t : Store = write_free does.right old.store in
    let c : Change = Drained does.left does.right in
    let d : Change = Freed does.right in
    changed hash seat old new sound c t d does.changes
    (write_free_keeps hash old.store does.left does.right (file hash seat old new sound c t d does.changes)).contents
kind_keeps_contents LinkFree hash seat old new sound other does =
    let t : Store = link_free does.right old.store in
    let c : Change = Freed does.right in
    changed hash seat old new sound c t Quiet does.changes
    (link_free_keeps hash old.store does.right (file hash seat old new sound c t Quiet does.changes)).contents
kind_keeps_contents LowerDepth hash seat old new sound other does =
    let t : Store = lower_depth old.store in
    changed hash seat old new sound Quiet t Quiet does.changes
    (lower_depth_keeps hash old.store
    (file hash seat old new sound Quiet t Quiet does.changes) does.deep does.unused).contents
