-- A removal that goes on: what is promised of its step is so of the delete.
use Rattle.std.proofs.Common.{◌≡◌, sym, ap, ◌∙◌, subst, ℕ, ◌+◌, true, false, List, [], Option, Some, None}
use Rattle.split_merge.specs.Places.{MergeView, merge_locks}
use Rattle.split_merge.specs.Facts.{merge_facts, merge_turn, steps_left as merge_left}
use Rattle.split_merge.specs.Steps.{TurnsAwayAt}
use Rattle.split_merge.specs.buffer_pool.Pool.{PoolState}
use Rattle.split_merge.specs.file_pages.declared.fault.FileFault.{FileFault}
use Rattle.split_merge.specs.stale_search.Steps.{FollowsRow}
use Rattle.split_merge.proofs.of_stale_search.StayLemmas.{Stays-of}
use Rattle.step_rules.specs.Turns.{Ask}
use Rattle.record_file.specs.Words.{RecordKey, Remove, Table, Lock, Change, Store, Progress, Known, Turn, Nears, Sees, Step, WritesOrSpares, HasNoFileLock, is_fault, row_of, store_of, with_row, world}
use Rattle.record_file.specs.Machines.{FindsAt}
use Rattle.record_file.specs.Writers.{Owns}
use Rattle.record_file.specs.BucketAccesses.{BucketView, ask_in, bucket_facts, bucket_left, bucket_locks, ended_in, found_of}
use Rattle.record_file.specs.BucketSteps.{MakesBucket, TurnsAwayIn}
use Rattle.record_file.specs.Deletes.{DeleteView, IsBegun, KeepsDelete, delete_facts, delete_left, delete_locks, delete_turn, part}
use Rattle.record_file.specs.OperationSteps.{MakesOperation}
use Rattle.record_file.specs.OperationWords.{Delete}
use Rattle.record_file.specs.declared.bucket_access.Deed.TheVariants as deeds
use Rattle.record_file.proofs.StepLemmas.{fault_spares, leaves_search}
use Rattle.record_file.proofs.AnswerLemmas.{nears_on}
use Rattle.record_file.proofs.KindLemmas.{delete_makes}
use Rattle.record_file.proofs.PartLemmas.{begun_left, in_removal, nears_more, not_ended, not_over, passed_facts, passed_left, passed_locks}

module _ (r r' : BucketView) (m : MergeView) (none : ended_in r.stage ≡ None) (begun : IsBegun m) (seat : ℕ)
    (bytes : List ℕ) (did : Progress FileFault) (pool pool' : PoolState) (locks locks' : Table)
    (made : MakesBucket deeds.Remove seat bytes did r r' pool pool' locks locks') where
  abbrev old : DeleteView
  old = record { removal = r; merge = m }

  abbrev new : DeleteView
  new = record { removal = r'; merge = m }

  removal_writes : WritesOrSpares did pool pool'
  removal_writes = fault_spares deeds.Remove did pool pool' made.writes made.cause

  removal_row : FollowsRow seat (delete_locks old) (delete_locks new) locks locks'
  removal_row = λ before bare row.
      made.row before bare (row ∙ in_removal (bucket_locks r before) before (merge_locks m before) r.stage none)
      ∙ ap (with_row locks seat) (passed_locks m begun r'.stage r'.search before)

  removal_aim : KeepsDelete did old new
  removal_aim = record {
    key = made.aim.key;
    pseudokey = made.aim.pseudokey;
    stays = Stays-of (λ (b : BucketView). record { removal = b; merge = m }) did r r' made.aim.stays;
    ended = (
      λ ended. absurd (not_ended r.stage none (made.aim.ended.0 ended)),
      λ over. absurd (not_over r.stage m.place none over),
    );
    leaves = leaves_search deeds.Remove did (found_of r) r.stage r'.stage (λ due gave. gave.1) made.aim.passes;
  }

  module _ (hash : RecordKey → ℕ) (change : Change) (sees : Sees hash seat (delete_facts old) pool locks change) where
    sees_removal : Sees hash seat (bucket_facts deeds.Remove r) pool locks change
    sees_removal = subst (λ (facts : List Known). Sees hash seat facts pool locks change)
        (in_removal (bucket_facts deeds.Remove r) [] (merge_facts m) r.stage none) sees

    removal_nears :
        Nears did (delete_left old (store_of pool.images)) (delete_left new (store_of pool'.images)) pool pool'
    removal_nears =
        let s : Store = store_of pool.images in
        let t : Store = store_of pool'.images in
        let left : ℕ = bucket_left deeds.Remove r s + merge_left m s in
        let left' : ℕ = bucket_left deeds.Remove r' t + merge_left m t in
        let near = nears_on did (merge_left m s) (bucket_left deeds.Remove r s) (bucket_left deeds.Remove r' t) pool
        pool' (made.progress hash change tt sees_removal) in
        let near' = subst (λ (n : ℕ). Nears did left (bucket_left deeds.Remove r' t + n) pool pool')
        (begun_left m begun s t) near in
        subst (λ (n : ℕ). Nears did n (part r'.stage left' 0 (merge_left m t)) pool pool')
        (sym (in_removal left 0 (merge_left m s) r.stage none))
        (nears_more did left left' (part r'.stage left' 0 (merge_left m t)) pool pool'
        (passed_left m begun r'.stage r'.search t) near')

    removal_steps : (before : List Lock) → HasNoFileLock before → Owns before r.search.key →
        row_of locks seat ≡ delete_locks old before → hash r.search.key ≡ r.search.pseudokey → is_fault did ≡ false →
        Step hash seat (delete_turn old) did (delete_facts new) pool pool' locks locks' change
    removal_steps before bare owns row keyed fine =
        let done = made.step hash change before bare (keyed, owns)
        (row ∙ in_removal (bucket_locks r before) before (merge_locks m before) r.stage none) tt sees_removal fine in
        let removing : Option Ask → Turn =
        λ (ask : Option Ask). record { ask = ask; write = Some (Remove r.search.key) } in
        subst (λ (ask : Option Ask).
        Step hash seat (removing ask) did (delete_facts new) pool pool' locks locks' change)
        (sym (in_removal (ask_in r.stage r.search) None (merge_turn m).ask r.stage none))
        (subst (λ (facts : List Known). Step hash seat (removing (ask_in r.stage r.search)) did facts pool pool' locks
        locks' change) (passed_facts m begun r'.stage r'.search) done)

    removal_tells : hash r.search.key ≡ r.search.pseudokey → is_fault did ≡ false →
        FindsAt hash seat did r.search.key (found_of r) (found_of r') (world pool.images locks change)
        × TurnsAwayIn hash r.search.key seat r.stage r'.stage (world pool'.images locks' change)
        × TurnsAwayAt hash seat m m (world pool'.images locks' change)
    removal_tells keyed fine =
        let told = made.answer hash change keyed sees_removal fine in
        (told.0, told.1, λ no is. absurd (let f : true ≡ false = sym is ∙ no in cc))

  -- as a step of the operation
  pub removal_makes : (hash : RecordKey → ℕ) →
      MakesOperation hash seat bytes did (Delete old) (Delete new) pool pool' locks locks'
  removal_makes hash =
      delete_makes hash seat bytes did pool pool' locks locks' old new removal_writes removal_aim removal_row
      (λ change sees. removal_nears hash change sees)
      (λ change before bare owns here keyed sees fine. removal_steps hash change sees before bare owns here keyed fine)
      (λ change keyed sees fine. removal_tells hash change sees keyed fine)
