-- Each move of the machine of a kind is one of the operation: of a find that is made in one go, and of a write on the
-- way to its page.
use Rattle.std.proofs.Common.{◌≡◌, refl, sym, subst, ℕ, Option, None}
use Rattle.record_file.specs.split_merge.Places.{MergeView}
use Rattle.record_file.specs.stale_search.SearchRuns.{At, HasNoLock, at, standing}
use Rattle.record_file.specs.stale_search.declared.place.SearchPlace.{SearchPlace}
use Rattle.record_file.specs.step_rules.Runs.{MovesAlong}
use Rattle.record_file.specs.step_rules.declared.kind.Kind.{Kind}
use Rattle.record_file.specs.Words.{SearchView, Selective, search_locks}
use Rattle.record_file.specs.BucketAccesses.{SuitsKind, bucket_locks, ended_in}
use Rattle.record_file.specs.BucketRuns.{BucketHeads, BucketStep, bucket_at, bucket_stops, bucket_way}
use Rattle.record_file.specs.declared.bucket_access.BucketStage.TheVariants.{Searching}
use Rattle.record_file.specs.declared.bucket_access.Deed.TheVariants as deeds
use Rattle.record_file.specs.Deletes.{IsBegun}
use Rattle.record_file.proofs.AheadLemmas.{along_way}
use Rattle.record_file.proofs.KindLemmas.{find_makes, replace_makes}
use Rattle.record_file.proofs.RemovalLemmas.{removal_makes}
use Rattle.record_file.proofs.StepLemmas.{as_searching, searching}
use Rattle.record_file.proofs.of_step_rules.RunLemmas.{lifted}
use Rattle.record_file.specs.OperationRuns.{GoesToPage, OperationHeads, OperationStep, operation_stops}
use Rattle.record_file.specs.OperationWords.{BucketView, Delete, DeleteView, Find, Moved, PoolState, RecordOperation, Replace, Table, store_of}

module _ (seat : ℕ) where
  -- ---- a find

  abbrev find_of : At BucketView → At RecordOperation
  find_of s = at (Find s.machine) s.pool s.locks

  move_of_find : (kind : Kind) (old new : At BucketView) → BucketStep deeds.Find seat (Moved kind) old new →
      OperationStep seat (Moved kind) (find_of old) (find_of new)
  move_of_find kind old new moves hash bytes =
      find_makes hash seat bytes (Moved kind) old.pool new.pool old.locks new.locks old.machine new.machine
      (moves bytes)

  pub finds_straight : (pool : PoolState) (locks : Table) (f : BucketView) (page : ℕ) (found : Option ℕ) →
      MovesAlong (BucketStep deeds.Find seat) (at f pool locks) (bucket_stops seat page found (at f pool locks)) →
      MovesAlong (OperationStep seat) (at (Find f) pool locks)
      (operation_stops seat page found (at (Find f) pool locks))
  finds_straight pool locks f page found =
      lifted (BucketStep deeds.Find seat) (OperationStep seat) find_of move_of_find (at f pool locks)
      (bucket_stops seat page found (at f pool locks))

  -- ---- a replace

  abbrev replace_of : At BucketView → At RecordOperation
  replace_of s = at (Replace s.machine) s.pool s.locks

  move_of_replace : (kind : Kind) (old new : At BucketView) → BucketStep deeds.Replace seat (Moved kind) old new →
      OperationStep seat (Moved kind) (replace_of old) (replace_of new)
  move_of_replace kind old new moves hash bytes =
      replace_makes hash seat bytes (Moved kind) old.pool new.pool old.locks new.locks old.machine new.machine
      (moves bytes)

  pub replace_heads : (pool : PoolState) (locks : Table) (r : BucketView) (page : ℕ) →
      SuitsKind deeds.Replace r.search.kind → r.stage ≡ Searching → HasNoLock (bucket_locks r) →
      BucketHeads seat page r pool locks → OperationHeads seat page (Replace r) pool locks
  replace_heads pool locks r page suits searches none heads = λ found stands lacks. record {
    bare = none;
    moves = lifted (BucketStep deeds.Replace seat) (OperationStep seat) replace_of move_of_replace (at r pool locks)
        (bucket_way seat page found (at r pool locks)) (heads deeds.Replace found suits stands);
  }

  -- ---- a delete, whose merge waits

  module _ (m : MergeView) (begun : IsBegun m) where
    abbrev removing : BucketView → DeleteView
    removing r = record { removal = r; merge = m }

    abbrev delete_of : At BucketView → At RecordOperation
    delete_of s = at (Delete (removing s.machine)) s.pool s.locks

    move_of_removal : (kind : Kind) (old new : At BucketView) → ended_in old.machine.stage ≡ None →
        BucketStep deeds.Remove seat (Moved kind) old new →
        OperationStep seat (Moved kind) (delete_of old) (delete_of new)
    move_of_removal kind old new none moves hash bytes =
        removal_makes old.machine new.machine m none begun seat bytes (Moved kind) old.pool new.pool old.locks new.locks
        (moves bytes) hash

    removes_straight : (pool : PoolState) (locks : Table) (v : SearchView) (page : ℕ) (found : Option ℕ) →
        v.kind ≡ Selective → HasNoLock (search_locks v) →
        MovesAlong (BucketStep deeds.Remove seat) (at (searching v) pool locks)
        (bucket_way seat page found (at (searching v) pool locks)) →
        GoesToPage seat page found (Delete (removing (searching v))) pool locks
    removes_straight pool locks v page found kind none moves = record {
      bare = none;
      moves = along_way (BucketStep deeds.Remove seat) (OperationStep seat) delete_of (at (searching v) pool locks)
          (λ (place : SearchPlace). standing bucket_locks seat pool locks (bucket_at place (searching v)))
          (store_of pool.images).header.depth page found
          (λ kind new made. move_of_removal kind (at (searching v) pool locks) new refl made)
          (λ place unseen kind new made. move_of_removal kind
          (standing bucket_locks seat pool locks (bucket_at place (searching v))) new refl made)
          moves;
    }

    pub delete_heads : (pool : PoolState) (locks : Table) (r : BucketView) (page : ℕ) →
        SuitsKind deeds.Remove r.search.kind → r.stage ≡ Searching → HasNoLock (bucket_locks r) →
        BucketHeads seat page r pool locks → OperationHeads seat page (Delete (removing r)) pool locks
    delete_heads pool locks r page suits searches none heads = λ found stands lacks.
        let is = as_searching r searches in
        subst (λ (b : BucketView). GoesToPage seat page found (Delete (removing b)) pool locks) (sym is)
        (removes_straight pool locks r.search page found suits
        (subst (λ (b : BucketView). HasNoLock (bucket_locks b)) is none)
        (subst (λ (b : BucketView). MovesAlong (BucketStep deeds.Remove seat) (at b pool locks)
        (bucket_way seat page found (at b pool locks))) is (heads deeds.Remove found suits stands)))
