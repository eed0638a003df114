-- Where the access within a bucket by which a write is made goes straight to a page, so does the operation.
use Rattle.std.proofs.Common.{◌≡◌, sym, ap, ◌∙◌, subst, ℕ, None}
use Rattle.record_file.specs.BucketAccesses.{SuitsKind, bucket_locks}
use Rattle.record_file.specs.BucketRuns.{BucketHeads}
use Rattle.record_file.specs.Deletes.{IsRemoval}
use Rattle.record_file.specs.Inserts.{IsTry, locks_in}
use Rattle.record_file.specs.OperationRuns.{IsBucketOf, OperationHeads}
use Rattle.record_file.specs.OperationWords.{BucketView, Delete, DeleteView, Find, Insert, InsertView, PoolState, RecordOperation, Replace, Table, delete_locks}
use Rattle.record_file.specs.Operations.{MayBeLent, operation_locks}
use Rattle.record_file.specs.declared.bucket_access.BucketStage.TheVariants.{Searching}
use Rattle.record_file.specs.declared.bucket_access.Deed.TheVariants as deeds
use Rattle.record_file.specs.declared.insert.InsertStage.{InsertStage}
use Rattle.record_file.specs.declared.insert.InsertStage.TheVariants.{First}
use Rattle.split_merge.specs.Places.{merge_locks}
use Rattle.record_file.specs.stale_search.SearchRuns.{HasNoLock}
use Rattle.record_file.proofs.InsertAheadLemmas.{insert_heads}
use Rattle.record_file.proofs.OperationAheadLemmas.{delete_heads, replace_heads}
use Rattle.record_file.proofs.PartLemmas.{in_removal}

-- an operation, by its access within a bucket
pub delete_is : (b : BucketView) (d : DeleteView) → IsRemoval b d → d ≡ record { removal = b; merge = d.merge }
delete_is b d of = ap (λ (r : BucketView). record { removal = r; merge = d.merge }) of.is

pub insert_is : (b : BucketView) (i : InsertView) → IsTry b i →
    i ≡ record { key = i.key; pseudokey = i.pseudokey; stage = First b None }
insert_is b i of = ap (λ (s : InsertStage). record { key = i.key; pseudokey = i.pseudokey; stage = s }) of.stage

module _ (b : BucketView) where
  -- a write whose search has no lock has none
  pub bucket_bare : HasNoLock (bucket_locks b) → (o : RecordOperation) → IsBucketOf b o → HasNoLock (operation_locks o)
  bucket_bare none (Find f) of = absurd of
  bucket_bare none (Insert i) of = subst (λ (s : InsertStage). HasNoLock (locks_in s)) (sym of.stage) none
  bucket_bare none (Replace r) of = subst (λ (r : BucketView). HasNoLock (bucket_locks r)) (sym of) none
  bucket_bare none (Delete d) of =
      subst (λ (d : DeleteView). HasNoLock (delete_locks d)) (sym (delete_is b d of))
      (λ before. in_removal (bucket_locks b before) before (merge_locks d.merge before) b.stage of.going ∙ none before)

  module _ (searches : b.stage ≡ Searching) (none : HasNoLock (bucket_locks b)) where
    pub bucket_heads : (seat page : ℕ) (pool : PoolState) (locks : Table) (bytes : ℕ) (o : RecordOperation) →
        IsBucketOf b o → MayBeLent bytes o → BucketHeads seat page b pool locks →
        OperationHeads seat page o pool locks
    bucket_heads seat page pool locks bytes (Find f) of lent heads = absurd of
    bucket_heads seat page pool locks bytes (Insert i) of lent heads =
        subst (λ (i : InsertView). OperationHeads seat page (Insert i) pool locks) (sym (insert_is b i of))
        (insert_heads seat i.key i.pseudokey b of.first pool locks page searches none heads)
    bucket_heads seat page pool locks bytes (Replace r) of lent heads =
        subst (λ (r : BucketView). OperationHeads seat page (Replace r) pool locks) (sym of)
        (replace_heads seat pool locks b page
        (subst (λ (r : BucketView). SuitsKind deeds.Replace r.search.kind) of lent) searches none heads)
    bucket_heads seat page pool locks bytes (Delete d) of lent heads =
        subst (λ (d : DeleteView). OperationHeads seat page (Delete d) pool locks) (sym (delete_is b d of))
        (delete_heads seat d.merge of.waits pool locks b page of.kind searches none heads)
