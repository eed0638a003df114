-- A write that is made at once: what its access within a bucket does at the page is what the operation does.
use Rattle.std.proofs.Common.{◌≡◌, refl, sym, ◌∙◌, subst, ℕ, List, Option, Some, None}
use Rattle.record_file.specs.split_merge.Places.{MergeView}
use Rattle.record_file.specs.stale_search.SearchRuns.{HasNoLock, search_at}
use Rattle.record_file.specs.stale_search.declared.place.SearchPlace.TheVariants.{Found}
use Rattle.record_file.specs.Words.{HasNoFileLock, Release, SearchView}
use Rattle.record_file.specs.BucketAccesses.{SuitsKind, ended_in}
use Rattle.record_file.specs.BucketRuns.{bucket_found, bucket_written}
use Rattle.record_file.specs.Deletes.{IsBegun}
use Rattle.record_file.specs.Inserts.{IsFirstAt}
use Rattle.record_file.specs.WritesAhead.{WritesOn}
use Rattle.record_file.specs.declared.bucket_access.BucketStage.TheVariants.{Searching}
use Rattle.record_file.specs.declared.bucket_access.Deed.TheVariants as deeds
use Rattle.record_file.specs.declared.insert.InsertStage.TheVariants.{First}
use Rattle.record_file.specs.declared.tried.Tried.TheVariants.{IsPut}
use Rattle.record_file.specs.OperationRuns.{IsBeforeMerge, IsBucketOf, deed_of, operation_at, operation_through, operation_written}
use Rattle.record_file.specs.OperationSteps.{MakesOperation}
use Rattle.record_file.specs.OperationWords.{BucketView, Delete, DeleteView, Find, Insert, InsertView, IsSeat, Moved, PoolState, RecordKey, RecordOperation, Replace, Table, WriteRecord, row_of, with_row}
use Rattle.record_file.specs.Operations.{HasEnded, MayBeLent, operation_key, operation_locks}
use Rattle.record_file.proofs.HeadLemmas.{delete_is, insert_is}
use Rattle.record_file.proofs.InsertLemmas.{has_put, says_on}
use Rattle.record_file.proofs.KindLemmas.{insert_makes, replace_makes}
use Rattle.record_file.proofs.RemovalLemmas.{removal_makes}
use Rattle.record_file.proofs.StepLemmas.{as_searching, searching}
use Rattle.record_file.proofs.WrittenLemmas.{gives_written, puts, removes, replaces, with_page}

module _ (seat : ℕ) (pool pool' : PoolState) (locks : Table) (page : ℕ) (bytes : List ℕ) where
  -- it writes the page that answered, these bytes lent, and gives it back; it has no lock then, and has ended
  pub record GoesThrough (found : Option ℕ) (o : RecordOperation) : Type 0 where
    pub free : HasNoLock (operation_locks (operation_through page found o))
    pub ended : HasEnded (operation_through page found o)
    pub wrote : (hash : RecordKey → ℕ) → MakesOperation hash seat bytes (Moved WriteRecord)
        (operation_at (Found page found) o) (operation_written page found o) pool pool'
        (with_row locks seat (operation_locks (operation_at (Found page found) o) (row_of locks seat)))
        (with_row locks seat (operation_locks (operation_written page found o) (row_of locks seat)))
    pub gave : (hash : RecordKey → ℕ) → MakesOperation hash seat bytes (Moved Release)
        (operation_written page found o) (operation_through page found o) pool' pool'
        (with_row locks seat (operation_locks (operation_written page found o) (row_of locks seat))) locks

  module _ (seated : IsSeat locks seat) (bare : HasNoFileLock (row_of locks seat)) (v : SearchView) where
    abbrev table : Table
    table = with_page locks seat page v.kind

    -- ---- a replace

    replace_goes : SuitsKind deeds.Replace v.kind → (found : Option ℕ) →
        WritesOn deeds.Replace page found v.key bytes pool pool' → GoesThrough found (Replace (searching v))
    replace_goes suits None done = absurd (let none = done.last in cc)
    replace_goes suits (Some len) done = record {
      free = λ before. refl;
      ended = refl;
      wrote = λ hash. replace_makes hash seat bytes (Moved WriteRecord) pool pool' table table
          (searching (search_at (Found page (Some len)) v)) (bucket_written page (Some len) (searching v))
          (replaces seat pool pool' locks seated bare v page bytes suits len done);
      gave = λ hash. replace_makes hash seat bytes (Moved Release) pool' pool' table locks
          (bucket_written page (Some len) (searching v)) (bucket_found page (Some len) (searching v))
          (gives_written seat pool pool' locks seated bare v page bytes deeds.Replace (Some len) done.writes.ready);
    }

    -- ---- a delete, whose merge waits

    module _ (m : MergeView) (begun : IsBegun m) where
      abbrev removing : BucketView → DeleteView
      removing r = record { removal = r; merge = m }

      delete_goes : SuitsKind deeds.Remove v.kind → (found : Option ℕ) →
          WritesOn deeds.Remove page found v.key bytes pool pool' →
          GoesThrough found (Delete (removing (searching v)))
      delete_goes suits None done = absurd done.last
      delete_goes suits (Some len) done = record {
        free = λ before. refl;
        ended = tt;
        wrote = λ hash. removal_makes (searching (search_at (Found page (Some len)) v))
            (bucket_written page (Some len) (searching v)) m refl begun seat bytes (Moved WriteRecord) pool pool' table
            table (removes seat pool pool' locks seated bare v page bytes suits len done) hash;
        gave = λ hash. removal_makes (bucket_written page (Some len) (searching v))
            (bucket_found page (Some len) (searching v)) m refl begun seat bytes (Moved Release) pool' pool' table
            locks
            (gives_written seat pool pool' locks seated bare v page bytes deeds.Remove (Some len) done.writes.ready)
            hash;
      }

    -- ---- an insert in its first try

    module _ (key : RecordKey) (k : ℕ) (inv : IsFirstAt key k (searching v) None) where
      -- a first try at this page
      at_page : IsFirstAt key k (searching (search_at (Found page None) v)) None
      at_page = record {
        key_is = inv.key_is;
        pseudokey_is = inv.pseudokey_is;
        kind_is = inv.kind_is;
        unseen = λ nothing. refl;
        going = λ nothing. refl;
      }

      put_there : IsFirstAt key k (bucket_written page None (searching v)) (Some IsPut)
      put_there = record {
        key_is = inv.key_is;
        pseudokey_is = inv.pseudokey_is;
        kind_is = inv.kind_is;
        unseen = λ nothing. absurd cc;
        going = λ nothing. absurd cc;
      }

      insert_goes : (found : Option ℕ) → WritesOn deeds.Put page found key bytes pool pool' →
          GoesThrough found (Insert (record { key = key; pseudokey = k; stage = First (searching v) None }))
      insert_goes (Some len) done = absurd done.last
      insert_goes None done =
          let done' = subst (λ (own : RecordKey). WritesOn deeds.Put page None own bytes pool pool') (sym inv.key_is)
          done in
          let written : BucketView = bucket_written page None (searching v) in
          record {
            free = λ before. refl;
            ended = refl;
            wrote = λ hash. insert_makes hash seat bytes (Moved WriteRecord) pool pool' table table
                (record { key = key; pseudokey = k; stage = First (searching (search_at (Found page None) v)) None })
                (record { key = key; pseudokey = k; stage = First written (Some IsPut) })
                (has_put hash seat key k bytes pool pool' table table (Moved WriteRecord)
                (searching (search_at (Found page None) v)) written None at_page
                (puts seat pool pool' locks seated bare v page bytes inv.kind_is done') refl refl);
            gave = λ hash. insert_makes hash seat bytes (Moved Release) pool' pool' table locks
                (record { key = key; pseudokey = k; stage = First written (Some IsPut) })
                (record {
                  key = key;
                  pseudokey = k;
                  stage = First (bucket_found page None (searching v)) (Some IsPut);
                })
                (says_on hash seat key k bytes pool' pool' table locks (Moved Release) written
                (bucket_found page None (searching v)) (Some IsPut) put_there
                (gives_written seat pool pool' locks seated bare v page bytes deeds.Put None done.writes.ready));
          }

  -- ---- whichever it is

  module _ (seated : IsSeat locks seat) (bare : HasNoFileLock (row_of locks seat)) (b : BucketView)
      (searches : b.stage ≡ Searching) where
    is : b ≡ searching b.search
    is = as_searching b searches

    pub goes_through : (len : ℕ) (o : RecordOperation) → IsBucketOf b o → MayBeLent len o → (found : Option ℕ) →
        WritesOn (deed_of o) page found (operation_key o) bytes pool pool' → GoesThrough found o
    goes_through len (Find f) of lent found done = absurd of
    goes_through len (Insert i) of lent found done =
        subst (λ (x : InsertView). GoesThrough found (Insert x)) (sym (insert_is b i of))
        (subst (λ (t : BucketView).
        GoesThrough found (Insert (record { key = i.key; pseudokey = i.pseudokey; stage = First t None }))) (sym is)
        (insert_goes seated bare b.search i.key i.pseudokey
        (subst (λ (t : BucketView). IsFirstAt i.key i.pseudokey t None) is of.first) found done))
    goes_through len (Replace r) of lent found done =
        let done' = subst (λ (x : BucketView). WritesOn deeds.Replace page found x.search.key bytes pool pool') of
        done in
        let lent' = subst (λ (x : BucketView). SuitsKind deeds.Replace x.search.kind) of lent in
        subst (λ (x : BucketView). GoesThrough found (Replace x)) (sym (of ∙ is))
        (replace_goes seated bare b.search lent' found done')
    goes_through len (Delete d) of lent found done =
        let done' = subst (λ (x : BucketView). WritesOn deeds.Remove page found x.search.key bytes pool pool') of.is
        done in
        subst (λ (x : DeleteView). GoesThrough found (Delete x)) (sym (delete_is b d of))
        (subst (λ (x : BucketView). GoesThrough found (Delete (record { removal = x; merge = d.merge }))) (sym is)
        (delete_goes seated bare b.search d.merge of.waits of.kind found done'))

-- one that searches has not ended, and its merge waits
module _ (b : BucketView) where
  pub before_merge : (o : RecordOperation) → IsBucketOf b o → IsBeforeMerge o
  before_merge (Find f) of = absurd of
  before_merge (Insert i) of = tt
  before_merge (Replace r) of = tt
  before_merge (Delete d) of =
      subst (λ (x : BucketView). ended_in x.stage ≡ None) (sym of.is) of.going
