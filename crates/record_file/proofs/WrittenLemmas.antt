-- A deed that is done at once: its WriteRecord and its Release, as steps of it.
use Rattle.std.proofs.Common.{◌≡◌, refl, sym, ap, ◌∙◌, subst, ℕ, false, List, Option, Some, None, arith}
use Rattle.page_locks.proofs.ChangeLemmas.{IsSeat-with_row}
use Rattle.page_locks.proofs.TableLemmas.{row_of-same}
use Rattle.hash_file.specs.Chain.{IsBucketOf}
use Rattle.split_merge.proofs.MoveLemmas.{nothing_read}
use Rattle.split_merge.specs.buffer_pool.Pool.{PoolState}
use Rattle.split_merge.specs.stale_search.SearchRuns.{search_at}
use Rattle.split_merge.specs.stale_search.declared.place.SearchPlace.TheVariants.{Found}
use Rattle.record_file.specs.Words.{Table, IsSeat, LockKind, Selective, IsReady, Moved, Release, WriteRecord, SearchView, Store, HasNoFileLock, on_page, row_of, store_of, with_row, world}
use Rattle.record_file.specs.BucketRuns.{bucket_found, bucket_written}
use Rattle.record_file.specs.BucketSteps.{MakesBucket}
use Rattle.record_file.specs.WritesAhead.{WritesOn}
use Rattle.record_file.specs.declared.bucket_access.Deed.{Deed}
use Rattle.record_file.specs.declared.bucket_access.Deed.TheVariants as deeds
use Rattle.record_file.proofs.AheadLemmas.{given_back}
use Rattle.record_file.proofs.DeedLemmas.{bucket_there, put, removed, replaced}
use Rattle.record_file.proofs.ReleaseLemmas.{no_directory}
use Rattle.record_file.proofs.RemovedLemmas.{none_due, turned}
use Rattle.record_file.proofs.StepLemmas.{given_no_more, gives_back, has_written, searching}
use Rattle.record_file.proofs.WriteLemmas.{home}

-- the table while the page is held
abbrev pub with_page : Table → (seat page : ℕ) → LockKind → Table
with_page locks seat page kind = with_row locks seat (on_page page kind (row_of locks seat))

module _ (seat : ℕ) (pool pool' : PoolState) (locks : Table) (seated : IsSeat locks seat)
    (bare : HasNoFileLock (row_of locks seat)) (v : SearchView) (page : ℕ) (bytes : List ℕ) where
  abbrev held : Table
  held = with_page locks seat page v.kind

  -- ---- the page is given back

  pub gives_written : (deed : Deed) (found : Option ℕ) → IsReady pool' → MakesBucket deed seat bytes (Moved Release)
      (bucket_written page found (searching v)) (bucket_found page found (searching v)) pool' pool' held locks
  gives_written deed found ready =
      gives_back deed seat bytes pool' pool' held (bucket_written page found (searching v)) page false locks
      (nothing_read pool' ready) (IsSeat-with_row locks seat seat (on_page page v.kind (row_of locks seat)) seated)
      (λ before. refl) refl refl refl (λ s. omega arith)
      (λ hash change keyed sees. given_no_more deed hash seat v.key bytes page false (world pool'.images held change)
      (world pool'.images locks change))
      (sym (given_back locks seat page v.kind seated bare))

  -- ---- the record is written

  module _ (selective : v.kind ≡ Selective) where
    -- it is, of this deed
    abbrev Writes : Deed → Option ℕ → Type 0
    Writes deed found = MakesBucket deed seat bytes (Moved WriteRecord) (searching (search_at (Found page found) v))
        (bucket_written page found (searching v)) pool pool' held held

    pub puts : WritesOn deeds.Put page None v.key bytes pool pool' → Writes deeds.Put None
    puts done =
        let at : SearchView = search_at (Found page None) v in
        has_written deeds.Put seat bytes pool pool' held at page None refl tt false selective done.writes
        (λ hash change before bare' keyed owns row suits sees.
        put hash seat pool pool' held change at page before bare' keyed owns row done.writes sees bytes done.last
        (done.is sees.honest))
        (λ hash change keyed sees. tt)

    pub replaces : (len : ℕ) → WritesOn deeds.Replace page (Some len) v.key bytes pool pool' →
        Writes deeds.Replace (Some len)
    replaces len done =
        let at : SearchView = search_at (Found page (Some len)) v in
        has_written deeds.Replace seat bytes pool pool' held at page (Some len) refl tt false selective done.writes
        (λ hash change before bare' keyed owns row suits sees.
        replaced hash seat pool pool' held change at page before bare' keyed owns row done.writes len sees bytes suits.1
        (done.is sees.honest))
        (λ hash change keyed sees. tt)

    here : row_of held seat ≡ on_page page Selective (row_of locks seat)
    here = row_of-same locks seat (on_page page v.kind (row_of locks seat)) seated
        ∙ ap (λ (kind : LockKind). on_page page kind (row_of locks seat)) selective

    pub removes : (len : ℕ) → WritesOn deeds.Remove page (Some len) v.key bytes pool pool' →
        Writes deeds.Remove (Some len)
    removes len done =
        let at : SearchView = search_at (Found page (Some len)) v in
        let s : Store = store_of pool.images in
        has_written deeds.Remove seat bytes pool pool' held at page (Some len) refl tt false selective done.writes
        (λ hash change before bare' keyed owns row suits sees.
        removed hash seat pool pool' held change at page before bare' keyed owns row done.writes len sees
        (done.is sees.honest))
        (λ hash change keyed sees.
        let bucket = bucket_there hash seat pool held change at page len sees in
        let home' = subst (λ (k : ℕ). IsBucketOf s k page) (sym keyed)
        (home hash seat _ pool held change sees page v.pseudokey sees.known.0 sees.known.1.0
        (λ w. absurd (no_directory seat held page Selective (row_of locks seat) bare here w))) in
        turned hash v.key seat page false (world pool'.images held change) (λ no.
        none_due s page v.key bucket.within bucket.bucket hash seat (world pool'.images held change) len
        (done.is sees.honest) sees.known.1.1.0.1 home' done.last))
