-- A delete whose removal has ended: its merge goes on, or it is over.
use Rattle.std.proofs.Common.{refl, sym, ap, ◌∙◌, subst, ◌≡◌, ℕ, true, false, List, Some, inl}
use Rattle.page_locks.proofs.ChangeLemmas.{with_row-own}
use Rattle.step_rules.proofs.LockStepLemmas.{KeepsOthers-same}
use Rattle.split_merge.specs.Places.{MergeView}
use Rattle.split_merge.specs.Facts.{merge_facts, merge_turn}
use Rattle.split_merge.specs.Steps.{MakesStep}
use Rattle.split_merge.proofs.MoveLemmas.{nothing_written}
use Rattle.split_merge.proofs.of_stale_search.StayLemmas.{Stays-of}
use Rattle.record_file.proofs.KindLemmas.{delete_makes}
use Rattle.record_file.proofs.OperationNames.{FileFault, MakesOperation, SearchView, Turn}
use Rattle.record_file.specs.OperationWords.{RecordKey, PoolState, Table, Progress, Ended, IsReady, Step, Delete, DeleteView, with_row, world}
use Rattle.record_file.specs.BucketAccesses.{ended_in}
use Rattle.record_file.specs.Words.{Remove}
use Rattle.record_file.specs.declared.bucket_access.BucketStage.{BucketStage}
use Rattle.record_file.specs.declared.bucket_access.BucketStage.TheVariants.{Searching, Written, Ended as HasEnded}

abbrev delete_at : SearchView → BucketStage → MergeView → DeleteView
delete_at v stage m = record { removal = record { search = v; stage = stage }; merge = m }

module _ (hash : RecordKey → ℕ) (seat : ℕ) (bytes : List ℕ) (v : SearchView) (m : MergeView) where
  -- the merge makes a step, of which the turn is that of the removed key
  pub merge_makes : (stage : BucketStage) (m' : MergeView) (did : Progress FileFault) (pool pool' : PoolState)
      (locks locks' : Table) → ended_in stage ≡ Some true → m.key ≡ v.key → m.approach.pseudokey ≡ v.pseudokey →
      MakesStep seat did m m' pool pool' locks locks' →
      MakesOperation hash seat bytes did (Delete (delete_at v stage m)) (Delete (delete_at v stage m')) pool pool'
      locks locks'
  merge_makes Searching m' did pool pool' locks locks' is key pseudokey made = absurd cc
  merge_makes (Written n due) m' did pool pool' locks locks' is key pseudokey made = absurd cc
  merge_makes (HasEnded false) m' did pool pool' locks locks' is key pseudokey made =
      absurd (let f : false ≡ true = cc in cc)
  merge_makes (HasEnded true) m' did pool pool' locks locks' is key pseudokey made =
      let keyed_merge : hash v.key ≡ v.pseudokey → hash m.key ≡ m.approach.pseudokey =
      λ keyed. ap hash key ∙ keyed ∙ sym pseudokey in
      let turn : RecordKey → Turn = λ (k : RecordKey). record { ask = (merge_turn m).ask; write = Some (Remove k) } in
      delete_makes hash seat bytes did pool pool' locks locks' (delete_at v (HasEnded true) m)
      (delete_at v (HasEnded true) m') made.writes
      (record {
        key = refl;
        pseudokey = refl;
        stays = Stays-of (delete_at v (HasEnded true)) did m m' made.aim.stays;
        ended = made.aim.ended;
        leaves = tt;
      })
      made.row
      (λ change sees. made.progress hash change sees)
      (λ change before bare owns row keyed sees fine.
      subst (λ (k : RecordKey). Step hash seat (turn k) did (merge_facts m') pool pool' locks locks' change) key
      (made.step hash change before (keyed_merge keyed) bare row sees fine).step)
      (λ change keyed sees fine. (inl refl, tt, made.answer hash change (keyed_merge keyed) sees fine))

  -- no merge is due
  pub over_makes : (stage : BucketStage) (pool : PoolState) (locks : Table) → ended_in stage ≡ Some false →
      IsReady pool →
      MakesOperation hash seat bytes Ended (Delete (delete_at v stage m)) (Delete (delete_at v stage m)) pool pool
      locks locks
  over_makes Searching pool locks is ready = absurd cc
  over_makes (Written n due) pool locks is ready = absurd cc
  over_makes (HasEnded true) pool locks is ready = absurd (let f : true ≡ false = cc in cc)
  over_makes (HasEnded false) pool locks is ready =
      delete_makes hash seat bytes Ended pool pool locks locks (delete_at v (HasEnded false) m)
      (delete_at v (HasEnded false) m)
      (record {
        writes = nothing_written pool ready;
        cause = λ fault same. absurd cc;
        spares = λ failed honest. refl;
      })
      (record { key = refl; pseudokey = refl; stays = refl; ended = (λ ended. tt, λ over. refl); leaves = tt })
      (λ before bare row. sym (with_row-own locks seat) ∙ ap (with_row locks seat) row)
      (λ change sees. tt)
      (λ change before bare owns row keyed sees fine. record {
        after = change;
        file = sees.file;
        others = KeepsOthers-same hash seat (world pool.images locks change) (world pool.images locks change)
            sees.sound refl;
        known = sees.known;
        does = refl;
        led = tt;
      })
      (λ change keyed sees fine. (inl refl, tt, λ going up. absurd (let f : true ≡ false = sym up ∙ going in cc)))
