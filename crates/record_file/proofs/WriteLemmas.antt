-- A record is written in the bucket of its key.
use Rattle.std.proofs.Common.{◌≡◌, refl, sym, ap, subst, ℕ, ◌≤◌, ◌<◌, true, List, [], Some, length}
use Rattle.split_merge.specs.file_pages.declared.fault.FileFault.{FileFault}
use Rattle.split_merge.specs.file_pages.Writes.{IsBucketThere}
use Rattle.hash_file.specs.Store.{bucket_at, is_bucket, page_at}
use Rattle.directory.specs.declared.layout.TheConstants.{ROOT_PAGE}
use Rattle.hash_file.specs.Change.{Quiet}
use Rattle.hash_file.specs.Changes.{MayWrite, key_of, write_record}
use Rattle.hash_file.specs.Chain.{IsBucketOf}
use Rattle.page_locks.specs.Writers.{IsWriter}
use Rattle.step_rules.specs.PageSteps.{Suits, WritesRecord}
use Rattle.step_rules.proofs.KindLemmas.{kind_keeps}
use Rattle.step_rules.proofs.OwnLemmas.{owned_answer_is_live}
use Rattle.hash_file.proofs.Searches.{looks_answer}
use Rattle.step_rules.specs.Words.{chain, PageLeads}
use Rattle.split_merge.proofs.of_file_pages.StoreLemmas.{layout_is, pages_are}
use Rattle.split_merge.proofs.of_stale_search.WayLemmas.{leads_on_way}
use Rattle.record_file.specs.Words.{RecordKey, RecordWrite, PoolState, Table, Directory, Exclusive, Change, Store, held, store_of, records_at, lookup, contents, Answers, Moved, WriteRecord, World, guard_of, Known, LeadsTo, OnPage, Covering, IsKnown, world, Sees, Step, OnlyWrites}

module _ (hash : RecordKey → ℕ) (seat : ℕ) (facts : List Known) (pool : PoolState) (locks : Table)
    (change : Change) (sees : Sees hash seat facts pool locks change) (page k : ℕ)
    (leads : IsKnown seat (world pool.images locks change) (LeadsTo page k))
    (covers : IsKnown seat (world pool.images locks change) (OnPage page (Covering k))) where
  abbrev old : World
  old = world pool.images locks change

  -- the bucket is there
  pub there : IsBucketThere page (store_of pool.images)
  there =
      let way = leads_on_way hash old.store page change k sees.sound.file leads.1 in
      record { behind = rw (layout_is pool.images) at way.behind; within = way.within; bucket = covers.1.0 }

  -- why it is not read
  pub read_fails : {P : Type 0} → (ROOT_PAGE ≤ page → page < length pool.images →
      is_bucket (page_at (store_of pool.images) page) ≡ true → P) → P
  read_fails fault = fault there.behind (rw (pages_are pool.images) at there.within) there.bucket

  -- what the file holds at a key of this pseudokey is what the page has
  pub held_here : (key : RecordKey) → hash key ≡ k → contents old.store key ≡ lookup key (records_at old.store page)
  held_here key keyed =
      looks_answer hash old.store change (chain old.store) page key sees.sound.file
      (subst (PageLeads old.store change page) (sym keyed) leads.1)
      (subst (Answers old.store page) (sym keyed) covers.1)

  module _ (between : IsWriter locks seat Directory → change ≡ Quiet) where
    -- it is live, and the bucket of the pseudokey
    pub home : IsBucketOf old.store k page
    home = ((owned_answer_is_live hash seat old page k sees.sound covers.0 between leads covers.1).1, covers.1.1)

    pub wrote : (ask : _) (write : RecordWrite) (pool' : PoolState) → hash (key_of write) ≡ k →
        held locks seat (guard_of (key_of write)) ≡ Some Exclusive →
        MayWrite write (records_at old.store page) → Suits write (bucket_at old.store page) →
        OnlyWrites true pool pool' → store_of pool'.images ≡ write_record page write (store_of pool.images) →
        Step {F = FileFault} hash seat (record { ask = ask; write = Some write }) (Moved WriteRecord) [] pool pool'
        locks locks change
    wrote ask write pool' keyed own may suits writes is =
        let new : World = world pool'.images locks change in
        let does : WritesRecord hash seat old new = record {
          page = page;
          write = write;
          page_owned = covers.0;
          record_owned = own;
          between = between;
          home = subst (λ (x : ℕ). IsBucketOf old.store x page) (sym keyed) home;
          may = may;
          suits = suits;
          is = ap (λ (s : Store). record { store = s; locks = locks; change = change }) is;
        } in
        record {
          after = change;
          file = writes.file sees.honest refl sees.file;
          others = kind_keeps WriteRecord hash seat old new sees.sound does;
          known = tt;
          does = record { writes = does; write_is = refl };
          led = tt;
        }
