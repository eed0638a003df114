-- The page at which a search ended is written or given back.
use Rattle.std.proofs.Common.{◌≡◌, refl, sym, ap, ◌∙◌, subst, ℕ, ◌+◌, ◌≤◌, Bool, true, List, [], Option, Some, None, IsSome, IsTrue, length, unwrap_or, arith}
use Rattle.bucket_page.specs.declared.layout.TheConstants.{RECORD_HEAD_BYTES, ROOM_BYTES}
use Rattle.bucket_page.proofs.Steps.{length-pair}
use Rattle.split_merge.specs.buffer_pool.Pool.{PoolState}
use Rattle.split_merge.specs.file_pages.declared.fault.FileFault.{FileFault}
use Rattle.split_merge.specs.file_pages.Writes.{IsBucketThere}
use Rattle.split_merge.proofs.of_file_pages.ReadLemmas.{devices_after}
use Rattle.hash_file.specs.Changes.{write_record}
use Rattle.split_merge.specs.stale_search.declared.place.SearchPlace.{SearchPlace}
use Rattle.split_merge.specs.stale_search.declared.place.SearchPlace.TheVariants.{Found}
use Rattle.split_merge.specs.stale_search.Searches.{ask_at, locks_at}
use Rattle.record_file.specs.Words.{RecordKey, pair, lookup, record_bytes, contents, Put, Replace, Remove, Table, Lock, LockKind, Selective, Page, Change, OnlyReads, OnlyWrites, IsDevicesFault, row_of, with_row, without, without_lock, store_of, records_at, Moved, WriteRecord, SearchView, search_locks, found_at, Store, Turn, Sees, Step, HasNoFileLock, on_page}
use Rattle.record_file.specs.Writers.{Owns, seen_at, seen_of}
use Rattle.record_file.specs.BucketAccesses.{IsFrontAt, with_front}
use Rattle.record_file.proofs.AnswerLemmas.{found_place}
use Rattle.record_file.proofs.ReleaseLemmas.{no_directory, page_gone, still_owns}
use Rattle.record_file.proofs.ValueLemmas.{is_there, fronted_length, short_of}
use Rattle.record_file.proofs.WriteLemmas.{held_here, there, wrote}

-- a read is as good as a write that changed nothing, and may come before one
pub only_writes : (ok : Bool) (s t : PoolState) → OnlyReads ok s t → OnlyWrites ok s t
only_writes ok s t r = record {
  ready = r.ready;
  honest = r.honest;
  later = r.later;
  stored = r.stored;
  as_many = r.as_many;
  file = r.file;
}

pub writes_behind : (ok : Bool) (s t u : PoolState) → OnlyReads true s t → OnlyWrites ok t u → OnlyWrites ok s u
writes_behind ok s t u r w = record {
  ready = w.ready;
  honest = w.honest ∙ r.honest;
  later = omega (arith, r.later, w.later);
  stored = w.stored ∙ r.stored;
  as_many = w.as_many ∙ r.as_many;
  file = λ honest done f. w.file (r.honest ∙ honest) done (r.file honest refl f);
}

-- what a write after a read is of the file before both
pub behind_read : (s t u : PoolState) (f : Store → Store) → OnlyReads true s t → IsTrue s.honest →
    (IsTrue t.honest → store_of u.images ≡ f (store_of t.images)) → store_of u.images ≡ f (store_of s.images)
behind_read s t u f r honest is =
    is (r.honest ∙ honest) ∙ ap (λ (images : List (List ℕ)). f (store_of images)) (r.images honest)

module _ (v : SearchView) (page : ℕ) (found : Option ℕ) (at : found_at v.place ≡ Some (page, found)) where
  -- the page is the one lock on the file
  pub page_row : (xs before : List Lock) → xs ≡ search_locks v before → xs ≡ on_page page v.kind before
  page_row xs before row =
      row ∙ ap (λ (p : SearchPlace). locks_at p v.kind before) (found_place v.place page found at)

  pub page_row_selective : v.kind ≡ Selective → (xs before : List Lock) → xs ≡ search_locks v before →
      xs ≡ on_page page Selective before
  page_row_selective is xs before row =
      page_row xs before row ∙ ap (λ (kind : LockKind). on_page page kind before) is

  pub sees_found : (hash : RecordKey → ℕ) (seat : ℕ) (pool : PoolState) (locks : Table) (change : Change) →
      Sees hash seat (seen_of v) pool locks change →
      Sees hash seat (seen_at (Found page found) v.key v.pseudokey) pool locks change
  sees_found hash seat pool locks change sees =
      subst (λ (p : SearchPlace). Sees hash seat (seen_at p v.key v.pseudokey) pool locks change)
      (found_place v.place page found at) sees

-- the row once the page was given back
pub released : (locks locks' : Table) (seat page : ℕ) (kind : LockKind) (before : List Lock) → HasNoFileLock before →
    row_of locks seat ≡ on_page page kind before → locks' ≡ without_lock locks seat (Page page) →
    locks' ≡ with_row locks seat before
released locks locks' seat page kind before bare row is =
    is ∙ ap (with_row locks seat) (ap (λ (xs : List Lock). without xs (Page page)) row
    ∙ page_gone before bare page kind)

module _ (hash : RecordKey → ℕ) (seat : ℕ) (pool pool' : PoolState) (locks : Table) (change : Change)
    (v : SearchView) (page : ℕ) (before : List Lock) (bare : HasNoFileLock before)
    (keyed : hash v.key ≡ v.pseudokey) (owns : Owns before v.key)
    (row : row_of locks seat ≡ on_page page Selective before) (writes : OnlyWrites true pool pool') where
  abbrev AfterWrite : Turn → Type 0
  AfterWrite turn = Step {F = FileFault} hash seat turn (Moved WriteRecord) [] pool pool' locks locks change

  module _ (bytes : ℕ)
      (sees : Sees hash seat (seen_at (Found page (Some bytes)) v.key v.pseudokey) pool locks change) where
    pub replaced : (front : List ℕ) → IsFrontAt (store_of pool.images) v.key front →
        store_of pool'.images ≡ write_record page (Replace (pair v.key (with_front front
        (unwrap_or (lookup v.key (records_at (store_of pool.images) page)) [])))) (store_of pool.images) →
        AfterWrite (record {
          ask = ask_at v.place v.kind v.pseudokey;
          write = Some (Replace (pair v.key (with_front front (unwrap_or (contents (store_of pool.images) v.key) []))));
        })
    replaced front short is =
        let leads = sees.known.0 in
        let covers = sees.known.1.0 in
        let having = sees.known.1.1.0.1 in
        let same = held_here hash seat _ pool locks change sees page v.pseudokey leads covers v.key keyed in
        let some = is_there (lookup v.key (records_at (store_of pool.images) page)) bytes having in
        let short' = subst (λ (x : Option (List ℕ)). (value : List ℕ) → x ≡ Some value → length front ≤ length value)
        same short in
        let long = fronted_length (lookup v.key (records_at (store_of pool.images) page)) front short' some in
        wrote hash seat _ pool locks change sees page v.pseudokey leads covers
        (λ w. absurd (no_directory seat locks page Selective before bare row w)) (ask_at v.place v.kind v.pseudokey)
        (Replace (pair v.key (with_front front (unwrap_or (contents (store_of pool.images) v.key) [])))) pool' keyed
        (still_owns seat locks page Selective before bare row v.key owns) some
        (long ∙ ap (λ (x : Option (List ℕ)). Some (length (with_front front (unwrap_or x [])))) (sym same)) writes
        (is ∙ ap (λ (x : Option (List ℕ)). write_record page
        (Replace (pair v.key (with_front front (unwrap_or x [])))) (store_of pool.images)) (sym same))

    pub removed : store_of pool'.images ≡ write_record page (Remove v.key) (store_of pool.images) →
        AfterWrite (record { ask = ask_at v.place v.kind v.pseudokey; write = Some (Remove v.key) })
    removed is =
        wrote hash seat _ pool locks change sees page v.pseudokey sees.known.0 sees.known.1.0
        (λ w. absurd (no_directory seat locks page Selective before bare row w)) (ask_at v.place v.kind v.pseudokey)
        (Remove v.key) pool' keyed (still_owns seat locks page Selective before bare row v.key owns) tt
        (is_there (lookup v.key (records_at (store_of pool.images) page)) bytes sees.known.1.1.0.1) writes is

  module _ (sees : Sees hash seat (seen_at (Found page None) v.key v.pseudokey) pool locks change) where
    pub put : (value : List ℕ) →
        length (record_bytes (records_at (store_of pool.images) page)) + (RECORD_HEAD_BYTES + length value)
        ≤ ROOM_BYTES →
        store_of pool'.images ≡ write_record page (Put (pair v.key value)) (store_of pool.images) →
        AfterWrite (record { ask = ask_at v.place v.kind v.pseudokey; write = Some (Put (pair v.key value)) })
    put value room is =
        wrote hash seat _ pool locks change sees page v.pseudokey sees.known.0 sees.known.1.0
        (λ w. absurd (no_directory seat locks page Selective before bare row w)) (ask_at v.place v.kind v.pseudokey)
        (Put (pair v.key value)) pool' keyed (still_owns seat locks page Selective before bare row v.key owns)
        sees.known.1.1.0.1 (let size = length-pair (pair v.key value) in omega (arith, room, size)) writes is

-- why a write fails of a bucket that is there and has the key
module _ (hash : RecordKey → ℕ) (seat : ℕ) (pool : PoolState) (locks : Table) (change : Change) (v : SearchView)
    (page bytes : ℕ) (sees : Sees hash seat (seen_at (Found page (Some bytes)) v.key v.pseudokey) pool locks change)
  where
    pub bucket_there : IsBucketThere page (store_of pool.images)
    bucket_there = there hash seat _ pool locks change sees page v.pseudokey sees.known.0 sees.known.1.0

    pub key_there : IsSome (lookup v.key (records_at (store_of pool.images) page))
    key_there = is_there (lookup v.key (records_at (store_of pool.images) page)) bytes sees.known.1.1.0.1

    pub fronting_fails : {P : Type 0} → hash v.key ≡ v.pseudokey → (front : List ℕ) →
        IsFrontAt (store_of pool.images) v.key front →
        (IsBucketThere page (store_of pool.images) → IsSome (lookup v.key (records_at (store_of pool.images) page)) →
        length front ≤ length (unwrap_or (lookup v.key (records_at (store_of pool.images) page)) []) → P) → P
    fronting_fails keyed front short fault =
        let same = held_here hash seat _ pool locks change sees page v.pseudokey sees.known.0 sees.known.1.0 v.key
        keyed in
        fault bucket_there key_there
        (short_of (lookup v.key (records_at (store_of pool.images) page)) front
        (subst (λ (x : Option (List ℕ)). (value : List ℕ) → x ≡ Some value → length front ≤ length value) same short)
        key_there)

    -- and of one that was read before
    pub removal_fails : (pool' pool'' : PoolState) (fault : FileFault) → OnlyReads true pool pool' →
        (IsBucketThere page (store_of pool'.images) →
        IsSome (lookup v.key (records_at (store_of pool'.images) page)) → IsDevicesFault pool' pool'' fault) →
        IsDevicesFault pool pool'' fault
    removal_fails pool' pool'' fault reads failed =
        let same = sym (reads.images sees.honest) in
        devices_after reads.later (failed
        (subst (λ (images : List (List ℕ)). IsBucketThere page (store_of images)) same bucket_there)
        (subst (λ (images : List (List ℕ)). IsSome (lookup v.key (records_at (store_of images) page))) same key_there))
