-- A write that is made in one go by an access that is not seen: one that has just begun goes straight to its page, and
-- what is written there is what it is for.
use Rattle.std.proofs.Common.{◌≡◌, refl, sym, subst, ℕ, ◌≤◌, true, false, List, [], length, Option, Some, None, arith}
use Rattle.std.specs.Prelude.{IfSome}
use Rattle.std.specs.Option.{is_some}
use Rattle.queue_records.specs.declared.layout.TheConstants.{MAX_VALUE_BYTES}
use Rattle.record_file.specs.BucketAccesses.{begun_access, bucket_locks}
use Rattle.record_file.specs.BucketRuns.{BucketHeads}
use Rattle.record_file.specs.OperationRuns.{IsBucketOf, operation_through}
use Rattle.record_file.specs.OperationWords.{BucketView}
use Rattle.record_file.specs.declared.bucket_access.BucketStage.TheVariants.{Searching}
use Rattle.record_file.specs.declared.bucket_access.Deed.{Deed}
use Rattle.record_file.specs.declared.bucket_access.Deed.TheVariants as deeds
use Rattle.record_file.specs.declared.insert.InsertStage.TheVariants.{First}
use Rattle.record_file.specs.split_merge.declared.merge_place.MergePlace.TheVariants.{Approaching}
use Rattle.record_file.specs.stale_search.SearchRuns.{HasNoLock}
use Rattle.record_file.specs.stale_search.declared.place.ApproachPlace.TheVariants.{GrantDirectory}
use Rattle.record_file.specs.AccessRuns.{IsMade, TakesAhead, WritesAtOnce, WritesThere}
use Rattle.record_file.specs.AccessWords.{AreLinksInRange, Delete, EndsRow, IsReady, IsSeat, Links, Lock, MayBeLent, PoolState, Record, RecordKey, Relink, Replace, Table, begun_delete, begun_insert, begun_replace, key_of, row_of, value_of}
use Rattle.record_file.specs.Accesses.{AccessView, access_locks, begun}
use Rattle.record_file.specs.Purposes.{FitLinks, IsSpelled, ToInsert, ToWrite}
use Rattle.record_file.specs.Readings.{HasFrontOn}
use Rattle.record_file.specs.WritesAhead.{WritesOn}
use Rattle.record_file.proofs.AccessAheadLemmas.{row_bare}
use Rattle.record_file.proofs.AccessWrittenLemmas.{writes_at_once}
use Rattle.record_file.proofs.HeadLemmas.{bucket_heads}
use Rattle.record_file.proofs.OperationWrittenLemmas.{goes_through}
use Rattle.record_file.proofs.ReadLemmas.{few_linked}
use Rattle.record_file.proofs.TakenLemmas.{delete_there, insert_there, relink_there, replace_there}

-- the front in which links were set is no longer than a value, and where none were set nothing changed
pub front_within : (page : ℕ) (key : RecordKey) (pool : PoolState) (links : Links) (told : Option ℕ)
    (old new : List ℕ) → length old ≤ MAX_VALUE_BYTES → (told ≡ None → new ≡ old) →
    IfSome told (λ len. HasFrontOn page len key pool links new) → length new ≤ MAX_VALUE_BYTES
front_within page key pool links None old new within same set =
    subst (λ (xs : List ℕ). length xs ≤ MAX_VALUE_BYTES) (sym (same refl)) within
front_within page key pool links (Some len) old new within same set =
    let few = few_linked links in
    subst (λ (n : ℕ). n ≤ MAX_VALUE_BYTES) (sym set.whole) (omega (arith, few))

module _ (seat : ℕ) (pool pool' : PoolState) (ready : IsReady pool) (locks : Table) (seated : IsSeat locks seat)
    (row : EndsRow (λ (before : List Lock). before) 3 (row_of locks seat)) (page k : ℕ) where
  -- an access, by its access within a bucket
  through : (old : AccessView) (b : BucketView) → IsBucketOf b old.operation → MayBeLent 0 old.operation →
      b.stage ≡ Searching → HasNoLock (bucket_locks b) → EndsRow (access_locks old) 3 (row_of locks seat) →
      BucketHeads seat page b pool locks → (found : Option ℕ) (mid : AccessView) →
      WritesThere page found pool pool' old mid →
      WritesAtOnce seat old
      (record {
        operation = operation_through page found old.operation;
        links = old.links;
        bytes = mid.bytes;
        written = true;
      }) pool pool' locks
  through old b on lent searches bare row' heads found mid done =
      let goes = bucket_heads b searches bare seat page pool locks 0 old.operation on lent heads found done.done.has
      done.lacks in
      writes_at_once seat pool pool' ready done.done.writes.ready locks seated old mid.bytes page found goes row'
      (goes_through seat pool pool' locks page mid.bytes seated
      (row_bare seat locks old.operation goes.bare row') b searches 0 old.operation on lent found done.done)
      (subst (λ (v : AccessView). TakesAhead page found pool old v) done.ahead.is done.ahead)

  pub insert_made : (r : Record) → IsSpelled r →
      BucketHeads seat page (begun_access deeds.Put (key_of r) k) pool locks →
      WritesOn deeds.Put page None (key_of r) (value_of r) pool pool' →
      IsMade seat (ToInsert r) k pool pool' locks
  insert_made r spelled heads done = record {
    serves = record { kind = tt; key = refl; links = refl; value = refl; limits = spelled };
    behind = _;
    writes = through (begun (ToInsert r) k) (begun_access deeds.Put (key_of r) k)
        (record {
          stage = refl;
          first = record {
            key_is = refl;
            pseudokey_is = refl;
            kind_is = refl;
            unseen = λ none. refl;
            going = λ none. refl;
          };
        })
        tt refl (λ before. refl) row heads None (begun (ToInsert r) k)
        (insert_there pool ready false page (value_of r) pool' (begun_insert (key_of r) k) None (key_of r) refl
        (record { key = key_of r; pseudokey = k; stage = First (begun_access deeds.Put (key_of r) k) None }) refl done);
  }

  pub replace_made : (r : Record) → IsSpelled r →
      BucketHeads seat page (begun_access deeds.Replace (key_of r) k) pool locks →
      WritesOn deeds.Replace page (Some (length (value_of r))) (key_of r) (value_of r) pool pool' →
      IsMade seat (ToWrite (Replace r)) k pool pool' locks
  replace_made r spelled heads done = record {
    serves = record { kind = tt; key = refl; links = refl; value = refl; limits = spelled };
    behind = _;
    writes = through (begun (ToWrite (Replace r)) k) (begun_access deeds.Replace (key_of r) k) refl refl refl
        (λ before. refl) row heads (Some (length (value_of r))) (begun (ToWrite (Replace r)) k)
        (replace_there pool ready false page (value_of r) pool' (begun_replace (key_of r) k) None (key_of r) refl
        (begun_access deeds.Replace (key_of r) k) refl refl done);
  }

  pub relink_made : (key : RecordKey) (links : Links) → AreLinksInRange links → FitLinks links →
      BucketHeads seat page (begun_access deeds.Replace key k) pool locks → (len : ℕ) (bytes : List ℕ) →
      WritesOn deeds.Replace page (Some len) key bytes pool pool' → HasFrontOn page len key pool links bytes →
      IsMade seat (ToWrite (Relink key links)) k pool pool' locks
  relink_made key links range fit heads len bytes done front = record {
    serves = record { kind = tt; key = refl; links = refl; value = tt; limits = (range, fit) };
    behind = _;
    writes = through (begun (ToWrite (Relink key links)) k) (begun_access deeds.Replace key k) refl refl refl
        (λ before. refl) row heads (Some len)
        (record { operation = begun_replace key k; links = Some links; bytes = bytes; written = false })
        (relink_there pool ready false page bytes pool' (begun_replace key k) (Some links) key refl
        (begun_access deeds.Replace key k) refl links refl [] len done front);
  }

  pub delete_made : (key : RecordKey) → BucketHeads seat page (begun_access deeds.Remove key k) pool locks →
      (len : ℕ) → WritesOn deeds.Remove page (Some len) key [] pool pool' →
      IsMade seat (ToWrite (Delete key)) k pool pool' locks
  delete_made key heads len done = record {
    serves = record { kind = tt; key = refl; links = refl; value = tt; limits = tt };
    behind = _;
    writes = through (begun (ToWrite (Delete key)) k) (begun_access deeds.Remove key k)
        (record {
          is = refl;
          going = refl;
          kind = refl;
          waits = record { place = refl; approach = refl };
        })
        tt refl (λ before. refl) row heads (Some len) (begun (ToWrite (Delete key)) k)
        (delete_there pool ready false page [] pool' (begun_delete key k) None key refl
        (record {
          removal = begun_access deeds.Remove key k;
          merge = record {
            key = key;
            approach = record { pseudokey = k; place = GrantDirectory };
            place = Approaching;
          };
        }) refl len done);
  }

  -- ---- as the code tells them

  heads_from : (deed : Deed) (key own : RecordKey) → key ≡ own → (b : BucketView) → b ≡ begun_access deed key k →
      BucketHeads seat page b pool locks → BucketHeads seat page (begun_access deed own k) pool locks
  heads_from deed key own key_is b b_is heads =
      subst (λ (x : RecordKey). BucketHeads seat page (begun_access deed x k) pool locks) key_is
      (subst (λ (x : BucketView). BucketHeads seat page x pool locks) b_is heads)

  module _ (seen : PoolState) (seen_is : seen ≡ pool) where
    -- a record, by its key and its value
    module _ (r : Record) (spelled : IsSpelled r) (key : RecordKey) (key_is : key ≡ key_of r) (value : List ℕ)
        (value_is : value ≡ value_of r) (b : BucketView) where
      pub insert_told : b ≡ begun_access deeds.Put key k → BucketHeads seat page b pool locks →
          WritesOn deeds.Put page None key value seen pool' → IsMade seat (ToInsert r) k pool pool' locks
      insert_told b_is heads done =
          insert_made r spelled (heads_from deeds.Put key (key_of r) key_is b b_is heads)
          (subst (λ (p : PoolState). WritesOn deeds.Put page None (key_of r) (value_of r) p pool') seen_is
          (subst (λ (v : List ℕ). WritesOn deeds.Put page None (key_of r) v seen pool') value_is
          (subst (λ (x : RecordKey). WritesOn deeds.Put page None x value seen pool') key_is done)))

      pub replace_told : b ≡ begun_access deeds.Replace key k → BucketHeads seat page b pool locks →
          WritesOn deeds.Replace page (Some (length value)) key value seen pool' →
          IsMade seat (ToWrite (Replace r)) k pool pool' locks
      replace_told b_is heads done =
          let whole : Option ℕ = Some (length (value_of r)) in
          replace_made r spelled (heads_from deeds.Replace key (key_of r) key_is b b_is heads)
          (subst (λ (p : PoolState). WritesOn deeds.Replace page whole (key_of r) (value_of r) p pool') seen_is
          (subst (λ (v : List ℕ). WritesOn deeds.Replace page (Some (length v)) (key_of r) v seen pool') value_is
          (subst (λ (x : RecordKey). WritesOn deeds.Replace page (Some (length value)) x value seen pool') key_is
          done)))

    module _ (key : RecordKey) (b : BucketView) (told : Option ℕ) (some : is_some told ≡ true) where
      pub relink_told : (links : Links) → AreLinksInRange links → FitLinks links →
          b ≡ begun_access deeds.Replace key k → BucketHeads seat page b pool locks → (bytes : List ℕ) →
          IfSome told (λ len. WritesOn deeds.Replace page (Some len) key bytes seen pool') →
          IfSome told (λ len. HasFrontOn page len key seen links bytes) →
          IsMade seat (ToWrite (Relink key links)) k pool pool' locks
      relink_told links range fit b_is heads bytes = by told some
        where
          by : (at : Option ℕ) → is_some at ≡ true →
              IfSome at (λ len. WritesOn deeds.Replace page (Some len) key bytes seen pool') →
              IfSome at (λ len. HasFrontOn page len key seen links bytes) →
              IsMade seat (ToWrite (Relink key links)) k pool pool' locks
          by None none done front = absurd cc
          by (Some len) has done front =
              relink_made key links range fit (heads_from deeds.Replace key key refl b b_is heads) len bytes
              (subst (λ (p : PoolState). WritesOn deeds.Replace page (Some len) key bytes p pool') seen_is done)
              (subst (λ (p : PoolState). HasFrontOn page len key p links bytes) seen_is front)

      pub delete_told : b ≡ begun_access deeds.Remove key k → BucketHeads seat page b pool locks →
          IfSome told (λ len. (bytes : List ℕ) → WritesOn deeds.Remove page (Some len) key bytes seen pool') →
          IsMade seat (ToWrite (Delete key)) k pool pool' locks
      delete_told b_is heads = by told some
        where
          by : (at : Option ℕ) → is_some at ≡ true →
              IfSome at (λ len. (bytes : List ℕ) → WritesOn deeds.Remove page (Some len) key bytes seen pool') →
              IsMade seat (ToWrite (Delete key)) k pool pool' locks
          by None none done = absurd cc
          by (Some len) has done =
              delete_made key (heads_from deeds.Remove key key refl b b_is heads) len
              (subst (λ (p : PoolState). WritesOn deeds.Remove page (Some len) key [] p pool') seen_is (done []))
