-- What a write takes of the page on which it is written at once.
use Rattle.std.proofs.Common.{◌≡◌, refl, sym, ap, ◌∙◌, subst, ℕ, ◌≤◌, Bool, List, length, Option, Some, None}
use Rattle.record_file.specs.BucketRuns.{bucket_at}
use Rattle.record_file.specs.OperationWords.{BucketView, DeleteView, InsertView}
use Rattle.record_file.specs.declared.bucket_access.Deed.TheVariants as deeds
use Rattle.record_file.specs.declared.operation.RecordOperation.TheVariants as operations
use Rattle.record_file.specs.stale_search.declared.place.SearchPlace.TheVariants.{Found}
use Rattle.record_file.specs.AccessRuns.{TakesAhead, WritesThere}
use Rattle.record_file.specs.AccessWords.{Delete, HasSuch, IsReady, Links, PoolState, Record, RecordKey, RecordOperation, Relink, Replace, linked_bytes, operation_key, value_of}
use Rattle.record_file.specs.Accesses.{AccessView, IsFrontOf, IsOfKind, links_of}
use Rattle.record_file.specs.Purposes.{Purpose, ToFind, ToInsert, ToWrite}
use Rattle.record_file.specs.Readings.{HasFrontOn, IsReplace, IsTold, SuitsRecord, WasAllowed, value_on}
use Rattle.record_file.specs.WritesAhead.{WritesOn}
use Rattle.record_file.proofs.AccessAheadLemmas.{untouched}
use Rattle.record_file.proofs.TakingLemmas.{front_takes}

-- the front that links are set in is what a relink takes
front_taken : (pool : PoolState) → IsReady pool → (o : RecordOperation) → IsReplace o → (links : Links)
    (old_bytes bytes : List ℕ) (written : Bool) (page len : ℕ) → length bytes ≡ linked_bytes links →
    linked_bytes links ≤ len →
    ((r : Record) → HasSuch links (Some r) → value_on pool page (operation_key o) ≡ Some (value_of r) →
    IsFrontOf links bytes r) →
    TakesAhead page (Some len) pool
    (record { operation = o; links = Some links; bytes = old_bytes; written = written })
    (record { operation = o; links = Some links; bytes = bytes; written = written })
front_taken pool ready (operations.Replace r) replace links old_bytes bytes written page len size within front =
    let o : RecordOperation = operations.Replace (bucket_at (Found page (Some len)) r) in
    record {
      is = refl;
      takes = front_takes o links old_bytes written page len refl tt pool pool tt bytes (untouched pool ready) size
          within
          (λ q honest such value. front q such value);
    }
front_taken pool ready (operations.Find f) replace links old_bytes bytes written page len size within front =
    absurd replace
front_taken pool ready (operations.Insert i) replace links old_bytes bytes written page len size within front =
    absurd replace
front_taken pool ready (operations.Delete d) replace links old_bytes bytes written page len size within front =
    absurd replace

module _ (pool : PoolState) (ready : IsReady pool) (written : Bool) (page : ℕ) (bytes : List ℕ) where
  abbrev of : RecordOperation → Option Links → AccessView
  of o links = record { operation = o; links = links; bytes = bytes; written = written }

  -- ---- an insert has nothing to take

  insert_takes : (i : InsertView) (links : Option Links) →
      TakesAhead page None pool (of (operations.Insert i) links) (of (operations.Insert i) links)
  insert_takes i links = record {
    is = refl;
    takes = record {
      reads = untouched pool ready;
      cause = tt;
      operation = refl;
      written = refl;
      serves = λ p serves. serves;
      rests = λ none. (refl, refl);
      suits = λ fine. tt;
      tells = λ p found page' len here. absurd cc;
    };
  }

  -- ---- a value that is replaced whole is as long

  replace_takes : (r : BucketView) → TakesAhead page (Some (length bytes)) pool (of (operations.Replace r) None)
      (of (operations.Replace r) None)
  replace_takes r = record {
    is = refl;
    takes = record {
      reads = untouched pool ready;
      cause = tt;
      operation = refl;
      written = refl;
      serves = λ p serves. serves;
      rests = λ none. absurd cc;
      suits = λ fine. refl;
      tells = λ p found page' len here serves shown was. told p found serves.kind serves.links was;
    };
  }
    where
      at_page : AccessView
      at_page = of (operations.Replace (bucket_at (Found page (Some (length bytes))) r)) None

      told : (p : Purpose) (found : Option Record) → IsOfKind p at_page.operation → None ≡ links_of p →
          WasAllowed p at_page found → SuitsRecord p at_page found × IsTold p at_page found
      told (ToFind key) found kind links was = absurd kind
      told (ToInsert r) found kind links was = absurd kind
      told (ToWrite (Replace r)) found kind links was = (was, tt)
      told (ToWrite (Relink key l)) found kind links was = absurd cc
      told (ToWrite (Delete key)) found kind links was = absurd kind

  -- ---- of a delete there is a record

  delete_takes : (d : DeleteView) (links : Option Links) (len : ℕ) →
      TakesAhead page (Some len) pool (of (operations.Delete d) links) (of (operations.Delete d) links)
  delete_takes d links len = record {
    is = refl;
    takes = record {
      reads = untouched pool ready;
      cause = tt;
      operation = refl;
      written = refl;
      serves = λ p serves. serves;
      rests = λ none. absurd cc;
      suits = λ fine unwritten. refl;
      tells = λ p found page' len' here serves shown was. told p found serves.kind was;
    };
  }
    where
      at_page : AccessView
      at_page = of (operations.Delete (record d { removal = bucket_at (Found page (Some len)) d.removal })) links

      told : (p : Purpose) (found : Option Record) → IsOfKind p at_page.operation → WasAllowed p at_page found →
          SuitsRecord p at_page found × IsTold p at_page found
      told (ToFind key) found kind was = absurd kind
      told (ToInsert r) found kind was = absurd kind
      told (ToWrite (Replace r)) found kind was = absurd kind
      told (ToWrite (Relink key l)) found kind was = absurd kind
      told (ToWrite (Delete key)) found kind was = (was, tt)

  -- ---- with what is written there

  module _ (pool' : PoolState) (o : RecordOperation) (links : Option Links) (key : RecordKey)
      (is : operation_key o ≡ key) where
    pub insert_there : (i : InsertView) → o ≡ operations.Insert i →
        WritesOn deeds.Put page None key bytes pool pool' →
        WritesThere page None pool pool' (of o links) (of o links)
    insert_there i kind done =
        subst (λ (x : RecordOperation). operation_key x ≡ key →
        WritesThere page None pool pool' (of x links) (of x links)) (sym kind)
        (λ own. record {
          lacks = refl;
          ahead = insert_takes i links;
          done = subst (λ (k : RecordKey). WritesOn deeds.Put page None k bytes pool pool') (sym own) done;
        }) is

    pub delete_there : (d : DeleteView) → o ≡ operations.Delete d → (len : ℕ) →
        WritesOn deeds.Remove page (Some len) key bytes pool pool' →
        WritesThere page (Some len) pool pool' (of o links) (of o links)
    delete_there d kind len done =
        subst (λ (x : RecordOperation). operation_key x ≡ key →
        WritesThere page (Some len) pool pool' (of x links) (of x links)) (sym kind)
        (λ own. record {
          lacks = tt;
          ahead = delete_takes d links len;
          done = subst (λ (k : RecordKey). WritesOn deeds.Remove page (Some len) k bytes pool pool') (sym own) done;
        }) is

    pub replace_there : (r : BucketView) → o ≡ operations.Replace r → links ≡ None →
        WritesOn deeds.Replace page (Some (length bytes)) key bytes pool pool' →
        WritesThere page (Some (length bytes)) pool pool' (of o links) (of o links)
    replace_there r kind whole done =
        subst (λ (l : Option Links). WritesThere page (Some (length bytes)) pool pool' (of o l) (of o l)) (sym whole)
        (subst (λ (x : RecordOperation). operation_key x ≡ key →
        WritesThere page (Some (length bytes)) pool pool' (of x None) (of x None)) (sym kind)
        (λ own. record {
          lacks = tt;
          ahead = replace_takes r;
          done = subst (λ (k : RecordKey). WritesOn deeds.Replace page (Some (length bytes)) k bytes pool pool')
              (sym own) done;
        }) is)

    -- a relink, which had these bytes
    pub relink_there : (r : BucketView) → o ≡ operations.Replace r → (l : Links) → links ≡ Some l →
        (old_bytes : List ℕ) (len : ℕ) →
        WritesOn deeds.Replace page (Some len) key bytes pool pool' → HasFrontOn page len key pool l bytes →
        WritesThere page (Some len) pool pool'
        (record { operation = o; links = links; bytes = old_bytes; written = written }) (of o links)
    relink_there r kind l sets old_bytes len done front =
        subst (λ (m : Option Links). WritesThere page (Some len) pool pool'
        (record { operation = o; links = m; bytes = old_bytes; written = written }) (of o m)) (sym sets)
        (subst (λ (x : RecordOperation). operation_key x ≡ key →
        WritesThere page (Some len) pool pool'
        (record { operation = x; links = Some l; bytes = old_bytes; written = written }) (of x (Some l))) (sym kind)
        (λ own. record {
          lacks = tt;
          ahead = front_taken pool ready (operations.Replace r) tt l old_bytes bytes written page len front.whole
              front.within
              (λ q such value. front.set q such
              (sym (ap (λ (k : RecordKey). value_on pool page k) own) ∙ value));
          done = subst (λ (k : RecordKey). WritesOn deeds.Replace page (Some len) k bytes pool pool') (sym own) done;
        }) is)
