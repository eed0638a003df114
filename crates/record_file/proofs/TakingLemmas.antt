-- What a find and a relink take from the page that answered.
use Rattle.std.proofs.Common.{◌≡◌, refl, sym, ap, ◌∙◌, subst, ℕ, ◌<◌, ◌≤◌, Bool, true, false, List, length, Option, Some, None, IfSome, IsTrue, Ok, Err, arith}
use Rattle.std.specs.Option.{option_map}
use Rattle.file_pages.specs.Reads.{OnlyReads}
use Rattle.file_pages.specs.Fault.{FileHasCause, IsDevicesFault}
use Rattle.queue_records.proofs.RelinkLaws.{links_within}
use Rattle.record_file.specs.declared.operation.RecordOperation.TheVariants as operations
use Rattle.record_file.proofs.AccessNames.{FileFault}
use Rattle.record_file.proofs.AccessAimLemmas.{same_parts}
use Rattle.record_file.proofs.ReadLemmas.{some_of}
use Rattle.record_file.proofs.RecordLemmas.{is_such}
use Rattle.record_file.proofs.SuitLemmas.{value_is_of}
use Rattle.record_file.specs.OperationWords.{BucketView}
use Rattle.record_file.specs.AccessWords.{RecordKey, PoolState, IsReady, RecordOperation, operation_found, operation_key, Links, Record, SpellsRecord, HasSuch, linked_bytes, Replace, Relink, Delete, value_of}
use Rattle.record_file.specs.Purposes.{Purpose, ToFind, ToInsert, ToWrite}
use Rattle.record_file.specs.Accesses.{AccessView, HasFound, HasValue, IsFrontOf, IsOfKind, IsPrepared, IsToldIn, Serves, answer_in, links_of}
use Rattle.record_file.specs.AccessSteps.{SuitsAnswer, SuitsFound}
use Rattle.record_file.specs.Readings.{IsReader, IsReplace, IsTold, SeesBucket, SuitsRecord, Takes, WasAllowed, value_on}

-- ---- a find

found_answer : (o : RecordOperation) (at : ℕ × Option ℕ) → answer_in o ≡ Some at → operation_found o ≡ Some at
found_answer (operations.Find f) at is = is
found_answer (operations.Insert i) at is = absurd cc
found_answer (operations.Replace r) at is = absurd cc
found_answer (operations.Delete d) at is = absurd cc

-- only a find has such an answer
finds_only : (p : Purpose) (o : RecordOperation) (at : ℕ × Option ℕ) → answer_in o ≡ Some at → IsOfKind p o →
    (key : RecordKey) × (p ≡ ToFind key)
finds_only (ToFind key) o at is kind = (key, refl)
finds_only (ToInsert r) (operations.Find f) at is kind = absurd kind
finds_only (ToInsert r) (operations.Insert i) at is kind = absurd cc
finds_only (ToInsert r) (operations.Replace q) at is kind = absurd cc
finds_only (ToInsert r) (operations.Delete d) at is kind = absurd cc
finds_only (ToWrite (Replace r)) (operations.Find f) at is kind = absurd kind
finds_only (ToWrite (Replace r)) (operations.Insert i) at is kind = absurd cc
finds_only (ToWrite (Replace r)) (operations.Replace q) at is kind = absurd cc
finds_only (ToWrite (Replace r)) (operations.Delete d) at is kind = absurd cc
finds_only (ToWrite (Relink key links)) (operations.Find f) at is kind = absurd kind
finds_only (ToWrite (Relink key links)) (operations.Insert i) at is kind = absurd cc
finds_only (ToWrite (Relink key links)) (operations.Replace q) at is kind = absurd cc
finds_only (ToWrite (Relink key links)) (operations.Delete d) at is kind = absurd cc
finds_only (ToWrite (Delete key)) (operations.Find f) at is kind = absurd kind
finds_only (ToWrite (Delete key)) (operations.Insert i) at is kind = absurd cc
finds_only (ToWrite (Delete key)) (operations.Replace q) at is kind = absurd cc
finds_only (ToWrite (Delete key)) (operations.Delete d) at is kind = absurd cc

suits_find : (o : RecordOperation) (written : Bool) (links : Option Links) (bytes : List ℕ) (page len : ℕ) →
    answer_in o ≡ Some (page, Some len) → length bytes ≡ len → SuitsAnswer o written links bytes (Some len)
suits_find (operations.Find f) written links bytes page len is long = long
suits_find (operations.Insert i) written links bytes page len is long = absurd cc
suits_find (operations.Replace r) written links bytes page len is long = absurd cc
suits_find (operations.Delete d) written links bytes page len is long = absurd cc

pub answer_of_find : (o : RecordOperation) (f : BucketView) → o ≡ operations.Find f → answer_in o ≡ operation_found o
answer_of_find o f is = ap answer_in is ∙ sym (ap operation_found is)

record IsAsLong (found : Option Record) (len : ℕ) : Type 0 where
  entry : Record
  is : found ≡ Some entry
  long : len ≡ length (value_of entry)

record_as_long : (found : Option Record) (len : ℕ) → Some len ≡ option_map length (option_map value_of found) →
    IsAsLong found len
record_as_long None len is = absurd cc
record_as_long (Some r) len is = record { entry = r; is = refl; long = some_of len (length (value_of r)) is }

module _ (o : RecordOperation) (links : Option Links) (old_bytes bytes : List ℕ) (written : Bool) (page len : ℕ)
    (finds : answer_in o ≡ Some (page, Some len)) (pool pool' : PoolState) where
  abbrev old : AccessView
  old = record { operation = o; links = links; bytes = old_bytes; written = written }

  abbrev new : AccessView
  new = record { operation = o; links = links; bytes = bytes; written = written }

  at : operation_found o ≡ Some (page, Some len)
  at = found_answer o (page, Some len) finds

  serves_find : (p : Purpose) → Serves p old → Serves p new
  serves_find p serves =
      let is = finds_only p o (page, Some len) finds serves.kind in
      record {
        kind = serves.kind;
        key = serves.key;
        links = serves.links;
        value = subst (λ (q : Purpose). HasValue q bytes) (sym is.1) tt;
        limits = serves.limits;
      }

  pub value_takes : {X : Type 0} (x : X) → OnlyReads true pool pool' → length bytes ≡ len →
      (IsTrue pool.honest → value_on pool page (operation_key o) ≡ Some bytes) →
      Takes (Ok x) pool pool' old new
  value_takes x reads long ok = record {
    reads = reads;
    cause = tt;
    operation = refl;
    written = refl;
    serves = serves_find;
    rests = λ none. let both = sym none ∙ at in absurd cc;
    suits = λ fine. subst (λ (found : Option (ℕ × Option ℕ)). SuitsFound found new) (sym at)
        (suits_find o written links bytes page len finds long);
    tells = λ p found page' len' here serves shown was.
        let is = finds_only p o (page, Some len) finds serves.kind in
        let same = same_parts page page' (Some len) len' (sym at ∙ here) in
        let value : value_on pool page (operation_key o) ≡ option_map value_of found =
        ap (λ (n : ℕ). value_on pool n (operation_key o)) same.0 ∙ shown.holds in
        let it = value_is_of found bytes (sym value ∙ ok shown.sees.honest) in
        let spells : SpellsRecord it.entry (operation_key o) bytes =
        subst (λ (v : List ℕ). SpellsRecord it.entry (operation_key o) v) (sym it.value_is)
        (subst (λ (f : Option Record). IfSome f (λ (r : Record). SpellsRecord r (operation_key o) (value_of r))) it.is
        shown.spelled) in
        subst (λ (q : Purpose). SuitsRecord q new found × IsTold q new found) (sym is.1) (
          tt,
          subst (HasFound new) (sym it.is)
              (subst (λ (a : Option (ℕ × Option ℕ)). IsToldIn a (operation_key o) bytes (Some it.entry)) (sym finds)
              spells),
        );
  }

  pub value_fails : {X : Type 0} (fault : FileFault) (read : Bool) → OnlyReads read pool pool' →
      FileHasCause pool pool' fault →
      ((r : Record) → SeesBucket page pool → value_on pool page (operation_key o) ≡ Some (value_of r) →
      len ≡ length (value_of r) → SpellsRecord r (operation_key o) (value_of r) → IsDevicesFault pool pool' fault) →
      Takes {X = X} (Err fault) pool pool' old old
  value_fails fault read reads cause why = record {
    reads = record {
      ready = reads.ready;
      honest = reads.honest;
      later = reads.later;
      stored = reads.stored;
      as_many = reads.as_many;
      images = reads.images;
      file = λ honest done f. absurd cc;
    };
    cause = cause;
    operation = refl;
    written = refl;
    serves = λ p serves. serves;
    rests = λ none. let both = sym none ∙ at in absurd cc;
    suits = λ fine. absurd cc;
    tells = λ p found page' len' here serves shown was.
        let is = finds_only p o (page, Some len) finds serves.kind in
        let same = same_parts page page' (Some len) len' (sym at ∙ here) in
        let sees = subst (λ (n : ℕ). SeesBucket n pool) (sym same.0) shown.sees in
        let it = record_as_long found len (same.1 ∙ shown.length_is ∙ ap (option_map length) shown.holds) in
        let value : value_on pool page (operation_key o) ≡ Some (value_of it.entry) =
        ap (λ (n : ℕ). value_on pool n (operation_key o)) same.0 ∙ shown.holds ∙ ap (option_map value_of) it.is in (
          subst IsReader (sym is.1) tt,
          why it.entry sees value it.long
              (subst (λ (f : Option Record). IfSome f (λ (r : Record). SpellsRecord r (operation_key o) (value_of r)))
              it.is shown.spelled),
        );
  }

-- ---- a relink

relinks_only : (p : Purpose) (links : Links) → links_of p ≡ Some links →
    (key : RecordKey) × (p ≡ ToWrite (Relink key links))
relinks_only (ToFind key) links is = absurd cc
relinks_only (ToInsert r) links is = absurd cc
relinks_only (ToWrite (Replace r)) links is = absurd cc
relinks_only (ToWrite (Relink key l)) links is =
    let same : l ≡ links = cc in (key, ap (λ (x : Links). ToWrite (Relink key x)) same)
relinks_only (ToWrite (Delete key)) links is = absurd cc

suits_relink : (o : RecordOperation) (written : Bool) (links : Links) (bytes : List ℕ) (len : ℕ) → IsReplace o →
    length bytes ≡ linked_bytes links → length bytes ≤ len → SuitsAnswer o written (Some links) bytes (Some len)
suits_relink (operations.Find f) written links bytes len replace size within = absurd replace
suits_relink (operations.Insert i) written links bytes len replace size within = absurd replace
suits_relink (operations.Replace r) written links bytes len replace size within = (size, within)
suits_relink (operations.Delete d) written links bytes len replace size within = absurd replace

module _ (o : RecordOperation) (links : Links) (old_bytes : List ℕ) (written : Bool) (page len : ℕ)
    (at : operation_found o ≡ Some (page, Some len)) (replace : IsReplace o) (pool pool' : PoolState) where
  abbrev relink_of : List ℕ → AccessView
  relink_of bytes = record { operation = o; links = Some links; bytes = bytes; written = written }

  serves_relink : (bytes : List ℕ) (p : Purpose) → Serves p (relink_of old_bytes) → Serves p (relink_of bytes)
  serves_relink bytes p serves =
      let is = relinks_only p links (sym serves.links) in
      record {
        kind = serves.kind;
        key = serves.key;
        links = serves.links;
        value = subst (λ (q : Purpose). HasValue q bytes) (sym is.1) tt;
        limits = serves.limits;
      }

  pub front_takes : {X : Type 0} (x : X) (bytes : List ℕ) → OnlyReads true pool pool' →
      length bytes ≡ linked_bytes links → linked_bytes links ≤ len →
      ((r : Record) → IsTrue pool.honest → HasSuch links (Some r) →
      value_on pool page (operation_key o) ≡ Some (value_of r) → IsFrontOf links bytes r) →
      Takes (Ok x) pool pool' (relink_of old_bytes) (relink_of bytes)
  front_takes x bytes reads size within ok = record {
    reads = reads;
    cause = tt;
    operation = refl;
    written = refl;
    serves = serves_relink bytes;
    rests = λ none. let both = sym none ∙ at in absurd cc;
    suits = λ fine. subst (λ (found : Option (ℕ × Option ℕ)). SuitsFound found (relink_of bytes)) (sym at)
        (suits_relink o written links bytes len replace size (omega (arith, size, within)));
    tells = λ p found page' len' here serves shown was.
        let is = relinks_only p links (sym serves.links) in
        let same = same_parts page page' (Some len) len' (sym at ∙ here) in
        let value : value_on pool page (operation_key o) ≡ option_map value_of found =
        ap (λ (n : ℕ). value_on pool n (operation_key o)) same.0 ∙ shown.holds in
        let such : HasSuch links found =
        subst (λ (q : Purpose). WasAllowed q (relink_of old_bytes) found) is.1 was in
        let it = is_such links found such in
        let prepared : IsPrepared (Some (page, Some len)) links bytes found = λ r there.
        ok r shown.sees.honest (subst (HasSuch links) there such) (value ∙ ap (option_map value_of) there) in
        subst (λ (q : Purpose). SuitsRecord q (relink_of bytes) found × IsTold q (relink_of bytes) found)
        (sym is.1)
        ((such, subst (λ (a : Option (ℕ × Option ℕ)). IsPrepared a links bytes found) (sym at) prepared), tt);
  }

  pub front_fails : {X : Type 0} (fault : FileFault) (bytes : List ℕ) → OnlyReads false pool pool' →
      FileHasCause pool pool' fault →
      ((r : Record) → SeesBucket page pool → HasSuch links (Some r) →
      value_on pool page (operation_key o) ≡ Some (value_of r) → len ≡ length (value_of r) →
      IsDevicesFault pool pool' fault) →
      Takes {X = X} (Err fault) pool pool' (relink_of old_bytes) (relink_of bytes)
  front_fails fault bytes reads cause why = record {
    reads = reads;
    cause = cause;
    operation = refl;
    written = refl;
    serves = serves_relink bytes;
    rests = λ none. let both = sym none ∙ at in absurd cc;
    suits = λ fine. absurd cc;
    tells = λ p found page' len' here serves shown was.
        let is = relinks_only p links (sym serves.links) in
        let same = same_parts page page' (Some len) len' (sym at ∙ here) in
        let value : value_on pool page (operation_key o) ≡ option_map value_of found =
        ap (λ (n : ℕ). value_on pool n (operation_key o)) same.0 ∙ shown.holds in
        let sees = subst (λ (n : ℕ). SeesBucket n pool) (sym same.0) shown.sees in
        let such : HasSuch links found =
        subst (λ (q : Purpose). WasAllowed q (relink_of old_bytes) found) is.1 was in
        let it = is_such links found such in
        let length_is : Some len ≡ Some (length (value_of it.entry)) =
        same.1 ∙ shown.length_is ∙ ap (option_map length) (shown.holds ∙ ap (option_map value_of) it.is) in
        let long = some_of len (length (value_of it.entry)) length_is in
        (subst IsReader (sym is.1) tt, why it.entry sees it.such (value ∙ ap (option_map value_of) it.is) long);
  }

  -- a value that is too short is that of no such record
  pub too_short : {P : Type 0} → len < linked_bytes links → (r : Record) → HasSuch links (Some r) →
      len ≡ length (value_of r) → P
  too_short less r such long = let within = links_within links r such in absurd (omega (arith, less, within, long))

-- where nothing was read
pub unread : (pool : PoolState) → IsReady pool → OnlyReads false pool pool
unread pool ready =
    record {
      ready = ready;
      honest = refl;
      later = omega arith;
      stored = refl;
      as_many = refl;
      images = λ honest. refl;
      file = λ honest done f. f;
    }
