-- An access that goes straight to the page that answers: each move of its operation is one of its own, and at the Look
-- it takes what it is for; a find what that page has of its key.
use Rattle.std.proofs.Common.{◌≡◌, refl, sym, ap, ◌∙◌, subst, ℕ, ◌+◌, ◌≤◌, Bool, true, false, List, [], ◌∷◌, length, Option, Some, None, Ok, arith}
use Rattle.std.specs.Option.{option_map}
use Rattle.file_pages.specs.Reads.{OnlyReads}
use Rattle.page_locks.proofs.ChangeLemmas.{IsSeat-with_row}
use Rattle.page_locks.proofs.TableLemmas.{row_of-same}
use Rattle.page_locks.specs.declared.row.TheConstants.{MAX_LOCKS}
use Rattle.record_file.specs.OperationRuns.{IsFind, OperationStep, operation_at, operation_done, operation_stops, operation_way}
use Rattle.record_file.specs.declared.operation.RecordOperation.TheVariants as operations
use Rattle.record_file.specs.BucketAccesses.{BucketView}
use Rattle.record_file.specs.BucketRuns.{bucket_at}
use Rattle.record_file.specs.stale_search.SearchRuns.{HasNoLock, at, standing}
use Rattle.record_file.specs.stale_search.declared.place.SearchPlace.{SearchPlace}
use Rattle.record_file.specs.stale_search.declared.place.SearchPlace.TheVariants as places
use Rattle.record_file.specs.step_rules.Runs.{MovesAlong, stop}
use Rattle.record_file.specs.step_rules.declared.kind.Kind.{Kind}
use Rattle.record_file.specs.step_rules.declared.kind.Kind.TheVariants as kinds
use Rattle.record_file.proofs.AccessAimLemmas.{same_parts}
use Rattle.record_file.proofs.AccessNames.{FileFault, MakesOperation}
use Rattle.record_file.proofs.AccessStepLemmas.{makes_other}
use Rattle.record_file.proofs.of_step_rules.RunLemmas.{joined}
use Rattle.record_file.proofs.TakeLemmas.{took}
use Rattle.record_file.proofs.TakingLemmas.{value_takes}
use Rattle.record_file.specs.AccessRuns.{AccessStep, AreRead, FindsAtOnce, MayAccess, access_at, access_done, find_stops, write_stops}
use Rattle.record_file.specs.AccessSteps.{MakesAccess, SuitsFound}
use Rattle.record_file.specs.Accesses.{AccessView, IsOfKind, IsRecordOf, IsToldIn, access_key, access_locks}
use Rattle.record_file.specs.Purposes.{Purpose, ToFind, ToInsert, ToWrite, is_write}
use Rattle.record_file.specs.Readings.{IsTold, SuitsRecord, Takes, value_on}
use Rattle.record_file.specs.AccessWords.{Delete, EndsRow, HasNoFileLock, IsReady, IsSeat, Links, Lock, Look, Moved, PoolState, Progress, Record, RecordKey, RecordOperation, Relink, Replace, Table, found_of, operation_found, operation_key, operation_locks, row_of, store_of, value_of}

-- who only looks at pages in frames leaves the pool
pub untouched : (pool : PoolState) → IsReady pool → OnlyReads true pool pool
untouched pool ready = record {
  ready = ready;
  honest = refl;
  later = omega arith;
  stored = refl;
  as_many = refl;
  images = λ honest. refl;
  file = λ honest fine file. file;
}

-- ---- what is taken at the Look

none_stands : (found : Option Record) → None ≡ option_map length (option_map value_of found) → found ≡ None
none_stands None same = refl
none_stands (Some r) same = absurd cc

module _ (f : BucketView) (links : Option Links) (bytes : List ℕ) (written : Bool) where
  -- the access of a find
  abbrev a : AccessView
  a = record { operation = operations.Find f; links = links; bytes = bytes; written = written }

  module _ (page : ℕ) (answers : found_of f ≡ Some (page, None)) where
    told : (p : Purpose) (found : Option Record) → IsOfKind p (operations.Find f) → found ≡ None →
        SuitsRecord p a found × IsTold p a found
    told (ToFind key) found kind none = (
      tt,
      subst (λ (at : Option (ℕ × Option ℕ)). IsToldIn at (access_key a) bytes found) (sym answers)
          (subst (λ (r : Option Record). IsRecordOf None (access_key a) bytes r) (sym none) tt),
    )
    told (ToInsert r) found kind none = absurd kind
    told (ToWrite (Replace r)) found kind none = absurd kind
    told (ToWrite (Relink key links')) found kind none = absurd kind
    told (ToWrite (Delete key)) found kind none = absurd kind

    -- where the key has no record nothing is taken
    none_takes : {X : Type 0} (x : X) (pool : PoolState) → IsReady pool → Takes (Ok x) pool pool a a
    none_takes x pool ready = record {
      reads = untouched pool ready;
      cause = tt;
      operation = refl;
      written = refl;
      serves = λ p serves. serves;
      rests = λ none. let both = sym none ∙ answers in absurd cc;
      suits = λ fine. subst (λ (at : Option (ℕ × Option ℕ)). SuitsFound at a) (sym answers) tt;
      tells = λ p found page' len' here serves shown was.
          let parts = same_parts page page' None len' (sym answers ∙ here) in
          told p found serves.kind
          (none_stands found (parts.1 ∙ shown.length_is ∙ ap (option_map length) shown.holds));
    }

-- what is read ahead is taken
read_takes : (f : BucketView) (links : Option Links) (bytes bytes' : List ℕ) (written : Bool) (page : ℕ)
    (pool : PoolState) → IsReady pool → (found : Option ℕ) →
    AreRead found (value_on pool page f.search.key) bytes bytes' →
    Takes {X = ℕ} (Ok 0) pool pool (a (bucket_at (places.Found page found) f) links bytes written)
    (a (bucket_at (places.Found page found) f) links bytes' written)
read_takes f links bytes bytes' written page pool ready None (absent, is) =
    subst (λ (read : List ℕ). Takes {X = ℕ} (Ok 0) pool pool
    (a (bucket_at (places.Found page None) f) links bytes written)
    (a (bucket_at (places.Found page None) f) links read written)) (sym is)
    (none_takes (bucket_at (places.Found page None) f) links bytes written page refl 0 pool ready)
read_takes f links bytes bytes' written page pool ready (Some len) (long, holds) =
    value_takes (operations.Find (bucket_at (places.Found page (Some len)) f)) links bytes bytes' written page len
    refl pool pool 0 (untouched pool ready) long (λ honest. holds)

-- ---- its moves

-- before it no page has answered
none_at_look : (o : RecordOperation) (page : ℕ) → operation_found (operation_at (places.Look page) o) ≡ None
none_at_look (operations.Find f) page = refl
none_at_look (operations.Insert i) page = refl
none_at_look (operations.Replace r) page = refl
none_at_look (operations.Delete d) page = refl

module _ (seat : ℕ) (pool : PoolState) (ready : IsReady pool) (locks : Table) (seated : IsSeat locks seat)
    (bare : HasNoFileLock (row_of locks seat)) (room : length (row_of locks seat) + 3 ≤ MAX_LOCKS)
    (hash : RecordKey → ℕ)
  where
    pub may_at : (b : AccessView) → MayAccess seat (standing access_locks seat pool locks b)
    may_at b = record {
      seated = IsSeat-with_row locks seat seat (access_locks b (row_of locks seat)) seated;
      ready = ready;
      row = record {
        before = row_of locks seat;
        bare = bare;
        room = room;
        is = row_of-same locks seat (access_locks b (row_of locks seat)) seated;
      };
    }

    may_begin : (b : AccessView) → HasNoLock (access_locks b) → MayAccess seat (at b pool locks)
    may_begin b none = record {
      seated = seated;
      ready = ready;
      row = record { before = row_of locks seat; bare = bare; room = room; is = sym (none (row_of locks seat)) };
    }

    -- no page answers by it
    pub quiet : (kind : Kind) (b : AccessView) (o' : RecordOperation) (t t' : Table) →
        is_write {F = FileFault} (Moved kind) ≡ false → (◌≡◌ {A = Progress FileFault} (Moved kind) (Moved Look) → ⊥) →
        MakesOperation hash seat b.bytes (Moved kind) b.operation o' pool pool t t' →
        MakesAccess hash seat (Moved kind) b (record b { operation = o' }) pool pool t t'
    quiet kind b o' t t' unwritten other op =
        makes_other hash seat (Moved kind) b o' pool pool t t' op unwritten (λ looked none. absurd (other looked))

    module _ (o : RecordOperation) (links : Option Links) (bytes bytes' : List ℕ) (written : Bool) (page : ℕ)
        (found : Option ℕ) (none : HasNoLock (operation_locks o)) where
      -- the access of this operation
      abbrev c : AccessView
      c = record { operation = o; links = links; bytes = bytes; written = written }

      -- it, where its search is at a place, and that has these bytes
      abbrev b : SearchPlace → List ℕ → AccessView
      b place read = record (access_at place c) { bytes = read }

      module _ {X : Type 0} (x : X)
          (takes : Takes (Ok x) pool pool (b (places.Found page found) bytes) (b (places.Found page found) bytes'))
        where
          looks : (t t' : Table) → MakesOperation hash seat bytes (Moved Look) (b (places.Look page) bytes).operation
              (b (places.Found page found) bytes).operation pool pool t t' →
              MakesAccess hash seat (Moved Look) (b (places.Look page) bytes) (b (places.Found page found) bytes') pool
              pool t t'
          looks t t' op =
              took hash seat (Moved Look) (b (places.Look page) bytes) (b (places.Found page found) bytes).operation
              pool pool pool t t' op refl (none_at_look o page) (b (places.Found page found) bytes') (Ok x) takes refl
              refl

          pub goes_straight :
              MovesAlong (OperationStep seat) (at o pool locks) (operation_way seat page found (at o pool locks)) →
              MovesAlong (AccessStep hash seat) (at c pool locks)
              (write_stops seat page found bytes' (at c pool locks))
          goes_straight (entered, (told_depth, (told_entry, (held, (left, (looked, end)))))) = (
            record {
              may = may_begin c none;
              makes = quiet kinds.Grant c _ _ _ refl (λ same. absurd cc) (entered hash bytes);
            },
            (
              record {
                may = may_at (b places.ReadDepth bytes);
                makes = quiet kinds.ReadDepth (b places.ReadDepth bytes) _ _ _ refl (λ same. absurd cc)
                    (told_depth hash bytes);
              },
              (
                record {
                  may = may_at (b (places.ReadEntry (store_of pool.images).header.depth) bytes);
                  makes = quiet kinds.ReadEntry (b (places.ReadEntry (store_of pool.images).header.depth) bytes) _ _ _
                      refl (λ same. absurd cc) (told_entry hash bytes);
                },
                (
                  record {
                    may = may_at (b (places.GrantPage page) bytes);
                    makes = quiet kinds.Grant (b (places.GrantPage page) bytes) _ _ _ refl (λ same. absurd cc)
                        (held hash bytes);
                  },
                  (
                    record {
                      may = may_at (b (places.ReleaseDirectory page) bytes);
                      makes = quiet kinds.Release (b (places.ReleaseDirectory page) bytes) _ _ _ refl
                          (λ same. absurd cc) (left hash bytes);
                    },
                    (record { may = may_at (b (places.Look page) bytes); makes = looks _ _ (looked hash bytes) }, tt),
                  ),
                ),
              ),
            ),
          )

          finds_straight :
              MovesAlong (OperationStep seat) (at o pool locks) (operation_stops seat page found (at o pool locks)) →
              MovesAlong (AccessStep hash seat) (at c pool locks) (find_stops seat page found bytes' (at c pool locks))
          finds_straight (entered, (told_depth, (told_entry, (held, (left, (looked, (given, end))))))) =
              joined (AccessStep hash seat) (at c pool locks) (write_stops seat page found bytes' (at c pool locks))
              (stop kinds.Release (at (access_done page found bytes' c) pool locks) ∷ [])
              (goes_straight (entered, (told_depth, (told_entry, (held, (left, (looked, tt))))))) (
                record {
                  may = may_at (b (places.Found page found) bytes');
                  makes = quiet kinds.Release (b (places.Found page found) bytes') _ _ _ refl (λ same. absurd cc)
                      (given hash bytes');
                },
                tt,
              )

-- the row of a seat whose access has no lock is what that had before
module _ (seat : ℕ) (locks : Table) (o : RecordOperation) (none : HasNoLock (operation_locks o))
    (row : EndsRow (operation_locks o) 3 (row_of locks seat)) where
  row_is : row.before ≡ row_of locks seat
  row_is = sym (row.is ∙ none row.before)

  pub row_bare : HasNoFileLock (row_of locks seat)
  row_bare = subst HasNoFileLock row_is row.bare

  pub row_room : length (row_of locks seat) + 3 ≤ MAX_LOCKS
  row_room = subst (λ (r : List Lock). length r + 3 ≤ MAX_LOCKS) row_is row.room

module _ (seat : ℕ) (pool : PoolState) (ready : IsReady pool) (locks : Table) (seated : IsSeat locks seat)
    (old new : AccessView) (find : IsFind old.operation) (bare : HasNoLock (access_locks old))
    (row : EndsRow (access_locks old) 3 (row_of locks seat)) where
  -- it, at this operation
  abbrev of : RecordOperation → AccessView
  of o = record { operation = o; links = old.links; bytes = old.bytes; written = old.written }

  pub finds_at_once : (page : ℕ) (found : Option ℕ) → new ≡ access_done page found new.bytes old →
      AreRead found (value_on pool page (access_key old)) old.bytes new.bytes →
      MovesAlong (OperationStep seat) (at old.operation pool locks)
      (operation_stops seat page found (at old.operation pool locks)) → FindsAtOnce seat old new pool locks
  finds_at_once page found is ahead moves = record {
    page = page;
    found = found;
    is = is;
    bare = bare;
    given = subst (λ (a : AccessView). HasNoLock (access_locks a)) (sym is) (free old.operation find);
    moves = λ hash. by hash old.operation find bare ahead moves;
  }
    where
      free : (o : RecordOperation) → IsFind o → HasNoLock (operation_locks (operation_done page found o))
      free (operations.Find f) find = λ before. refl
      free (operations.Insert i) find = absurd find
      free (operations.Replace r) find = absurd find
      free (operations.Delete d) find = absurd find

      by : (hash : RecordKey → ℕ) (o : RecordOperation) → IsFind o → HasNoLock (operation_locks o) →
          AreRead found (value_on pool page (operation_key o)) old.bytes new.bytes →
          MovesAlong (OperationStep seat) (at o pool locks) (operation_stops seat page found (at o pool locks)) →
          MovesAlong (AccessStep hash seat) (at (of o) pool locks)
          (find_stops seat page found new.bytes (at (of o) pool locks))
      by hash (operations.Find f) find none ahead moves =
          finds_straight seat pool ready locks seated (row_bare seat locks old.operation bare row)
          (row_room seat locks old.operation bare row) hash (operations.Find f) old.links old.bytes new.bytes
          old.written page found none 0
          (read_takes f old.links old.bytes new.bytes old.written page pool ready found ahead) moves
      by hash (operations.Insert i) find none ahead moves = absurd find
      by hash (operations.Replace r) find none ahead moves = absurd find
      by hash (operations.Delete d) find none ahead moves = absurd find
