-- A write that is made at once: all its steps, or the one that tells a fault.
use Rattle.std.proofs.Common.{refl, ℕ, true, List, [], ◌∷◌, Option}
use Rattle.record_file.specs.OperationRuns.{GoesToPage, operation_through, operation_written}
use Rattle.record_file.specs.stale_search.SearchRuns.{at, standing}
use Rattle.record_file.specs.stale_search.declared.place.SearchPlace.TheVariants.{Found}
use Rattle.record_file.specs.step_rules.Runs.{stop}
use Rattle.record_file.specs.step_rules.declared.kind.Kind.TheVariants as kinds
use Rattle.record_file.specs.AccessRuns.{AccessStep, TakesAhead, WritesAtOnce, access_at, write_stops}
use Rattle.record_file.specs.Accesses.{AccessView, access_locks}
use Rattle.record_file.specs.AccessWords.{EndsRow, HasNoFileLock, IsReady, IsSeat, Moved, PoolState, Table, row_of}
use Rattle.record_file.specs.OperationWords.{with_row}
use Rattle.record_file.proofs.AccessAheadLemmas.{goes_straight, may_at, quiet, row_bare, row_room}
use Rattle.record_file.proofs.AccessStepLemmas.{makes_written}
use Rattle.record_file.proofs.OperationWrittenLemmas.{GoesThrough}
use Rattle.record_file.proofs.of_step_rules.RunLemmas.{joined}

module _ (seat : ℕ) (pool pool' : PoolState) (ready : IsReady pool) (ready' : IsReady pool') (locks : Table)
    (seated : IsSeat locks seat) (old : AccessView) (bytes : List ℕ) (page : ℕ) (found : Option ℕ)
    (goes : GoesToPage seat page found old.operation pool locks)
    (row : EndsRow (access_locks old) 3 (row_of locks seat))
    (through : GoesThrough seat pool pool' locks page bytes found old.operation) where
  -- where its page answers, behind its WriteRecord, and where it has given the page back
  abbrev looked : AccessView
  looked = record (access_at (Found page found) old) { bytes = bytes }

  abbrev written : AccessView
  written = record {
    operation = operation_written page found old.operation;
    links = old.links;
    bytes = bytes;
    written = true;
  }

  abbrev given : AccessView
  given = record {
    operation = operation_through page found old.operation;
    links = old.links;
    bytes = bytes;
    written = true;
  }

  bare : HasNoFileLock (row_of locks seat)
  bare = row_bare seat locks old.operation goes.bare row

  -- the table beside the locks of an access
  abbrev with_access : AccessView → Table
  with_access a = with_row locks seat (access_locks a (row_of locks seat))

  pub writes_at_once : TakesAhead page found pool old (record old { bytes = bytes }) →
      WritesAtOnce seat old given pool pool' locks
  writes_at_once ahead =
      let room = row_room seat locks old.operation goes.bare row in
      record {
        page = page;
        found = found;
        written = written;
        bare = goes.bare;
        given = through.free;
        ended = through.ended;
        paid = (refl, refl);
        moves = λ hash. joined (AccessStep hash seat) (at old pool locks)
            (write_stops seat page found bytes (at old pool locks))
            (stop kinds.WriteRecord (standing access_locks seat pool' locks written)
            ∷ stop kinds.Release (at given pool' locks) ∷ [])
            (goes_straight seat pool ready locks seated bare room hash old.operation old.links old.bytes bytes
            old.written page found goes.bare tt ahead.takes goes.moves) (
              record {
                may = may_at seat pool ready locks seated bare room hash looked;
                makes = makes_written hash seat (Moved kinds.WriteRecord) looked written.operation pool pool'
                    (with_access looked) (with_access written) (through.wrote hash) refl;
              },
              (
                record {
                  may = may_at seat pool' ready' locks seated bare room hash written;
                  makes = quiet seat pool' ready' locks seated bare room hash kinds.Release written given.operation
                      (with_access written) locks refl (λ same. absurd cc) (through.gave hash);
                },
                tt,
              ),
            );
      }
