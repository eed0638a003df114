-- The seat holds what the access says, the device stays as honest, and on an honest one the access is under way.
use Rattle.std.proofs.Common.{◌≡◌, ◌≤◌, ◌+◌, ◌-◌, Option}
use Rattle.file_pages.specs.Files.{store_of}
use Rattle.queue_records.specs.declared.record.Record.{Record}
use Rattle.record_file.specs.Accesses.{access_key, access_left, access_locks}
use Rattle.record_file.specs.Lengths.{MOST_STEPS}
use Rattle.record_file.specs.Purposes.{Purpose}
use Rattle.lone_access.specs.Alone.{IsAlone, KeepsPool, lock_on}
use Rattle.lone_access.specs.OneAccess.{IsBegun, IsUnderWay}
use Rattle.lone_access.proofs.seat.drive.Given as goal

abbrev pub invariant-loop-moves : goal.invariant-loop-moves
invariant-loop-moves g l = record {
  few : l.moves ≤ 139590;
  alone : IsAlone (access_locks l.access (lock_on (access_key l.fn.access))) l.pool l.locks;
  keeps : KeepsPool l.fn.pool l.pool;
  key : access_key l.access ≡ access_key l.fn.access;
  goes : (p : Purpose) (found : Option Record) →
      IsBegun (g.K.PseudoKey.of_key l.keys) p found l.fn.access l.fn.pool →
      IsUnderWay (g.K.PseudoKey.of_key l.keys) p l.fn.pool l.access l.pool l.locks
      × (access_left l.access (store_of l.pool.images) + l.moves ≤ MOST_STEPS);
}

abbrev pub decreases-loop-moves : goal.decreases-loop-moves
decreases-loop-moves g l = 139590 - l.moves
