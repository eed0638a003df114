-- The record is put.
use Rattle.std.proofs.Common.{◌≡◌, refl, ap, ◌∙◌, ℕ, ◌+◌, ◌≤◌, true, false, List, None, Some, length, arith}
use Rattle.std.specs.Prelude.{IsTrue}
use Rattle.bucket_page.proofs.Steps.{length-pair}
use Rattle.split_merge.specs.file_pages.declared.fault.FileFault.{FileFault}
use Rattle.split_merge.specs.file_pages.Writes.{TakesRecord}
use Rattle.hash_file.specs.Changes.{write_record}
use Rattle.step_rules.specs.declared.kind.Kind.TheVariants as kinds
use Rattle.record_file.proofs.WriteLemmas.{there, wrote}
use Rattle.record_file.specs.InsertWords.{RECORD_HEAD_BYTES, ROOM_BYTES, RecordKey, pair, Put, PoolState, FileHasCause, IsDevicesFault, Table, Lock, Exclusive, kind_of, held, guard_of, store_of, IsFilePool, OnlyWrites, Moved, Fault, World, IsPut, Write, GiveBackPage}
use Rattle.record_file.proofs.InsertCallerLemmas.{guard_aside, one_aside}
use Rattle.record_file.proofs.MoveLemmas.{Makes, moved_aim, same_row, faulted}

module _ (hash : RecordKey → ℕ) (seat : ℕ) (key : RecordKey) (k bytes : ℕ) (value : List ℕ) (pool : PoolState)
    (locks : Table) (n used : ℕ) (pool' : PoolState) (lent : length value ≡ bytes)
    (room : used + (RECORD_HEAD_BYTES + bytes) ≤ ROOM_BYTES) where
  pub is_put : OnlyWrites true pool pool' →
      (IsTrue pool.honest → store_of pool'.images ≡ write_record n (Put (pair key value)) (store_of pool.images)) →
      Makes hash seat key k bytes value pool locks (Moved kinds.WriteRecord) (Write n used) (GiveBackPage n IsPut) pool'
      locks
  is_put writes is = record {
    writes = writes;
    cause = λ fault same. absurd cc;
    aim = moved_aim hash seat key k bytes value pool locks (Write n used) (GiveBackPage n IsPut) kinds.WriteRecord refl;
    row = same_row hash seat key k bytes value pool locks (Write n used) (GiveBackPage n IsPut) (λ before. refl);
    progress = λ change keyed sees. omega arith;
    step = λ change before bare owns row keyed sees fine.
        let own : held locks seat (guard_of key) ≡ Some Exclusive =
        ap (λ (xs : List Lock). kind_of xs (guard_of key)) row ∙ one_aside (guard_of key) (guard_aside key) n before
        ∙ owns in
        let s = wrote hash seat _ pool locks change sees n k sees.known.1.0 sees.known.1.1.0 (λ w. sees.known.0.1) None
        (Put (pair key value)) pool' keyed own sees.known.1.1.1.0.1
        (omega (arith, room, lent, length-pair (pair key value), sees.known.1.1.1.1.0.1)) writes (is sees.honest) in
        record {
          after = s.after;
          file = s.file;
          others = s.others;
          known = (
            (sees.known.0.0, ap (λ (w : World). w.change) s.does.writes.is ∙ sees.known.0.1),
            tt,
          );
          does = s.does;
          led = tt;
        };
    answer = λ change keyed sees fine. refl;
  }

  pub not_put : (fault : FileFault) → OnlyWrites false pool pool' →
      (IsTrue pool.honest → pool'.images ≡ pool.images) → FileHasCause pool pool' fault →
      (IsTrue pool.honest → IsFilePool pool → TakesRecord n key (length value) (store_of pool.images) →
      IsDevicesFault pool pool' fault) →
      Makes hash seat key k bytes value pool locks (Fault fault) (Write n used) (Write n used) pool' locks
  not_put fault writes spares cause risen =
      faulted hash seat key k bytes value pool locks (Write n used) fault pool' writes spares cause refl
      (λ change keyed sees. risen sees.honest sees.file (record {
        there = there hash seat _ pool locks change sees n k sees.known.1.0 sees.known.1.1.0;
        absent = sees.known.1.1.1.0.1;
        room = omega (arith, room, lent, sees.known.1.1.1.1.0.1);
      }))
