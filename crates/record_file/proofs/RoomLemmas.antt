-- Whether a record fits its bucket.
use Rattle.std.proofs.Common.{◌≡◌, refl, sym, ap, ◌∙◌, subst, ℕ, ◌+◌, ◌≤◌, ◌<◌, ◌&&◌, nat_le, true, false, List, None, IsTrue, length, arith, inl, inr}
use Rattle.std.proofs.lemmas.Bool.{cases_lt, le-leb, leb-true}
use Rattle.numbers.proofs.Tests.{both_true}
use Rattle.bucket_page.specs.declared.layout.TheConstants.{RECORD_HEAD_BYTES, ROOM_BYTES}
use Rattle.bucket_page.proofs.Steps.{length-pair}
use Rattle.split_merge.specs.buffer_pool.Pool.{PoolState}
use Rattle.split_merge.specs.file_pages.declared.fault.FileFault.{FileFault}
use Rattle.split_merge.specs.file_pages.Writes.{TakesRecord}
use Rattle.split_merge.proofs.of_file_pages.ReadLemmas.{devices_after}
use Rattle.hash_file.specs.Chain.{IsBucketOf}
use Rattle.split_merge.specs.stale_search.declared.place.SearchPlace.TheVariants.{Found}
use Rattle.step_rules.specs.Turns.{LacksRoom}
use Rattle.step_rules.specs.Does.{KeepsOthers}
use Rattle.step_rules.specs.Searching.{WalksTo}
use Rattle.step_rules.specs.Turns.{TurnsAt}
use Rattle.record_file.specs.Words.{RecordKey, pair, record_bytes, Table, Lock, Selective, Change, OnlyReads, IsDevicesFault, Progress, World, Known, AllKnown, row_of, store_of, records_at, SearchView, Turn, Sees, Step, world, HasNoFileLock, on_page}
use Rattle.record_file.specs.Writers.{seen_at}
use Rattle.record_file.specs.BucketAccesses.{has_room}
use Rattle.record_file.proofs.ReleaseLemmas.{no_directory}
use Rattle.record_file.proofs.WriteLemmas.{home, there}

pub room_is : (used bytes : ℕ) → has_room used bytes ≡ true → used + (RECORD_HEAD_BYTES + bytes) ≤ ROOM_BYTES
room_is used bytes is =
    let both = both_true (nat_le bytes ROOM_BYTES)
    (nat_le used ROOM_BYTES && nat_le (used + (RECORD_HEAD_BYTES + bytes)) ROOM_BYTES) is in
    let last = both_true (nat_le used ROOM_BYTES) (nat_le (used + (RECORD_HEAD_BYTES + bytes)) ROOM_BYTES) both.1 in
    leb-true (used + (RECORD_HEAD_BYTES + bytes)) ROOM_BYTES last.1

pub no_room_is : (used bytes : ℕ) → has_room used bytes ≡ false → ROOM_BYTES < used + (RECORD_HEAD_BYTES + bytes)
no_room_is used bytes is = elim (cases_lt ROOM_BYTES (used + (RECORD_HEAD_BYTES + bytes))) [
  | inl full ↦ full
  | inr fits ↦ absurd (let f : true ≡ false = sym (room fits) ∙ is in cc)
]
  where
    room : used + (RECORD_HEAD_BYTES + bytes) ≤ ROOM_BYTES → has_room used bytes ≡ true
    room fits = rw (
      le-leb bytes ROOM_BYTES (omega (arith, fits)),
      le-leb used ROOM_BYTES (omega (arith, fits)),
      le-leb (used + (RECORD_HEAD_BYTES + bytes)) ROOM_BYTES fits,
    ) refl

-- a step that changes no page may stand after a read
pub behind : {hash : RecordKey → ℕ} {seat : ℕ} {turn : Turn} {did : Progress FileFault} {facts : List Known}
    {locks locks' : Table} {change : Change} (s t : PoolState) → OnlyReads true s t →
    Step hash seat turn did facts s s locks locks' change → IsTrue s.honest →
    Step hash seat turn did facts s t locks locks' change
behind {hash} {seat} {turn} {did} {facts} {locks} {locks'} {change} s t reads step honest =
    let old : World = world s.images locks change in
    let same : world t.images locks' step.after ≡ world s.images locks' step.after =
    ap (λ (images : List (List ℕ)). world images locks' step.after) (reads.images honest) in
    record {
      after = step.after;
      file = reads.file honest refl step.file;
      others = subst (KeepsOthers hash seat old) (sym same) step.others;
      known = subst (λ (w : World). AllKnown seat w facts) (sym same) step.known;
      does = subst (TurnsAt hash turn did seat old) (sym same) step.does;
      led = subst (λ (w : World). WalksTo seat turn.ask did old w facts) (sym same) step.led;
    }

module _ (hash : RecordKey → ℕ) (seat : ℕ) (pool : PoolState) (locks : Table) (change : Change) (v : SearchView)
    (page : ℕ) where
  pub lacks_room : (before : List Lock) → HasNoFileLock before → hash v.key ≡ v.pseudokey →
      row_of locks seat ≡ on_page page Selective before →
      Sees hash seat (seen_at (Found page None) v.key v.pseudokey) pool locks change → (value : List ℕ) →
      ROOM_BYTES < length (record_bytes (records_at (store_of pool.images) page)) + (RECORD_HEAD_BYTES + length value) →
      LacksRoom hash (pair v.key value) page (world pool.images locks change)
  lacks_room before bare keyed row sees value full = record {
    home = subst (λ (k : ℕ). IsBucketOf (store_of pool.images) k page) (sym keyed)
        (home hash seat _ pool locks change sees page v.pseudokey sees.known.0 sees.known.1.0
        (λ w. absurd (no_directory seat locks page Selective before bare row w)));
    absent = sees.known.1.1.0.1;
    full = (let size = length-pair (pair v.key value) in omega (arith, full, size));
  }

  pub put_fails : (sees : Sees hash seat (seen_at (Found page None) v.key v.pseudokey) pool locks change)
      (pool' pool'' : PoolState) (fault : FileFault) → OnlyReads true pool pool' → (bytes : ℕ) →
      length (record_bytes (records_at (store_of pool.images) page)) + (RECORD_HEAD_BYTES + bytes) ≤ ROOM_BYTES →
      (TakesRecord page v.key bytes (store_of pool'.images) → IsDevicesFault pool' pool'' fault) →
      IsDevicesFault pool pool'' fault
  put_fails sees pool' pool'' fault reads bytes room failed =
      let takes : TakesRecord page v.key bytes (store_of pool.images) = record {
        there = there hash seat _ pool locks change sees page v.pseudokey sees.known.0 sees.known.1.0;
        absent = sees.known.1.1.0.1;
        room = room;
      } in
      devices_after reads.later (failed
      (subst (λ (images : List (List ℕ)). TakesRecord page v.key bytes (store_of images))
      (sym (reads.images sees.honest)) takes))
