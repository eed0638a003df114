-- What a read of a page on the way of a search leaves, and why it fails.
use Rattle.std.proofs.Common.{ℕ, ◌<◌, ◌≤◌, true, IsTrue, [], ◌∷◌, Option, Some, length}
use Rattle.step_rules.specs.Words.{LockKind, Change}
use Rattle.stale_search.specs.Words.{RecordKey, PoolState, Table, IsSeat, IsFilePool, store_of, OnlyReads, IsOnWay, Moved, LeadsTo, ForAnswer}
use Rattle.file_pages.specs.Fault.{IsDevicesFault}
use Rattle.file_pages.specs.declared.fault.FileFault.{FileFault}
use Rattle.file_pages.specs.directory.declared.layout.TheConstants.{ROOT_PAGE}
use Rattle.file_pages.specs.hash_file.Changes.{RecordWrite}
use Rattle.file_pages.specs.hash_file.Store.{page_at}
use Rattle.step_rules.specs.declared.kind.Kind.TheVariants as kinds
use Rattle.stale_search.specs.Rows.{on_page}
use Rattle.stale_search.specs.Steps.{MakesStep, Sees}
use Rattle.stale_search.proofs.StepLemmas.{looked}
use Rattle.stale_search.proofs.WayLemmas.{leads_in_file}

module _ (seat n k : ℕ) (pool pool' : PoolState) (locks : Table) where
  -- whatever the page says, the seat knows of it what it knew
  pub look_leaves : (kind : LockKind) → IsSeat locks seat → OnlyReads true pool pool' →
      MakesStep {F = FileFault} seat (on_page n kind) (LeadsTo n k ∷ []) (LeadsTo n k ∷ [])
      (λ (write : Option RecordWrite). record { ask = Some (ForAnswer n k); write = write }) (Moved kinds.Look)
      pool pool' locks locks
  look_leaves kind seated reads = λ hash change write before bare row sees _.
      looked hash seat _ pool locks change sees write pool' reads n k kind before bare seated row sees.known.0.1

  -- a page that leads is one of the file, so it is the device that fails
  pub read_fails : (fault : FileFault) →
      (IsTrue pool.honest → IsFilePool pool → ROOT_PAGE ≤ n → n < length pool.images →
      IsOnWay (page_at (store_of pool.images) n) → IsDevicesFault pool pool' fault) →
      (hash : RecordKey → ℕ) (change : Change) → Sees hash seat (LeadsTo n k ∷ []) pool locks change →
      IsDevicesFault pool pool' fault
  read_fails fault told hash change sees =
      let in_file = leads_in_file hash pool.images n change k sees.sound.file sees.known.0.1 in
      told sees.honest sees.file in_file.behind in_file.within in_file.on_way
