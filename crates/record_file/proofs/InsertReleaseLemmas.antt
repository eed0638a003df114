-- The page and the directory are given back.
use Rattle.std.proofs.Common.{◌≡◌, refl, ap, ℕ, List, arith}
use Rattle.page_locks.specs.Writers.{may_write}
use Rattle.step_rules.specs.declared.kind.Kind.TheVariants as kinds
use Rattle.record_file.proofs.of_split_merge.MergeRowLemmas.{directory_held, no_page_held}
use Rattle.record_file.specs.InsertWords.{RecordKey, PoolState, Table, IsSeat, Selective, Page, Directory, without_lock, IsReady, Moved, Tried, GiveBackPage, GiveBackDirectory, HasEnded}
use Rattle.record_file.proofs.MoveLemmas.{Makes, released}

module _ (hash : RecordKey → ℕ) (seat : ℕ) (key : RecordKey) (k bytes : ℕ) (value : List ℕ) (pool : PoolState)
    (locks locks' : Table) (ready : IsReady pool) (seated : IsSeat locks seat) (tried : Tried) where
  pub gives_page_back : (n : ℕ) → locks' ≡ without_lock locks seat (Page n) →
      Makes hash seat key k bytes value pool locks (Moved kinds.Release) (GiveBackPage n tried)
      (GiveBackDirectory tried) pool locks'
  gives_page_back n is = released hash seat key k bytes value pool locks (GiveBackPage n tried)
      (GiveBackDirectory tried) (Page n) Selective locks' tried refl refl refl (λ before. refl)
      (λ before bare. no_page_held before bare Selective n) ready seated is
      (λ change keyed sees. sees.known.0.1) (λ same. absurd cc) (λ change keyed sees. sees.known)
      (λ before bare. (ap may_write (directory_held before bare Selective), tt)) (λ s. omega arith)

  pub gives_directory_back : locks' ≡ without_lock locks seat Directory →
      Makes hash seat key k bytes value pool locks (Moved kinds.Release) (GiveBackDirectory tried) (HasEnded tried) pool
      locks'
  gives_directory_back is = released hash seat key k bytes value pool locks (GiveBackDirectory tried) (HasEnded tried)
      Directory Selective locks' tried refl refl refl (λ before. refl) (λ before bare. bare.directory) ready seated is
      (λ change keyed sees. sees.known.0.1) (λ same. (refl, λ before bare n. no_page_held before bare Selective n))
      (λ change keyed sees. tt) (λ before bare. tt) (λ s. omega arith)
