-- What the caller of a machine knows, and keeps.
use Rattle.std.specs.Prelude.{ℕ, ◌≡◌, List, Option, ⊤}
use Rattle.file_pages.specs.hash_file.Chain.{contents}
use Rattle.step_rules.specs.Words.{Lock, LockName, Directory, Page, Change}
use Rattle.stale_search.specs.Words.{RecordKey, Table, IsSeat, kind_of, row_of, with_row, store_of, Told, IsKnown}
use Rattle.stale_search.specs.Steps.{world}

-- a name that is neither the directory's nor a page's
abbrev pub IsAside : LockName → Type 0
IsAside Directory = ⊥
IsAside (Page n) = ⊥
IsAside name = ⊤

-- a machine's locks, put behind those that the seat had before, leave those of such names as they are
abbrev pub AddsFileLocks : (List Lock → List Lock) → Type 0
AddsFileLocks mine = (before : List Lock) (name : LockName) → IsAside name →
    kind_of (mine before) name ≡ kind_of before name

-- what the file holds at a key is known under the key's own lock. It stays known where the file holds it still, by
-- what the clause `row` of a step says
abbrev pub CallerKeeps : (mine mine' : List Lock → List Lock) → Type 0
CallerKeeps mine mine' = (seat : ℕ) (images images' : List (List ℕ)) (locks locks' : Table) (change change' : Change)
    (before : List Lock) (key : RecordKey) (value : Option (List ℕ)) → IsSeat locks seat →
    contents (store_of images') key ≡ contents (store_of images) key →
    row_of locks seat ≡ mine before → locks' ≡ with_row locks seat (mine' before) →
    IsKnown seat (world images locks change) (Told key value) →
    IsKnown seat (world images' locks' change') (Told key value)

-- so it is beside every machine that takes locks of the file alone
abbrev pub AddersKeep : Type 0
AddersKeep = (mine mine' : List Lock → List Lock) → AddsFileLocks mine → AddsFileLocks mine' → CallerKeeps mine mine'
