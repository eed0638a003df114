-- The caller's names are held as before, so it knows what it knew.
use Rattle.std.proofs.Common.{◌≡◌, refl, sym, ap, ◌∙◌, subst, ℕ, List, [], ◌∷◌, Option, Some, None, IsSome, ◌==◌, Bool, true, false, if◌then◌else◌}
use Rattle.step_rules.specs.Words.{Lock, LockKind, Read, Selective, LockName, Key, Counter, Queue, Directory, Page}
use Rattle.stale_search.specs.Words.{RecordKey, kind_of, lock_of, is_same, Table, row_of, held, SearchPlace, GrantDirectory, ReadDepth, ReadEntry, GrantPage, ReleaseDirectory, Look, Hop, Found}
use Rattle.page_locks.proofs.TableLemmas.{row_of-same}
use Rattle.page_locks.proofs.RowLemmas.{kind_of-append, first_kind}
use Rattle.step_rules.specs.queue_records.declared.layout.TheConstants.{COUNTER, KEY}
use Rattle.step_rules.specs.World.{guard_of}
use Rattle.stale_search.specs.declared.place.ApproachPlace.{ApproachPlace}
use Rattle.stale_search.specs.declared.place.ApproachPlace.TheVariants as to
use Rattle.stale_search.specs.Rows.{in_directory, on_page}
use Rattle.stale_search.specs.Searches.{SearchView, search_locks, locks_at}
use Rattle.stale_search.specs.Approaches.{ApproachView, approach_locks, approach_locks_at}
use Rattle.stale_search.specs.Callers.{AddersKeep, AddsFileLocks, IsAside}

first : (o : Option LockKind) → first_kind o None ≡ o
first None = refl
first (Some k) = refl

not_directory : (name : LockName) → IsAside name → is_same Directory name ≡ false
not_directory (Key k) aside = refl
not_directory Counter aside = refl
not_directory (Queue id) aside = refl
not_directory Directory aside = absurd aside
not_directory (Page n) aside = absurd aside

not_page : (m : ℕ) (name : LockName) → IsAside name → is_same (Page m) name ≡ false
not_page m (Key k) aside = refl
not_page m Counter aside = refl
not_page m (Queue id) aside = refl
not_page m Directory aside = absurd aside
not_page m (Page n) aside = absurd aside

module _ (name : LockName) (aside : IsAside name) where
  pub in_aside : (kind : LockKind) (xs : List Lock) → kind_of (in_directory kind xs) name ≡ kind_of xs name
  in_aside kind xs = kind_of-append xs (lock_of Directory kind ∷ []) name
      ∙ rw (not_directory name aside) (first (kind_of xs name))

  pub on_aside : (n : ℕ) (kind : LockKind) (xs : List Lock) → kind_of (on_page n kind xs) name ≡ kind_of xs name
  on_aside n kind xs = kind_of-append xs (lock_of (Page n) kind ∷ []) name
      ∙ rw (not_page n name aside) (first (kind_of xs name))

  both_aside : (n : ℕ) (kind kind' : LockKind) (xs : List Lock) →
      kind_of (on_page n kind (in_directory kind' xs)) name ≡ kind_of xs name
  both_aside n kind kind' xs = on_aside n kind (in_directory kind' xs) ∙ in_aside kind' xs

  search_adds : (place : SearchPlace) (kind : LockKind) (xs : List Lock) →
      kind_of (locks_at place kind xs) name ≡ kind_of xs name
  search_adds GrantDirectory kind xs = refl
  search_adds ReadDepth kind xs = in_aside Read xs
  search_adds (ReadEntry depth) kind xs = in_aside Read xs
  search_adds (GrantPage n) kind xs = in_aside Read xs
  search_adds (ReleaseDirectory n) kind xs = both_aside n kind Read xs
  search_adds (Look n) kind xs = on_aside n kind xs
  search_adds (Hop n) kind xs = on_aside n kind xs
  search_adds (Found n found) kind xs = on_aside n kind xs

  approach_adds : (place : ApproachPlace) (xs : List Lock) → kind_of (approach_locks_at place xs) name ≡ kind_of xs name
  approach_adds to.GrantDirectory xs = refl
  approach_adds to.ReadDepth xs = in_aside Selective xs
  approach_adds (to.ReadEntry depth) xs = in_aside Selective xs
  approach_adds (to.GrantPage depth n) xs = in_aside Selective xs
  approach_adds (to.At depth n) xs = both_aside n Selective Selective xs

pub search_adds_locks : (v : SearchView) → AddsFileLocks (search_locks v)
search_adds_locks v before name aside = search_adds name aside v.place v.kind before

pub approach_adds_locks : (v : ApproachView) → AddsFileLocks (approach_locks v)
approach_adds_locks v before name aside = approach_adds name aside v.place before

-- a record is guarded by such a name
guard_aside : (key : RecordKey) → IsAside (guard_of key)
guard_aside key = by (key.kind == COUNTER) (key.kind == KEY)
  where
    by : (a b : Bool) → IsAside (if a then Counter else if b then Key key.number else Queue key.queue)
    by true b = tt
    by false true = tt
    by false false = tt

pub adders_keep : AddersKeep
adders_keep mine mine' adds adds' seat images images' locks locks' change change' before key value seated same row
    is h =
    let name : LockName = guard_of key in
    let now : row_of locks' seat ≡ mine' before =
    ap (λ (t : Table). row_of t seat) is ∙ row_of-same locks seat (mine' before) seated in
    let still : held locks seat name ≡ held locks' seat name =
    ap (λ (xs : List Lock). kind_of xs name) row ∙ adds before name (guard_aside key)
    ∙ sym (adds' before name (guard_aside key)) ∙ sym (ap (λ (xs : List Lock). kind_of xs name) now) in
    (subst IsSome still h.0, same ∙ h.1)
