-- An access that goes straight to the page that answers: each move of its search is its own, and a find gives the page
-- back.
use Rattle.std.proofs.Common.{◌≡◌, refl, sym, ◌∙◌, subst, ℕ, false, List, [], ◌∷◌, Option, Some, None, IfSome, IsSome}
use Rattle.split_merge.proofs.MoveLemmas.{nothing_read}
use Rattle.split_merge.specs.buffer_pool.Pool.{PoolState}
use Rattle.split_merge.specs.stale_search.SearchRuns.{At, GoesStraight, HasNoLock, SearchStep, at, search_at, search_stops, way_to}
use Rattle.split_merge.specs.stale_search.declared.place.SearchPlace.{SearchPlace}
use Rattle.split_merge.specs.stale_search.declared.place.SearchPlace.TheVariants.{Found, GrantPage, Look, ReadDepth, ReadEntry, ReleaseDirectory}
use Rattle.page_locks.proofs.ChangeLemmas.{IsSeat-with_row, with_row-own, with_row-twice}
use Rattle.page_locks.proofs.TableLemmas.{row_of-same}
use Rattle.step_rules.proofs.RunLemmas.{joined}
use Rattle.step_rules.specs.Runs.{MovesAlong, Stop, stop, stops_in}
use Rattle.step_rules.specs.declared.kind.Kind.{Kind}
use Rattle.step_rules.specs.declared.kind.Kind.TheVariants as kinds
use Rattle.record_file.specs.Words.{Table, IsSeat, Lock, LockKind, Page, IsReady, Moved, Progress, Release, SearchView, EndsRow, HasNoFileLock, found_at, on_page, row_of, search_locks, with_row, without_lock}
use Rattle.record_file.specs.BucketAccesses.{BucketView, SuitsKind, bucket_locks}
use Rattle.record_file.specs.BucketRuns.{BucketHeads, BucketStep, FindsStraight, bucket_found, bucket_stops, bucket_way}
use Rattle.record_file.specs.declared.bucket_access.Deed.{Deed}
use Rattle.record_file.specs.declared.bucket_access.Deed.TheVariants as deeds
use Rattle.record_file.proofs.DeedLemmas.{released}
use Rattle.record_file.proofs.StepLemmas.{gave_unwritten, searching, searches_on}

none_where : (found : Option (ℕ × Option ℕ)) → (IsSome found → ⊥) → found ≡ None
none_where None never = refl
none_where (Some at) never = absurd (never refl)

-- a lock on a page that was granted and given back leaves the table as it was
pub given_back : (locks : Table) (seat page : ℕ) (kind : LockKind) → IsSeat locks seat →
    HasNoFileLock (row_of locks seat) →
    without_lock (with_row locks seat (on_page page kind (row_of locks seat))) seat (Page page) ≡ locks
given_back locks seat page kind seated bare =
    let row : List Lock = on_page page kind (row_of locks seat) in
    let held : Table = with_row locks seat row in
    released held (without_lock held seat (Page page)) seat page kind (row_of locks seat) bare
    (row_of-same locks seat row seated) refl
    ∙ with_row-twice locks seat row (row_of locks seat)
    ∙ with_row-own locks seat

-- moves to a page: where those of one machine, none of which is made from where a page has answered, are moves of
-- another one
pub along_way : {S T F : Type 0} (A : Progress F → S → S → Type 0) (B : Progress F → T → T → Type 0) (whole : S → T)
    (old : S) (state : SearchPlace → S) (depth page : ℕ) (found : Option ℕ) →
    ((kind : Kind) (new : S) → A (Moved kind) old new → B (Moved kind) (whole old) (whole new)) →
    ((place : SearchPlace) → found_at place ≡ None → (kind : Kind) (new : S) → A (Moved kind) (state place) new →
    B (Moved kind) (whole (state place)) (whole new)) →
    MovesAlong A old (stops_in state (way_to depth page found)) →
    MovesAlong B (whole old) (stops_in (λ (place : SearchPlace). whole (state place)) (way_to depth page found))
along_way A B whole old state depth page found first each
    (entered, (told_depth, (told_entry, (held, (left, (looked, end)))))) = (
      first kinds.Grant (state ReadDepth) entered,
      (
        each ReadDepth refl kinds.ReadDepth (state (ReadEntry depth)) told_depth,
        (
          each (ReadEntry depth) refl kinds.ReadEntry (state (GrantPage page)) told_entry,
          (
            each (GrantPage page) refl kinds.Grant (state (ReleaseDirectory page)) held,
            (
              each (ReleaseDirectory page) refl kinds.Release (state (Look page)) left,
              (each (Look page) refl kinds.Look (state (Found page found)) looked, tt),
            ),
          ),
        ),
      ),
    )

module _ (seat : ℕ) where
  -- an access whose search is at this state
  abbrev access_of : At SearchView → At BucketView
  access_of s = at (searching s.machine) s.pool s.locks

  move_of_search : (deed : Deed) (kind : Kind) (old new : At SearchView) → SuitsKind deed old.machine.kind →
      SearchStep seat (Moved kind) old new → BucketStep deed seat (Moved kind) (access_of old) (access_of new)
  move_of_search deed kind old new suits s bytes =
      searches_on deed seat bytes old.pool new.pool old.locks (Moved kind) old.machine new.machine new.locks
      (none_where (found_at old.machine.place) (λ some. let never = s.aim.ended.1 some in absurd cc)) suits s.reads
      s.aim
      s.row s.progress s.step s.answer

  -- it locks pages in the same kind all the way
  moves_of_search : (deed : Deed) (old : At SearchView) (stops : List (Stop (At SearchView))) →
      SuitsKind deed old.machine.kind → MovesAlong (SearchStep seat) old stops →
      MovesAlong (BucketStep deed seat) (access_of old) (stops_in access_of stops)
  moves_of_search deed old [] suits moves = tt
  moves_of_search deed old (next ∷ stops) suits moves = (
    move_of_search deed next.kind old next.state suits moves.0,
    moves_of_search deed next.state stops
        (subst (λ (kind : LockKind). SuitsKind deed kind) (sym moves.0.aim.kind) suits) moves.1,
  )

  goes_straight : (deed : Deed) (pool : PoolState) (locks : Table) (v : SearchView) (page : ℕ) (found : Option ℕ) →
      SuitsKind deed v.kind →
      MovesAlong (SearchStep seat) (at v pool locks) (search_stops seat page found (at v pool locks)) →
      MovesAlong (BucketStep deed seat) (at (searching v) pool locks)
      (bucket_way seat page found (at (searching v) pool locks))
  goes_straight deed pool locks v page found suits moves =
      moves_of_search deed (at v pool locks) (search_stops seat page found (at v pool locks)) suits moves

  pub heads_if : (pool : PoolState) (locks : Table) (v : SearchView) (there : Option ℕ) →
      IfSome there (λ (page : ℕ). GoesStraight seat page v pool locks) →
      IfSome there (λ (page : ℕ). BucketHeads seat page (searching v) pool locks)
  heads_if pool locks v None moves = tt
  heads_if pool locks v (Some page) moves = λ deed found suits has.
      goes_straight deed pool locks v page found suits (moves found has)

  -- ---- a find

  module _ (pool : PoolState) (ready : IsReady pool) (locks : Table) (seated : IsSeat locks seat)
      (bare : HasNoFileLock (row_of locks seat)) (v : SearchView) (page : ℕ) (found : Option ℕ) where
    -- the table while the page is held
    abbrev held : Table
    held = with_row locks seat (on_page page v.kind (row_of locks seat))

    move_back : BucketStep deeds.Find seat (Moved Release)
        (at (searching (search_at (Found page found) v)) pool held)
        (at (bucket_found page found (searching v)) pool locks)
    move_back bytes =
        gave_unwritten deeds.Find seat bytes pool pool held (search_at (Found page found) v) page found refl
        (Moved Release) (bucket_found page found (searching v)) locks (nothing_read pool ready)
        (IsSeat-with_row locks seat seat (on_page page v.kind (row_of locks seat)) seated) false refl
        (λ hash change keyed sees. tt) refl refl (sym (given_back locks seat page v.kind seated bare))

    finds_straight :
        MovesAlong (SearchStep seat) (at v pool locks) (search_stops seat page found (at v pool locks)) →
        MovesAlong (BucketStep deeds.Find seat) (at (searching v) pool locks)
        (bucket_stops seat page found (at (searching v) pool locks))
    finds_straight moves =
        joined (BucketStep deeds.Find seat) (at (searching v) pool locks)
        (bucket_way seat page found (at (searching v) pool locks))
        (stop Release (at (bucket_found page found (searching v)) pool locks) ∷ [])
        (goes_straight deeds.Find pool locks v page found tt moves) (move_back, tt)

  -- a seat with such a row holds what it held before
  row_bare : (v : SearchView) (locks : Table) → HasNoLock (search_locks v) →
      EndsRow (bucket_locks (searching v)) 2 (row_of locks seat) → HasNoFileLock (row_of locks seat)
  row_bare v locks none row = subst HasNoFileLock (sym (row.is ∙ none row.before)) row.bare

  pub finds_if : (pool : PoolState) → IsReady pool → (locks : Table) → IsSeat locks seat → (v : SearchView) →
      EndsRow (bucket_locks (searching v)) 2 (row_of locks seat) → (there : Option ℕ) →
      (IsSome there → HasNoLock (search_locks v)) →
      IfSome there (λ (page : ℕ). GoesStraight seat page v pool locks) →
      IfSome there (λ (page : ℕ). FindsStraight seat page (searching v) pool locks)
  finds_if pool ready locks seated v row None none moves = tt
  finds_if pool ready locks seated v row (Some page) none moves = λ found has.
      finds_straight pool ready locks seated (row_bare v locks (none refl) row) v page found (moves found has)
