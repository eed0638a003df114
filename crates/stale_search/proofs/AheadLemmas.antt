-- The moves of a search that goes straight to the page that answers.
use Rattle.std.proofs.Common.{◌≡◌, refl, sym, ap, ◌∙◌, subst, ℕ, ◌+◌, ◌%◌, ◌^◌, ◌≤◌, List, [], ◌∷◌, length, Option, Some, None, true, inr, arith}
use Rattle.std.specs.Option.{option_map}
use Rattle.std.proofs.lemmas.List.{length_push}
use Rattle.file_pages.specs.Files.{IsReady}
use Rattle.file_pages.specs.Reads.{CoversIn}
use Rattle.file_pages.specs.bucket_page.Records.{lookup}
use Rattle.file_pages.specs.hash_file.Store.{page_at, records_at}
use Rattle.page_locks.specs.Locks.{is_against}
use Rattle.page_locks.proofs.TableLemmas.{row_of-same, held-other}
use Rattle.page_locks.proofs.ChangeLemmas.{IsSeat-with_row, with_row-own, with_row-twice}
use Rattle.step_rules.specs.Words.{Lock, LockKind, Directory, Page, Read, Store, entry_at, distance}
use Rattle.step_rules.specs.declared.kind.Kind.{Kind}
use Rattle.step_rules.specs.declared.kind.Kind.TheVariants as kinds
use Rattle.step_rules.specs.Searching.{ByEntry}
use Rattle.step_rules.specs.Ways.{hops_between}
use Rattle.step_rules.proofs.LockLemmas.{IsHeld-some}
use Rattle.step_rules.proofs.OwnLemmas.{entry_read_leads}
use Rattle.step_rules.proofs.MachineLemmas.{directory_may, page_may}
use Rattle.step_rules.proofs.BoundLemmas.{depth_is_exact, entry_is_near}
use Rattle.stale_search.specs.Words.{RecordKey, PoolState, MAX_LOCKS, Table, IsSeat, IsOpposed, kind_of, lock_of, without, row_of, with_row, store_of, OnlyReads, IsReached, Moved, Deep, LeadsTo, ForEntry, SearchPlace, GrantDirectory, ReadDepth, ReadEntry, GrantPage, ReleaseDirectory, Look, Found}
use Rattle.stale_search.specs.Rows.{HasNoFileLock, in_directory, on_page}
use Rattle.stale_search.specs.Steps.{ReadsPages, world}
use Rattle.stale_search.specs.Searches.{SearchView, IsShared}
use Rattle.step_rules.specs.Runs.{MovesAlong, Stop, stop}
use Rattle.stale_search.specs.SearchRuns.{At, SearchStep, at, search_stops}
use Rattle.stale_search.proofs.RowLemmas.{directory_in, both_held, page_not_in, released}
use Rattle.stale_search.proofs.LeftLemmas.{twice_below}
use Rattle.stale_search.proofs.StepLemmas.{granted, granted_page, gave_back, looked, read, taken}

-- who only looks at pages in frames leaves the pool
pub same_pool : (pool : PoolState) → IsReady pool → OnlyReads true pool pool
same_pool pool ready = record {
  ready = ready;
  honest = refl;
  later = omega arith;
  stored = refl;
  as_many = refl;
  images = λ _. refl;
  file = λ _ _ f. f;
}

-- and tells no fault
looks_only : (pool : PoolState) → IsReady pool → (kind : Kind) → ReadsPages (Moved kind) pool pool
looks_only pool ready kind = record { reads = same_pool pool ready; cause = λ fault same. absurd cc }

module _ (seat k hops : ℕ) (key : RecordKey) (kind : LockKind) (pool : PoolState) (ready : IsReady pool)
    (before : List Lock) (bare : HasNoFileLock before) (room : length before + 2 ≤ MAX_LOCKS)
    (shared : IsShared kind) where
  -- the search at a place
  abbrev v : SearchPlace → SearchView
  v place = record { key = key; pseudokey = k; kind = kind; place = place; hops = hops }

  -- the table, where the row of the seat is this
  module _ (t : Table) (seated : IsSeat t seat) where
    pub by_directory : hops ≡ 0 → row_of t seat ≡ before → (IsOpposed t seat Directory Read → ⊥) →
        SearchStep seat (Moved kinds.Grant) (at (v GrantDirectory) pool t)
        (at (v ReadDepth) pool (with_row t seat (in_directory Read before)))
    by_directory begun is nobody = record {
      reads = looks_only pool ready _;
      aim = record {
        key = refl;
        pseudokey = refl;
        kind = refl;
        ended = (λ e. absurd cc, λ some. absurd cc);
        stays = tt;
        hops = refl;
        begun = begun;
        led = λ _. (refl, refl);
      };
      row = λ before' bare' row'. ap (λ (b : List Lock). with_row t seat (in_directory Read b)) (sym is ∙ row');
      progress = λ hash change sees. omega arith;
      step = λ hash change write before' bare' row' sees _.
          granted hash seat [] pool t change sees write (with_row t seat (in_directory Read before)) Directory Read
          tt seated (let size = ap length is in omega (arith, room, size))
          (ap (λ (locks : List Lock). kind_of locks Directory) is ∙ bare.directory) nobody (λ page same. absurd cc)
          (directory_may seat Read (world pool.images t change) (λ same. absurd cc)
          (λ n. ap (λ (locks : List Lock). kind_of locks (Page n)) is ∙ bare.pages n))
          (ap (λ (b : List Lock). with_row t seat (in_directory Read b)) (sym is));
      answer = λ hash change keyed sees _. refl;
    }

    module _ (is : row_of t seat ≡ in_directory Read before) where
      has_directory : kind_of (row_of t seat) Directory ≡ Some Read
      has_directory = ap (λ (locks : List Lock). kind_of locks Directory) is ∙ directory_in before bare Read

      pub by_depth : (depth : ℕ) → depth ≡ (store_of pool.images).header.depth →
          SearchStep seat (Moved kinds.ReadDepth) (at (v ReadDepth) pool t) (at (v (ReadEntry depth)) pool t)
      by_depth depth deep = record {
        reads = looks_only pool ready _;
        aim = record {
          key = refl;
          pseudokey = refl;
          kind = refl;
          ended = (λ e. absurd cc, λ some. absurd cc);
          stays = tt;
          hops = refl;
          begun = tt;
          led = λ _. (refl, ap (λ (d : ℕ). ReadEntry d) deep);
        };
        row = λ before' bare' row'. sym (with_row-own t seat) ∙ ap (with_row t seat) row';
        progress = λ hash change sees.
            let s : Store = store_of pool.images in
            let none : hops_between s depth k ≡ 0 = ap (λ (d : ℕ). hops_between s d k) deep
            ∙ depth_is_exact hash (world pool.images t change) k sees.sound in
            rw none (omega arith);
        step = λ hash change write before' bare' row' sees _.
            let here = IsHeld-some t seat Directory _ has_directory in
            read hash seat [] pool t change sees write kinds.ReadDepth
            (record { ask = None; write = write }) (Deep depth ∷ []) pool (same_pool pool ready)
            ((here, omega (arith, deep)), tt) (record { had = here; is = refl })
            (record { moved = refl; shared = has_directory; is = deep });
        answer = λ hash change keyed sees _. refl;
      }

      pub by_entry : (depth n : ℕ) → n ≡ entry_at (store_of pool.images) (k % 2 ^ depth) →
          SearchStep seat (Moved kinds.ReadEntry) (at (v (ReadEntry depth)) pool t) (at (v (GrantPage n)) pool t)
      by_entry depth n named = record {
        reads = looks_only pool ready _;
        aim = record {
          key = refl;
          pseudokey = refl;
          kind = refl;
          ended = (λ e. absurd cc, λ some. absurd cc);
          stays = tt;
          hops = refl;
          begun = tt;
          led = λ _. (refl, ap (λ (m : ℕ). GrantPage m) named);
        };
        row = λ before' bare' row'. sym (with_row-own t seat) ∙ ap (with_row t seat) row';
        progress = λ hash change sees.
            let s : Store = store_of pool.images in
            let near = entry_is_near hash seat (world pool.images t change) depth k sees.sound sees.known.0 in
            let few = rw (← named) at near in
            twice_below (distance s n k) (hops_between s depth k) few;
        step = λ hash change write before' bare' row' sees _.
            let here = IsHeld-some t seat Directory _ has_directory in
            let led = entry_read_leads hash seat (world pool.images t change) depth k sees.sound sees.known.0 in
            read hash seat _ pool t change sees write kinds.ReadEntry
            (record { ask = Some (ForEntry depth k); write = write }) (LeadsTo n k ∷ []) pool (same_pool pool ready)
            ((rw named led), tt) (record { had = here; is = refl })
            (record { still = refl; behind = λ e. absurd cc; by = ByEntry depth refl named });
        answer = λ hash change keyed sees _. refl;
      }

      pub by_page : (n : ℕ) → (IsOpposed t seat (Page n) kind → ⊥) →
          SearchStep seat (Moved kinds.Grant) (at (v (GrantPage n)) pool t)
          (at (v (ReleaseDirectory n)) pool (with_row t seat (on_page n kind (in_directory Read before))))
      by_page n nobody = record {
        reads = looks_only pool ready _;
        aim = record {
          key = refl;
          pseudokey = refl;
          kind = refl;
          ended = (λ e. absurd cc, λ some. absurd cc);
          stays = tt;
          hops = refl;
          begun = tt;
          led = λ _. (refl, refl);
        };
        row = λ before' bare' row'. ap (λ (b : List Lock). with_row t seat (on_page n kind b)) (sym is ∙ row');
        progress = λ hash change sees. omega arith;
        step = λ hash change write before' bare' row' sees _.
            let here = IsHeld-some t seat Directory _ has_directory in
            granted_page hash seat _ pool t change sees write n k kind
            (with_row t seat (on_page n kind (in_directory Read before))) sees.known seated
            (let size = ap length is in let more = length_push before (lock_of Directory Read) in
            omega (arith, room, size, more))
            (ap (λ (locks : List Lock). kind_of locks (Page n)) is ∙ page_not_in before bare Read n) nobody
            (λ page same. subst (λ (m : ℕ). IsReached (world pool.images t change) m)
            (let e : n ≡ page = cc in e) sees.known.0.1.stands)
            (page_may n kind seat (world pool.images t change) here shared)
            (ap (λ (b : List Lock). with_row t seat (on_page n kind b)) (sym is));
        answer = λ hash change keyed sees _. refl;
      }

    module _ (n : ℕ) where
      pub by_release : row_of t seat ≡ on_page n kind (in_directory Read before) →
          SearchStep seat (Moved kinds.Release) (at (v (ReleaseDirectory n)) pool t)
          (at (v (Look n)) pool (with_row t seat (on_page n kind before)))
      by_release is = record {
        reads = looks_only pool ready _;
        aim = record {
          key = refl;
          pseudokey = refl;
          kind = refl;
          ended = (λ e. absurd cc, λ some. absurd cc);
          stays = tt;
          hops = refl;
          begun = tt;
          led = λ _. (refl, refl);
        };
        row = λ before' bare' row'.
            ap (with_row t seat) (sym (released before bare n kind)
            ∙ ap (λ (locks : List Lock). without locks Directory) (sym is ∙ row') ∙ released before' bare' n kind);
        progress = λ hash change sees. omega arith;
        step = λ hash change write before' bare' row' sees _.
            gave_back hash seat _ pool t change sees write (with_row t seat (on_page n kind before))
            n k kind before bare
            seated (ap (λ (locks : List Lock). kind_of locks Directory) is ∙ both_held before bare n kind)
            (row_of-same t seat _ seated)
            (ap (with_row t seat) (sym (released before bare n kind)
            ∙ ap (λ (locks : List Lock). without locks Directory) (sym is)))
            sees.known.0.1;
        answer = λ hash change keyed sees _. refl;
      }

      pub by_look : (found : Option ℕ) → row_of t seat ≡ on_page n kind before →
          CoversIn (page_at (store_of pool.images) n) k →
          found ≡ option_map length (lookup key (records_at (store_of pool.images) n)) →
          SearchStep seat (Moved kinds.Look) (at (v (Look n)) pool t) (at (v (Found n found)) pool t)
      by_look found is covers found_is = record {
        reads = looks_only pool ready _;
        aim = record {
          key = refl;
          pseudokey = refl;
          kind = refl;
          ended = (λ e. absurd cc, λ some. absurd cc);
          stays = tt;
          hops = refl;
          begun = tt;
          led = λ _. (refl, inr (found, refl));
        };
        row = λ before' bare' row'. sym (with_row-own t seat) ∙ ap (with_row t seat) row';
        progress = λ hash change sees. omega arith;
        step = λ hash change write before' bare' row' sees _.
            looked hash seat _ pool t change sees write pool (same_pool pool ready) n k kind before bare seated is
            sees.known.0.1;
        answer = λ hash change keyed sees _. (
          refl,
          taken hash seat _ pool t change sees None pool (same_pool pool ready) n k kind before bare seated is
              sees.known.0.1 key found keyed (covers.bucket, covers.covers) found_is,
        );
      }

  -- what the seat itself is granted opposes nobody: another seat's locks are what they were
  still_nobody : (t : Table) (locks : List Lock) (n : ℕ) → (IsOpposed t seat (Page n) kind → ⊥) →
      IsOpposed (with_row t seat locks) seat (Page n) kind → ⊥
  still_nobody t locks n nobody opposed = nobody (
    opposed.0,
    record {
      another = opposed.1.another;
      against = ap (is_against kind) (sym (held-other t seat opposed.0 locks (Page n) opposed.1.another))
          ∙ opposed.1.against;
    },
  )

  -- its states, behind such a row
  abbrev straight : Table → ℕ → Option ℕ → List Lock → List (Stop (At SearchView))
  straight t n found row =
      stop kinds.Grant (at (v ReadDepth) pool (with_row t seat (in_directory Read row)))
      ∷ stop kinds.ReadDepth
      (at (v (ReadEntry (store_of pool.images).header.depth)) pool (with_row t seat (in_directory Read row)))
      ∷ stop kinds.ReadEntry (at (v (GrantPage n)) pool (with_row t seat (in_directory Read row)))
      ∷ stop kinds.Grant (at (v (ReleaseDirectory n)) pool (with_row t seat (on_page n kind (in_directory Read row))))
      ∷ stop kinds.Release (at (v (Look n)) pool (with_row t seat (on_page n kind row)))
      ∷ stop kinds.Look (at (v (Found n found)) pool (with_row t seat (on_page n kind row)))
      ∷ []

  -- the locks are only looked at, and yet these are moves, one after the other
  pub goes_straight : (t : Table) (n : ℕ) (found : Option ℕ) → IsSeat t seat → hops ≡ 0 → row_of t seat ≡ before →
      (IsOpposed t seat Directory Read → ⊥) →
      n ≡ entry_at (store_of pool.images) (k % 2 ^ (store_of pool.images).header.depth) →
      (IsOpposed t seat (Page n) kind → ⊥) → CoversIn (page_at (store_of pool.images) n) k →
      found ≡ option_map length (lookup key (records_at (store_of pool.images) n)) →
      MovesAlong (SearchStep seat) (at (v GrantDirectory) pool t)
      (search_stops seat n found (at (v GrantDirectory) pool t))
  goes_straight t n found seated begun is nobody named free covers found_is =
      let depth : ℕ = (store_of pool.images).header.depth in
      let one : List Lock = in_directory Read before in
      let two : List Lock = on_page n kind one in
      let three : List Lock = on_page n kind before in
      let seats = λ (locks : List Lock). IsSeat-with_row t seat seat locks seated in
      let rows = λ (locks : List Lock). row_of-same t seat locks seated in
      let by : MovesAlong (SearchStep seat) (at (v GrantDirectory) pool t) (straight t n found before) = (
        by_directory t seated begun is nobody,
        (
          by_depth (with_row t seat one) (seats one) (rows one) depth refl,
          (
            by_entry (with_row t seat one) (seats one) (rows one) depth n named,
            (
              subst (λ (table : Table). SearchStep seat (Moved kinds.Grant)
                  (at (v (GrantPage n)) pool (with_row t seat one)) (at (v (ReleaseDirectory n)) pool table))
                  (with_row-twice t seat one two)
                  (by_page (with_row t seat one) (seats one) (rows one) n (still_nobody t one n free)),
              (
                subst (λ (table : Table). SearchStep seat (Moved kinds.Release)
                    (at (v (ReleaseDirectory n)) pool (with_row t seat two)) (at (v (Look n)) pool table))
                    (with_row-twice t seat two three) (by_release (with_row t seat two) (seats two) n (rows two)),
                (by_look (with_row t seat three) (seats three) n found (rows three) covers found_is, tt),
              ),
            ),
          ),
        ),
      ) in
      subst (λ (row : List Lock). MovesAlong (SearchStep seat) (at (v GrantDirectory) pool t)
      (straight t n found row)) (sym is) by
