-- A page that does not answer is left for the one that it names.
use Rattle.std.proofs.Common.{◌≡◌, ◌≢◌, refl, sym, ap, ◌∙◌, subst, ℕ, ◌+◌, ◌<◌, ◌≤◌, true, false, ne_eqb, List, [], ◌∷◌, ◌++◌, Some, None, length, arith, inl, inr}
use Rattle.std.proofs.lemmas.List.{length_push}
use Rattle.std.proofs.lemmas.List.Elements.{filter-append}
use Rattle.std.specs.List.{Contains}
use Rattle.std.specs.Prelude.{IsTrue}
use Rattle.page_locks.specs.declared.row.TheConstants.{MAX_LOCKS}
use Rattle.page_locks.proofs.ChangeLemmas.{without_lock-with_lock}
use Rattle.page_locks.proofs.TableLemmas.{row_of-same}
use Rattle.page_locks.proofs.WriterLemmas.{IsFree-unopposed}
use Rattle.split_merge.specs.file_pages.declared.fault.FileFault.TheVariants.{Failed}
use Rattle.split_merge.specs.file_pages.declared.sight.Sight.TheVariants.{Covering as SeesCovering, Naming}
use Rattle.step_rules.specs.declared.kind.Kind.TheVariants as kinds
use Rattle.step_rules.specs.Words.{chain}
use Rattle.step_rules.proofs.BuddyLemmas.{hop_goes_elsewhere}
use Rattle.step_rules.proofs.KindLemmas.{kind_keeps}
use Rattle.step_rules.proofs.LockStepLemmas.{KeepsOthers-same, none_busy}
use Rattle.split_merge.proofs.of_stale_search.CauseLemmas.{no_transfer}
use Rattle.split_merge.proofs.of_stale_search.WayLemmas.{leads_in_file}
use Rattle.record_file.proofs.of_split_merge.MoveLemmas.{read_only}
use Rattle.record_file.proofs.of_split_merge.MergeRowLemmas.{directory_beside, no_other_held, no_page_held, page_held, without_last}
use Rattle.record_file.specs.InsertWords.{RecordKey, PoolState, FileHasCause, IsDevicesFault, Table, IsSeat, Lock, Selective, Page, Directory, Change, Store, Answers, range_at, next_at, kind_of, lock_of, row_of, held, with_row, without, without_lock, store_of, IsFilePool, OnlyReads, Progress, Moved, Blocked, Fault, World, HasNoFileLock, EndsRow, in_directory, on_page, AllKnown, world, SecondPlace, Look, Hop}
use Rattle.record_file.specs.SecondTries.{near_facts, locks_at, home_at, splits_left, look_left, on_one}
use Rattle.record_file.proofs.HomeLemmas.{home_here, home_on, look_here, next_answers, next_live, next_near}
use Rattle.record_file.proofs.MoveLemmas.{Makes, was, moved_aim, same_row, read, faulted}
use Rattle.record_file.proofs.InsertNames.{FileFault, HopsJust, IsNear, IsOnWay, IsOpposed, IsSight, KeepsOthers, MovesOn, Opposes, ROOT_PAGE, may_write, page_at, with_lock}

-- a page is given back for the next one
hopped : (xs : List Lock) (n m : ℕ) → kind_of xs (Page n) ≡ None → m ≢ n →
    without (on_page m Selective (on_page n Selective xs)) (Page n) ≡ on_page m Selective xs
hopped xs n m none other =
    filter-append _ (on_page n Selective xs) (lock_of (Page m) Selective ∷ [])
    ∙ rw (ne_eqb m n other) (ap (λ (ys : List Lock). ys ++ lock_of (Page m) Selective ∷ [])
    (without_last xs (Page n) Selective none))

module _ (hash : RecordKey → ℕ) (seat : ℕ) (key : RecordKey) (k bytes : ℕ) (value : List ℕ) (pool : PoolState)
    (locks : Table) (depth n : ℕ) (pool' : PoolState) where
  abbrev Arm : Progress FileFault → (place place' : SecondPlace) → Table → Type 0
  Arm did place place' locks' = Makes hash seat key k bytes value pool locks did place place' pool' locks'

  abbrev old : Change → World
  old change = was hash seat key k bytes value pool locks change

  pub not_looked : (fault : FileFault) → OnlyReads false pool pool' → FileHasCause pool pool' fault →
      (IsTrue pool.honest → IsFilePool pool → ROOT_PAGE ≤ n → n < length pool.images →
      IsOnWay (page_at (store_of pool.images) n) → IsDevicesFault pool pool' fault) →
      Arm (Fault fault) (Hop depth n) (Hop depth n) locks
  not_looked fault reads cause risen = faulted hash seat key k bytes value pool locks (Hop depth n) fault pool'
      (read_only false pool pool' reads) reads.images cause refl
      (λ change keyed sees.
      let there = leads_in_file hash pool.images n change k sees.sound.file sees.known.1.1.0.1.leads in
      risen sees.honest sees.file there.behind there.within there.on_way)

  had : (before : List Lock) → HasNoFileLock before → row_of locks seat ≡ on_one n before →
      held locks seat (Page n) ≡ Some Selective
  had before bare row =
      ap (λ (xs : List Lock). kind_of xs (Page n)) row ∙ page_held before bare Selective Selective n

  module _ (reads : OnlyReads true pool pool') where
    -- it answers by now
    pub hopped_back : {found : _} →
        (IsTrue pool.honest → IsSight (SeesCovering found) (page_at (store_of pool.images) n) k key) →
        Arm (Moved kinds.Hop) (Hop depth n) (Look depth n) locks
    hopped_back sight = read hash seat key k bytes value pool locks (Hop depth n) (Look depth n) kinds.Hop pool' reads
        refl (λ before. refl) (λ change keyed sees. sees.known)
        (λ before bare row change keyed sees. record {
          hops = record {
            page = n;
            pseudokey = k;
            kind = Selective;
            had = had before bare row;
            leads = sees.known.1.1.0.1.leads;
            hops = inl (((sight sees.honest).0.bucket, (sight sees.honest).0.covers), refl);
          };
          page_is = refl;
          pseudokey_is = refl;
        })
        (λ change keyed sees.
        let s = store_of pool.images in
        let answers : Answers s n k = ((sight sees.honest).0.bucket, (sight sees.honest).0.covers) in
        let home = ap (λ (m : ℕ). splits_left (range_at s m).depth) (home_here s n k answers) in
        omega (arith, look_here s n k answers, home))
        (λ change keyed sees. tt)

    module _ (m : ℕ)
        (sight : IsTrue pool.honest → IsSight (Naming m) (page_at (store_of pool.images) n) k key) where
      other : IsTrue pool.honest → Answers (store_of pool.images) n k → ⊥
      other honest answers = (sight honest).0 (record { bucket = answers.0; covers = answers.1 })

      -- no page names itself
      pub is_itself : m ≡ n → Arm (Fault Failed) (Hop depth n) (Hop depth n) locks
      is_itself same = faulted hash seat key k bytes value pool locks (Hop depth n) Failed pool'
          (read_only false pool pool' (record {
            ready = reads.ready;
            honest = reads.honest;
            later = reads.later;
            stored = reads.stored;
            as_many = reads.as_many;
            images = reads.images;
            file = λ honest fine. absurd cc;
          }))
          reads.images (no_transfer pool pool') refl
          (λ change keyed sees. absurd (hop_goes_elsewhere hash (old change) n k sees.sound
          sees.known.1.1.0.1.leads (other sees.honest) ((sight sees.honest).1 ∙ same)))

      -- another seat has the next page
      pub is_kept_from : (seat' : ℕ) → Opposes locks seat (Page m) Selective seat' →
          Arm (Blocked seat') (Hop depth n) (Hop depth n) locks
      is_kept_from seat' opposes = record {
        writes = read_only true pool pool' reads;
        cause = λ fault same. absurd cc;
        aim = record {
          key = refl;
          pseudokey = refl;
          bytes = refl;
          ended = (λ e. absurd cc, λ d. absurd cc);
          stays = refl;
        };
        row = same_row hash seat key k bytes value pool locks (Hop depth n) (Hop depth n) (λ before. refl);
        progress = λ change keyed sees. tt;
        step = λ change before bare owns row keyed sees fine.
            let same : world pool'.images locks change ≡ old change =
            ap (λ (images : List (List ℕ)). world images locks change) (reads.images sees.honest) in
            record {
              after = change;
              file = reads.file sees.honest refl sees.file;
              others = KeepsOthers-same hash seat (old change) (world pool'.images locks change) sees.sound same;
              known = subst (λ (w : World). AllKnown seat w (near_facts depth n k)) (sym same) sees.known;
              does = (
                record {
                  kind = Selective;
                  had = had before bare row;
                  unanswered = other sees.honest;
                  opposes = subst (λ (x : ℕ). Opposes locks seat (Page x) Selective seat') (sym (sight sees.honest).1)
                      opposes;
                },
                same,
              );
              led = tt;
            };
        answer = λ change keyed sees fine. tt;
      }

      -- the next page is locked in its place
      module _ (seated : IsSeat locks seat) (row' : EndsRow (locks_at (Hop depth n)) 3 (row_of locks seat))
          (apart : m ≢ n) where
        pub is_fresh : held locks seat (Page m) ≡ None
        is_fresh = ap (λ (xs : List Lock). kind_of xs (Page m)) row'.is
            ∙ no_other_held row'.before row'.bare Selective Selective n m (λ e. apart (sym e))

        room : length (row_of locks seat) < MAX_LOCKS
        room =
            let first = length_push row'.before (lock_of Directory Selective) in
            let more = length_push (in_directory Selective row'.before) (lock_of (Page n) Selective) in
            omega (arith, row'.room, ap length row'.is, first, more)

        module _ (locks' : Table) (nobody : IsOpposed locks seat (Page m) Selective → ⊥)
            (is : locks' ≡ without_lock (with_lock locks seat (Page m) Selective) seat (Page n)) where
          given_back : (before : List Lock) → HasNoFileLock before → row_of locks seat ≡ on_one n before →
              locks' ≡ with_row locks seat (on_one m before)
          given_back before bare row = is
              ∙ without_lock-with_lock locks seat (Page m) Selective (Page n) seated
              ∙ ap (with_row locks seat)
              (ap (λ (xs : List Lock). without (xs ++ lock_of (Page m) Selective ∷ []) (Page n)) row
              ∙ hopped (in_directory Selective before) n m (no_page_held before bare Selective n) apart)

          pub moves_on : Arm (Moved kinds.Hop) (Hop depth n) (Look depth m) locks'
          moves_on = record {
            writes = read_only true pool pool' reads;
            cause = λ fault same. absurd cc;
            aim = moved_aim hash seat key k bytes value pool locks (Hop depth n) (Look depth m) kinds.Hop refl;
            row = given_back;
            progress = λ change keyed sees.
                let s : Store = store_of pool.images in
                let next = (sight sees.honest).1 in
                let answers : Answers s m k = subst (λ (x : ℕ). Answers s x k) next
                (next_answers hash (old change) n k sees.sound sees.known.0.1 sees.known.1.1.0.1 (other sees.honest)) in
                let home =
                ap (λ (x : ℕ). splits_left (range_at s x).depth) (home_on s n k (other sees.honest) ∙ next) in
                subst (λ (images : List (List ℕ)). look_left (store_of images) m k
                < splits_left (range_at s (home_at s n k)).depth + 5) (sym (reads.images sees.honest))
                (omega (arith, look_here s m k answers, home));
            step = λ change before bare owns row keyed sees fine.
                let new : World = world pool.images locks' change in
                let next = (sight sees.honest).1 in
                let near : IsNear (old change) n k = sees.known.1.1.0.1 in
                let no = other sees.honest in
                let g : MovesOn n Selective seat (old change) new = subst (λ (x : ℕ).
                held locks seat (Page x) ≡ None → (IsOpposed locks seat (Page x) Selective → ⊥) →
                locks' ≡ without_lock (with_lock locks seat (Page x) Selective) seat (Page n) →
                MovesOn n Selective seat (old change) new)
                next (λ fresh nobody is. record {
                  seated = seated;
                  room = room;
                  fresh = fresh;
                  free = IsFree-unopposed locks seat (Page (next_at (store_of pool.images) n)) Selective nobody;
                  idle = λ w there. none_busy change n sees.known.0.1 there;
                  is = ap (λ (t : Table). world pool.images t change) is;
                }) is_fresh nobody is in
                let h : HopsJust n k seat (old change) new = record {
                  hops = record {
                    page = n;
                    pseudokey = k;
                    kind = Selective;
                    had = had before bare row;
                    leads = near.leads;
                    hops = inr (no, g);
                  };
                  page_is = refl;
                  pseudokey_is = refl;
                } in
                let now : row_of locks' seat ≡ on_one m before =
                ap (λ (t : Table). row_of t seat) (given_back before bare row)
                ∙ row_of-same locks seat (on_one m before) seated in
                let led : may_write (held locks' seat Directory) ≡ true =
                ap (λ (xs : List Lock). may_write (kind_of xs Directory)) now
                ∙ ap may_write (directory_beside before bare Selective Selective m) in
                let own : may_write (held locks' seat (Page m)) ≡ true =
                ap (λ (xs : List Lock). may_write (kind_of xs (Page m))) now
                ∙ ap may_write (page_held before bare Selective Selective m) in
                let same : world pool'.images locks' change ≡ new =
                ap (λ (images : List (List ℕ)). world images locks' change) (reads.images sees.honest) in
                let known : AllKnown seat new (near_facts depth m k) = (
                  (led, sees.known.0.1),
                  (
                    (led, sees.known.1.0.1),
                    (
                      (
                        led,
                        (let there = subst (λ (x : ℕ). IsNear (old change) x k) next
                            (next_near hash (old change) n k sees.sound sees.known.0.1 near no) in
                            record { leads = there.leads; near = there.near }),
                      ),
                      (
                        (
                          own,
                          subst (λ (x : ℕ). Contains (chain (store_of pool.images)) x) next
                              (next_live hash (old change) n k sees.sound sees.known.0.1 near no),
                        ),
                        tt,
                      ),
                    ),
                  ),
                ) in
                record {
                  after = change;
                  file = reads.file sees.honest refl sees.file;
                  others = subst (KeepsOthers hash seat (old change)) (sym same)
                      (kind_keeps kinds.Hop hash seat (old change) new sees.sound h.hops);
                  known = subst (λ (w : World). AllKnown seat w (near_facts depth m k)) (sym same) known;
                  does = subst (λ (w : World). HopsJust n k seat (old change) w) (sym same) h;
                  led = tt;
                };
            answer = λ change keyed sees fine. tt;
          }
