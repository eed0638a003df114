-- A page is looked at, by a seat that may split it.
use Rattle.std.proofs.Common.{◌≡◌, refl, sym, ap, ◌∙◌, subst, ℕ, ◌+◌, ◌%◌, ◌^◌, ◌<◌, ◌≤◌, true, false, List, Option, Some, None, IsSome, is_some, length, arith, inl, inr}
use Rattle.std.specs.Option.{option_map}
use Rattle.std.specs.Prelude.{IsTrue}
use Rattle.bucket_page.proofs.Steps.{length-pair}
use Rattle.directory.specs.declared.range.Range.{Range}
use Rattle.directory.specs.Ranges.{Covers}
use Rattle.split_merge.specs.file_pages.declared.fault.FileFault.TheVariants.{Failed}
use Rattle.split_merge.specs.file_pages.declared.sight.Sight.TheVariants.{Covering as SeesCovering, Naming}
use Rattle.split_merge.proofs.of_file_pages.ReadLemmas.{devices_after, reads_on}
use Rattle.split_merge.proofs.of_file_pages.StoreLemmas.{layout_is}
use Rattle.step_rules.specs.declared.kind.Kind.TheVariants as kinds
use Rattle.step_rules.specs.Words.{IsBucketOf}
use Rattle.step_rules.proofs.AnswerLemmas.{look_may_tell}
use Rattle.step_rules.proofs.LockLemmas.{IsHeld-writer}
use Rattle.split_merge.proofs.of_stale_search.CauseLemmas.{cause_after, no_transfer}
use Rattle.split_merge.proofs.of_stale_search.WayLemmas.{leads_in_file}
use Rattle.record_file.proofs.of_split_merge.BuddyFacts.{live_page, seen_shape, seen_used, seen_depth}
use Rattle.record_file.proofs.of_split_merge.MoveLemmas.{read_only}
use Rattle.split_merge.specs.declared.place.SplitPlace.TheVariants.{TakePage}
use Rattle.record_file.specs.InsertWords.{RECORD_HEAD_BYTES, ROOM_BYTES, GREATEST_DEPTH, RecordKey, pair, lookup, PoolState, FileHasCause, IsDevicesFault, Table, Store, Lock, HasNoFileLock, row_of, Page, Directory, Change, Answers, range_at, store_of, records_at, IsFilePool, OnlyReads, Progress, Moved, Fault, World, Sees, SplitView, IsThere, IsFull, SecondPlace, Look, Hop, Write, Splitting, GiveBackPage}
use Rattle.record_file.specs.SecondTries.{facts_at, locks_at, second_turn, splits_left}
use Rattle.record_file.proofs.HomeLemmas.{home_on, look_here, look_on, look_is_more}
use Rattle.record_file.proofs.MoveLemmas.{Makes, IfSeen, view_at, was, read, faulted}
use Rattle.record_file.proofs.InsertNames.{BucketSight, DoesTied, FileFault, IsOnWay, IsSeen, IsSight, IsWriter, PageLeads, ROOT_PAGE, is_bucket, page_at}

pub no_length : (found : Option ℕ) → is_some found ≡ false → found ≡ None
no_length None none = refl
no_length (Some size) none = absurd cc

module _ (hash : RecordKey → ℕ) (seat : ℕ) (key : RecordKey) (k bytes : ℕ) (value : List ℕ) (pool : PoolState)
    (locks : Table) (depth n : ℕ) where
  abbrev Arm : Progress FileFault → (place place' : SecondPlace) → PoolState → Table → Type 0
  Arm = Makes hash seat key k bytes value pool locks

  abbrev Seen : (Change → Type 0) → Type 0
  Seen P = IfSeen hash seat key k bytes value pool locks (Look depth n) P

  abbrev old : Change → World
  old change = was hash seat key k bytes value pool locks change

  looks : (before : List Lock) → HasNoFileLock before → row_of locks seat ≡ locks_at (Look depth n) before →
      Seen (λ change. DoesTied hash (second_turn (view_at hash seat key k bytes value pool locks (Look depth n)) value)
      kinds.Look seat (old change) (old change))
  looks before bare row change keyed sees = record {
    page = n;
    reads = record { had = IsHeld-writer locks seat (Page n) sees.known.1.1.1.0.0; is = refl };
  }

  -- the page is one of the file
  pub is_read : {P : Type 0} → Seen (λ change. (ROOT_PAGE ≤ n → n < length pool.images →
      IsOnWay (page_at (store_of pool.images) n) → P) → P)
  is_read change keyed sees fault =
      let there = leads_in_file hash pool.images n change k sees.sound.file sees.known.1.1.0.1.leads in
      fault there.behind there.within there.on_way

  pub not_looked : (fault : FileFault) (pool' : PoolState) → OnlyReads false pool pool' →
      FileHasCause pool pool' fault →
      (IsTrue pool.honest → IsFilePool pool → ROOT_PAGE ≤ n → n < length pool.images →
      IsOnWay (page_at (store_of pool.images) n) → IsDevicesFault pool pool' fault) →
      Arm (Fault fault) (Look depth n) (Look depth n) pool' locks
  not_looked fault pool' reads cause risen = faulted hash seat key k bytes value pool locks (Look depth n) fault pool'
      (read_only false pool pool' reads) reads.images cause refl
      (λ change keyed sees. is_read change keyed sees (risen sees.honest sees.file))

  -- another page is named
  pub is_named : (next : ℕ) (pool' : PoolState) → OnlyReads true pool pool' →
      (IsTrue pool.honest → IsSight (Naming next) (page_at (store_of pool.images) n) k key) →
      Arm (Moved kinds.Look) (Look depth n) (Hop depth n) pool' locks
  is_named next pool' reads sight = read hash seat key k bytes value pool locks (Look depth n) (Hop depth n) kinds.Look
      pool' reads refl (λ before. refl) (λ change keyed sees. sees.known) looks
      (λ change keyed sees.
      let s = store_of pool.images in
      let other : Answers s n k → ⊥ =
      λ answers. (sight sees.honest).0 (record { bucket = answers.0; covers = answers.1 }) in
      let home = ap (λ (m : ℕ). splits_left (range_at s m).depth) (home_on s n k other) in
      omega (arith, look_on s n k other, home))
      (λ change keyed sees. tt)

  -- the key is there
  pub is_there : (found : Option ℕ) (pool' : PoolState) → IsSome found → OnlyReads true pool pool' →
      (IsTrue pool.honest → IsSight (SeesCovering found) (page_at (store_of pool.images) n) k key) →
      Arm (Moved kinds.Look) (Look depth n) (GiveBackPage n IsThere) pool' locks
  is_there None pool' some reads sight = absurd cc
  is_there (Some size) pool' some reads sight = read hash seat key k bytes value pool locks (Look depth n)
      (GiveBackPage n IsThere) kinds.Look pool' reads refl (λ before. refl)
      (λ change keyed sees. (sees.known.0, tt)) looks
      (λ change keyed sees. omega (arith, look_is_more (store_of pool.images) n k))
      (λ change keyed sees.
      let saw = sight sees.honest in
      let held = IsHeld-writer locks seat (Page n) sees.known.1.1.1.0.0 in
      let answers : Answers (store_of pool.images) n k = (saw.0.bucket, saw.0.covers) in
      record {
        looked = refl;
        page = n;
        bytes = size;
        tells = record {
          answer = look_may_tell hash seat n key (old change) sees.sound (
            inr held,
            subst (PageLeads (store_of pool.images) change n) (sym keyed) sees.known.1.1.0.1.leads,
          ) held (subst (Answers (store_of pool.images) n) (sym keyed) answers);
          length_is = saw.1;
        };
      })

  no_value : (found : Option (List ℕ)) → None ≡ option_map length found → found ≡ None
  no_value None is = refl
  no_value (Some x) is = absurd cc

  -- the key is not there, and the page is read again for its bytes
  module _ (pool1 pool2 : PoolState) (first : OnlyReads true pool pool1)
      (sight : IsTrue pool.honest → IsSight (SeesCovering None) (page_at (store_of pool.images) n) k key) where
    pub not_read : (fault : FileFault) → OnlyReads false pool1 pool2 → FileHasCause pool1 pool2 fault →
        (IsTrue pool1.honest → IsFilePool pool1 → ROOT_PAGE ≤ n → n < length pool1.images →
        is_bucket (page_at (store_of pool1.images) n) ≡ true → IsDevicesFault pool1 pool2 fault) →
        Arm (Fault fault) (Look depth n) (Look depth n) pool2 locks
    not_read fault second cause risen =
        let reads = reads_on false pool pool1 pool2 first second in
        faulted hash seat key k bytes value pool locks (Look depth n) fault pool2
        (read_only false pool pool2 reads) reads.images
        (cause_after pool pool1 pool2 fault first.later cause) refl
        (λ change keyed sees.
        let same = sym (first.images sees.honest) in
        let live = live_page hash pool.images locks change n sees.sound sees.known.1.1.1.0.1 in
        devices_after first.later (risen (first.honest ∙ sees.honest) (first.file sees.honest refl sees.file)
        live.behind (subst (λ (images : List (List ℕ)). n < length images) same live.within)
        (subst (λ (images : List (List ℕ)). is_bucket (page_at (store_of images) n) ≡ true) same live.bucket)))

    module _ (second : OnlyReads true pool1 pool2) (bucket : BucketSight)
        (ok : IsTrue pool1.honest → IsSeen bucket (page_at (store_of pool1.images) n)) where
      reads : OnlyReads true pool pool2
      reads = reads_on true pool pool1 pool2 first second

      module _ (change : Change) (keyed : hash key ≡ k)
          (sees : Sees hash seat (facts_at (Look depth n) key k) pool locks change) where
        s : Store
        s = store_of pool.images

        seen : IsSeen bucket (page_at (store_of pool.images) n)
        seen = subst (λ (images : List (List ℕ)). IsSeen bucket (page_at (store_of images) n))
            (first.images sees.honest) (ok (first.honest ∙ sees.honest))

        answers : Answers (store_of pool.images) n k
        answers = ((sight sees.honest).0.bucket, (sight sees.honest).0.covers)

        absent : lookup key (records_at (store_of pool.images) n) ≡ None
        absent = no_value (lookup key (records_at (store_of pool.images) n)) (sight sees.honest).1

        home : IsBucketOf (store_of pool.images) k n
        home = (sees.known.1.1.1.0.1, answers.1)

        depth_is : (range_at (store_of pool.images) n).depth ≡ bucket.depth
        depth_is = seen_depth (store_of pool.images) n bucket seen

        -- no bucket is deeper than a directory may be
        greatest : (store_of pool.images).layout.greatest ≡ GREATEST_DEPTH
        greatest = ap (λ l. l.greatest) (layout_is pool.images)

        owned : IsWriter locks seat (Page n)
        owned = sees.known.1.1.1.0.0

      -- it has room
      pub fits : Arm (Moved kinds.Look) (Look depth n) (Write n bucket.used) pool2 locks
      fits = read hash seat key k bytes value pool locks (Look depth n) (Write n bucket.used) kinds.Look pool2 reads
          refl (λ before. refl)
          (λ change keyed sees.
          let own = owned change keyed sees in (
            sees.known.0,
            (
              (inl (IsHeld-writer locks seat Directory sees.known.0.0), sees.known.1.1.0.1.leads),
              (
                (own, answers change keyed sees),
                (
                  (own, absent change keyed sees),
                  ((own, seen_used (store_of pool.images) n bucket (seen change keyed sees)), tt),
                ),
              ),
            ),
          ))
          looks
          (λ change keyed sees. omega (arith, look_is_more (store_of pool.images) n k))
          (λ change keyed sees. tt)

      module _ (lent : length value ≡ bytes) (full : ROOM_BYTES < bucket.used + (RECORD_HEAD_BYTES + bytes)) where
        -- and is as deep as one can be
        pub is_full : GREATEST_DEPTH ≤ bucket.depth →
            Arm (Moved kinds.Look) (Look depth n) (GiveBackPage n IsFull) pool2 locks
        is_full deep = read hash seat key k bytes value pool locks (Look depth n) (GiveBackPage n IsFull) kinds.Look
            pool2 reads refl (λ before. refl)
            (λ change keyed sees. (sees.known.0, tt)) looks
            (λ change keyed sees. omega (arith, look_is_more (store_of pool.images) n k))
            (λ change keyed sees. record {
              page = n;
              lacks = record {
                home = subst (λ (x : ℕ). IsBucketOf (store_of pool.images) x n) (sym keyed) (home change keyed sees);
                absent = absent change keyed sees;
                full = omega (
                  arith,
                  full,
                  lent,
                  length-pair (pair key value),
                  seen_used (store_of pool.images) n bucket (seen change keyed sees),
                );
              };
              stuck = inr (omega (
                arith,
                deep,
                depth_is change keyed sees,
                greatest change keyed sees,
                sees.sound.file.layout.depth,
                sees.sound.file.chained.shallow n (home change keyed sees).0,
              ));
            })

        -- the directory is no deeper than one can be
        pub is_too_deep : GREATEST_DEPTH < depth →
            Arm (Fault Failed) (Look depth n) (Look depth n) pool2 locks
        is_too_deep deep = faulted hash seat key k bytes value pool locks (Look depth n) Failed pool2
            (read_only false pool pool2 (record {
              ready = reads.ready;
              honest = reads.honest;
              later = reads.later;
              stored = reads.stored;
              as_many = reads.as_many;
              images = reads.images;
              file = λ honest fine. absurd cc;
            }))
            reads.images (no_transfer pool pool2) refl
            (λ change keyed sees. absurd (let far : ⊥ = omega (
              arith,
              deep,
              sees.known.1.0.1,
              greatest change keyed sees,
              sees.sound.file.layout.depth,
            ) in far))

        abbrev pub split_of : SplitView
        split_of = record {
          wanted = record { key = key; pseudokey = k; bytes = bytes };
          page = n;
          whole = record { depth = bucket.depth; pattern = k % 2 ^ bucket.depth };
          next = bucket.next;
          used = bucket.used;
          depth = depth;
          place = TakePage;
        }

        -- it is to be split
        pub splits : bucket.depth < GREATEST_DEPTH →
            Arm (Moved kinds.Look) (Look depth n) (Splitting n split_of) pool2 locks
        splits shallow = read hash seat key k bytes value pool locks (Look depth n) (Splitting n split_of) kinds.Look
            pool2 reads refl (λ before. refl)
            (λ change keyed sees.
            let own = owned change keyed sees in
            let shape = seen_shape (store_of pool.images) n bucket (seen change keyed sees) in
            let covers : k % 2 ^ bucket.depth ≡ bucket.pattern =
            subst (λ (r : Range). Covers r k) shape.range_is (answers change keyed sees).1 in
            let range : range_at (store_of pool.images) n
            ≡ record { depth = bucket.depth; pattern = k % 2 ^ bucket.depth } =
            shape.range_is ∙ ap (λ (p : ℕ). record { depth = bucket.depth; pattern = p }) (sym covers) in (
              sees.known.0,
              (
                sees.known.1.0,
                (
                  (sees.known.0.0, home change keyed sees),
                  (
                    (
                      sees.known.0.0,
                      record { is_bucket = shape.is_bucket; range_is = range; next_is = shape.next_is },
                    ),
                    (
                      (own, absent change keyed sees),
                      ((own, seen_used (store_of pool.images) n bucket (seen change keyed sees)), tt),
                    ),
                  ),
                ),
              ),
            ))
            looks
            (λ change keyed sees. omega (
              arith,
              shallow,
              look_here (store_of pool.images) n k (answers change keyed sees),
              depth_is change keyed sees,
            ))
            (λ change keyed sees. tt)
