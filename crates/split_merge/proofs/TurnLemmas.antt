-- A step of a split as its turn, once its writes are those of the file.
use Rattle.std.proofs.Common.{◌≡◌, ◌≢◌, refl, sym, ap, subst, ◌∙◌, ℕ, ◌+◌, true, List, None, Some, inl}
use Rattle.split_merge.proofs.Names.{AllKnown, DoesTied, FileFault, HasNoFileLock, HasNoRoom, IsHeld-some, IsSeat, KeepsOthers, Kind, OnlyWrites, Releases, Sees, Step, Store, Table, copy_directory, gone_on, held, kind_keeps, kind_of, layout_is, may_write, none_busy, raise_depth, retarget, row_of, set_counts, split_counts, store_of, take_page, turn_keeps, without_lock, world, write_new, write_old}
use Rattle.step_rules.specs.declared.kind.Kind.TheVariants as kinds_of_step
use Rattle.split_merge.specs.Words.{RecordKey, GREATEST_DEPTH, Pair, PoolState, World, Change, Range, upper_half_of, page_of, Lock, Selective, Directory, Page, Moved, SplitPlace, TakePage, CopyDirectory, RaiseDepth, WriteNew, WriteOld, Retarget, SetCounts, Done, Full}
use Rattle.split_merge.specs.Order.{IsPlaced, after_take, after_copy, after_retarget}
use Rattle.split_merge.specs.Splits.{SplitView, IsSplit, IsWanted, facts_at, split_facts, split_turn, in_directory, on_bucket}
use Rattle.split_merge.proofs.FactLemmas.{split_knows_no_way}
use Rattle.split_merge.proofs.RowLemmas.{directory_in, bucket_on}
use Rattle.step_rules.proofs.SearchLemmas.{no_way}
use Rattle.split_merge.proofs.StepLemmas.{Leads, lacks, takes, copies, raises, fills, links, names, counts}

module _ (hash : RecordKey → ℕ) (seat : ℕ) (v : SplitView) (inv : IsSplit v) (p : Pair)
    (asked : IsWanted hash v.wanted p) (pool : PoolState) (locks : Table) (change : Change) (pool' : PoolState)
    (writes : OnlyWrites true pool pool') where
  abbrev old : World
  old = world pool.images locks change

  abbrev s : Store
  s = store_of pool.images

  deepest : s.layout.greatest ≡ GREATEST_DEPTH
  deepest = ap (λ l. l.greatest) (layout_is pool.images)

  -- what is known at a place leads to a step
  abbrev Knows : SplitPlace → Type 0
  Knows place = Sees hash seat (facts_at place v) pool locks change

  abbrev Steps : Kind → SplitView → Type 0
  Steps kind v' =
      Step {F = FileFault} hash seat (split_turn p) (Moved kind) (split_facts v') pool pool' locks locks change

  -- the file has become another
  wrote : (v' : SplitView) (place : SplitPlace) → Knows place → (kind : Kind) (t : Store) (d : Change)
      (after next : SplitPlace) → store_of pool'.images ≡ t → Leads hash seat p v' old kind t d after → next ≡ after →
      Steps kind (record v' { place = next })
  wrote v' place sees kind t d after next is leads same_place =
      let same : world pool'.images locks d ≡ gone_on t d old =
      ap (λ (s : Store). record { store = s; locks = locks; change = d }) is in
      subst (λ (x : SplitPlace). Steps kind (record v' { place = x })) (sym same_place) (record {
        after = d;
        file = writes.file sees.honest refl sees.file;
        others = subst (KeepsOthers hash seat old) (sym same)
            (turn_keeps kind hash (split_turn p) seat old (gone_on t d old) sees.sound leads.does);
        known = subst (λ (w : World). AllKnown seat w (split_facts (record v' { place = after }))) (sym same)
            leads.known;
        does = subst (DoesTied hash (split_turn p) kind seat old) (sym same) leads.does;
        led = no_way {F = FileFault} seat None (Moved kind) old (world pool'.images locks d)
            (split_facts (record v' { place = after })) (split_knows_no_way after (record v' { place = after }));
      })

  pub took : (new : ℕ) (next : SplitPlace) → Knows TakePage → s.header.first_free ≢ 0 → new ≡ s.header.first_free →
      store_of pool'.images ≡ take_page s → next ≡ after_take v.whole v.depth new →
      Steps kinds_of_step.TakePage (record v { place = next })
  took new next sees some_free page_is is next_is =
      wrote v TakePage sees kinds_of_step.TakePage _ _ _ next is
      (takes hash seat v inv p asked old sees.sound deepest sees.known some_free)
      (next_is ∙ ap (after_take v.whole v.depth) page_is)

  pub copied : (new page : ℕ) (next : SplitPlace) → Knows (CopyDirectory new page) →
      IsPlaced v.whole v.depth (CopyDirectory new page) → store_of pool'.images ≡ copy_directory page s →
      next ≡ after_copy v.depth new page → Steps kinds_of_step.CopyDirectory (record v { place = next })
  copied new page next sees placed is next_is =
      wrote v (CopyDirectory new page) sees kinds_of_step.CopyDirectory _ _ _ next is
      (copies hash seat v inv p asked old sees.sound deepest new page sees.known placed) next_is

  pub has_raised : (new : ℕ) → Knows (RaiseDepth new) → IsPlaced v.whole v.depth (RaiseDepth new) →
      store_of pool'.images ≡ raise_depth s →
      Steps kinds_of_step.RaiseDepth (record v { depth = v.whole.depth + 1; place = WriteNew new })
  has_raised new sees placed is =
      wrote (record v { depth = v.whole.depth + 1 }) (RaiseDepth new) sees kinds_of_step.RaiseDepth _ _ _
      (WriteNew new) is (raises hash seat v inv p asked old sees.sound deepest new sees.known placed) refl

  pub filled : (new : ℕ) → Knows (WriteNew new) → IsPlaced v.whole v.depth (WriteNew new) →
      store_of pool'.images ≡ write_new hash v.page new s →
      Steps kinds_of_step.WriteNew (record v { place = WriteOld new })
  filled new sees placed is =
      wrote v (WriteNew new) sees kinds_of_step.WriteNew _ _ _ (WriteOld new) is
      (fills hash seat v inv p asked old sees.sound deepest new sees.known placed) refl

  pub linked : (new : ℕ) (half : Range) → Knows (WriteOld new) → half ≡ upper_half_of v.whole →
      store_of pool'.images ≡ write_old hash v.page new s →
      Steps kinds_of_step.WriteOld (record v { place = Retarget new half.pattern })
  linked new half sees half_is is =
      wrote v (WriteOld new) sees kinds_of_step.WriteOld _ _ _ (Retarget new half.pattern) is
      (links hash seat v inv p asked old sees.sound deepest new sees.known)
      (ap (λ (r : Range). Retarget new r.pattern) half_is)

  pub named : (new entry page : ℕ) (half : Range) (next : SplitPlace) → Knows (Retarget new entry) →
      IsPlaced v.whole v.depth (Retarget new entry) → page ≡ page_of entry → half ≡ upper_half_of v.whole →
      store_of pool'.images ≡ retarget page half new s → next ≡ after_retarget v.whole v.depth new entry →
      Steps kinds_of_step.Retarget (record v { place = next })
  named new entry page half next sees placed page_is half_is is next_is =
      wrote v (Retarget new entry) sees kinds_of_step.Retarget _ _ _ next
      (is ∙ (λ j. retarget (page_is j) (half_is j) new s))
      (names hash seat v inv p asked old sees.sound deepest new entry sees.known placed) next_is

  pub counted : (new : ℕ) → Knows (SetCounts new) →
      store_of pool'.images ≡ set_counts (split_counts v.whole.depth s.header.counts) s →
      Steps kinds_of_step.SetCounts (record v { place = Done })
  counted new sees is =
      wrote v (SetCounts new) sees kinds_of_step.SetCounts _ _ _ Done is
      (counts hash seat v inv p asked old sees.sound deepest new sees.known) refl

  -- no page was free, and the bucket is given back
  module _ (sees : Knows TakePage) (same : pool'.images ≡ pool.images) where
    pub gave_back : (locks' : Table) (before : List Lock) → HasNoFileLock before → IsSeat locks seat →
        row_of locks seat ≡ on_bucket v.page before → row_of locks' seat ≡ in_directory before →
        locks' ≡ without_lock locks seat (Page v.page) →
        Step {F = FileFault} hash seat (split_turn p) (Moved kinds_of_step.Release) (facts_at Full v) pool pool' locks
        locks' change
    gave_back locks' before bare seated row row' is =
        let new : World = world pool.images locks' change in
        let had : held locks seat (Page v.page) ≡ Some Selective =
        ap (λ (xs : List Lock). kind_of xs (Page v.page)) row ∙ bucket_on before bare v.page in
        let r : Releases seat old new = record {
          seated = seated;
          name = Page v.page;
          had = IsHeld-some locks seat (Page v.page) Selective had;
          idle = λ page same' writer there. none_busy change page sees.known.0.1 there;
          done = λ same' writes'. absurd cc;
          is = ap (λ (t : Table). world pool.images t change) is;
        } in
        let leader : may_write (kind_of (row_of locks' seat) Directory) ≡ true =
        ap (λ (xs : List Lock). may_write (kind_of xs Directory)) row' ∙ ap may_write (directory_in before bare) in
        let there : world pool'.images locks' change ≡ new =
        ap (λ (images : List (List ℕ)). world images locks' change) same in
        record {
          after = change;
          file = writes.file sees.honest refl sees.file;
          others = subst (KeepsOthers hash seat old) (sym there)
              (kind_keeps kinds_of_step.Release hash seat old new sees.sound r);
          known = subst (λ (w : World). AllKnown seat w (facts_at Full v)) (sym there)
              ((leader, sees.known.0.1), ((leader, sees.known.1.0.1), tt));
          does = subst (λ (w : World). Releases seat old w) (sym there) r;
          led = tt;
        }

    -- the record has no room
    pub no_room : (locks' : Table) → s.header.first_free ≡ 0 → HasNoRoom hash p (world pool'.images locks' change)
    no_room locks' none =
        let there : world pool'.images locks' change ≡ world pool.images locks' change =
        ap (λ (images : List (List ℕ)). world images locks' change) same in
        let full = lacks hash seat v inv p asked old sees.sound deepest sees.known.1.1 in
        subst (HasNoRoom hash p) (sym there) (record {
          page = v.page;
          lacks = record { home = full.home; absent = full.absent; full = full.full };
          stuck = inl none;
        })
