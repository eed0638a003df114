-- The steps of a split, and the look after it.
use Rattle.std.proofs.Common.{◌≡◌, refl, sym, ap, ◌∙◌, subst, ℕ, suc, ◌+◌, ◌<◌, true, false, List, length, arith, inl, inr}
use Rattle.std.proofs.lemmas.Bool.{true≢false}
use Rattle.directory.specs.declared.range.Range.{Range}
use Rattle.split_merge.specs.file_pages.declared.fault.FileFault.{FileFault}
use Rattle.hash_file.specs.Change.{Linked, Buried}
use Rattle.hash_file.specs.Changes.{set_counts, split_counts}
use Rattle.hash_file.specs.Phases.{HasPhase, IsLinked}
use Rattle.step_rules.specs.Words.{chain}
use Rattle.step_rules.specs.declared.kind.Kind.{Kind}
use Rattle.step_rules.specs.PageSteps.{SetsCounts}
use Rattle.step_rules.specs.Turns.{DoesTied, TurnsAt}
use Rattle.split_merge.specs.Splits.{FullMeans, IsWanted, KeepsAim, Progresses, locks_at as split_locks_at, facts_at as split_facts_at, split_turn}
use Rattle.split_merge.specs.declared.place.SplitPlace.{SplitPlace}
use Rattle.split_merge.specs.declared.place.SplitPlace.TheVariants.{SetCounts, Done, Full}
use Rattle.record_file.specs.InsertWords.{RecordKey, Pair, pair, PoolState, Table, Lock, Change, range_at, next_at, row_of, with_row, store_of, Progress, Moved, Blocked, Fault, Ended, World, AllKnown, is_fault, EndsRow, HasNoFileLock, Stays, WritesPages, world, Sees, Step, SplitView, split_locks, split_facts, split_left, has_ended, Wanted, IsFull, SecondPlace, Look, Splitting, GiveBackDirectory}
use Rattle.record_file.specs.SecondTries.{IsSplitFor, splits_left, look_left, near_facts, locks_at, on_one}
use Rattle.record_file.specs.SecondSteps.{KeepsSecondTry, NearsOrSpares}
use Rattle.record_file.proofs.HomeLemmas.{look_at_depth}
use Rattle.record_file.proofs.OrderLemmas.{done_by, full_means}
use Rattle.record_file.proofs.MoveLemmas.{Makes, view_at}

-- what a second try makes of the clause `progress` of a split
nears_by : (did : Progress FileFault) (v v' : SplitView) (left left' : ℕ) (pool pool' : PoolState) →
    ((kind : Kind) → did ≡ Moved kind → split_left v' < split_left v → left' < left) →
    Progresses did v v' pool pool' → NearsOrSpares did left left' pool pool'
nears_by (Moved kind) v v' left left' pool pool' less p = less kind refl p
nears_by (Blocked other) v v' left left' pool pool' less p = tt
nears_by (Fault fault) v v' left left' pool pool' less p = p
nears_by Ended v v' left left' pool pool' less p = tt

-- where a split did not move it is what it was, and so is what is the same while it is
stays_by : {T : Type 0} (did : Progress FileFault) (v v' : SplitView) (old new : T) → KeepsAim did v v' →
    (v' ≡ v → new ≡ old) → Stays did old new
stays_by (Moved kind) v v' old new aim same = tt
stays_by (Blocked other) v v' old new aim same = same aim.goes
stays_by (Fault fault) v v' old new aim same = same aim.goes
stays_by Ended v v' old new aim same = same aim.goes

module _ (hash : RecordKey → ℕ) (seat : ℕ) (key : RecordKey) (k bytes : ℕ) (value : List ℕ) (pool pool' : PoolState)
    (locks locks' : Table) (n : ℕ) (v v' : SplitView) (did : Progress FileFault)
    (for : IsSplitFor (record { key = key; pseudokey = k; bytes = bytes }) n v) (lent : length value ≡ bytes)
    (writes : WritesPages did pool pool') (aim : KeepsAim did v v')
    (row : (before : List Lock) → HasNoFileLock before → row_of locks seat ≡ split_locks v before →
    locks' ≡ with_row locks seat (split_locks v' before))
    (nears : (change : Change) → Sees hash seat (split_facts v) pool locks change → Progresses did v v' pool pool')
    (step : (change : Change) (p : Pair) → IsWanted hash v.wanted p → (before : List Lock) → HasNoFileLock before →
    row_of locks seat ≡ split_locks v before → Sees hash seat (split_facts v) pool locks change →
    is_fault did ≡ false → Step hash seat (split_turn p) did (split_facts v') pool pool' locks locks' change)
    (means : (change : Change) (p : Pair) → IsWanted hash v.wanted p →
    Sees hash seat (split_facts v) pool locks change → is_fault did ≡ false →
    FullMeans hash p v.place v'.place (world pool'.images locks' change)) where
  abbrev Arm : SecondPlace → Type 0
  Arm place = Makes hash seat key k bytes value pool locks did (Splitting n v) place pool' locks'

  asked : hash key ≡ k → IsWanted hash v.wanted (pair key value)
  asked keyed = record {
    key = sym (ap (λ (w : Wanted). w.key) for.wanted_is);
    pseudokey = ap (λ (w : Wanted). hash w.key) for.wanted_is ∙ keyed
        ∙ sym (ap (λ (w : Wanted). w.pseudokey) for.wanted_is);
    bytes = lent ∙ sym (ap (λ (w : Wanted). w.bytes) for.wanted_is);
  }

  kept_range : v'.whole ≡ v.whole
  kept_range = ap (λ (x : SplitView). x.whole) aim.task

  kept_page : v'.page ≡ n
  kept_page = ap (λ (x : SplitView). x.page) aim.task ∙ for.page_is

  kept_wanted : v'.wanted.pseudokey ≡ k
  kept_wanted = ap (λ (x : SplitView). x.wanted.pseudokey) aim.task ∙ ap (λ (w : Wanted). w.pseudokey) for.wanted_is

  -- the aim, where it stays with the split
  aim_to : (place : SecondPlace) → (v' ≡ v → place ≡ Splitting n v) →
      KeepsSecondTry did (view_at hash seat key k bytes value pool locks (Splitting n v))
      (view_at hash seat key k bytes value pool locks place)
  aim_to place same = record {
    key = refl;
    pseudokey = refl;
    bytes = refl;
    ended = (λ e. absurd (true≢false (sym (aim.ended.0 e) ∙ for.going)), λ d. absurd cc);
    stays = stays_by did v v' _ _ aim (λ is. ap (view_at hash seat key k bytes value pool locks) (same is));
  }

  -- at an end it has moved
  not_there : has_ended v'.place ≡ true → v' ≡ v → ⊥
  not_there over same =
      true≢false (sym over ∙ ap (λ (x : SplitView). has_ended x.place) same ∙ for.going)

  -- it goes on
  pub goes_on : Arm (Splitting n v')
  goes_on = record {
    writes = writes.writes;
    cause = writes.cause;
    aim = aim_to (Splitting n v') (λ same. ap (Splitting n) same);
    row = row;
    progress = λ change keyed sees. nears_by did v v' _ _ pool pool'
        (λ kind moved less. let range = ap (λ (r : Range). splits_left (suc r.depth)) kept_range in
        omega (arith, less, range)) (nears change sees);
    step = λ change before bare owns here keyed sees fine.
        step change (pair key value) (asked keyed) before bare here sees fine;
    answer = λ change keyed sees fine. tt;
  }

  -- no page was free
  pub is_full : v'.place ≡ Full → Arm (GiveBackDirectory IsFull)
  is_full is = record {
    writes = writes.writes;
    cause = writes.cause;
    aim = aim_to (GiveBackDirectory IsFull) (λ same. absurd (not_there (ap has_ended is) same));
    row = λ before bare here. row before bare here
        ∙ ap (λ (p : SplitPlace). with_row locks seat (split_locks_at p v'.page before)) is;
    progress = λ change keyed sees. nears_by did v v' _ _ pool pool' (λ kind moved less. omega arith)
        (nears change sees);
    step = λ change before bare owns here keyed sees fine.
        let s = step change (pair key value) (asked keyed) before bare here sees fine in
        let known = subst (λ (p : SplitPlace). AllKnown seat (world pool'.images locks' s.after) (split_facts_at p v'))
        is s.known in
        record {
          after = s.after;
          file = s.file;
          others = s.others;
          known = (known.0, tt);
          does = s.does;
          led = tt;
        };
    answer = λ change keyed sees fine. full_means hash (pair key value) v.place v'.place
        (world pool'.images locks' change) for.going is (means change (pair key value) (asked keyed) sees fine);
  }

  -- ---- the bucket is split

  -- each half is deeper by one
  both_deeper : (change : Change) → Sees hash seat (split_facts v) pool locks change → (new : ℕ) →
      v.place ≡ SetCounts new → (w : World) → SetsCounts seat (world pool.images locks change) w →
      look_left w.store n k < splits_left (suc v.whole.depth) + 7
  both_deeper change sees new from w sets =
      let known = subst (λ (p : SplitPlace). AllKnown seat (world pool.images locks change) (split_facts_at p v)) from
      sees.known in
      let phase : change ≡ Linked v.page new v.whole = known.0.1 in
      let linked : IsLinked (store_of pool.images) (chain (store_of pool.images)) v.page new v.whole =
      subst (HasPhase hash (store_of pool.images) (chain (store_of pool.images))) phase sees.sound.file.phase in
      elim sets.sets [
        | inl counts ↦ subst (λ (x : World). look_left x.store n k < splits_left (suc v.whole.depth) + 7)
            (sym counts.changes.is)
            (look_at_depth (set_counts (split_counts sets.whole.depth (store_of pool.images).header.counts)
            (store_of pool.images)) n k (suc v.whole.depth)
            (subst (λ (m : ℕ). (range_at (store_of pool.images) m).depth ≡ suc v.whole.depth) for.page_is
            (ap (λ (r : Range). r.depth) linked.halves.lower))
            (subst (λ (m : ℕ). (range_at (store_of pool.images) (next_at (store_of pool.images) m)).depth
            ≡ suc v.whole.depth) for.page_is
            (ap (λ (m : ℕ). (range_at (store_of pool.images) m).depth) linked.next
            ∙ ap (λ (r : Range). r.depth) linked.halves.upper)))
        | inr counts ↦ absurd (let other : Linked v.page new v.whole ≡ Buried sets.lower sets.upper sets.whole =
            sym phase ∙ counts.changes.phase in cc)
      ]

  moved_to : (kind : Kind) → did ≡ Moved kind → v'.place ≡ Done → (change : Change) →
      Sees hash seat (split_facts v) pool locks change →
      Step hash seat (split_turn (pair key value)) did (split_facts v') pool pool' locks locks' change →
      look_left (store_of pool'.images) n k < splits_left (suc v.whole.depth) + 7
  moved_to kind moved is change sees s =
      let goes = subst (λ (d : Progress FileFault). KeepsAim d v v') moved aim in
      let counted = done_by v.whole v.depth v'.place is v.place kind for.going goes.goes in
      let does = subst (λ (d : Progress FileFault). TurnsAt hash (split_turn (pair key value)) d seat
      (world pool.images locks change) (world pool'.images locks' s.after)) moved s.does in
      let sets = subst (λ (x : Kind). DoesTied hash (split_turn (pair key value)) x seat
      (world pool.images locks change) (world pool'.images locks' s.after)) counted.by does in
      both_deeper change sees counted.new counted.from (world pool'.images locks' s.after) sets

  pub is_split : EndsRow (locks_at (Splitting n v)) 3 (row_of locks seat) → v'.place ≡ Done →
      Arm (Look v'.depth n)
  is_split here is = record {
    writes = writes.writes;
    cause = writes.cause;
    aim = aim_to (Look v'.depth n) (λ same. absurd (not_there (ap has_ended is) same));
    row = λ before bare there. row before bare there
        ∙ ap (λ (p : SplitPlace). with_row locks seat (split_locks_at p v'.page before)) is
        ∙ ap (λ (m : ℕ). with_row locks seat (on_one m before)) kept_page;
    progress = λ change keyed sees. nears_by did v v' _ _ pool pool'
        (λ kind moved less.
        let s = step change (pair key value) (asked keyed) here.before here.bare here.is sees
        (ap is_fault moved) in
        let few = moved_to kind moved is change sees s in
        omega (arith, few))
        (nears change sees);
    step = λ change before bare owns there keyed sees fine.
        let s = step change (pair key value) (asked keyed) before bare there sees fine in
        let w : World = world pool'.images locks' s.after in
        let known = subst (λ (p : SplitPlace). AllKnown seat w (split_facts_at p v')) is s.known in
        let near = subst (λ (m : ℕ). AllKnown seat w (near_facts v'.depth m v'.wanted.pseudokey)) kept_page known in
        record {
          after = s.after;
          file = s.file;
          others = s.others;
          known = subst (λ (x : ℕ). AllKnown seat w (near_facts v'.depth n x)) kept_wanted near;
          does = s.does;
          led = tt;
        };
    answer = λ change keyed sees fine. tt;
  }
