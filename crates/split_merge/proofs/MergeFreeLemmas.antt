-- The steps of a merge that write pages: from the counts on.
use Rattle.std.proofs.Common.{◌≡◌, ◌≢◌, refl, sym, ap, ◌∙◌, subst, ℕ, suc, ◌+◌, ◌^◌, ◌<◌, ◌≤◌, Bool, true, false, List, [], ◌∷◌, Some, length, arith, eq-eqb, ne_eqb, if◌then◌else◌, inr, ◌==◌}
use Rattle.split_merge.proofs.MergeNames.{Err, FileFault, FileHasCause, Header, IfErr, IsDevicesFault, IsFilePool, IsSoundFile, IsThere, IsTrue, Layout, LinksFree, LowersDepth, MAX_PAGES, MayMergeCount, Ok, OnErr, OnOk, OnlyReads, OnlyWrites, Result, SetsCounts, SpellsFile, Store, WritesFree, bucket_at, chain, contains_head, count_at, header_is, held, how_many, is_ok, kind_of, layout_is, link_free, lower_depth, merge_counts, set_counts, ways_are_short, write_free}
use Rattle.step_rules.specs.declared.kind.Kind.TheVariants as kinds
use Rattle.split_merge.specs.MergeWords.{RecordKey, Range, Lock, Exclusive, Directory, Page, Table, row_of, PoolState, store_of, Quiet, Buried, Drained, Freed, Progress, HasNoFileLock, world, Joint, SetCounts, ReleaseRight, WriteFree, LinkFree, LowerDepth}
use Rattle.split_merge.specs.Places.{MergeView, IsJoint, at, alone_on}
use Rattle.split_merge.specs.Steps.{MakesStep, GoesOn}
use Rattle.split_merge.proofs.MergeRowLemmas.{directory_beside, page_held}
use Rattle.split_merge.proofs.ArmLemmas.{goes_on}
use Rattle.split_merge.proofs.EntryLemmas.{page_within}
use Rattle.split_merge.proofs.JoinLemmas.{owned_there}

-- no more pages pass a test than there are
few_pass : (test : ℕ → Bool) (ns : List ℕ) → how_many test ns ≤ length ns
few_pass test [] = omega arith
few_pass test (n ∷ ns) = omega (arith, few_pass test ns, one (test n))
  where
    one : (b : Bool) → (if b then 1 else 0) ≤ 1
    one true = omega arith
    one false = omega arith

-- the two halves are counted, and the whole may be
pub may_merge_count : (hash : RecordKey → ℕ) (images : List (List ℕ)) (left right : ℕ) (whole : Range) →
    IsSoundFile hash (store_of images) (Buried left right whole) → SpellsFile images →
    MayMergeCount whole.depth (store_of images)
may_merge_count hash images left right whole h file =
    let s : Store = store_of images in
    let greatest : s.layout.greatest ≡ 17 = ap (λ (l : Layout). l.greatest) (layout_is images) in
    let below : suc whole.depth ≤ s.layout.greatest = omega (arith, h.phase.shallow, h.layout.depth) in
    let upper = rw (
      eq-eqb (suc whole.depth) (suc whole.depth) refl,
      ne_eqb whole.depth (suc whole.depth) (let other : whole.depth ≢ suc whole.depth = λ e. omega (arith, e) in other),
    )
    at (h.counts (suc whole.depth) below) in
    let lower = rw (
      eq-eqb whole.depth whole.depth refl,
      ne_eqb (suc whole.depth) whole.depth (let other : suc whole.depth ≢ whole.depth = λ e. omega (arith, e) in other),
    )
    at (h.counts whole.depth (omega (arith, below))) in
    let few = few_pass (λ (n : ℕ). (bucket_at s n).depth == whole.depth) (chain s) in
    let short = (ways_are_short hash s (Buried left right whole) h).short in
    let pages : s.header.pages ≤ 65536 =
    subst (λ (x : Header). x.pages ≤ MAX_PAGES) (sym (header_is images)) file.header.in_range.most in
    record {
      shallow = omega (arith, h.phase.shallow, h.layout.depth, greatest);
      some = let two : 2 ≤ count_at s (suc whole.depth) = omega (arith, upper) in
          subst (λ (d : ℕ). 2 ≤ count_at s d) (let one : suc whole.depth ≡ whole.depth + 1 = omega arith in one) two;
      room = omega (arith, lower, few, short, pages, h.layout.pages);
    }

module _ (seat : ℕ) (pool : PoolState) (locks : Table) (v : MergeView) (r : Result Unit FileFault)
    (did : Progress FileFault) (pool' : PoolState) (new : MergeView) (writes : OnlyWrites (is_ok r) pool pool')
    (cause : IfErr r (FileHasCause pool pool'))
    (spares : IsTrue pool.honest → OnErr r (pool'.images ≡ pool.images)) where
  abbrev s : Store
  s = store_of pool.images

  -- ---- SetCounts
  abbrev counted_store : Joint → Store
  counted_store j = set_counts (merge_counts j.whole.depth s.header.counts) s

  pub counts : (j : Joint) → IsJoint j → v.place ≡ SetCounts j →
      GoesOn r did kinds.SetCounts v (at (ReleaseRight j) v) new →
      (IsTrue pool.honest → OnOk r (store_of pool'.images ≡ counted_store j)) →
      (IsTrue pool.honest → IsFilePool pool → MayMergeCount j.whole.depth s →
      IfErr r (IsDevicesFault pool pool')) →
      MakesStep seat did v new pool pool' locks locks
  counts j is_joint is given becomes fault = goes_on seat pool locks v r did (SetCounts j) (ReleaseRight j)
      kinds.SetCounts pool' (counted_store j) new is given writes cause becomes spares (λ e. absurd cc) refl refl
      (λ before. refl)
      (λ hash change sees. fault sees.honest sees.file
      (may_merge_count hash pool.images j.left j.right j.whole
      (subst (IsSoundFile hash s) sees.known.0.1 sees.sound.file) sees.file.file))
      (λ hash change sees. omega arith)
      (λ before bare row hash change sees keyed.
      let known = sees.known in
      let does : SetsCounts seat (world pool.images locks change)
      (record { store = counted_store j; locks = locks; change = Drained j.left j.right }) = record {
        lower = j.left;
        upper = j.right;
        whole = j.whole;
        sets = inr (record {
          retargeted = λ i low covers. known.1.1.0.1 i low covers (page_within i j.depth is_joint.depth
              (subst (λ (d : ℕ). i < 2 ^ d) known.1.0.1 low));
          changes = record { leader = known.0.0; phase = known.0.1; is = refl };
        });
      } in
      record { after = Drained j.left j.right; does = does; known = ((known.0.0, refl), tt) })

  -- ---- after both drains
  module _ (before : List Lock) (bare : HasNoFileLock before) (page : ℕ)
      (row : row_of locks seat ≡ alone_on page before) where
    alone : held locks seat Directory ≡ Some Exclusive
    alone = ap (λ (xs : List Lock). kind_of xs Directory) row ∙ directory_beside before bare Exclusive Exclusive page

    drained : held locks seat (Page page) ≡ Some Exclusive
    drained = ap (λ (xs : List Lock). kind_of xs (Page page)) row ∙ page_held before bare Exclusive Exclusive page

  pub frees : (j : Joint) → v.place ≡ WriteFree j → GoesOn r did kinds.WriteFree v (at (LinkFree j.right) v) new →
      (IsTrue pool.honest → OnOk r (store_of pool'.images ≡ write_free j.right s)) →
      (IsTrue pool.honest → IsFilePool pool → IsThere j.right s → IfErr r (IsDevicesFault pool pool')) →
      MakesStep seat did v new pool pool' locks locks
  frees j is given becomes fault = goes_on seat pool locks v r did (WriteFree j) (LinkFree j.right)
      kinds.WriteFree pool' (write_free j.right s) new is given writes cause becomes spares (λ e. absurd cc) refl refl
      (λ before. refl)
      (λ hash change sees. fault sees.honest sees.file
      (owned_there hash pool.images (Drained j.left j.right) j.right
      (subst (IsSoundFile hash s) sees.known.0.1 sees.sound.file) (contains_head j.right [])))
      (λ hash change sees. omega arith)
      (λ before bare row hash change sees keyed.
      let known = sees.known in
      let does : WritesFree seat (world pool.images locks change)
      (record { store = write_free j.right s; locks = locks; change = Freed j.right }) = record {
        left = j.left;
        right = j.right;
        alone = alone before bare j.right row;
        drained = drained before bare j.right row;
        changes = record { leader = known.0.0; phase = known.0.1; is = refl };
      } in
      record { after = Freed j.right; does = does; known = ((known.0.0, refl), tt) })

  pub links : (page : ℕ) → v.place ≡ LinkFree page → GoesOn r did kinds.LinkFree v (at (LowerDepth page) v) new →
      (IsTrue pool.honest → OnOk r (store_of pool'.images ≡ link_free page s)) →
      (IsTrue pool.honest → IsFilePool pool → IfErr r (IsDevicesFault pool pool')) →
      MakesStep seat did v new pool pool' locks locks
  links page is given becomes fault = goes_on seat pool locks v r did (LinkFree page) (LowerDepth page)
      kinds.LinkFree pool' (link_free page s) new is given writes cause becomes spares (λ e. absurd cc) refl refl
      (λ before. refl)
      (λ hash change sees. fault sees.honest sees.file)
      (λ hash change sees.
      let greatest : s.layout.greatest ≡ 17 = ap (λ (l : Layout). l.greatest) (layout_is pool.images) in
      omega (arith, sees.sound.file.layout.depth, greatest))
      (λ before bare row hash change sees keyed.
      let known = sees.known in
      let does : LinksFree seat (world pool.images locks change)
      (record { store = link_free page s; locks = locks; change = Quiet }) = record {
        right = page;
        alone = alone before bare page row;
        changes = record { leader = known.0.0; phase = known.0.1; is = refl };
      } in
      record { after = Quiet; does = does; known = ((known.0.0, refl), tt) })

  -- the depth, which no bucket has
  pub lowers : (page depth : ℕ) → v.place ≡ LowerDepth page →
      GoesOn r did kinds.LowerDepth v (at (LowerDepth page) v) new →
      (IsTrue pool.honest → s.header.depth ≡ depth) → 0 < depth → (IsTrue pool.honest → count_at s depth ≡ 0) →
      (IsTrue pool.honest → OnOk r (store_of pool'.images ≡ lower_depth s)) →
      (IsTrue pool.honest → IsFilePool pool → IfErr r (IsDevicesFault pool pool')) →
      MakesStep seat did v new pool pool' locks locks
  lowers page depth is given deep some none becomes fault = goes_on seat pool locks v r did (LowerDepth page)
      (LowerDepth page) kinds.LowerDepth pool' (lower_depth s) new is given writes cause becomes spares (λ e. absurd cc)
      refl refl
      (λ before. refl)
      (λ hash change sees. fault sees.honest sees.file)
      (λ hash change sees. omega (arith, deep sees.honest, some))
      (λ before bare row hash change sees keyed.
      let known = sees.known in
      let does : LowersDepth seat (world pool.images locks change)
      (record { store = lower_depth s; locks = locks; change = Quiet }) = record {
        alone = alone before bare page row;
        deep = omega (arith, deep sees.honest, some);
        unused = ap (count_at s) (deep sees.honest) ∙ none sees.honest;
        changes = record { leader = known.0.0; phase = known.0.1; is = refl };
      } in
      record { after = Quiet; does = does; known = ((known.0.0, refl), tt) })

-- a write after a read
pub read_then_written : (fine : Bool) (pool middle pool' : PoolState) → OnlyReads true pool middle →
    OnlyWrites fine middle pool' → OnlyWrites fine pool pool'
read_then_written fine pool middle pool' reads writes = record {
  ready = writes.ready;
  honest = writes.honest ∙ reads.honest;
  later = omega (arith, reads.later, writes.later);
  stored = writes.stored ∙ reads.stored;
  as_many = writes.as_many ∙ reads.as_many;
  file = λ honest done file. writes.file (reads.honest ∙ honest) done (reads.file honest refl file);
}

-- what is so of the store before a read is so after it
pub ok_through : (r : Result Unit FileFault) (P Q : Type 0) → (P → Q) → OnOk r P → OnOk r Q
ok_through (Ok x) P Q f p = f p
ok_through (Err e) P Q f p = p

pub err_through : (r : Result Unit FileFault) (P Q : Type 0) → (P → Q) → OnErr r P → OnErr r Q
err_through (Ok x) P Q f p = p
err_through (Err e) P Q f p = f p
