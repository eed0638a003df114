-- Each own step of a search, a split or a merge brings its end nearer.
use Rattle.std.proofs.Common.{◌≡◌, ◌<◌, ◌≤◌, ◌+◌, ◌-◌, ◌*◌, ◌%◌, ◌^◌, ◌==◌, ◌&&◌, cond, if◌then◌else◌, ℕ, suc, Bool, true, length, refl, sym, ap, ◌∙◌, subst, inl, inr, arith}
use Rattle.std.proofs.lemmas.Bool.{cases_eq, eq-eqb, le-leb, lt-ltb}
use Rattle.std.proofs.Math.Nat.{pow-le-pow_right, two-pow-succ}
use Rattle.directory.specs.declared.range.Range.{Range}
use Rattle.directory.specs.Ranges.{upper_half_of}
use Rattle.bucket_page.specs.declared.record_key.RecordKey.{RecordKey}
use Rattle.bucket_page.specs.declared.page.PageKind.{PageKind}
use Rattle.bucket_page.specs.declared.page.PageKind.TheVariants as kinds
use Rattle.bucket_page.specs.Dividing.{lower_half}
use Rattle.bucket_page.specs.directory.Entries.{page_of, is_upper, is_in_range}
use Rattle.hash_file.specs.Changes.{copy_directory, retarget}
use Rattle.hash_file.proofs.Doubling.{within_entries, copied_at}
use Rattle.hash_file.proofs.Frames.{page_same}
use Rattle.hash_file.proofs.Headed.{mapped_first}
use Rattle.hash_file.proofs.Roles.{numbered}
use Rattle.step_rules.specs.Words.{Store, bucket_of, bucket_at, range_at, entry_at, chain, Change, Quiet, Taken, Filled, Linked, Absorbed, Buried, Drained, Freed, IsSoundFile}
use Rattle.step_rules.specs.declared.kind.Kind.{Kind}
use Rattle.step_rules.specs.declared.kind.Kind.TheVariants.{Grant, Release, ReadDepth, ReadEntry, Look, Hop, WriteRecord, Decide, TakePage, CopyDirectory, RaiseDepth, WriteNew, WriteOld, Retarget, SetCounts, WriteLeft, Tombstone, Convert, WriteFree, LinkFree, LowerDepth}
use Rattle.step_rules.specs.World.{World}
use Rattle.step_rules.specs.Sound.{IsSoundWorld}
use Rattle.step_rules.specs.Structure.{IsCopiedBefore, IsRetargetedBefore, target_of}
use Rattle.step_rules.specs.PageSteps.{Restructures, CopiesDirectory, Retargets, WritesOld}
use Rattle.step_rules.specs.Falls.{SearchFalls, phases_left, StepFalls}
use Rattle.step_rules.proofs.BoundLemmas.{depth_is_exact, entry_is_near, hop_is_nearer}
use Rattle.step_rules.proofs.OnePageLemmas.{entry_elsewhere}

pub searches_fall : (hash : RecordKey → ℕ) (w : World) (k : ℕ) → IsSoundWorld hash w → SearchFalls w k
searches_fall hash w k sound = record {
  depth = omega (arith, depth_is_exact hash w k sound);
  entry = λ seat depth deep. omega (arith, entry_is_near hash seat w depth k sound deep);
  granted = λ page. omega arith;
  released = λ page. omega arith;
  looked = λ page. omega arith;
  hopped = λ page leads other. omega (arith, hop_is_nearer hash w page k sound leads other);
}

falls : (old new : World) (c d : Change) → old.change ≡ c → new.change ≡ d → phases_left d < phases_left c →
    phases_left new.change < phases_left old.change
falls old new c d was is less = omega (arith, less, ap phases_left was, ap phases_left is)

pub step_falls : (kind : Kind) → StepFalls kind
step_falls Grant hash seat old new does = tt
step_falls Release hash seat old new does = tt
step_falls ReadDepth hash seat old new does = tt
step_falls ReadEntry hash seat old new does = tt
step_falls Look hash seat old new does = tt
step_falls Hop hash seat old new does = tt
step_falls WriteRecord hash seat old new does = tt
step_falls Decide hash seat old new does = tt
step_falls TakePage hash seat old new does = tt
step_falls CopyDirectory hash seat old new does = tt
step_falls RaiseDepth hash seat old new does =
    subst (λ (w : World). w.store.layout.greatest - w.store.header.depth
    < old.store.layout.greatest - old.store.header.depth) (sym does.changes.is) (omega (arith, does.room))
step_falls WriteNew hash seat old new does =
    falls old new (Taken does.taken) (Filled does.split does.taken) does.changes.phase
    (ap (λ (w : World). w.change) does.changes.is) (omega arith)
step_falls WriteOld hash seat old new does =
    falls old new (Filled does.split does.filled) (Linked does.split does.filled (range_at old.store does.split))
    does.changes.phase (ap (λ (w : World). w.change) does.changes.is) (omega arith)
step_falls Retarget hash seat old new does = tt
step_falls SetCounts hash seat old new does = elim does.sets [
  | inl split ↦ falls old new (Linked does.lower does.upper does.whole) Quiet split.changes.phase
      (ap (λ (w : World). w.change) split.changes.is) (omega arith)
  | inr merge ↦ falls old new (Buried does.lower does.upper does.whole) (Drained does.lower does.upper)
      merge.changes.phase (ap (λ (w : World). w.change) merge.changes.is) (omega arith)
]
step_falls WriteLeft hash seat old new does = tt
step_falls Tombstone hash seat old new does =
    falls old new (Absorbed does.left does.right does.whole) (Buried does.left does.right does.whole)
    does.changes.phase (ap (λ (w : World). w.change) does.changes.is) (omega arith)
step_falls Convert hash seat old new does = tt
step_falls WriteFree hash seat old new does =
    falls old new (Drained does.left does.right) (Freed does.right) does.changes.phase
    (ap (λ (w : World). w.change) does.changes.is) (omega arith)
step_falls LinkFree hash seat old new does =
    falls old new (Freed does.right) Quiet does.changes.phase (ap (λ (w : World). w.change) does.changes.is)
    (omega arith)
step_falls LowerDepth hash seat old new does =
    subst (λ (w : World). w.store.header.depth < old.store.header.depth) (sym does.changes.is)
    (omega (arith, does.deep))

-- ---- pages of the directory

module _ (hash : RecordKey → ℕ) (s : Store) (c : Change) (sound : IsSoundFile hash s c) (page : ℕ) where
  abbrev depth : ℕ
  depth = s.header.depth

  -- an upper entry of the page becomes the lower one
  upper_copied : (i : ℕ) → depth < s.layout.greatest → i < 2 ^ depth → page_of (i + 2 ^ depth) ≡ page →
      entry_at (copy_directory page s) (i + 2 ^ depth) ≡ entry_at s i
  upper_copied i room low here =
      let j : ℕ = i + 2 ^ depth in
      let most : 2 ^ suc depth ≤ 2 ^ s.layout.greatest = pow-le-pow_right (omega arith) room in
      let within : j < length s.entries =
      omega (arith, low, most, two-pow-succ depth, sound.layout.entries) in
      let upper : is_upper depth j ≡ true =
      rw (le-leb (2 ^ depth) j (omega arith), lt-ltb j (2 * 2 ^ depth) (omega (arith, low))) refl in
      let asked : (page_of j == page && is_upper depth j) ≡ true = rw (eq-eqb (page_of j) page here, upper) refl in
      mapped_first (λ (k e : ℕ). if page_of k == page && is_upper depth k then entry_at s (k - 2 ^ depth) else e) j
      s.entries within
      ∙ ap (λ (b : Bool). cond b (entry_at s (j - 2 ^ depth)) (entry_at s j)) asked
      ∙ ap (entry_at s) (let less : j - 2 ^ depth ≡ i = omega arith in less)

  copied_on : depth < s.layout.greatest → IsCopiedBefore s page → IsCopiedBefore (copy_directory page s) (suc page)
  copied_on room before i low there =
      let j : ℕ = i + 2 ^ depth in
      let lower = copied_at hash s c (chain s) page i sound low in
      elim (cases_eq (page_of j) page) [
        | inl here ↦ upper_copied i room low here ∙ sym lower
        | inr other ↦
            entry_elsewhere page j (is_upper depth) (λ (k : ℕ). entry_at s (k - 2 ^ depth)) s.entries other
            ∙ before i low (omega (arith, there, other)) ∙ sym lower
      ]

  retargeted_on : (r : Range) (n : ℕ) → IsRetargetedBefore s r n page →
      IsRetargetedBefore (retarget page r n s) r n (suc page)
  retargeted_on r n before i low covers there =
      let ask : ℕ → Bool = is_in_range depth r in
      elim (cases_eq (page_of i) page) [
        | inr other ↦ entry_elsewhere page i ask (λ (k : ℕ). n) s.entries other
            ∙ before i low covers (omega (arith, there, other))
        | inl here ↦
            let ranged : ask i ≡ true =
            rw (lt-ltb i (2 ^ depth) low, eq-eqb (i % 2 ^ r.depth) r.pattern covers) refl in
            let asked : (page_of i == page && ask i) ≡ true = rw (eq-eqb (page_of i) page here, ranged) refl in
            mapped_first (λ (k e : ℕ). if page_of k == page && ask k then n else e) i s.entries
            (within_entries hash s c (chain s) i sound low)
            ∙ ap (λ (b : Bool). cond b n (entry_at s i)) asked
      ]

pub copies_on : (hash : RecordKey → ℕ) (seat : ℕ) (old new : World) (does : CopiesDirectory seat old new) →
    IsSoundWorld hash old → old.store.header.depth < old.store.layout.greatest →
    IsCopiedBefore new.store (suc does.page)
copies_on hash seat old new does sound room =
    subst (λ (w : World). IsCopiedBefore w.store (suc does.page)) (sym does.changes.is)
    (copied_on hash old.store old.change sound.file does.page room does.before)

pub retargets_on : (hash : RecordKey → ℕ) (seat : ℕ) (old new : World) (does : Retargets seat old new) →
    IsSoundWorld hash old →
    IsRetargetedBefore new.store (upper_half_of does.whole) (target_of new.change) (suc does.page)
retargets_on hash seat old new does sound = elim does.changes [
  | inl split ↦ by (Linked does.lower does.upper does.whole) split
  | inr merge ↦ by (Buried does.lower does.upper does.whole) merge
]
  where
    by : (c : Change) → Restructures seat c (retarget does.page (upper_half_of does.whole) (target_of c) old.store) c
        old new →
        IsRetargetedBefore new.store (upper_half_of does.whole) (target_of new.change) (suc does.page)
    by c changes =
        subst (λ (w : World). IsRetargetedBefore w.store (upper_half_of does.whole) (target_of w.change)
        (suc does.page))
        (sym changes.is) (retargeted_on hash old.store old.change sound.file does.page (upper_half_of does.whole)
        (target_of c) (subst (λ (d : Change).
        IsRetargetedBefore old.store (upper_half_of does.whole) (target_of d) does.page) changes.phase does.before))

-- ---- splits

pub split_deepens : (hash : RecordKey → ℕ) (seat : ℕ) (old new : World) (does : WritesOld hash seat old new) →
    IsSoundWorld hash old → (bucket_at new.store does.split).depth ≡ suc (bucket_at old.store does.split).depth
split_deepens hash seat old new does sound =
    let file = subst (IsSoundFile hash old.store) does.changes.phase sound.file in
    let within = (numbered hash old.store (Filled does.split does.filled) (chain old.store) file does.split
    (inl file.phase.old_on)).1 in
    let written : PageKind = kinds.Bucket (lower_half hash does.filled (bucket_at old.store does.split)) in
    ap (λ (w : World). (bucket_at w.store does.split).depth) does.changes.is
    ∙ ap (λ (p : PageKind). (bucket_of p).depth) (page_same old.store does.split written within)
    ∙ (let one_more : (bucket_at old.store does.split).depth + 1 ≡ suc (bucket_at old.store does.split).depth =
    omega arith in one_more)
