-- Each kind of step changes one page at most, and one lock.
use Rattle.std.proofs.Common.{◌≡◌, ◌≢◌, ◌≤◌, ℕ, ◌==◌, slice_index_or, Bool, ◌&&◌, ◌-◌, ◌^◌, if◌then◌else◌, List, length, refl, sym, ap, ◌∙◌, subst, inl, inr, ne_eqb}
use Rattle.std.proofs.lemmas.Bool.{cases_lt}
use Rattle.std.proofs.lemmas.List.{get_or_past}
use Rattle.directory.specs.Ranges.{upper_half_of}
use Rattle.bucket_page.specs.declared.page.PageKind.TheVariants as kinds
use Rattle.bucket_page.specs.Bucket.{Bucket}
use Rattle.bucket_page.specs.Dividing.{lower_half, upper_half, joined}
use Rattle.bucket_page.specs.directory.Entries.{page_of, is_upper, is_in_range}
use Rattle.page_locks.specs.declared.lock.LockKind.TheVariants.{Exclusive}
use Rattle.page_locks.specs.declared.lock.LockName.TheVariants.{Directory}
use Rattle.page_locks.specs.Table.{with_lock, without_lock, with_kind}
use Rattle.page_locks.specs.Writers.{ChangesOnly}
use Rattle.page_locks.proofs.ChangeLemmas.{ChangesOnly-grant, ChangesOnly-release, ChangesOnly-convert}
use Rattle.hash_file.specs.Store.{Store, entry_at, bucket_at, records_at, range_at}
use Rattle.hash_file.specs.Change.{Change, Quiet, Taken, Filled, Linked, Absorbed, Buried, Drained, Freed}
use Rattle.hash_file.specs.Changes.{records_after, write_record, mapped_from, take_page, copy_directory, raise_depth, write_new, write_old, retarget, set_counts, split_counts, merge_counts, write_left, write_tombstone, write_free, link_free, lower_depth}
use Rattle.hash_file.proofs.Headed.{length-mapped, mapped_first}
use Rattle.step_rules.specs.declared.kind.Kind.{Kind}
use Rattle.step_rules.specs.declared.kind.Kind.TheVariants.{Grant, Release, ReadDepth, ReadEntry, Look, Hop, WriteRecord, Decide, TakePage, CopyDirectory, RaiseDepth, WriteNew, WriteOld, Retarget, SetCounts, WriteLeft, Tombstone, Convert, WriteFree, LinkFree, LowerDepth}
use Rattle.step_rules.specs.World.{World, with_locks, with_store, gone_on}
use Rattle.step_rules.specs.LockSteps.{Hops}
use Rattle.step_rules.specs.PageSteps.{Restructures, Retargets, SetsCounts}
use Rattle.step_rules.specs.OnePage.{WritesHeader, WritesEntries, WritesPage, ChangesLocks, KindChangesLittle}

-- an entry stays where the page is another's, whatever else is asked of it
pub entry_elsewhere : (page i : ℕ) (ask : ℕ → Bool) (become : ℕ → ℕ) (es : List ℕ) → page_of i ≢ page →
    slice_index_or (mapped_from 0 (λ (j e : ℕ). if page_of j == page && ask j then become j else e) es) i 0
    ≡ slice_index_or es i 0
entry_elsewhere page i ask become es other =
    let change : ℕ → ℕ → ℕ = λ (j e : ℕ). if page_of j == page && ask j then become j else e in
    elim (cases_lt i (length es)) [
      | inl within ↦
          mapped_first change i es within
          ∙ ap (λ (b : Bool). if b && ask i then become i else slice_index_or es i 0) (ne_eqb (page_of i) page other)
      | inr past ↦
          get_or_past (mapped_from 0 change es) i 0 (subst (λ (n : ℕ). n ≤ i) (sym (length-mapped change 0 es)) past)
          ∙ sym (get_or_past es i 0 past)
    ]

writes_entries : (page : ℕ) (ask : ℕ → Bool) (become : ℕ → ℕ) (s : Store) →
    WritesEntries s (record s {
      entries = mapped_from 0 (λ (j e : ℕ). if page_of j == page && ask j then become j else e) s.entries;
    })
writes_entries page ask become s = record {
  page = page;
  as_many = length-mapped (λ (j e : ℕ). if page_of j == page && ask j then become j else e) 0 s.entries;
  others = λ i other. entry_elsewhere page i ask become s.entries other;
  rest = refl;
}

-- a world that is told by an equation
told : (P : World → Type 0) (new next : World) → new ≡ next → P next → P new
told P new next is p = subst P (sym is) p

module _ (seat : ℕ) (old new : World) where
  -- a step of one who may write the directory leaves the locks
  by_change : (P : Store → Type 0) (c : Change) (t : Store) (d : Change) → Restructures seat c t d old new → P t →
      P new.store × (new.locks ≡ old.locks)
  by_change P c t d changes p =
      told (λ (w : World). P w.store × (w.locks ≡ old.locks)) new (gone_on t d old) changes.is (p, refl)

  retargets : Retargets seat old new → WritesEntries old.store new.store × (new.locks ≡ old.locks)
  retargets does =
      let r = upper_half_of does.whole in
      let asks : ℕ → Bool =
      is_in_range old.store.header.depth r in
      elim does.changes [
        | inl split ↦ by_change (WritesEntries old.store) (Linked does.lower does.upper does.whole)
            (retarget does.page r does.upper old.store) (Linked does.lower does.upper does.whole) split
            (writes_entries does.page asks (λ (i : ℕ). does.upper) old.store)
        | inr merge ↦ by_change (WritesEntries old.store) (Buried does.lower does.upper does.whole)
            (retarget does.page r does.lower old.store) (Buried does.lower does.upper does.whole) merge
            (writes_entries does.page asks (λ (i : ℕ). does.lower) old.store)
      ]

  counts : SetsCounts seat old new → WritesHeader old.store new.store × (new.locks ≡ old.locks)
  counts does = elim does.sets [
    | inl split ↦
        let counts : List ℕ = split_counts does.whole.depth old.store.header.counts in
        by_change (WritesHeader old.store) (Linked does.lower does.upper does.whole) (set_counts counts old.store) Quiet
        split.changes (record old.store.header { counts = counts }, refl)
    | inr merge ↦
        let counts : List ℕ = merge_counts does.whole.depth old.store.header.counts in
        by_change (WritesHeader old.store) (Buried does.lower does.upper does.whole) (set_counts counts old.store)
        (Drained does.lower does.upper) merge.changes (record old.store.header { counts = counts }, refl)
  ]

  hops : Hops seat old new → (new.store ≡ old.store) × ChangesLocks Hop seat old new
  hops does = elim does.hops [
    | inl back ↦ (ap (λ (w : World). w.store) back.1, inl (ap (λ (w : World). w.locks) back.1))
    | inr on ↦ (
      ap (λ (w : World). w.store) on.1.is,
      inr (does.page, does.kind, does.had, ap (λ (w : World). w.locks) on.1.is),
    )
  ]

pub kind_changes_little : (kind : Kind) → KindChangesLittle kind
kind_changes_little Grant hash seat old new does = (
  ap (λ (w : World). w.store) does.is,
  (
    does.name,
    told (λ (w : World). ChangesOnly seat does.name old.locks w.locks) new
        (with_locks (with_lock old.locks seat does.name does.kind) old) does.is
        (ChangesOnly-grant old.locks seat does.seated does.name does.kind),
  ),
)
kind_changes_little Release hash seat old new does = (
  ap (λ (w : World). w.store) does.is,
  (
    does.name,
    told (λ (w : World). ChangesOnly seat does.name old.locks w.locks) new
        (with_locks (without_lock old.locks seat does.name) old) does.is
        (ChangesOnly-release old.locks seat does.seated does.name),
  ),
)
kind_changes_little Convert hash seat old new does = (
  ap (λ (w : World). w.store) does.is,
  told (λ (w : World). ChangesOnly seat Directory old.locks w.locks) new
      (with_locks (with_kind old.locks seat Directory Exclusive) old) does.is
      (ChangesOnly-convert old.locks seat does.seated Directory Exclusive),
)
kind_changes_little ReadDepth hash seat old new does =
    (ap (λ (w : World). w.store) does.is, ap (λ (w : World). w.locks) does.is)
kind_changes_little ReadEntry hash seat old new does =
    (ap (λ (w : World). w.store) does.is, ap (λ (w : World). w.locks) does.is)
kind_changes_little Look hash seat old new does =
    (ap (λ (w : World). w.store) does.reads.is, ap (λ (w : World). w.locks) does.reads.is)
kind_changes_little Decide hash seat old new does = (ap (λ (w : World). w.store) does, ap (λ (w : World). w.locks) does)
kind_changes_little Hop hash seat old new does = hops seat old new does
kind_changes_little WriteRecord hash seat old new does =
    let b : Bucket =
    record (bucket_at old.store does.page) { records = records_after does.write (records_at old.store does.page) } in
    told (λ (w : World). WritesPage old.store w.store × (w.locks ≡ old.locks)) new
    (with_store (write_record does.page does.write old.store) old) does.is
    ((does.page, kinds.Bucket b, refl), refl)
kind_changes_little TakePage hash seat old new does =
    let d : Change = Taken old.store.header.first_free in
    by_change seat old new (WritesHeader old.store) Quiet (take_page old.store) d does.changes
    ((take_page old.store).header, refl)
kind_changes_little CopyDirectory hash seat old new does =
    by_change seat old new (WritesEntries old.store) (Taken does.taken) (copy_directory does.page old.store)
    (Taken does.taken) does.changes
    (writes_entries does.page (is_upper old.store.header.depth)
    (λ (i : ℕ). entry_at old.store (i - 2 ^ old.store.header.depth)) old.store)
kind_changes_little RaiseDepth hash seat old new does =
    by_change seat old new (WritesHeader old.store) (Taken does.taken) (raise_depth old.store) (Taken does.taken)
    does.changes ((raise_depth old.store).header, refl)
kind_changes_little WriteNew hash seat old new does =
    by_change seat old new (WritesPage old.store) (Taken does.taken)
    (write_new hash does.split does.taken old.store) (Filled does.split does.taken) does.changes
    (does.taken, kinds.Bucket (upper_half hash (bucket_at old.store does.split)), refl)
kind_changes_little WriteOld hash seat old new does =
    by_change seat old new (WritesPage old.store) (Filled does.split does.filled)
    (write_old hash does.split does.filled old.store)
    (Linked does.split does.filled (range_at old.store does.split)) does.changes
    (does.split, kinds.Bucket (lower_half hash does.filled (bucket_at old.store does.split)), refl)
kind_changes_little Retarget hash seat old new does = retargets seat old new does
kind_changes_little SetCounts hash seat old new does = counts seat old new does
kind_changes_little WriteLeft hash seat old new does =
    by_change seat old new (WritesPage old.store) Quiet (write_left does.left does.right old.store)
    (Absorbed does.left does.right does.whole) does.changes
    (does.left, kinds.Bucket (joined (bucket_at old.store does.left) (bucket_at old.store does.right)), refl)
kind_changes_little Tombstone hash seat old new does =
    by_change seat old new (WritesPage old.store) (Absorbed does.left does.right does.whole)
    (write_tombstone does.left does.right old.store) (Buried does.left does.right does.whole) does.changes
    (does.right, kinds.Tombstone does.left, refl)
kind_changes_little WriteFree hash seat old new does =
    by_change seat old new (WritesPage old.store) (Drained does.left does.right) (write_free does.right old.store)
    (Freed does.right) does.changes (does.right, kinds.Free old.store.header.first_free, refl)
kind_changes_little LinkFree hash seat old new does =
    by_change seat old new (WritesHeader old.store) (Freed does.right) (link_free does.right old.store) Quiet
    does.changes ((link_free does.right old.store).header, refl)
kind_changes_little LowerDepth hash seat old new does =
    by_change seat old new (WritesHeader old.store) Quiet (lower_depth old.store) Quiet does.changes
    ((lower_depth old.store).header, refl)
