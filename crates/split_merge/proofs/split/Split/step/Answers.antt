-- Each step, from what its place knows.
use Rattle.std.proofs.Common.{◌≡◌, ◌≢◌, refl, sym, ap, subst, ◌∙◌, ℕ, ◌+◌, true, List, arith}
use Rattle.directory.specs.declared.header.Header.{Header}
use Rattle.hash_file.specs.Changes.{take_page}
use Rattle.page_locks.specs.Locks.{without}
use Rattle.page_locks.specs.Table.{Table, row_of, with_row}
use Rattle.page_locks.proofs.TableLemmas.{row_of-same}
use Rattle.stale_search.specs.file_pages.Entries.{MayRetarget}
use Rattle.stale_search.specs.file_pages.Files.{store_of}
use Rattle.stale_search.specs.file_pages.Headers.{HasFreePage}
use Rattle.stale_search.proofs.of_file_pages.ReadLemmas.{devices_after}
use Rattle.stale_search.proofs.of_file_pages.StoreLemmas.{layout_is}
use Rattle.stale_search.specs.Steps.{world}
use Rattle.split_merge.specs.Words.{Lock, Page, Range, page_of, SplitPlace, WriteNew, Retarget}
use Rattle.split_merge.specs.Order.{IsPlaced}
use Rattle.split_merge.specs.Splits.{IsSplit, SplitView, in_directory}
use Rattle.split_merge.proofs.PageLemmas.{placed_first, retargets_fall}
use Rattle.split_merge.proofs.FreeLemmas.{first_free_is_there}
use Rattle.split_merge.proofs.MergeFreeLemmas.{read_then_written}
use Rattle.split_merge.proofs.MoveLemmas.{read_only}
use Rattle.split_merge.proofs.RowLemmas.{bucket_off}
use Rattle.split_merge.proofs.FaultLemmas.{may_split, taken_is_there, may_retarget, may_count}
use Rattle.split_merge.proofs.TurnLemmas.{took, copied, has_raised, filled, linked, named, counted, gave_back, no_room}
use Rattle.split_merge.proofs.split.Split.step.Goals as goal

-- ---- what is so of it at each place

-- but for where it is a split stays as it was
goes_on : (v : SplitView) (place : SplitPlace) → IsSplit v → IsPlaced v.whole v.depth place →
    IsSplit (record v { place = place })
goes_on v place is placed = record {
  range = is.range;
  shallow = is.shallow;
  depth = is.depth;
  full = is.full;
  placed = placed;
}

-- the directory is doubled, and has an entry for each half
doubles : (v : SplitView) (new : ℕ) → IsSplit v →
    IsSplit (record v { depth = v.whole.depth + 1; place = WriteNew new })
doubles v new is = record {
  range = is.range;
  shallow = is.shallow;
  depth = omega (arith, is.shallow);
  full = is.full;
  placed = omega arith;
}

pub invariant_of-self : goal.invariant_of-self
invariant_of-self g c = goes_on _ _ c.self.invariant tt

pub invariant_of-self-in-Ok-take_page : goal.invariant_of-self-in-Ok-take_page
invariant_of-self-in-Ok-take_page g c = goes_on _ _ c.self.invariant c.after_take-self-inside.ensures.placed

pub invariant_of-self-in-Ok-copy_directory : goal.invariant_of-self-in-Ok-copy_directory
invariant_of-self-in-Ok-copy_directory g c = goes_on _ _ c.self.invariant c.after_copy-self-inside.ensures.placed

pub invariant_of-self-in-Ok-raise_depth : goal.invariant_of-self-in-Ok-raise_depth
invariant_of-self-in-Ok-raise_depth g c = doubles _ _ c.self.invariant

pub invariant_of-self-in-Ok-write_new : goal.invariant_of-self-in-Ok-write_new
invariant_of-self-in-Ok-write_new g c =
    let inv = rw c.in-WriteNew.is at c.self.invariant in
    goes_on _ _ c.self.invariant inv.placed

pub invariant_of-self-in-Ok-write_old : goal.invariant_of-self-in-Ok-write_old
invariant_of-self-in-Ok-write_old g c =
    let inv = rw c.in-WriteOld.is at c.self.invariant in
    goes_on _ _ c.self.invariant (subst (λ (r : Range).
    IsPlaced c.self.inside.whole c.self.inside.depth (Retarget c.in-WriteOld.new r.pattern))
    (sym c.upper_half.ensures) (placed_first _ _ c.in-WriteOld.new inv.range inv.shallow inv.placed))

pub invariant_of-self-in-Ok-retarget : goal.invariant_of-self-in-Ok-retarget
invariant_of-self-in-Ok-retarget g c = goes_on _ _ c.self.invariant c.after_retarget-self-inside.ensures.placed

pub invariant_of-self-in-Ok-count_split : goal.invariant_of-self-in-Ok-count_split
invariant_of-self-in-Ok-count_split g c = goes_on _ _ c.self.invariant tt

-- ---- the first free page is taken

pub returns-then-header-eq0-clause-row : goal.returns-then-header-eq0-clause-row
returns-then-header-eq0-clause-row g c = λ before bare row.
    let row' = rw (← c.self.view_is, c.in-TakePage.is) at row in
    c.release.ensures ∙ ap (with_row c.args.locks.now c.args.seat)
    (ap (λ (locks : List Lock). without locks (Page c.self.inside.page)) row' ∙ bucket_off before bare
    c.self.inside.page)

pub returns-then-header-eq0-clause-step : goal.returns-then-header-eq0-clause-step
returns-then-header-eq0-clause-step g c = λ change p asked before bare row sees _.
    let sees' = rw (← c.self.view_is, c.in-TakePage.is) at sees in
    let asked' = rw (← c.self.view_is) at asked in
    let row' = rw (← c.self.view_is, c.in-TakePage.is) at row in
    let reads = c.in-Ok.ensures.reads in
    let back : c.release.new.self ≡ with_row c.args.locks.now c.args.seat (in_directory before) =
    c.release.ensures ∙ ap (with_row c.args.locks.now c.args.seat)
    (ap (λ (locks : List Lock). without locks (Page c.self.inside.page)) row' ∙ bucket_off before bare
    c.self.inside.page) in
    gave_back _ _ _ (rw c.in-TakePage.is at c.self.invariant) p asked' _ _ change _ (read_only true _ _ reads)
    sees' (reads.images sees'.honest) c.release.new.self before bare c.requires.seat row'
    (ap (λ (t : Table). row_of t c.args.seat) back ∙ row_of-same c.args.locks.now c.args.seat _ c.requires.seat)
    c.release.ensures

pub returns-then-header-eq0-clause-answer : goal.returns-then-header-eq0-clause-answer
returns-then-header-eq0-clause-answer g c = λ change p asked sees _.
    let sees' = rw (← c.self.view_is, c.in-TakePage.is) at sees in
    let asked' = rw (← c.self.view_is) at asked in
    let reads = c.in-Ok.ensures.reads in
    let none = ap (λ (h : Header). h.first_free) (sym (c.in-Ok.ensures.ok sees'.honest)) ∙ c.if-header-eq0.true in
    rw (← c.self.view_is, c.in-TakePage.is)
    (no_room _ _ _ (rw c.in-TakePage.is at c.self.invariant) p asked' _ _ change _ (read_only true _ _ reads)
    sees' (reads.images sees'.honest) c.release.new.self none)

pub returns-in-Ok-take_page-clause-step : goal.returns-in-Ok-take_page-clause-step
returns-in-Ok-take_page-clause-step g c = λ change p asked before bare row sees _.
    let sees' = rw (← c.self.view_is, c.in-TakePage.is) at sees in
    let asked' = rw (← c.self.view_is) at asked in
    let reads = c.in-Ok.ensures.reads in
    let honest = reads.honest ∙ sees'.honest in
    let same = reads.images sees'.honest in
    took _ _ _ (rw c.in-TakePage.is at c.self.invariant) p asked' _ _ change _
    (read_then_written true _ _ _ reads c.in-Ok-take_page.ensures.writes) c.in-Ok-take_page.new _ sees'
    (subst (λ (h : Header). h.first_free ≢ 0) (c.in-Ok.ensures.ok sees'.honest) c.if-header-eq0.false)
    (c.in-Ok-take_page.ensures.page honest
    ∙ ap (λ (images : List (List ℕ)). (store_of images).header.first_free) same)
    (c.in-Ok-take_page.ensures.ok honest ∙ ap (λ (images : List (List ℕ)). take_page (store_of images)) same)
    c.after_take-self-inside.ensures.is

pub returns-in-Err-take_page-clause-progress : goal.returns-in-Err-take_page-clause-progress
returns-in-Err-take_page-clause-progress g c = λ change sees.
    let sees' = rw (← c.self.view_is, c.in-TakePage.is) at sees in
    let reads = c.in-Ok.ensures.reads in
    let honest = reads.honest ∙ sees'.honest in
    let same = reads.images sees'.honest in
    let free = first_free_is_there _ _ (rw sees'.known.0.1 at sees'.sound.file)
    (ap (λ l. l.root) (layout_is c.args.pool.now.images))
    (subst (λ (h : Header). h.first_free ≢ 0) (c.in-Ok.ensures.ok sees'.honest) c.if-header-eq0.false) in
    record {
      devices = devices_after reads.later (c.in-Err-take_page.ensures.fault honest
          (reads.file sees'.honest refl sees'.file)
          (subst (λ (images : List (List ℕ)). HasFreePage (store_of images)) (sym same) free));
      images = c.in-Err-take_page.ensures.err honest ∙ same;
    }

-- ---- the steps behind it

pub returns-in-Ok-copy_directory-clause-step : goal.returns-in-Ok-copy_directory-clause-step
returns-in-Ok-copy_directory-clause-step g c = λ change p asked before bare row sees _.
    let sees' = rw (← c.self.view_is, c.in-CopyDirectory.is) at sees in
    let asked' = rw (← c.self.view_is) at asked in
    let inv = rw c.in-CopyDirectory.is at c.self.invariant in
    copied _ _ _ inv p asked' _ _ change _ c.in-Ok-copy_directory.ensures.writes _ _ _ sees' inv.placed
    (c.in-Ok-copy_directory.ensures.ok sees'.honest) c.after_copy-self-inside.ensures.is

pub returns-in-Ok-raise_depth-clause-step : goal.returns-in-Ok-raise_depth-clause-step
returns-in-Ok-raise_depth-clause-step g c = λ change p asked before bare row sees _.
    let sees' = rw (← c.self.view_is, c.in-RaiseDepth.is) at sees in
    let asked' = rw (← c.self.view_is) at asked in
    let inv = rw c.in-RaiseDepth.is at c.self.invariant in
    has_raised _ _ _ inv p asked' _ _ change _ c.in-Ok-raise_depth.ensures.writes _ sees' inv.placed
    (c.in-Ok-raise_depth.ensures.ok sees'.honest)

pub returns-in-Ok-write_new-clause-step : goal.returns-in-Ok-write_new-clause-step
returns-in-Ok-write_new-clause-step g c = λ change p asked before bare row sees _.
    let sees' = rw (← c.self.view_is, c.in-WriteNew.is) at sees in
    let asked' = rw (← c.self.view_is) at asked in
    let inv = rw c.in-WriteNew.is at c.self.invariant in
    filled _ _ _ inv p asked' _ _ change _ c.in-Ok-write_new.ensures.writes _ sees' inv.placed
    (c.in-Ok-write_new.ensures.ok sees'.honest)

pub returns-in-Err-write_new-clause-progress : goal.returns-in-Err-write_new-clause-progress
returns-in-Err-write_new-clause-progress g c = λ change sees.
    let sees' = rw (← c.self.view_is, c.in-WriteNew.is) at sees in
    let inv = rw c.in-WriteNew.is at c.self.invariant in
    let laid = layout_is c.args.pool.now.images in
    let w = world c.args.pool.now.images c.args.locks.now change in
    record {
      devices = c.in-Err-write_new.ensures.fault sees'.honest sees'.file
          (may_split _ c.args.seat _ inv w sees'.sound laid sees'.known.1.1)
          (taken_is_there _ c.args.seat _ inv w sees'.sound laid c.in-WriteNew.new sees'.known);
      images = c.in-Err-write_new.ensures.err sees'.honest;
    }

pub returns-in-Ok-write_old-clause-step : goal.returns-in-Ok-write_old-clause-step
returns-in-Ok-write_old-clause-step g c = λ change p asked before bare row sees _.
    let sees' = rw (← c.self.view_is, c.in-WriteOld.is) at sees in
    let asked' = rw (← c.self.view_is) at asked in
    let inv = rw c.in-WriteOld.is at c.self.invariant in
    linked _ _ _ inv p asked' _ _ change _ c.in-Ok-write_old.ensures.writes _ _ sees' c.upper_half.ensures
    (c.in-Ok-write_old.ensures.ok sees'.honest)

pub returns-in-Err-write_old-clause-progress : goal.returns-in-Err-write_old-clause-progress
returns-in-Err-write_old-clause-progress g c = λ change sees.
    let sees' = rw (← c.self.view_is, c.in-WriteOld.is) at sees in
    let inv = rw c.in-WriteOld.is at c.self.invariant in
    let w = world c.args.pool.now.images c.args.locks.now change in
    record {
      devices = c.in-Err-write_old.ensures.fault sees'.honest sees'.file
          (may_split _ c.args.seat _ inv w sees'.sound (layout_is c.args.pool.now.images) sees'.known.1.1);
      images = c.in-Err-write_old.ensures.err sees'.honest;
    }

pub returns-in-Ok-retarget-clause-progress : goal.returns-in-Ok-retarget-clause-progress
returns-in-Ok-retarget-clause-progress g c = λ change sees.
    let inv = rw c.in-Retarget.is at c.self.invariant in
    rw (← c.self.view_is, c.in-Retarget.is)
    (retargets_fall _ _ c.in-Retarget.new c.in-Retarget.entry _ inv.depth inv.placed
    c.after_retarget-self-inside.ensures.is)

pub returns-in-Ok-retarget-clause-step : goal.returns-in-Ok-retarget-clause-step
returns-in-Ok-retarget-clause-step g c = λ change p asked before bare row sees _.
    let sees' = rw (← c.self.view_is, c.in-Retarget.is) at sees in
    let asked' = rw (← c.self.view_is) at asked in
    let inv = rw c.in-Retarget.is at c.self.invariant in
    named _ _ _ inv p asked' _ _ change _ c.in-Ok-retarget.ensures.writes _ _ _ _ _ sees' inv.placed
    c.page_of.ensures.value c.upper_half-in-Retarget.ensures (c.in-Ok-retarget.ensures.ok sees'.honest)
    c.after_retarget-self-inside.ensures.is

pub returns-in-Err-retarget-clause-progress : goal.returns-in-Err-retarget-clause-progress
returns-in-Err-retarget-clause-progress g c = λ change sees.
    let sees' = rw (← c.self.view_is, c.in-Retarget.is) at sees in
    let inv = rw c.in-Retarget.is at c.self.invariant in
    let may = may_retarget _ c.args.seat _ inv (world c.args.pool.now.images c.args.locks.now change) sees'.sound
    (layout_is c.args.pool.now.images) c.in-Retarget.new c.in-Retarget.entry inv.placed in
    record {
      devices = c.in-Err-retarget.ensures.fault sees'.honest sees'.file
          (subst (λ (n : ℕ). MayRetarget n c.upper_half-in-Retarget.result) (sym c.page_of.ensures.value)
          (subst (MayRetarget (page_of c.in-Retarget.entry)) (sym c.upper_half-in-Retarget.ensures) may));
      images = c.in-Err-retarget.ensures.err sees'.honest;
    }

pub returns-in-Ok-count_split-clause-step : goal.returns-in-Ok-count_split-clause-step
returns-in-Ok-count_split-clause-step g c = λ change p asked before bare row sees _.
    let sees' = rw (← c.self.view_is, c.in-SetCounts.is) at sees in
    let asked' = rw (← c.self.view_is) at asked in
    counted _ _ _ (rw c.in-SetCounts.is at c.self.invariant) p asked' _ _ change _
    c.in-Ok-count_split.ensures.writes _ sees' (c.in-Ok-count_split.ensures.ok sees'.honest)

pub returns-in-Err-count_split-clause-progress : goal.returns-in-Err-count_split-clause-progress
returns-in-Err-count_split-clause-progress g c = λ change sees.
    let sees' = rw (← c.self.view_is, c.in-SetCounts.is) at sees in
    let inv = rw c.in-SetCounts.is at c.self.invariant in
    let w = world c.args.pool.now.images c.args.locks.now change in
    record {
      devices = c.in-Err-count_split.ensures.fault sees'.honest sees'.file
          (may_count _ c.args.seat _ inv w sees'.sound (layout_is c.args.pool.now.images) _ sees'.known);
      images = c.in-Err-count_split.ensures.err sees'.honest;
    }
