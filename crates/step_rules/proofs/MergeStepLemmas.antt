-- The steps of a merge and of a halving keep the world sound, and leave the others what they know; so do those that a
-- split and a merge share.
use Rattle.std.proofs.Common.{◌≢◌, ℕ, [], ◌∷◌, refl, sym, ap, ◌∙◌, subst, inl, inr, arith}
use Rattle.std.specs.List.{Contains}
use Rattle.step_rules.proofs.Names.{Directory, Page, Range, RecordKey, held, joined, upper_half_of}
use Rattle.directory.proofs.MemberLaws.{contains_cases, contains_none}
use Rattle.bucket_page.specs.declared.page.PageKind.TheVariants as kinds
use Rattle.page_locks.specs.Writers.{IsWriter}
use Rattle.hash_file.specs.Store.{Store, bucket_at}
use Rattle.hash_file.specs.Change.{Change, Quiet, Linked, Absorbed, Buried, Drained, Freed}
use Rattle.hash_file.specs.Changes.{retarget, set_counts, split_counts, merge_counts, write_left, write_tombstone, write_free, link_free, lower_depth}
use Rattle.hash_file.specs.Search.{PageLeads}
use Rattle.hash_file.proofs.Frames.{page_other}
use Rattle.hash_file.proofs.TakePage.{link_free_keeps}
use Rattle.hash_file.proofs.Merging.{write_left_keeps}
use Rattle.hash_file.proofs.OffChain.{write_tombstone_keeps, write_free_keeps}
use Rattle.hash_file.proofs.Doubling.{lower_depth_keeps}
use Rattle.hash_file.proofs.Retargeting.{retarget_keeps_split, retarget_keeps_merge, set_counts_keeps_split, set_counts_keeps_merge}
use Rattle.step_rules.specs.World.{World, MayAim}
use Rattle.step_rules.specs.Sound.{IsSoundWorld}
use Rattle.step_rules.specs.PageSteps.{Restructures, Retargets, CountsSplit, CountsMerge, SetsCounts, WritesLeft, WritesTombstone, WritesFree, LinksFree, LowersDepth}
use Rattle.step_rules.specs.Does.{KeepsOthers}
use Rattle.step_rules.proofs.LockLemmas.{IsWriter-exclusive}
use Rattle.step_rules.proofs.KnownLemmas.{not_exclusive}
use Rattle.step_rules.proofs.ChangeLemmas.{other_page, close, close_kept, not_live, file}

module _ (hash : RecordKey → ℕ) (seat : ℕ) (old new : World) (sound : IsSoundWorld hash old) where
  -- ---- a split or a merge
  retarget_split : (lower upper page : ℕ) (whole : Range) →
      Restructures seat (Linked lower upper whole) (retarget page (upper_half_of whole) upper old.store)
      (Linked lower upper whole) old new →
      KeepsOthers hash seat old new
  retarget_split lower upper page whole changes =
      let t : Store = retarget page (upper_half_of whole) upper old.store in
      let c : Change = Linked lower upper whole in
      close_kept hash seat old new sound c t c changes
      (retarget_keeps_split hash old.store lower upper whole page (file hash seat old new sound c t c changes))
      (λ i n apart w. refl)
      (λ i n apart w on off. contains_none n off)
      (λ i apart there. omega arith)
      (λ n there on. absurd (contains_none n there))

  retarget_merge : (lower upper page : ℕ) (whole : Range) →
      Restructures seat (Buried lower upper whole) (retarget page (upper_half_of whole) lower old.store)
      (Buried lower upper whole) old new →
      KeepsOthers hash seat old new
  retarget_merge lower upper page whole changes =
      let t : Store = retarget page (upper_half_of whole) lower old.store in
      let c : Change = Buried lower upper whole in
      close_kept hash seat old new sound c t c changes
      (retarget_keeps_merge hash old.store lower upper whole page (file hash seat old new sound c t c changes))
      (λ i n apart w. refl)
      (λ i n apart w on off. not_live hash seat old new sound c t c changes n n off on refl)
      (λ i apart there. omega arith)
      (λ n there on. absurd (contains_none n there))

  pub KeepsOthers-retarget : Retargets seat old new → KeepsOthers hash seat old new
  KeepsOthers-retarget does = elim does.changes [
    | inl split ↦ retarget_split does.lower does.upper does.page does.whole split
    | inr merge ↦ retarget_merge does.lower does.upper does.page does.whole merge
  ]

  counts_split : (lower upper : ℕ) (whole : Range) → CountsSplit lower upper whole seat old new →
      KeepsOthers hash seat old new
  counts_split lower upper whole does =
      let t : Store = set_counts (split_counts whole.depth old.store.header.counts) old.store in
      let c : Change = Linked lower upper whole in
      close_kept hash seat old new sound c t Quiet does.changes
      (set_counts_keeps_split hash old.store lower upper whole
      (file hash seat old new sound c t Quiet does.changes) does.retargeted)
      (λ i n apart w. refl)
      (λ i n apart w on off. contains_none n off)
      (λ i apart there. omega arith)
      (λ n there on. absurd (contains_none n there))

  counts_merge : (lower upper : ℕ) (whole : Range) → CountsMerge lower upper whole seat old new →
      KeepsOthers hash seat old new
  counts_merge lower upper whole does =
      let t : Store = set_counts (merge_counts whole.depth old.store.header.counts) old.store in
      let c : Change = Buried lower upper whole in
      let d : Change = Drained lower upper in
      close_kept hash seat old new sound c t d does.changes
      (set_counts_keeps_merge hash old.store lower upper whole
      (file hash seat old new sound c t d does.changes) does.retargeted)
      (λ i n apart w. refl)
      (λ i n apart w on off. not_live hash seat old new sound c t d does.changes n n off on refl)
      (λ i apart there. omega arith)
      (λ n there on. absurd (contains_none n there))

  pub KeepsOthers-set_counts : SetsCounts seat old new → KeepsOthers hash seat old new
  KeepsOthers-set_counts does = elim does.sets [
    | inl split ↦ counts_split does.lower does.upper does.whole split
    | inr merge ↦ counts_merge does.lower does.upper does.whole merge
  ]

  -- ---- a merge
  -- the page that a change set aside is held by no other seat that may write it
  not_aside : (right i n : ℕ) → IsWriter old.locks seat (Page right) → i ≢ seat → IsWriter old.locks i (Page n) →
      Contains (right ∷ []) n → ⊥
  not_aside right i n mine apart w off = elim (contains_cases right n [] off) [
    | inl is ↦ other_page hash old i seat n right sound apart w mine (sym is)
    | inr none ↦ contains_none n none
  ]

  pub KeepsOthers-write_left : WritesLeft seat old new → KeepsOthers hash seat old new
  KeepsOthers-write_left does =
      let t : Store = write_left does.left does.right old.store in
      let d : Change = Absorbed does.left does.right does.whole in
      close_kept hash seat old new sound Quiet t d does.changes
      (write_left_keeps hash old.store does.left does.right does.whole
      (file hash seat old new sound Quiet t d does.changes)
      does.left_on does.right_on does.halves)
      (λ i n apart w. page_other old.store does.left n
      (kinds.Bucket (joined (bucket_at old.store does.left) (bucket_at old.store does.right)))
      (other_page hash old i seat n does.left sound apart w does.left_owned))
      (λ i n apart w on off. not_aside does.right i n does.right_owned apart w off)
      (λ i apart there. omega arith)
      (λ n there on. elim (contains_cases does.left n (does.right ∷ []) there) [
        | inl is ↦ subst (λ (m : ℕ). IsWriter old.locks seat (Page m)) is does.left_owned
        | inr further ↦ elim (contains_cases does.right n [] further) [
          | inl is ↦ subst (λ (m : ℕ). IsWriter old.locks seat (Page m)) is does.right_owned
          | inr none ↦ absurd (contains_none n none)
        ]
      ])

  pub KeepsOthers-tombstone : WritesTombstone seat old new → KeepsOthers hash seat old new
  KeepsOthers-tombstone does =
      let t : Store = write_tombstone does.left does.right old.store in
      let c : Change = Absorbed does.left does.right does.whole in
      let d : Change = Buried does.left does.right does.whole in
      close_kept hash seat old new sound c t d does.changes
      (write_tombstone_keeps hash old.store does.left does.right does.whole
      (file hash seat old new sound c t d does.changes))
      (λ i n apart w. page_other old.store does.right n (kinds.Tombstone does.left)
      (other_page hash old i seat n does.right sound apart w does.owned))
      (λ i n apart w on off. not_aside does.right i n does.owned apart w off)
      (λ i apart there. omega arith)
      (λ n there on. absurd (contains_none n there))

  -- ---- a merge that frees its page
  module _ (does : WritesFree seat old new) where
    abbrev freed : Store
    freed = write_free does.right old.store

    abbrev was : Change
    was = Drained does.left does.right

    -- both drains are over: no other seat is in the directory, and none stands on the page
    nobody : (i n : ℕ) → i ≢ seat → MayAim old.locks i n → n ≢ does.right
    nobody i n apart aim same = elim aim [
      | inl there ↦ not_exclusive old i seat Directory sound.lawful.pairs apart there does.alone
      | inr there ↦ not_exclusive old i seat (Page n) sound.lawful.pairs apart there
          (ap (λ (m : ℕ). held old.locks seat (Page m)) same ∙ does.drained)
    ]

    pub KeepsOthers-write_free : KeepsOthers hash seat old new
    KeepsOthers-write_free =
        let frees = write_free_keeps hash old.store does.left does.right
        (file hash seat old new sound was freed (Freed does.right) does.changes) in
        close hash seat old new sound was freed (Freed does.right) does.changes (record {
          file = frees.sound;
          contents = frees.contents;
          leads = λ i n k apart aim leads. frees.leads n k (nobody i n apart aim)
              (subst (λ (e : Change). PageLeads old.store e n k) does.changes.phase leads);
          pages = λ i n apart w. page_other old.store does.right n (kinds.Free old.store.header.first_free)
              (other_page hash old i seat n does.right sound apart w
              (IsWriter-exclusive old.locks seat (Page does.right) does.drained));
          not_aside = λ i n apart w on off. contains_none n off;
          depth = λ i apart there. omega arith;
          guarded = λ page there on. absurd (contains_none page there);
        })

  pub KeepsOthers-link_free : LinksFree seat old new → KeepsOthers hash seat old new
  KeepsOthers-link_free does =
      let t : Store = link_free does.right old.store in
      let c : Change = Freed does.right in
      close_kept hash seat old new sound c t Quiet does.changes
      (link_free_keeps hash old.store does.right (file hash seat old new sound c t Quiet does.changes))
      (λ i n apart w. refl)
      (λ i n apart w on off. contains_none n off)
      (λ i apart there. omega arith)
      (λ page there on. absurd (contains_none page there))

  pub KeepsOthers-lower_depth : LowersDepth seat old new → KeepsOthers hash seat old new
  KeepsOthers-lower_depth does =
      let t : Store = lower_depth old.store in
      close_kept hash seat old new sound Quiet t Quiet does.changes
      (lower_depth_keeps hash old.store (file hash seat old new sound Quiet t Quiet does.changes) does.deep does.unused)
      (λ i n apart w. refl)
      (λ i n apart w on off. contains_none n off)
      (λ i apart there. absurd (not_exclusive old i seat Directory sound.lawful.pairs apart there does.alone))
      (λ page there on. absurd (contains_none page there))
