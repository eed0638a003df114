-- The steps of a split and of a doubling keep the world sound, and leave the others what they know.
use Rattle.std.proofs.Common.{◌≡◌, ◌≢◌, ℕ, [], ◌∷◌, refl, subst, inl, inr, arith}
use Rattle.std.specs.List.{Contains}
use Rattle.directory.proofs.MemberLaws.{contains_cases, contains_head, contains_none}
use Rattle.bucket_page.specs.declared.record_key.RecordKey.{RecordKey}
use Rattle.bucket_page.specs.declared.page.PageKind.TheVariants as kinds
use Rattle.bucket_page.specs.Dividing.{lower_half, upper_half}
use Rattle.page_locks.specs.declared.lock.LockName.TheVariants.{Directory, Page}
use Rattle.page_locks.specs.Writers.{IsWriter}
use Rattle.hash_file.specs.Store.{Store, bucket_at, range_at}
use Rattle.hash_file.specs.Chain.{chain}
use Rattle.hash_file.specs.Change.{Change, Quiet, Taken, Filled, Linked, aside}
use Rattle.hash_file.specs.Changes.{take_page, copy_directory, raise_depth, write_new, write_old}
use Rattle.hash_file.specs.Sound.{IsSoundFile}
use Rattle.hash_file.proofs.Frames.{page_other}
use Rattle.hash_file.proofs.TakePage.{take_page_keeps}
use Rattle.hash_file.proofs.OffChain.{write_new_keeps}
use Rattle.hash_file.proofs.Splitting.{write_old_keeps}
use Rattle.hash_file.proofs.Doubling.{copy_directory_keeps, raise_depth_keeps}
use Rattle.hash_file.proofs.Roles.{live_not_owned}
use Rattle.step_rules.specs.World.{World}
use Rattle.step_rules.specs.Sound.{IsSoundWorld}
use Rattle.step_rules.specs.PageSteps.{TakesPage, CopiesDirectory, RaisesDepth, WritesNew, WritesOld}
use Rattle.step_rules.specs.Does.{KeepsOthers}
use Rattle.step_rules.proofs.LockLemmas.{IsHeld-writer}
use Rattle.step_rules.proofs.ChangeLemmas.{other_writer, other_page, close_kept, file}

module _ (hash : RecordKey → ℕ) (seat : ℕ) (old new : World) (sound : IsSoundWorld hash old) where
  pub KeepsOthers-take_page : TakesPage seat old new → KeepsOthers hash seat old new
  KeepsOthers-take_page does =
      let t : Store = take_page old.store in
      let d : Change = Taken old.store.header.first_free in
      close_kept hash seat old new sound Quiet t d does.changes
      (take_page_keeps hash old.store (file hash seat old new sound Quiet t d does.changes) does.some_free)
      (λ i n apart w. refl)
      (λ i n apart w on off. contains_none n off)
      (λ i apart there. omega arith)
      (λ page there on. absurd (contains_none page there))

  pub KeepsOthers-copy_directory : CopiesDirectory seat old new → KeepsOthers hash seat old new
  KeepsOthers-copy_directory does =
      let t : Store = copy_directory does.page old.store in
      let c : Change = Taken does.taken in
      close_kept hash seat old new sound c t c does.changes
      (copy_directory_keeps hash old.store does.taken does.page (file hash seat old new sound c t c does.changes))
      (λ i n apart w. refl)
      (λ i n apart w on off. contains_none n off)
      (λ i apart there. omega arith)
      (λ page there on. absurd (contains_none page there))

  pub KeepsOthers-raise_depth : RaisesDepth seat old new → KeepsOthers hash seat old new
  KeepsOthers-raise_depth does =
      let t : Store = raise_depth old.store in
      let c : Change = Taken does.taken in
      close_kept hash seat old new sound c t c does.changes
      (raise_depth_keeps hash old.store does.taken
      (file hash seat old new sound c t c does.changes) does.room does.copied)
      (λ i n apart w. refl)
      (λ i n apart w on off. contains_none n off)
      (λ i apart there. omega arith)
      (λ page there on. absurd (contains_none page there))

  -- nobody but who may write the directory holds the page that was taken
  untaken : (taken i n : ℕ) → old.change ≡ Taken taken → IsWriter old.locks seat Directory → i ≢ seat →
      IsWriter old.locks i (Page n) → n ≢ taken
  untaken taken i n phase leader apart w same = elim (sound.standing i n (IsHeld-writer old.locks i (Page n) w)) [
    | inr too ↦ other_writer hash old i seat Directory sound apart too leader
    | inl (inl on) ↦
        live_not_owned hash old.store (Taken taken) (chain old.store)
        (subst (IsSoundFile hash old.store) phase sound.file) n taken on (contains_head taken []) same
    | inl (inr off) ↦ contains_none n (subst (λ (c : Change). Contains (aside c) n) phase off)
  ]

  pub KeepsOthers-write_new : WritesNew hash seat old new → KeepsOthers hash seat old new
  KeepsOthers-write_new does =
      let t : Store = write_new hash does.split does.taken old.store in
      let c : Change = Taken does.taken in
      let d : Change = Filled does.split does.taken in
      let keeps = write_new_keeps hash old.store does.split does.taken (file hash seat old new sound c t d does.changes)
      does.on_chain does.shallow in
      close_kept hash seat old new sound c t d does.changes keeps
      (λ i n apart w. page_other old.store does.taken n
      (kinds.Bucket (upper_half hash (bucket_at old.store does.split)))
      (untaken does.taken i n does.changes.phase does.changes.leader apart w))
      (λ i n apart w on off. contains_none n off)
      (λ i apart there. omega arith)
      (λ page there on. elim (contains_cases does.split page (does.taken ∷ []) there) [
        | inl is ↦ subst (λ (n : ℕ). IsWriter old.locks seat (Page n)) is does.owned
        | inr own ↦ elim on [
          | inl live ↦ absurd (live_not_owned hash t d (chain t) keeps.sound page page live own refl)
          | inr off ↦ absurd (contains_none page off)
        ]
      ])

  pub KeepsOthers-write_old : WritesOld hash seat old new → KeepsOthers hash seat old new
  KeepsOthers-write_old does =
      let t : Store = write_old hash does.split does.filled old.store in
      let c : Change = Filled does.split does.filled in
      let d : Change = Linked does.split does.filled (range_at old.store does.split) in
      close_kept hash seat old new sound c t d does.changes
      (write_old_keeps hash old.store does.split does.filled (file hash seat old new sound c t d does.changes))
      (λ i n apart w. page_other old.store does.split n
      (kinds.Bucket (lower_half hash does.filled (bucket_at old.store does.split)))
      (other_page hash old i seat n does.split sound apart w does.owned))
      (λ i n apart w on off. contains_none n off)
      (λ i apart there. omega arith)
      (λ page there on. absurd (contains_none page there))
