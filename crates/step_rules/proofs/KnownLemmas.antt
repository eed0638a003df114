-- What a seat knows is kept by what another seat's step leaves.
use Rattle.std.proofs.Common.{◌≡◌, ◌≢◌, ℕ, true, Some, IsSome, List, [], ◌∷◌, sym, ap, ◌∙◌, subst, inl, inr, arith}
use Rattle.std.proofs.lemmas.Bool.{true≢false}
use Rattle.directory.specs.Ranges.{Covers}
use Rattle.bucket_page.specs.declared.page.PageKind.{PageKind}
use Rattle.bucket_page.specs.Records.{lookup}
use Rattle.bucket_page.specs.Changes.{HasValueOf}
use Rattle.hash_file.specs.Store.{Store, page_at, is_bucket, bucket_of, range_of}
use Rattle.bucket_page.specs.declared.record_key.RecordKey.{RecordKey}
use Rattle.page_locks.specs.declared.lock.Lock.{Lock}
use Rattle.page_locks.specs.declared.lock.LockKind.TheVariants.{Exclusive}
use Rattle.page_locks.specs.declared.lock.LockName.{LockName}
use Rattle.page_locks.specs.declared.lock.LockName.TheVariants.{Directory, Page}
use Rattle.page_locks.specs.Locks.{kind_of}
use Rattle.page_locks.specs.Table.{held, IsPairwiseCompatible}
use Rattle.page_locks.specs.Writers.{may_write, IsWriter}
use Rattle.page_locks.proofs.WriterLemmas.{one_writer, exclusive_alone}
use Rattle.step_rules.specs.World.{World, IsHeld, MayAim, guard_of}
use Rattle.step_rules.specs.Pages.{PageFact, Covering, Lacking, Having, Using, Being, IsOf, used_of, sort_of}
use Rattle.step_rules.specs.Sound.{IsSoundWorld}
use Rattle.step_rules.specs.Known.{Known, Deep, LeadsTo, OnPage, Live, Built, Told, IsKnown, AllKnown}
use Rattle.step_rules.specs.Leaves.{Leaves}
use Rattle.step_rules.proofs.StructureLemmas.{IsSo-kept}

-- beside a seat that holds a name no other holds it exclusively
pub not_exclusive : (w : World) (i j : ℕ) (name : LockName) → IsPairwiseCompatible w.locks →
    i ≢ j → IsHeld w.locks i name → held w.locks j name ≢ Some Exclusive
not_exclusive w i j name pairs apart mine theirs =
    true≢false (sym (subst IsSome (exclusive_alone w.locks pairs j i name apart theirs) mine))

-- what is so of a page is so while it stands as it is
pub IsOf-kept : (s t : Store) (n : ℕ) → page_at t n ≡ page_at s n → (fact : PageFact) → IsOf s n fact → IsOf t n fact
IsOf-kept s t n same (Covering k) is = subst (λ (p : PageKind). (is_bucket p ≡ true)
    × Covers (range_of (bucket_of p)) k) (sym same) is
IsOf-kept s t n same (Lacking key) is =
    ap (λ (p : PageKind). lookup key (bucket_of p).records) same ∙ is
IsOf-kept s t n same (Having key bytes) is =
    subst (λ (p : PageKind). HasValueOf bytes key (bucket_of p).records) (sym same) is
IsOf-kept s t n same (Using bytes) is = ap (λ (p : PageKind). used_of (bucket_of p)) same ∙ is
IsOf-kept s t n same (Being sort) is = ap sort_of same ∙ is

module _ (hash : RecordKey → ℕ) (i j : ℕ) (old new : World) (apart : i ≢ j) (sound : IsSoundWorld hash old)
    (leaves : Leaves j old new) where
  -- a seat holds what it held
  held-kept : (name : LockName) → held new.locks i name ≡ held old.locks i name
  held-kept name = ap (λ (row : List Lock). kind_of row name) (leaves.rows i apart)

  IsHeld-kept : (name : LockName) → IsHeld old.locks i name → IsHeld new.locks i name
  IsHeld-kept name mine = subst IsSome (sym (held-kept name)) mine

  IsWriter-kept : (name : LockName) → IsWriter old.locks i name → IsWriter new.locks i name
  IsWriter-kept name mine = ap may_write (held-kept name) ∙ mine

  MayAim-kept : (page : ℕ) → MayAim old.locks i page → MayAim new.locks i page
  MayAim-kept page aim = elim aim [
    | inl there ↦ inl (IsHeld-kept Directory there)
    | inr there ↦ inr (IsHeld-kept (Page page) there)
  ]

  -- beside the one that may write the directory the other may not
  other_structure : IsWriter old.locks i Directory → IsWriter old.locks j Directory → ⊥
  other_structure mine theirs = apart (one_writer old.locks Directory sound.lawful.pairs i j mine theirs)

  pub IsKnown-kept : (fact : Known) → IsKnown i old fact → IsKnown i new fact
  IsKnown-kept (Deep depth) h = (IsHeld-kept Directory h.0, omega (arith, h.1, leaves.depth i apart h.0))
  IsKnown-kept (LeadsTo page pseudokey) h = (MayAim-kept page h.0, leaves.leads i page pseudokey apart h.0 h.1)
  IsKnown-kept (OnPage page fact) h =
      (IsWriter-kept (Page page) h.0, IsOf-kept old.store new.store page (leaves.pages i page apart h.0) fact h.1)
  IsKnown-kept (Live page) h = (IsWriter-kept (Page page) h.0, leaves.live i page apart h.0 h.1)
  IsKnown-kept (Built fact) h =
      (IsWriter-kept Directory h.0, IsSo-kept old new (leaves.structure (other_structure h.0)) fact h.1)
  IsKnown-kept (Told key value) h = (
    IsHeld-kept (guard_of key) h.0,
    leaves.records key (not_exclusive old i j (guard_of key) sound.lawful.pairs apart h.0) ∙ h.1,
  )

  pub AllKnown-kept : (facts : List Known) → AllKnown i old facts → AllKnown i new facts
  AllKnown-kept [] h = tt
  AllKnown-kept (fact ∷ facts) h = (IsKnown-kept fact h.0, AllKnown-kept facts h.1)
