-- What a step does to the names of keys that its seat holds.
use Rattle.std.proofs.Common.{ℕ, ◌≡◌, ◌⊎◌, inl, inr, sym, ap, ◌∙◌, subst, ◌++◌, [], ◌∷◌, Option, Some, None, IsSome}
use Rattle.std.proofs.lemmas.Bool.{cases_Bool, true≢false}
use Rattle.interleavings.proofs.KeyAskLemmas.{AsksKey}
use Rattle.xsi_calls.specs.ToldNames.{OfKey}
use Rattle.interleavings.specs.Words.{RecordKey, Table}
use Rattle.page_locks.proofs.ChangeLemmas.{ChangesOnly-convert, ChangesOnly-grant, ChangesOnly-release, IsSeat-with_row, held-release}
use Rattle.page_locks.proofs.NameLemmas.{is_same-itself, is_same-true}
use Rattle.page_locks.specs.Locks.{is_same, lock_of}
use Rattle.page_locks.specs.Table.{IsSeat, held, row_of, with_kind, with_lock, without_lock}
use Rattle.page_locks.specs.declared.lock.LockKind.{LockKind}
use Rattle.page_locks.specs.declared.lock.LockKind.TheVariants.{Exclusive}
use Rattle.page_locks.specs.declared.lock.LockName.{LockName}
use Rattle.page_locks.specs.declared.lock.LockName.TheVariants as names
use Rattle.step_rules.proofs.TurnLemmas.{is_of_its_kind}
use Rattle.hash_file.specs.Looks.{Answers}
use Rattle.hash_file.specs.Store.{next_at}
use Rattle.step_rules.specs.LockSteps.{Hops, MovesOn}
use Rattle.step_rules.specs.Turns.{Ask, DoesTied, ForAnswer, ForEntry, ForLock, ForPage, GrantsAsked, HopFrom, ToExclusive, Turn}
use Rattle.step_rules.specs.World.{IsHeld, World}
use Rattle.step_rules.specs.declared.kind.Kind.{Kind}
use Rattle.step_rules.specs.declared.kind.Kind.TheVariants.{Grant, Release, ReadDepth, ReadEntry, Look, Hop, WriteRecord, Decide, TakePage, CopyDirectory, RaiseDepth, WriteNew, WriteOld, Retarget, SetCounts, WriteLeft, Tombstone, Convert, WriteFree, LinkFree, LowerDepth}

either : {A B C : Type 0} → (A → C) → (B → C) → A ⊎ B → C
either f g (inl a) = f a
either f g (inr b) = g b

abbrev locks_of : World → Table
locks_of w = w.locks

module _ (seat key : ℕ) where
  abbrev Holds : Table → Type 0
  Holds locks = IsHeld locks seat (names.Key key)

  -- other names come and go
  granted : (t : Table) (name : LockName) (kind : LockKind) → IsSeat t seat → Holds (with_lock t seat name kind) →
      Holds t ⊎ (name ≡ names.Key key)
  granted t name kind is holds = elim (cases_Bool (is_same name (names.Key key))) [
    | inl same ↦ inr (is_same-true name (names.Key key) same)
    | inr other ↦ inl (subst IsSome ((ChangesOnly-grant t seat is name kind).names (names.Key key)
        (λ same. true≢false (sym (ap (is_same name) (sym same) ∙ is_same-itself name) ∙ other))) holds)
  ]

  released : (t : Table) (name : LockName) → IsSeat t seat → Holds (without_lock t seat name) → Holds t
  released t name is holds = elim (cases_Bool (is_same name (names.Key key))) [
    | inl same ↦
        let gone : held (without_lock t seat name) seat (names.Key key) ≡ None =
        ap (held (without_lock t seat name) seat) (sym (is_same-true name (names.Key key) same))
        ∙ held-release t seat is name
        in
        absurd (true≢false (sym (subst IsSome gone holds)))
    | inr other ↦ subst IsSome ((ChangesOnly-release t seat is name).names (names.Key key)
        (λ same. true≢false (sym (ap (is_same name) (sym same) ∙ is_same-itself name) ∙ other))) holds
  ]

  converted : (t : Table) → IsSeat t seat → Holds (with_kind t seat names.Directory Exclusive) → Holds t
  converted t is holds =
      subst IsSome ((ChangesOnly-convert t seat is names.Directory Exclusive).names (names.Key key) (λ same. cc)) holds

  module _ (old new : World) where
    abbrev Keeps : Type 0
    Keeps = Holds new.locks → Holds old.locks

    kept : new.locks ≡ old.locks → Keeps
    kept same holds = subst Holds same holds

    moved_on : (page : ℕ) (kind : LockKind) → MovesOn page kind seat old new → Keeps
    moved_on page kind moves holds =
        let next = names.Page (next_at old.store page) in
        let there = subst Holds (ap locks_of moves.is) holds in
        let seated = IsSeat-with_row old.locks seat seat (row_of old.locks seat ++ lock_of next kind ∷ [])
        moves.seated in
        by (granted old.locks next kind moves.seated
        (released (with_lock old.locks seat next kind) (names.Page page) seated there))
      where
        by : Holds old.locks ⊎ (names.Page (next_at old.store page) ≡ names.Key key) → Holds old.locks
        by (inl was) = was
        by (inr clash) = absurd cc

    hopped : Hops seat old new → Keeps
    hopped h holds = by h.hops
      where
        by : (Answers old.store h.page h.pseudokey × (new ≡ old))
            ⊎ ((Answers old.store h.page h.pseudokey → ⊥) × MovesOn h.page h.kind seat old new) → Holds old.locks
        by (inl still) = kept (ap locks_of still.1) holds
        by (inr moves) = moved_on h.page h.kind moves.1 holds

    -- a Grant of what is asked for
    module _ (IsSo : ℕ → Type 0) where
      asked : (ask : Option Ask) → AsksKey IsSo ask → GrantsAsked ask seat old new → Holds new.locks →
          Holds old.locks ⊎ IsSo key
      asked None so d holds = absurd d
      asked (Some (ForLock name kind)) so d holds =
          by (granted old.locks d.grants.name d.grants.kind d.grants.seated
          (subst Holds (ap locks_of d.grants.is) holds))
        where
          by : Holds old.locks ⊎ (d.grants.name ≡ names.Key key) → Holds old.locks ⊎ IsSo key
          by (inl was) = inl was
          by (inr same) = inr (subst (OfKey IsSo) (sym d.name_is ∙ same) so)
      asked (Some (ForEntry depth k)) so d holds = absurd d
      asked (Some (ForPage page k kind)) so d holds =
          by (granted old.locks d.grants.name d.grants.kind d.grants.seated
          (subst Holds (ap locks_of d.grants.is) holds))
        where
          by : Holds old.locks ⊎ (d.grants.name ≡ names.Key key) → Holds old.locks ⊎ IsSo key
          by (inl was) = inl was
          by (inr same) = absurd (let clash = sym d.name_is ∙ same in cc)
      asked (Some (ForAnswer page k)) so d holds = absurd d
      asked (Some (HopFrom page k)) so d holds = absurd d
      asked (Some ToExclusive) so d holds = absurd d

      pub takes : (hash : RecordKey → ℕ) (turn : Turn) (kind : Kind) → AsksKey IsSo turn.ask →
          DoesTied hash turn kind seat old new → Holds new.locks → Holds old.locks ⊎ IsSo key
      takes hash turn Grant so d holds = asked turn.ask so d holds
      takes hash turn Release so d holds =
          inl (released old.locks d.name d.seated (subst Holds (ap locks_of d.is) holds))
      takes hash turn ReadDepth so d holds = inl (kept (ap locks_of d.is) holds)
      takes hash turn ReadEntry so d holds = inl (kept (ap locks_of d.is) holds)
      takes hash turn Look so d holds = inl (kept (ap locks_of d.reads.is) holds)
      takes hash turn Hop so d holds = inl (hopped (is_of_its_kind hash seat old new turn Hop d) holds)
      takes hash turn WriteRecord so d holds =
          inl (kept (ap locks_of (is_of_its_kind hash seat old new turn WriteRecord d).is) holds)
      takes hash turn Decide so d holds = inl (kept (ap locks_of d) holds)
      takes hash turn TakePage so d holds = inl (kept (ap locks_of d.0.changes.is) holds)
      takes hash turn CopyDirectory so d holds = inl (kept (ap locks_of d.0.changes.is) holds)
      takes hash turn RaiseDepth so d holds = inl (kept (ap locks_of d.0.changes.is) holds)
      takes hash turn WriteNew so d holds = inl (kept (ap locks_of d.0.changes.is) holds)
      takes hash turn WriteOld so d holds = inl (kept (ap locks_of d.changes.is) holds)
      takes hash turn Retarget so d holds = inl (either (λ r. kept (ap locks_of r.is) holds)
          (λ r. kept (ap locks_of r.is) holds) d.changes)
      takes hash turn SetCounts so d holds = inl (either (λ r. kept (ap locks_of r.changes.is) holds)
          (λ r. kept (ap locks_of r.changes.is) holds) d.sets)
      takes hash turn WriteLeft so d holds = inl (kept (ap locks_of d.0.changes.is) holds)
      takes hash turn Tombstone so d holds = inl (kept (ap locks_of d.changes.is) holds)
      takes hash turn Convert so d holds =
          let does = is_of_its_kind hash seat old new turn Convert d in
          inl (converted old.locks does.seated (subst Holds (ap locks_of does.is) holds))
      takes hash turn WriteFree so d holds = inl (kept (ap locks_of d.changes.is) holds)
      takes hash turn LinkFree so d holds = inl (kept (ap locks_of d.changes.is) holds)
      takes hash turn LowerDepth so d holds = inl (kept (ap locks_of d.changes.is) holds)
