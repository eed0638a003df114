-- A seat that holds the directory to read was granted it by the step with which its search began.
use Rattle.std.proofs.Common.{ℕ, ◌≡◌, ◌≢◌, inl, inr, refl, sym, ap, ◌∙◌, subst, true, false, List, [], ◌∷◌, ◌++◌, Option, Some, IsSome}
use Rattle.std.proofs.lemmas.Bool.{true≢false}
use Rattle.bucket_page.specs.declared.record_key.RecordKey.{RecordKey}
use Rattle.page_locks.proofs.ChangeLemmas.{ChangesOnly-grant, IsSeat-with_row, held-convert, held-grant}
use Rattle.page_locks.proofs.TableLemmas.{row_of-same}
use Rattle.page_locks.proofs.WriterLemmas.{held-kept}
use Rattle.page_locks.specs.Locks.{kind_of, lock_of}
use Rattle.page_locks.specs.Table.{Table, held, row_of, with_kind, with_lock, without_lock}
use Rattle.page_locks.specs.declared.lock.Lock.{Lock}
use Rattle.page_locks.specs.declared.lock.LockKind.{LockKind}
use Rattle.page_locks.specs.declared.lock.LockKind.TheVariants.{Read, Selective, Exclusive}
use Rattle.page_locks.specs.declared.lock.LockName.{LockName}
use Rattle.page_locks.specs.declared.lock.LockName.TheVariants.{Directory, Page}
use Rattle.step_rules.specs.declared.kind.Kind.{Kind}
use Rattle.step_rules.specs.declared.kind.Kind.TheVariants as kinds
use Rattle.step_rules.specs.declared.progress.Progress.{Progress}
use Rattle.step_rules.specs.declared.progress.Progress.TheVariants.{Moved}
use Rattle.step_rules.specs.Does.{Does}
use Rattle.step_rules.specs.Known.{Known, Deep, LeadsTo, OnPage, Live, Built, Told}
use Rattle.step_rules.specs.LockSteps.{Grants, MovesOn}
use Rattle.step_rules.specs.Searching.{WalksTo, StepsTo, ByEntry, WasBefore, Stays, HopsBack, HopsOn}
use Rattle.step_rules.specs.Sound.{IsSoundWorld}
use Rattle.step_rules.specs.Turns.{Ask, ForEntry, ForPage, ForAnswer, HopFrom, GrantsAsked}
use Rattle.step_rules.specs.Walking.{IsWalkBy}
use Rattle.step_rules.specs.Walks.{SearchWalk}
use Rattle.step_rules.specs.Words.{next_at}
use Rattle.step_rules.specs.World.{World}
use Rattle.step_rules.proofs.KindLemmas.{kind_keeps}
use Rattle.step_rules.proofs.LockLemmas.{held-unreleased, names_eq}
use Rattle.interleaving_core.specs.Searches.{begins_search}
use Rattle.interleaving_core.specs.xsi_calls.call_writes.WriteRuns.{is_directory_read, is_to_search, last_of}
use Rattle.xsi_calls.proofs.of_call_writes.LastLemmas.{last_there}

-- ---- others

-- they leave what it holds of the directory
pub others_hold : (hash : RecordKey → ℕ) (seat i : ℕ) (kind : Kind) (old new : World) → IsSoundWorld hash old →
    i ≢ seat → Does hash kind seat old new → held new.locks i Directory ≡ held old.locks i Directory
others_hold hash seat i kind old new sound apart does =
    ap (λ (row : List Lock). kind_of row Directory) ((kind_keeps kind hash seat old new sound does).leaves.rows i apart)

-- ---- its own steps

-- the row ends with the lock that was granted
last_granted : (seat : ℕ) (old new : World) (g : Grants seat old new) →
    last_of (row_of new.locks seat) ≡ Some (lock_of g.name g.kind)
last_granted seat old new g =
    ap (λ (w : World). last_of (row_of w.locks seat)) g.is
    ∙ ap last_of (row_of-same old.locks seat (row_of old.locks seat ++ lock_of g.name g.kind ∷ []) g.seated)
    ∙ last_there (row_of old.locks seat) (lock_of g.name g.kind)

module _ (seat : ℕ) (old new : World) where
  -- what has become of the directory's lock
  abbrev Had : Type 0
  Had = held new.locks seat Directory ≡ Some Read → held old.locks seat Directory ≡ Some Read

  locks_of : (w : World) → new ≡ w → new.locks ≡ w.locks
  locks_of w is = ap (λ (x : World). x.locks) is

  same_locks : new.locks ≡ old.locks → Had
  same_locks is reads = ap (λ (t : Table). held t seat Directory) (sym is) ∙ reads

  granted : (g : Grants seat old new) → begins_search kinds.Grant seat new.locks ≡ false → Had
  granted g none reads = elim (names_eq g.name Directory) [
    | inl directory ↦
        let now : held new.locks seat g.name ≡ Some g.kind =
        ap (λ (w : World). held w.locks seat g.name) g.is ∙ held-grant old.locks seat g.seated g.name g.kind g.fresh in
        let both : Some g.kind ≡ Some Read =
        sym now ∙ ap (λ (n : LockName). held new.locks seat n) directory ∙ reads in
        let kind_is : g.kind ≡ Read = cc in
        absurd (true≢false (sym (ap is_to_search (last_granted seat old new g)
        ∙ ap (λ (n : LockName). is_directory_read n g.kind) directory
        ∙ ap (is_directory_read Directory) kind_is) ∙ none))
    | inr other ↦
        sym (ap (λ (w : World). held w.locks seat Directory) g.is
        ∙ held-kept seat g.name old.locks (with_lock old.locks seat g.name g.kind)
        (ChangesOnly-grant old.locks seat g.seated g.name g.kind) seat Directory other) ∙ reads
  ]

  moved_on : (page : ℕ) (kind : LockKind) → MovesOn page kind seat old new → Had
  moved_on page kind g reads =
      let further : LockName = Page (next_at old.store page) in
      let t : Table = with_lock old.locks seat further kind in
      let seated = IsSeat-with_row old.locks seat seat (row_of old.locks seat ++ lock_of further kind ∷ []) g.seated in
      let there : held (without_lock t seat (Page page)) seat Directory ≡ Some Read =
      ap (λ (x : Table). held x seat Directory) (sym (locks_of _ g.is)) ∙ reads in
      sym (held-kept seat further old.locks t (ChangesOnly-grant old.locks seat g.seated further kind) seat Directory
      (λ same. absurd cc))
      ∙ sym (held-unreleased t seat seated (Page page) seat Directory (subst IsSome (sym there) refl)) ∙ there

  pub had_before : (hash : RecordKey → ℕ) (kind : Kind) → Does hash kind seat old new →
      begins_search kind seat new.locks ≡ false → Had
  had_before hash kinds.Grant does none = granted does none
  had_before hash kinds.Release does none = λ reads.
      let there : held (without_lock old.locks seat does.name) seat Directory ≡ Some Read =
      ap (λ (x : Table). held x seat Directory) (sym (locks_of _ does.is)) ∙ reads in
      sym (held-unreleased old.locks seat does.seated does.name seat Directory (subst IsSome (sym there) refl)) ∙ there
  had_before hash kinds.ReadDepth does none = same_locks (locks_of _ does.is)
  had_before hash kinds.ReadEntry does none = same_locks (locks_of _ does.is)
  had_before hash kinds.Look does none = same_locks (locks_of _ does.reads.is)
  had_before hash kinds.Hop does none = elim does.hops [
    | inl back ↦ same_locks (locks_of _ back.1)
    | inr moves ↦ moved_on does.page does.kind moves.1
  ]
  had_before hash kinds.WriteRecord does none = same_locks (locks_of _ does.is)
  had_before hash kinds.Decide does none = same_locks (locks_of _ does)
  had_before hash kinds.Retarget does none = elim does.changes [
    | inl split ↦ same_locks (locks_of _ split.is)
    | inr merge ↦ same_locks (locks_of _ merge.is)
  ]
  had_before hash kinds.SetCounts does none = elim does.sets [
    | inl split ↦ same_locks (locks_of _ split.changes.is)
    | inr merge ↦ same_locks (locks_of _ merge.changes.is)
  ]
  -- it is exclusive then
  had_before hash kinds.Convert does none = λ reads.
      let alone : held (with_kind old.locks seat Directory Exclusive) seat Directory ≡ Some Exclusive =
      held-convert old.locks seat does.seated Directory Exclusive Selective does.had in
      let clash : Some Exclusive ≡ Some Read =
      sym alone ∙ ap (λ (x : Table). held x seat Directory) (sym (locks_of _ does.is)) ∙ reads in
      absurd cc
  -- each other kind leaves the locks
  had_before hash kind does none = same_locks (locks_of _ does.changes.is)

-- ---- what it knows once it is granted the directory

module _ {F : Type 0} (seat : ℕ) (ask : Option Ask) (did : Progress F) (facts : List Known) (old new : World)
    (moved : did ≡ Moved kinds.Grant) (does : GrantsAsked ask seat old new)
    (begins : begins_search kinds.Grant seat new.locks ≡ true) where
  -- a page is no directory
  of_page : (page : ℕ) (kind : LockKind) (g : Grants seat old new) → g.name ≡ Page page → ⊥
  of_page page kind g is =
      true≢false (sym begins ∙ ap is_to_search (last_granted seat old new g)
      ∙ ap (λ (n : LockName). is_directory_read n g.kind) is)

  for_page : (page k : ℕ) (kind : LockKind) → ask ≡ Some (ForPage page k kind) → ⊥
  for_page page k kind is =
      let just = subst (λ (a : Option Ask). GrantsAsked a seat old new) is does in
      of_page page kind just.grants just.name_is

  grants_none : (a : Ask) → ask ≡ Some a → GrantsAsked (Some a) seat old new
  grants_none a is = subst (λ (x : Option Ask). GrantsAsked x seat old new) is does

  at_page : (page k : ℕ) → StepsTo seat ask did page k old new → ⊥
  at_page page k (ByEntry depth asked named) = absurd (grants_none (ForEntry depth k) asked)
  at_page page k (WasBefore kind asked) = for_page page k kind asked
  at_page page k (Stays asked) = absurd (grants_none (ForAnswer page k) asked)
  at_page page k (HopsBack asked free same) = absurd (grants_none (HopFrom page k) asked)
  at_page page k (HopsOn before asked free hop other next) = absurd (grants_none (HopFrom before k) asked)

  at_depth : did ≡ Moved kinds.ReadDepth → ⊥
  at_depth read = absurd (let e = sym moved ∙ read in cc)

  -- it is on no way yet, so on any
  pub on_any_way : (any : SearchWalk) → WalksTo seat ask did old new facts → IsWalkBy seat facts any new
  on_any_way any led = by facts led
    where
      by : (known : List Known) → WalksTo seat ask did old new known → IsWalkBy seat known any new
      by [] led = tt
      by (Deep depth ∷ []) led = absurd (at_depth led.moved)
      by (Deep depth ∷ (fact ∷ facts)) led = tt
      by (LeadsTo page k ∷ facts) led = absurd (at_page page k led.by)
      by (OnPage page fact ∷ facts) led = tt
      by (Live page ∷ facts) led = tt
      by (Built fact ∷ facts) led = tt
      by (Told key value ∷ facts) led = tt
