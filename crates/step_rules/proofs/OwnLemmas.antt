-- What a seat learns by a step of its own.
use Rattle.std.proofs.Common.{◌≡◌, ◌≢◌, ◌≤◌, ◌<◌, ◌%◌, ◌^◌, ℕ, [], ◌∷◌, true, Some, refl, sym, ap, ◌∙◌, subst, inl, inr, arith}
use Rattle.std.proofs.lemmas.Bool.{cases_eq, true≢false}
use Rattle.std.proofs.lemmas.Nat.{mod_below, pow_pos}
use Rattle.std.proofs.Math.Pow.{pow_mono}
use Rattle.std.specs.List.{Contains}
use Rattle.directory.proofs.MemberLaws.{contains_cases, contains_head, contains_none, contains_tail}
use Rattle.directory.proofs.RangeLaws.{covers_truncated}
use Rattle.step_rules.proofs.Names.{Absorbed, Answers, Buried, Change, Directory, Drained, Filled, Freed, HasNoWriter, HasPhase, IsBucketOf, IsBuried, IsDrained, IsHeld, IsSoundFile, IsSoundWorld, IsWriter, Linked, LockKind, LockName, MayAim, Page, PageLeads, Quiet, RecordKey, Store, Table, Taken, World, aside, busy, chain, entry_at, guard_of, held, is_bucket, lookup, may_write, next_at, page_at, range_at, records_at, row_of, with_lock, with_locks}
use Rattle.bucket_page.specs.declared.page.PageKind.TheVariants as kinds
use Rattle.page_locks.proofs.ChangeLemmas.{held-grant}
use Rattle.page_locks.proofs.WriterLemmas.{HasNoWriter-free}
use Rattle.hash_file.proofs.Searches.{entries_lead, stale_depths_lead, looks_answer, hops_lead_on}
use Rattle.hash_file.proofs.Ties.{quiet_exact}
use Rattle.hash_file.proofs.Roles.{live_not_owned}
use Rattle.step_rules.specs.Structure.{InPhase, HasDepth, BucketOf}
use Rattle.step_rules.specs.Known.{Known, Deep, LeadsTo, OnPage, Live, Built, Told, HasAnchor, IsKnown}
use Rattle.step_rules.specs.LockSteps.{Grants, MovesOn}
use Rattle.step_rules.specs.PageSteps.{WritesFree, LinksFree}
use Rattle.step_rules.proofs.LockLemmas.{IsHeld-writer, IsHeld-same, IsWriter-same, held-granted}
use Rattle.step_rules.proofs.LockStepLemmas.{none_busy}
use Rattle.step_rules.proofs.KnownLemmas.{not_exclusive, IsOf-kept}
use Rattle.step_rules.proofs.ChangeLemmas.{other_writer}
use Rattle.step_rules.proofs.StructureLemmas.{IsSo-kept}

-- ---- searches

-- an index by fewer bits is one of the directory
pub low_bits_below : (k d depth : ℕ) → d ≤ depth → k % 2 ^ d < 2 ^ depth
low_bits_below k d depth shallow = omega (arith, mod_below k (2 ^ d) (pow_pos d), pow_mono {i = d} {j = depth} shallow)

pub entry_read_leads : (hash : RecordKey → ℕ) (seat : ℕ) (w : World) (d k : ℕ) → IsSoundWorld hash w →
    IsKnown seat w (Deep d) → IsKnown seat w (LeadsTo (entry_at w.store (k % 2 ^ d)) k)
entry_read_leads hash seat w d k sound deep =
    let i : ℕ = k % 2 ^ d in
    let entry = entries_lead hash w.store w.change (chain w.store) (entry_at w.store i) i sound.file
    (sound.file.entries i (low_bits_below k d w.store.header.depth deep.1)) in
    (inl deep.0, stale_depths_lead w.store w.change (entry_at w.store i) k d entry.leads)

pub look_tells : (hash : RecordKey → ℕ) (seat : ℕ) (w : World) (page : ℕ) (key : RecordKey) → IsSoundWorld hash w →
    IsKnown seat w (LeadsTo page (hash key)) → Answers w.store page (hash key) → IsHeld w.locks seat (guard_of key) →
    IsKnown seat w (Told key (lookup key (records_at w.store page)))
look_tells hash seat w page key sound leads answers there =
    (there, looks_answer hash w.store w.change (chain w.store) page key sound.file leads.1 answers)

pub hop_is_led_on : (hash : RecordKey → ℕ) (seat : ℕ) (old new : World) (page k : ℕ) (kind : LockKind) →
    IsSoundWorld hash old → PageLeads old.store old.change page k → (Answers old.store page k → ⊥) →
    MovesOn page kind seat old new → PageLeads new.store new.change (next_at old.store page) k
hop_is_led_on hash seat old new page k kind sound leads other g =
    subst (λ (w : World). PageLeads w.store w.change (next_at old.store page) k) (sym g.is)
    (hops_lead_on hash old.store old.change (chain old.store) page k sound.file leads other).leads

-- ---- a page that a seat may write

-- a tombstone does not answer
dead : (s : Store) (left n k : ℕ) → page_at s n ≡ kinds.Tombstone left → Answers s n k → ⊥
dead s left n k is answers = true≢false (sym answers.0 ∙ ap is_bucket is)

module _ (hash : RecordKey → ℕ) (seat : ℕ) (w : World) (page k : ℕ) (sound : IsSoundWorld hash w)
    (owned : IsWriter w.locks seat (Page page)) (between : IsWriter w.locks seat Directory → w.change ≡ Quiet) where
  -- no phase speaks of the records of a page that a search may come to
  idle : Contains (busy w.change) page → Contains (aside w.change) page → ⊥
  idle there off =
      let by = sound.guarded page there (inr off) in
      elim (cases_eq by.0 seat) [
        | inl own ↦ none_busy w.change page
            (between (subst (λ (x : ℕ). IsWriter w.locks x Directory) own by.1.directory)) there
        | inr apart ↦ other_writer hash w by.0 seat (Page page) sound apart by.1.page_too owned
      ]

  not_off : (c : Change) → w.change ≡ c → Answers w.store page k → Contains (aside c) page → ⊥
  not_off Quiet is answers off = contains_none page off
  not_off (Taken new) is answers off = contains_none page off
  not_off (Filled old new) is answers off = contains_none page off
  not_off (Linked old new whole) is answers off = contains_none page off
  not_off (Absorbed left right whole) is answers off =
      idle (subst (λ (c : Change). Contains (busy c) page) (sym is) (contains_tail left page (right ∷ []) off))
      (subst (λ (c : Change). Contains (aside c) page) (sym is) off)
  not_off (Buried left right whole) is answers off =
      let p : IsBuried w.store (chain w.store) left right whole =
      subst (HasPhase hash w.store (chain w.store)) is sound.file.phase in
      elim (contains_cases right page [] off) [
        | inl same ↦ dead w.store left page k (ap (page_at w.store) (sym same) ∙ p.tombstone) answers
        | inr none ↦ contains_none page none
      ]
  not_off (Drained left right) is answers off =
      let p : IsDrained w.store (chain w.store) left right =
      subst (HasPhase hash w.store (chain w.store)) is sound.file.phase in
      elim (contains_cases right page [] off) [
        | inl same ↦ dead w.store left page k (ap (page_at w.store) (sym same) ∙ p.tombstone) answers
        | inr none ↦ contains_none page none
      ]
  not_off (Freed right) is answers off = contains_none page off

  pub owned_answer_is_live : IsKnown seat w (LeadsTo page k) → Answers w.store page k → IsKnown seat w (Live page)
  owned_answer_is_live leads answers = (
    owned,
    elim leads.1.stands [
      | inl on ↦ on
      | inr off ↦ absurd (not_off w.change refl answers off)
    ],
  )

-- ---- the directory of a seat that may write it

pub directory_is_quiet : (hash : RecordKey → ℕ) (seat : ℕ) (old new : World) (g : Grants seat old new) →
    IsSoundWorld hash old → g.name ≡ Directory → may_write (Some g.kind) ≡ true →
    IsKnown seat new (Built (InPhase Quiet))
directory_is_quiet hash seat old new g sound name may =
    let now : held (with_lock old.locks seat g.name g.kind) seat g.name ≡ Some g.kind =
    held-grant old.locks seat g.seated g.name g.kind g.fresh in
    let owned : IsWriter (with_lock old.locks seat g.name g.kind) seat Directory =
    ap (λ (n : LockName). may_write (held (with_lock old.locks seat g.name g.kind) seat n)) (sym name)
    ∙ ap may_write now ∙ may in
    let none = HasNoWriter-free old.locks seat g.name g.kind may (ap may_write g.fresh) g.free in
    subst (λ (w : World). IsKnown seat w (Built (InPhase Quiet))) (sym g.is)
    (owned, sound.led (subst (HasNoWriter old.locks) name none))

pub entry_is_bucket : (hash : RecordKey → ℕ) (seat : ℕ) (w : World) (d k : ℕ) → IsSoundWorld hash w →
    IsKnown seat w (Built (InPhase Quiet)) → IsKnown seat w (Built (HasDepth d)) →
    IsKnown seat w (Built (BucketOf k (entry_at w.store (k % 2 ^ d))))
entry_is_bucket hash seat w d k sound quiet deep =
    let i : ℕ = k % 2 ^ d in
    let within : i < 2 ^ w.store.header.depth = low_bits_below k d w.store.header.depth (omega (arith, deep.1)) in
    let file : IsSoundFile hash w.store Quiet = subst (IsSoundFile hash w.store) quiet.1 sound.file in
    let named : IsBucketOf w.store i (entry_at w.store i) = (quiet_exact hash w.store file).entries i within in
    let shallow : (range_at w.store (entry_at w.store i)).depth ≤ d =
    omega (arith, file.chained.shallow (entry_at w.store i) named.0, deep.1) in
    (quiet.0, (named.0, (covers_truncated (range_at w.store (entry_at w.store i)) d k shallow).0 named.1))

-- ---- its own locks

pub own_locks_keep : (seat : ℕ) (w : World) (t : Table) (fact : Known) → IsKnown seat w fact
    → HasAnchor (row_of t seat) fact →
    IsKnown seat (with_locks t w) fact
own_locks_keep seat w t (Deep depth) h anchor = (anchor, h.1)
own_locks_keep seat w t (LeadsTo page k) h anchor = (anchor, h.1)
own_locks_keep seat w t (OnPage page of) h anchor = (anchor, IsOf-kept w.store w.store page refl of h.1)
own_locks_keep seat w t (Live page) h anchor = (anchor, h.1)
own_locks_keep seat w t (Built fact) h anchor = (
  anchor,
  IsSo-kept w (with_locks t w) (record {
    change = refl;
    header = refl;
    entries = refl;
    chain = refl;
    pages = λ n. refl;
  }) fact h.1,
)
own_locks_keep seat w t (Told key value) h anchor = (anchor, h.1)

module _ (seat : ℕ) (old : World) (new : World) (g : Grants seat old new) where
  abbrev granted : Table
  granted = with_lock old.locks seat g.name g.kind

  held_still : (name : LockName) → IsHeld old.locks seat name → IsHeld granted seat name
  held_still name there = IsHeld-same old.locks granted seat name
      (held-granted old.locks seat g.seated g.name g.kind seat name g.fresh there) there

  owned_still : (name : LockName) → IsWriter old.locks seat name → IsWriter granted seat name
  owned_still name w = IsWriter-same old.locks granted seat name
      (held-granted old.locks seat g.seated g.name g.kind seat name g.fresh (IsHeld-writer old.locks seat name w)) w

  anchored : (fact : Known) → HasAnchor (row_of old.locks seat) fact → HasAnchor (row_of granted seat) fact
  anchored (Deep depth) a = held_still Directory a
  anchored (LeadsTo page k) (inl a) = inl (held_still Directory a)
  anchored (LeadsTo page k) (inr a) = inr (held_still (Page page) a)
  anchored (OnPage page of) a = owned_still (Page page) a
  anchored (Live page) a = owned_still (Page page) a
  anchored (Built fact) a = owned_still Directory a
  anchored (Told key value) a = held_still (guard_of key) a

  pub own_grant_keeps : (fact : Known) → IsKnown seat old fact → IsKnown seat new fact
  own_grant_keeps fact h = subst (λ (w : World). IsKnown seat w fact) (sym g.is)
      (own_locks_keep seat old granted fact h (anchored fact h.0))

-- ---- a page that is freed

module _ (hash : RecordKey → ℕ) (seat other : ℕ) (old new : World) (sound : IsSoundWorld hash old)
    (apart : other ≢ seat) where
  pub frees_nobodys : (does : WritesFree seat old new) → MayAim old.locks other does.right → ⊥
  frees_nobodys does aim = elim aim [
    | inl there ↦ not_exclusive old other seat Directory sound.lawful.pairs apart there does.alone
    | inr there ↦ not_exclusive old other seat (Page does.right) sound.lawful.pairs apart there does.drained
  ]

  pub links_nobodys : (does : LinksFree seat old new) → MayAim old.locks other does.right → ⊥
  links_nobodys does aim = elim aim [
    | inl there ↦ not_exclusive old other seat Directory sound.lawful.pairs apart there does.alone
    | inr there ↦ elim (sound.standing other does.right there) [
      | inr w ↦ other_writer hash old other seat Directory sound apart w does.changes.leader
      | inl (inl on) ↦
          live_not_owned hash old.store (Freed does.right) (chain old.store)
          (subst (IsSoundFile hash old.store) does.changes.phase sound.file) does.right does.right on
          (contains_head does.right []) refl
      | inl (inr off) ↦ contains_none does.right
          (subst (λ (c : Change). Contains (aside c) does.right) does.changes.phase off)
    ]
  ]
