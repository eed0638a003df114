-- A hop keeps the world sound, and leaves the others what they know: one page is granted, and the other given back.
use Rattle.std.proofs.Common.{◌≡◌, ℕ, [], ◌∷◌, ◌++◌, length, Some, refl, sym, ap, ◌∙◌, subst, inl, inr}
use Rattle.std.specs.List.{Contains}
use Rattle.bucket_page.specs.declared.record_key.RecordKey.{RecordKey}
use Rattle.page_locks.specs.declared.lock.LockKind.{LockKind}
use Rattle.page_locks.specs.declared.lock.LockName.{LockName}
use Rattle.page_locks.specs.declared.lock.LockName.TheVariants.{Directory, Page}
use Rattle.page_locks.specs.Locks.{lock_of}
use Rattle.page_locks.specs.Table.{Table, row_of, held, with_lock, without_lock}
use Rattle.page_locks.specs.Writers.{may_write, IsWriter}
use Rattle.page_locks.proofs.ChangeLemmas.{IsSeat-with_row, ChangesOnly-grant}
use Rattle.page_locks.proofs.WriterLemmas.{held-kept}
use Rattle.hash_file.specs.Chain.{chain}
use Rattle.hash_file.specs.Change.{busy}
use Rattle.hash_file.specs.Store.{next_at}
use Rattle.hash_file.specs.Search.{PageLeads}
use Rattle.hash_file.specs.Looks.{Answers}
use Rattle.hash_file.proofs.Searches.{hops_lead_on}
use Rattle.step_rules.specs.World.{World, with_locks, IsReached}
use Rattle.step_rules.specs.Sound.{IsSoundWorld}
use Rattle.step_rules.specs.Leaves.{Leaves}
use Rattle.step_rules.specs.LockSteps.{Grants, Releases, MovesOn, Hops}
use Rattle.step_rules.specs.Does.{KeepsOthers}
use Rattle.step_rules.proofs.LockLemmas.{IsHeld-some, IsHeld-same, held-granted}
use Rattle.step_rules.proofs.LockStepLemmas.{Leaves-locks, KeepsOthers-same, KeepsOthers-grant, KeepsOthers-release}

-- ---- a hop: one page granted, and the other given back
module _ (hash : RecordKey → ℕ) (seat : ℕ) (old new : World) (sound : IsSoundWorld hash old) (page k : ℕ)
    (kind : LockKind)
    (had : held old.locks seat (Page page) ≡ Some kind) (leads : PageLeads old.store old.change page k)
    (other : Answers old.store page k → ⊥) (g : MovesOn page kind seat old new) where
  abbrev further : LockName
  further = Page (next_at old.store page)

  abbrev both : World
  both = with_locks (with_lock old.locks seat further kind) old

  reached : (n : ℕ) → further ≡ Page n → IsReached old n
  reached n same =
      let is : next_at old.store page ≡ n = cc in
      subst (IsReached old) is (hops_lead_on hash old.store old.change
      (chain old.store) page k sound.file leads other).leads.stands

  grants : Grants seat old both
  grants = record {
    seated = g.seated;
    room = g.room;
    name = further;
    kind = kind;
    fresh = g.fresh;
    free = g.free;
    aimed = reached;
    is = refl;
  }

  was_writer : IsWriter both.locks seat Directory → IsWriter old.locks seat Directory
  was_writer w =
      ap may_write (sym (held-kept seat further old.locks both.locks
      (ChangesOnly-grant old.locks seat g.seated further kind) seat Directory (λ e. absurd cc))) ∙ w

  releases : Releases seat both new
  releases = record {
    seated = IsSeat-with_row old.locks seat seat (row_of old.locks seat ++ lock_of further kind ∷ []) g.seated;
    name = Page page;
    had = IsHeld-same old.locks both.locks seat (Page page)
        (held-granted old.locks seat g.seated further kind seat (Page page) g.fresh
        (IsHeld-some old.locks seat (Page page) kind had))
        (IsHeld-some old.locks seat (Page page) kind had);
    idle = λ n same w there.
        let is : n ≡ page = cc in
        g.idle (was_writer w) (subst (λ (m : ℕ). Contains (busy old.change) m) is there);
    done = λ same w. absurd cc;
    is = g.is;
  }

  KeepsOthers-goes_on : KeepsOthers hash seat old new
  KeepsOthers-goes_on =
      let one : KeepsOthers hash seat old both = KeepsOthers-grant hash seat old sound both grants in
      let two : KeepsOthers hash seat both new = KeepsOthers-release hash seat both one.sound new releases in
      let t : Table = without_lock both.locks seat (Page page) in
      let same : new ≡ with_locks t old = g.is in
      record {
        sound = two.sound;
        leaves = subst (Leaves seat old) (sym same) (Leaves-locks seat old t
            (ap (λ (w : World). length w.locks) (sym same) ∙ two.leaves.seats ∙ one.leaves.seats)
            (λ i apart. ap (λ (w : World). row_of w.locks i) (sym same) ∙ two.leaves.rows i apart
            ∙ one.leaves.rows i apart));
      }

pub KeepsOthers-hop : (hash : RecordKey → ℕ) (seat : ℕ) (old new : World) → IsSoundWorld hash old → Hops seat old new →
    KeepsOthers hash seat old new
KeepsOthers-hop hash seat old new sound h = elim h.hops [
  | inl back ↦ KeepsOthers-same hash seat old new sound back.1
  | inr on ↦ KeepsOthers-goes_on hash seat old new sound h.page h.pseudokey h.kind h.had h.leads on.0 on.1
]
