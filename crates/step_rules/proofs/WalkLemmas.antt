-- A search among the steps of the others goes on its way, and makes few hops.
use Rattle.std.proofs.Common.{◌≡◌, ◌≢◌, ◌≤◌, ◌+◌, ◌%◌, ◌^◌, [], ◌∷◌, ◌++◌, ◌&&◌, Bool, true, false, Some, ℕ, suc, refl, sym, ap, ◌∙◌, subst, inr, arith}
use Rattle.bucket_page.specs.declared.record_key.RecordKey.{RecordKey}
use Rattle.bucket_page.proofs.of_numbers.Tests.{both_true}
use Rattle.page_locks.specs.Table.{Table, row_of, held, with_lock, without_lock}
use Rattle.page_locks.specs.Locks.{lock_of}
use Rattle.page_locks.proofs.ChangeLemmas.{held-grant, IsSeat-with_row}
use Rattle.step_rules.specs.Words.{LockKind, LockName, Directory, Page, entry_at, next_at, Change, Quiet, Taken, Filled, Linked, Absorbed, Buried, Drained, Freed, distance, Answers}
use Rattle.step_rules.specs.declared.kind.Kind.{Kind}
use Rattle.step_rules.specs.declared.kind.Kind.TheVariants.{Grant, Release, ReadDepth, ReadEntry, Look, Hop, WriteRecord, Decide, TakePage, CopyDirectory, RaiseDepth, WriteNew, WriteOld, Retarget, SetCounts, WriteLeft, Tombstone, Convert, WriteFree, LinkFree, LowerDepth}
use Rattle.step_rules.specs.World.{World, with_locks, IsHeld}
use Rattle.step_rules.specs.Sound.{IsSoundWorld}
use Rattle.step_rules.specs.Known.{Deep, LeadsTo, HasAnchor, IsKnown}
use Rattle.step_rules.specs.LockSteps.{Grants, MovesOn}
use Rattle.step_rules.specs.Does.{Does}
use Rattle.step_rules.specs.Ways.{hops_added, hops_between}
use Rattle.step_rules.specs.Walks.{WalkStage, Entered, HasRead, IsAt, SearchWalk, is_quiet, late, IsNearAt, IsOnItsWay, begun_walk, walk_beside, WalksGoOn, HasHoppedLittle}
use Rattle.step_rules.proofs.LockLemmas.{IsHeld-some, held-released}
use Rattle.step_rules.proofs.KnownLemmas.{IsKnown-kept}
use Rattle.step_rules.proofs.KindLemmas.{kind_keeps}
use Rattle.step_rules.proofs.OwnLemmas.{entry_read_leads, hop_is_led_on, own_locks_keep}
use Rattle.step_rules.proofs.BuddyLemmas.{hop_goes_elsewhere}
use Rattle.step_rules.proofs.WayLemmas.{kind_lengthens}
use Rattle.step_rules.proofs.BoundLemmas.{depth_is_exact, kind_parts, entry_is_near, entry_is_there, hop_is_nearer}

pub quiet_is : (c : Change) → is_quiet c ≡ true → c ≡ Quiet
quiet_is Quiet is = refl
quiet_is (Taken new) is = absurd cc
quiet_is (Filled old new) is = absurd cc
quiet_is (Linked old new whole) is = absurd cc
quiet_is (Absorbed left right whole) is = absurd cc
quiet_is (Buried left right whole) is = absurd cc
quiet_is (Drained left right) is = absurd cc
quiet_is (Freed right) is = absurd cc

-- a walk at a stage that is told by an equation
pub at_stage : (seat k : ℕ) (walk : SearchWalk) (w : World) (stage : WalkStage) → walk.stage ≡ stage
    → IsOnItsWay seat k walk w →
    IsNearAt seat k w walk stage
at_stage seat k walk w stage is on = subst (IsNearAt seat k w walk) is on.near

-- it holds the page that it hopped to
hop_holds : (seat page : ℕ) (old new : World) (kind : LockKind) → next_at old.store page ≢ page →
    MovesOn page kind seat old new → IsHeld new.locks seat (Page (next_at old.store page))
hop_holds seat page old new kind other g =
    let further : LockName = Page (next_at old.store page) in
    let t : Table = with_lock old.locks seat further kind in
    let seated = IsSeat-with_row old.locks seat seat (row_of old.locks seat ++ lock_of further kind ∷ []) g.seated in
    let kept : held (without_lock t seat (Page page)) seat further ≡ held t seat further =
    held-released t seat seated (Page page) seat further
    (λ own same. other (let e : page ≡ next_at old.store page = cc in sym e)) in
    subst (λ (w : World). IsHeld w.locks seat further) (sym g.is)
    (IsHeld-some (without_lock t seat (Page page)) seat further kind
    (kept ∙ held-grant old.locks seat g.seated further kind g.fresh))

module _ (hash : RecordKey → ℕ) (seat k : ℕ) where
  begins : (old new : World) (g : Grants seat old new) → g.name ≡ Directory
      → IsOnItsWay seat k (begun_walk new.change) new
  begins old new g is = record {
    near = (
      subst (λ (w : World). IsHeld w.locks seat Directory) (sym g.is)
          (IsHeld-some (with_lock old.locks seat g.name g.kind) seat Directory g.kind
          (subst (λ (n : LockName). held (with_lock old.locks seat g.name g.kind) seat n ≡ Some g.kind) is
          (held-grant old.locks seat g.seated g.name g.kind g.fresh))),
      refl,
    );
    calm = λ calm. (quiet_is new.change calm, refl);
  }

  reads_depth : (w : World) (walk : SearchWalk) → IsSoundWorld hash w → walk.stage ≡ Entered
      → IsOnItsWay seat k walk w →
      IsOnItsWay seat k (record walk { stage = HasRead w.store.header.depth }) w
  reads_depth w walk sound is on =
      let was = at_stage seat k walk w Entered is on in
      record {
        near = (
          (was.0, omega arith),
          omega (arith, was.1, depth_is_exact hash w k sound),
        );
        calm = on.calm;
      }

  entry_near : (w : World) (depth hops added : ℕ) (calm : Bool) → IsSoundWorld hash w → IsKnown seat w (Deep depth) →
      hops + hops_between w.store depth k ≤ added → (calm ≡ true → w.change ≡ Quiet) →
      hops + distance w.store (entry_at w.store (k % 2 ^ depth)) k ≤ added + late calm
  entry_near w depth hops added true sound deep near quiet =
      omega (arith, near, entry_is_there hash seat w depth k sound deep (quiet refl))
  entry_near w depth hops added false sound deep near quiet =
      omega (arith, near, entry_is_near hash seat w depth k sound deep)

  reads_entry : (w : World) (walk : SearchWalk) (depth : ℕ) → IsSoundWorld hash w → walk.stage ≡ HasRead depth →
      IsOnItsWay seat k walk w → IsOnItsWay seat k (record walk { stage = IsAt (entry_at w.store (k % 2 ^ depth)) }) w
  reads_entry w walk depth sound is on =
      let was = at_stage seat k walk w (HasRead depth) is on in
      record {
        near = (
          entry_read_leads hash seat w depth k sound was.0,
          entry_near w depth walk.hops walk.added walk.calm sound was.0 was.1 (λ calm. (on.calm calm).0),
        );
        calm = on.calm;
      }

  locks : (w : World) (walk : SearchWalk) (page : ℕ) (t : Table) → walk.stage ≡ IsAt page →
      HasAnchor (row_of t seat) (LeadsTo page k) → IsOnItsWay seat k walk w → IsOnItsWay seat k walk (with_locks t w)
  locks w walk page t is anchor on =
      let was = at_stage seat k walk w (IsAt page) is on in
      record {
        near = subst (IsNearAt seat k (with_locks t w) walk) (sym is)
            (own_locks_keep seat w t (LeadsTo page k) was.0 anchor, was.1);
        calm = on.calm;
      }

  hops_on : (old new : World) (walk : SearchWalk) (page : ℕ) (kind : LockKind) → IsSoundWorld hash old →
      walk.stage ≡ IsAt page → held old.locks seat (Page page) ≡ Some kind → (Answers old.store page k → ⊥) →
      MovesOn page kind seat old new → IsOnItsWay seat k walk old →
      IsOnItsWay seat k (record walk { stage = IsAt (next_at old.store page); hops = suc walk.hops }) new
  hops_on old new walk page kind sound is had other g on =
      let was = at_stage seat k walk old (IsAt page) is on in
      let further : ℕ = next_at old.store page in
      let elsewhere = hop_goes_elsewhere hash old page k sound was.0.1 other in
      let nearer = hop_is_nearer hash old page k sound was.0.1 other in
      let short : suc walk.hops + distance old.store further k ≤ walk.added + late walk.calm =
      omega (arith, was.1, nearer) in
      record {
        near = (
          (
            inr (hop_holds seat page old new kind elsewhere g),
            hop_is_led_on hash seat old new page k kind sound was.0.1 other g,
          ),
          subst (λ (w : World). suc walk.hops + distance w.store further k ≤ walk.added + late walk.calm) (sym g.is)
              short,
        );
        calm = λ calm. subst (λ (w : World). (w.change ≡ Quiet) × (walk.added ≡ 0)) (sym g.is) (on.calm calm);
      }

  -- what lengthens ways is made beside a change only
  adds_none : (other : ℕ) (old new : World) (kind : Kind) → Does hash kind other old new → old.change ≡ Quiet →
      hops_added kind ≡ 0
  adds_none other old new Grant does quiet = refl
  adds_none other old new Release does quiet = refl
  adds_none other old new ReadDepth does quiet = refl
  adds_none other old new ReadEntry does quiet = refl
  adds_none other old new Look does quiet = refl
  adds_none other old new Hop does quiet = refl
  adds_none other old new WriteRecord does quiet = refl
  adds_none other old new Decide does quiet = refl
  adds_none other old new TakePage does quiet = refl
  adds_none other old new CopyDirectory does quiet = refl
  adds_none other old new RaiseDepth does quiet = refl
  adds_none other old new WriteNew does quiet = refl
  adds_none other old new WriteOld does quiet = (let e = sym quiet ∙ does.changes.phase in absurd cc)
  adds_none other old new Retarget does quiet = refl
  adds_none other old new SetCounts does quiet = refl
  adds_none other old new WriteLeft does quiet = refl
  adds_none other old new Tombstone does quiet = (let e = sym quiet ∙ does.changes.phase in absurd cc)
  adds_none other old new Convert does quiet = refl
  adds_none other old new WriteFree does quiet = refl
  adds_none other old new LinkFree does quiet = refl
  adds_none other old new LowerDepth does quiet = refl

  later : (calm quiet : Bool) → late calm ≤ late (calm && quiet)
  later true true = omega arith
  later true false = omega arith
  later false quiet = omega arith

  near_beside : (old new : World) (walk : SearchWalk) (other : ℕ) (kind : Kind) → IsSoundWorld hash old → seat ≢ other →
      Does hash kind other old new → (stage : WalkStage) → IsNearAt seat k old walk stage →
      IsNearAt seat k new (walk_beside kind new.change walk) stage
  near_beside old new walk other kind sound apart does Entered near =
      let keeps = kind_keeps kind hash other old new sound does in
      ((IsKnown-kept hash seat other old new apart sound keeps.leaves (Deep 0) (near.0, omega arith)).0, near.1)
  near_beside old new walk other kind sound apart does (HasRead depth) near =
      let keeps = kind_keeps kind hash other old new sound does in (
        IsKnown-kept hash seat other old new apart sound keeps.leaves (Deep depth) near.0,
        omega (arith, near.1, kind_parts kind hash other seat old new depth k sound does apart near.0.0),
      )
  near_beside old new walk other kind sound apart does (IsAt page) near =
      let keeps = kind_keeps kind hash other old new sound does in
      let longer = kind_lengthens kind hash other seat old new page k sound does apart near.0.0 near.0.1 in (
        IsKnown-kept hash seat other old new apart sound keeps.leaves (LeadsTo page k) near.0,
        omega (arith, near.1, longer, later walk.calm (is_quiet new.change)),
      )

  others : (old new : World) (walk : SearchWalk) (other : ℕ) (kind : Kind) → IsSoundWorld hash old → seat ≢ other →
      Does hash kind other old new → IsOnItsWay seat k walk old
      → IsOnItsWay seat k (walk_beside kind new.change walk) new
  others old new walk other kind sound apart does on = record {
    near = near_beside old new walk other kind sound apart does walk.stage on.near;
    calm = λ calm.
        let both = both_true walk.calm (is_quiet new.change) calm in
        let was = on.calm both.0 in
        (quiet_is new.change both.1, omega (arith, was.1, adds_none other old new kind does was.0));
  }

  pub walks_go_on : WalksGoOn hash seat k
  walks_go_on = record {
    begins = begins;
    reads_depth = reads_depth;
    reads_entry = reads_entry;
    locks = locks;
    hops = hops_on;
    others = others;
  }

few_at : (seat k : ℕ) (walk : SearchWalk) (w : World) (stage : WalkStage) → IsNearAt seat k w walk stage
    → walk.hops ≤ walk.added + late walk.calm
few_at seat k walk w Entered near = omega (arith, near.1)
few_at seat k walk w (HasRead depth) near = omega (arith, near.1)
few_at seat k walk w (IsAt page) near = omega (arith, near.1)

pub late_by_one : (calm : Bool) → late calm ≤ 1
late_by_one true = omega arith
late_by_one false = omega arith

pub search_hops_little : (seat k : ℕ) (walk : SearchWalk) (w : World) → IsOnItsWay seat k walk w → HasHoppedLittle walk
search_hops_little seat k walk w on =
    let few = few_at seat k walk w walk.stage on.near in
    record {
      few = omega (arith, few, late_by_one walk.calm);
      calm = λ calm. omega (arith, few, (on.calm calm).1, ap late calm);
    }
