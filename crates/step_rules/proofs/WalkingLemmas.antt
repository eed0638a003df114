-- A search that is told by what its seat knows goes on.
use Rattle.std.proofs.Common.{◌≡◌, ◌≢◌, ◌%◌, ◌^◌, ◌⊎◌, List, [], ◌∷◌, ◌++◌, Option, Some, None, ℕ, suc, refl, sym, ap, ◌∙◌, subst, inl, inr, arith}
use Rattle.bucket_page.specs.declared.record_key.RecordKey.{RecordKey}
use Rattle.page_locks.specs.Table.{Table, held, row_of, with_lock, without_lock}
use Rattle.page_locks.proofs.ChangeLemmas.{IsSeat-with_row}
use Rattle.page_locks.specs.Locks.{lock_of}
use Rattle.step_rules.specs.Words.{LockKind, LockName, Directory, Page, Quiet, Store, entry_at, next_at, distance, Answers}
use Rattle.step_rules.specs.declared.kind.Kind.{Kind}
use Rattle.step_rules.specs.declared.kind.Kind.TheVariants as kinds
use Rattle.step_rules.specs.declared.progress.Progress.{Progress}
use Rattle.step_rules.specs.declared.progress.Progress.TheVariants.{Moved, Blocked, Fault, Ended}
use Rattle.step_rules.specs.World.{World, with_locks, IsHeld}
use Rattle.step_rules.specs.Known.{Known, Deep, LeadsTo, OnPage, Live, Built, Told, IsKnown, AllKnown}
use Rattle.step_rules.specs.LockSteps.{MovesOn}
use Rattle.step_rules.specs.Turns.{Ask, ForLock, ForEntry, ForPage, ForAnswer, HopFrom, ToExclusive, HopsAsked, Turn, TurnsAt}
use Rattle.step_rules.specs.Walks.{IsAt, SearchWalk, HasHoppedLittle, IsOnItsWay, late, walk_beside, WalksGoOn}
use Rattle.step_rules.specs.Searching.{IsAimed, IsOfStructure, KnowsFirst, TakesDepth, WalksTo, StepsTo, ByEntry, WasBefore, Stays, HopsBack}
use Rattle.step_rules.specs.Searching.{HopsOn as StepsOn}
use Rattle.step_rules.specs.Walking.{IsAsAdded, IsOwnStep, IsWalkBy, WalksBehind, Begins, HopsOn, GoesOn, OwnStepsWalk, OthersStepsWalk, first_walk}
use Rattle.step_rules.specs.Ways.{hops_between}
use Rattle.step_rules.proofs.BoundLemmas.{depth_is_exact, hop_is_nearer}
use Rattle.step_rules.proofs.LockLemmas.{IsHeld-same, IsHeld-writer, held-granted, held-released, none_is_not_some}
use Rattle.step_rules.proofs.WalkLemmas.{at_stage, late_by_one, quiet_is, search_hops_little, walks_go_on}

-- the anchors of what a seat knows of the structure
structure_held : (seat : ℕ) (w : World) (facts : List Known) → IsOfStructure facts → AllKnown seat w facts →
    IsHeld w.locks seat Directory
structure_held seat w (Built fact ∷ facts) is known = IsHeld-writer w.locks seat Directory known.0.0
structure_held seat w [] is known = absurd is
structure_held seat w (Deep depth ∷ facts) is known = absurd is
structure_held seat w (LeadsTo page k ∷ facts) is known = absurd is
structure_held seat w (OnPage page fact ∷ facts) is known = absurd is
structure_held seat w (Live page ∷ facts) is known = absurd is
structure_held seat w (Told key value ∷ facts) is known = absurd is

-- a hop leaves the directory as it is held
hop_keeps_directory : (seat page : ℕ) (kind : LockKind) (old new : World) → MovesOn page kind seat old new →
    IsHeld old.locks seat Directory → IsHeld new.locks seat Directory
hop_keeps_directory seat page kind old new g there =
    let further : LockName = Page (next_at old.store page) in
    let t : Table = with_lock old.locks seat further kind in
    let seated = IsSeat-with_row old.locks seat seat (row_of old.locks seat ++ lock_of further kind ∷ []) g.seated in
    let kept : held (without_lock t seat (Page page)) seat Directory ≡ held old.locks seat Directory =
    held-released t seat seated (Page page) seat Directory (λ own same. absurd cc)
    ∙ held-granted old.locks seat g.seated further kind seat Directory g.fresh there in
    subst (λ (w : World). IsHeld w.locks seat Directory) (sym g.is)
    (IsHeld-same old.locks (without_lock t seat (Page page)) seat Directory kept there)

-- each kind is a hop or is none
hops_or_not : (kind : Kind) → (kind ≡ kinds.Hop) ⊎ (kind ≢ kinds.Hop)
hops_or_not kinds.Hop = inl refl
hops_or_not kinds.Grant = inr (λ e. absurd cc)
hops_or_not kinds.Release = inr (λ e. absurd cc)
hops_or_not kinds.ReadDepth = inr (λ e. absurd cc)
hops_or_not kinds.ReadEntry = inr (λ e. absurd cc)
hops_or_not kinds.Look = inr (λ e. absurd cc)
hops_or_not kinds.WriteRecord = inr (λ e. absurd cc)
hops_or_not kinds.Decide = inr (λ e. absurd cc)
hops_or_not kinds.TakePage = inr (λ e. absurd cc)
hops_or_not kinds.CopyDirectory = inr (λ e. absurd cc)
hops_or_not kinds.RaiseDepth = inr (λ e. absurd cc)
hops_or_not kinds.WriteNew = inr (λ e. absurd cc)
hops_or_not kinds.WriteOld = inr (λ e. absurd cc)
hops_or_not kinds.Retarget = inr (λ e. absurd cc)
hops_or_not kinds.SetCounts = inr (λ e. absurd cc)
hops_or_not kinds.WriteLeft = inr (λ e. absurd cc)
hops_or_not kinds.Tombstone = inr (λ e. absurd cc)
hops_or_not kinds.Convert = inr (λ e. absurd cc)
hops_or_not kinds.WriteFree = inr (λ e. absurd cc)
hops_or_not kinds.LinkFree = inr (λ e. absurd cc)
hops_or_not kinds.LowerDepth = inr (λ e. absurd cc)

module _ {F : Type 0} (hash : RecordKey → ℕ) (seat : ℕ) (turn : Turn) (did : Progress F) (facts facts' : List Known)
    (walk : SearchWalk) (old new : World) (step : IsOwnStep hash seat turn did facts facts' old new)
    (little : HasHoppedLittle walk) (on : IsWalkBy seat facts walk old) where
  abbrev Behind : Type 0
  Behind = WalksBehind seat did facts' walk old new

  same_added : IsAsAdded walk walk
  same_added = record { added = refl; calm = refl }

  aimed_by : (ask : Ask) → turn.ask ≡ Some ask → IsAimed (Some ask) facts
  aimed_by ask is = subst (λ (a : Option Ask). IsAimed a facts) is step.aimed

  walk_by : (known : List Known) → facts ≡ known → IsWalkBy seat known walk old
  walk_by known is = subst (λ (fs : List Known). IsWalkBy seat fs walk old) is on

  walk_to : (page k : ℕ) → KnowsFirst (LeadsTo page k) facts →
      (walk.stage ≡ IsAt page) × IsOnItsWay seat k walk old
  walk_to page k first = by facts first on
    where
      by : (known : List Known) → KnowsFirst (LeadsTo page k) known → IsWalkBy seat known walk old →
          (walk.stage ≡ IsAt page) × IsOnItsWay seat k walk old
      by [] none at = absurd none
      by (fact ∷ rest) is at = subst (λ (f : Known). IsWalkBy seat (f ∷ rest) walk old) is at

  -- only who asks for it hops
  no_hop : (ask : Ask) → turn.ask ≡ Some ask → (HopsAsked (Some ask) seat old new → ⊥) → did ≡ Moved kinds.Hop → ⊥
  no_hop ask is none hop =
      none (subst (λ (a : Option Ask). HopsAsked a seat old new) is
      (subst (λ (d : Progress F). TurnsAt hash turn d seat old new) hop step.does))

  -- who holds no lock on the directory knows nothing of the structure
  not_of_structure : held old.locks seat Directory ≡ None → IsOfStructure facts → ⊥
  not_of_structure free is = none_is_not_some free (structure_held seat old facts is step.known)

  -- ---- a search is on its way to a page

  module _ (page k : ℕ) (known : IsKnown seat new (LeadsTo page k)) (still : new ≡ with_locks new.locks old) where
    same_store : new.store ≡ old.store
    same_store = ap (λ (w : World). w.store) still

    rules : WalksGoOn hash seat k
    rules = walks_go_on hash seat k

    relocked : (w : SearchWalk) → w.stage ≡ IsAt page → IsOnItsWay seat k w old → IsOnItsWay seat k w new
    relocked w is way =
        subst (IsOnItsWay seat k w) (sym still) (rules.locks old w page new.locks is known.0 way)

    by_entry : (depth : ℕ) → turn.ask ≡ Some (ForEntry depth k) → page ≡ entry_at old.store (k % 2 ^ depth) →
        (next : SearchWalk) × (next.hops ≡ walk.hops) × IsAsAdded walk next × (next.stage ≡ IsAt page)
        × IsOnItsWay seat k next new
    by_entry depth asked named =
        let at = walk_by (Deep depth ∷ []) (aimed_by (ForEntry depth k) asked) in
        let next : SearchWalk = record walk { stage = IsAt page } in
        let way : IsOnItsWay seat k next old = subst (λ (n : ℕ). IsOnItsWay seat k (record walk { stage = IsAt n }) old)
        (sym named) (rules.reads_entry old walk depth step.sound at.0 (at.1 k)) in
        (next, refl, record { added = refl; calm = refl }, refl, relocked next refl way)

    was_there : KnowsFirst (LeadsTo page k) facts → (walk.stage ≡ IsAt page) × IsOnItsWay seat k walk new
    was_there is = let at = walk_to page k is in (at.0, relocked walk at.0 at.1)

    hopped : (before : ℕ) → KnowsFirst (LeadsTo before k) facts → (Answers old.store before k → ⊥) →
        page ≡ next_at old.store before →
        IsOnItsWay seat k (record walk { stage = IsAt page; hops = suc walk.hops }) new
    hopped before is other next =
        let at = walk_to before k is in
        let was = at_stage seat k walk old (IsAt before) at.0 at.1 in
        let nearer = hop_is_nearer hash old before k step.sound was.0.1 other in
        let here : distance new.store page k ≡ distance old.store (next_at old.store before) k =
        ap (λ (s : Store). distance s page k) same_store
        ∙ ap (λ (n : ℕ). distance old.store n k) next in
        record {
          near = (known, omega (arith, was.1, nearer, here));
          calm = λ calm. subst (λ (w : World). (w.change ≡ Quiet) × (walk.added ≡ 0)) (sym still) (at.1.calm calm);
        }

    arrives : (did ≡ Moved kinds.ReadDepth → ⊥) → (rest : List Known) → facts' ≡ LeadsTo page k ∷ rest →
        StepsTo seat turn.ask did page k old new → Behind
    arrives behind rest is (ByEntry depth asked named) =
        let (next, hops, added, stage, way) = by_entry depth asked named in
        GoesOn (λ hop. absurd (no_hop (ForEntry depth k) asked (λ h. h) hop)) (λ e. absurd (behind e)) next hops added
        (subst (λ (fs : List Known). IsWalkBy seat fs next new) (sym is) (stage, way))
    arrives behind rest is (WasBefore kind asked) =
        let there = was_there (aimed_by (ForPage page k kind) asked) in
        GoesOn (λ hop. absurd (no_hop (ForPage page k kind) asked (λ h. h) hop)) (λ e. absurd (behind e)) walk refl
        same_added (subst (λ (fs : List Known). IsWalkBy seat fs walk new) (sym is) there)
    arrives behind rest is (Stays asked) =
        let there = was_there (aimed_by (ForAnswer page k) asked) in
        GoesOn (λ hop. absurd (no_hop (ForAnswer page k) asked (λ h. h) hop)) (λ e. absurd (behind e)) walk refl
        same_added (subst (λ (fs : List Known). IsWalkBy seat fs walk new) (sym is) there)
    arrives behind rest is (HopsBack asked free same) = elim (aimed_by (HopFrom page k) asked) [
      | inl at ↦ GoesOn (λ hop. inl (ap (λ (w : World). w.locks) same)) (λ e. absurd (behind e)) walk refl same_added
          (subst (λ (fs : List Known). IsWalkBy seat fs walk new) (sym is) (was_there at))
      | inr structure ↦ absurd (not_of_structure free structure)
    ]
    arrives behind rest is (StepsOn before asked free hop other next) = elim (aimed_by (HopFrom before k) asked) [
      | inl at ↦
          let further : SearchWalk = record walk { stage = IsAt page; hops = suc walk.hops } in
          let way : IsOnItsWay seat k further new = hopped before at other next in
          HopsOn hop further refl (record { added = refl; calm = refl }) (search_hops_little seat k further new way)
          (subst (λ (fs : List Known). IsWalkBy seat fs further new) (sym is) (refl, way))
      | inr structure ↦ absurd (not_of_structure free structure)
    ]

  -- ---- it reads the depth

  starts : (depth : ℕ) → facts' ≡ Deep depth ∷ [] → IsKnown seat new (Deep depth) → TakesDepth seat did depth new →
      Behind
  starts depth is known takes =
      Begins depth takes.moved takes.shared
      (subst (λ (fs : List Known). IsWalkBy seat fs (first_walk depth new.change) new) (sym is) (
        refl,
        λ k. record {
          near = (
            known,
            (let none = depth_is_exact hash new k step.sound_behind in
                let at = ap (λ (d : ℕ). hops_between new.store d k) takes.is in omega (arith, none, at)),
          );
          calm = λ calm. (quiet_is new.change calm, refl);
        },
      ))

  -- ---- it is on no search any more

  module _ (aside : (any : SearchWalk) → IsWalkBy seat facts' any new) where
    hops_aside : did ≡ Moved kinds.Hop → (ask : Option Ask) → turn.ask ≡ ask → HopsAsked ask seat old new → Behind
    hops_aside hop (Some (HopFrom page k)) asked h = elim h.hops.hops [
      | inl back ↦ GoesOn (λ e. inl (ap (λ (w : World). w.locks) back.1)) (λ e any. aside any) walk refl same_added
          (aside walk)
      | inr moves ↦ elim (aimed_by (HopFrom page k) asked) [
        | inr structure ↦ GoesOn (λ e. inr (hop_keeps_directory seat h.hops.page h.hops.kind old new moves.1
            (structure_held seat old facts structure step.known))) (λ e any. aside any) walk refl same_added
            (aside walk)
        | inl at ↦
            let was = walk_to page k at in
            let near = at_stage seat k walk old (IsAt page) was.0 was.1 in
            let other : Answers old.store page k → ⊥ = λ a. moves.0
            (subst (λ (x : ℕ). Answers old.store h.hops.page x) (sym h.pseudokey_is)
            (subst (λ (x : ℕ). Answers old.store x k) (sym h.page_is) a)) in
            let nearer = hop_is_nearer hash old page k step.sound near.0.1 other in
            let late_is = late_by_one walk.calm in
            let next : SearchWalk = record walk { hops = suc walk.hops } in
            HopsOn hop next refl (record { added = refl; calm = refl }) (record {
              few = omega (arith, near.1, nearer, late_is);
              calm = λ calm. absurd (let none = (was.1.calm calm).1 in let exact = ap late calm in
                  omega (arith, near.1, nearer, none, exact));
            }) (aside next)
      ]
    ]
    hops_aside hop None asked h = absurd h
    hops_aside hop (Some (ForLock name kind)) asked h = absurd h
    hops_aside hop (Some (ForEntry depth k)) asked h = absurd h
    hops_aside hop (Some (ForPage page k kind)) asked h = absurd h
    hops_aside hop (Some (ForAnswer page k)) asked h = absurd h
    hops_aside hop (Some ToExclusive) asked h = absurd h

    same_kind : (kind : Kind) → (let d : Progress F = Moved kind in d) ≡ Moved kinds.Hop → kind ≡ kinds.Hop
    same_kind kind same = cc

    rests_aside : (did ≡ Moved kinds.Hop → ⊥) → Behind
    rests_aside none = GoesOn (λ e. absurd (none e)) (λ e any. aside any) walk refl same_added (aside walk)

    goes_aside : (d : Progress F) → did ≡ d → Behind
    goes_aside (Moved kind) is = elim (hops_or_not kind) [
      | inl hop ↦
          let here : did ≡ Moved kinds.Hop = is ∙ ap Moved hop in
          hops_aside here turn.ask refl (subst (λ (d : Progress F). TurnsAt hash turn d seat old new) here step.does)
      | inr other ↦ rests_aside (λ e. other (same_kind kind (sym is ∙ e)))
    ]
    goes_aside (Blocked other) is = rests_aside (λ e. absurd (let same = sym is ∙ e in cc))
    goes_aside (Fault fault) is = rests_aside (λ e. absurd (let same = sym is ∙ e in cc))
    goes_aside Ended is = rests_aside (λ e. absurd (let same = sym is ∙ e in cc))

  -- ---- by what the seat then knows

  walks : (known : List Known) → facts' ≡ known → AllKnown seat new known → WalksTo seat turn.ask did old new known →
      Behind
  walks [] is known led =
      goes_aside (λ any. subst (λ (fs : List Known). IsWalkBy seat fs any new) (sym is) tt) did refl
  walks (Deep depth ∷ []) is known led = starts depth is known.0 led
  walks (Deep depth ∷ (fact ∷ facts)) is known led =
      goes_aside (λ any. subst (λ (fs : List Known). IsWalkBy seat fs any new) (sym is) tt) did refl
  walks (LeadsTo page k ∷ facts) is known led = arrives page k known.0 led.still led.behind facts is led.by
  walks (OnPage page fact ∷ facts) is known led =
      goes_aside (λ any. subst (λ (fs : List Known). IsWalkBy seat fs any new) (sym is) tt) did refl
  walks (Live page ∷ facts) is known led =
      goes_aside (λ any. subst (λ (fs : List Known). IsWalkBy seat fs any new) (sym is) tt) did refl
  walks (Built fact ∷ facts) is known led =
      goes_aside (λ any. subst (λ (fs : List Known). IsWalkBy seat fs any new) (sym is) tt) did refl
  walks (Told key value ∷ facts) is known led =
      goes_aside (λ any. subst (λ (fs : List Known). IsWalkBy seat fs any new) (sym is) tt) did refl

pub own_steps_walk : {F : Type 0} → OwnStepsWalk F
own_steps_walk hash seat turn did facts facts' walk old new step little on =
    walks hash seat turn did facts facts' walk old new step little on facts' refl step.known_behind step.led

-- a step of another seat
pub others_steps_walk : OthersStepsWalk
others_steps_walk hash seat other kind facts walk old new sound apart does on = by facts on
  where
    by : (known : List Known) → IsWalkBy seat known walk old →
        IsWalkBy seat known (walk_beside kind new.change walk) new
    by [] at = tt
    by (Deep depth ∷ []) at =
        (at.0, λ k. (walks_go_on hash seat k).others old new walk other kind sound apart does (at.1 k))
    by (Deep depth ∷ (fact ∷ facts)) at = tt
    by (LeadsTo page k ∷ facts) at =
        (at.0, (walks_go_on hash seat k).others old new walk other kind sound apart does at.1)
    by (OnPage page fact ∷ facts) at = tt
    by (Live page ∷ facts) at = tt
    by (Built fact ∷ facts) at = tt
    by (Told key value ∷ facts) at = tt
