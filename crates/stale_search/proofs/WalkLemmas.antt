-- A search's own steps take its walk on.
use Rattle.std.proofs.Common.{◌≡◌, refl, sym, ap, ◌∙◌, subst, ℕ, suc, ◌+◌, ◌-◌, ◌^◌, ◌≤◌, ◌%◌, ◌==◌, min, Bool, true, false, Option, Some, None, if◌then◌else◌, eq-eqb, inl, inr, arith}
use Rattle.std.proofs.lemmas.Int.{clamps}
use Rattle.file_pages.specs.hash_file.Changes.{RecordWrite}
use Rattle.file_pages.specs.declared.fault.FileFault.{FileFault}
use Rattle.page_locks.specs.Table.{held}
use Rattle.step_rules.specs.Words.{LockKind, Read, Directory, Page, Answers, next_at, entry_at}
use Rattle.step_rules.specs.World.{with_locks}
use Rattle.step_rules.specs.declared.kind.Kind.{Kind}
use Rattle.step_rules.specs.declared.kind.Kind.TheVariants as kinds
use Rattle.step_rules.specs.Known.{HasAnchor}
use Rattle.step_rules.specs.LockSteps.{Releases, Reads, LooksAt, MovesOn}
use Rattle.step_rules.specs.Turns.{Turn, TurnsAt, DoesTied, GrantsJust, HopsJust, is_fault}
use Rattle.step_rules.specs.Walks.{WalkStage, Entered, HasRead, IsAt, SearchWalk, IsOnItsWay, WalksGoOn}
use Rattle.step_rules.proofs.WalkLemmas.{walks_go_on, search_hops_little}
use Rattle.stale_search.specs.Words.{RecordKey, Table, row_of, Progress, Moved, Blocked, Fault, Ended, World, IsSoundWorld, LeadsTo, AllKnown, SearchPlace, GrantDirectory, ReadDepth, ReadEntry, GrantPage, ReleaseDirectory, Look, Hop, Found}
use Rattle.stale_search.specs.Searches.{HasNotHopped, IsLed, LeadsFrom, ask_at, facts_at, hops_after}
use Rattle.stale_search.specs.Steps.{world}
use Rattle.stale_search.specs.Walks.{GoesOn, IsWalkAt, SearchCountsFew, SearchWalksOn, WalksOn, stage_at}

-- a stage that two places tell is one
same_stage : (a b : WalkStage) → Some a ≡ Some b → b ≡ a
same_stage a b same = cc

one_more : (count n m : ℕ) → hops_after count (Hop n) (Look m) ≤ suc count
one_more count n m = by (n == m)
  where
    by : (b : Bool) → (if b then count else min (count + 1) (2 ^ 64 - 1)) ≤ suc count
    by true = omega arith
    by false = omega (arith, clamps)

unmoved : (count : ℕ) (place : SearchPlace) → hops_after count place place ≡ count
unmoved count GrantDirectory = refl
unmoved count ReadDepth = refl
unmoved count (ReadEntry depth) = refl
unmoved count (GrantPage n) = refl
unmoved count (ReleaseDirectory n) = refl
unmoved count (Look n) = refl
unmoved count (Hop n) = refl
unmoved count (Found n found) = refl

module _ (hash : RecordKey → ℕ) (seat k : ℕ) (lock : LockKind) (write : Option RecordWrite) (w w' : World)
    (sound : IsSoundWorld hash w) (place' : SearchPlace) (count count' : ℕ)
    (known : AllKnown seat w' (facts_at place' k)) where
  abbrev turn_at : SearchPlace → Turn
  turn_at place = record { ask = ask_at place lock k; write = write }

  rules : WalksGoOn hash seat k
  rules = walks_go_on hash seat k

  -- a walk that stays where it is, through a change of locks
  relocked : (n : ℕ) (t : Table) (place : SearchPlace) → stage_at place ≡ Some (IsAt n) →
      stage_at place' ≡ Some (IsAt n) → w' ≡ with_locks t w → HasAnchor (row_of w'.locks seat) (LeadsTo n k) →
      count' ≤ count → (walk : SearchWalk) → IsWalkAt seat k place count w walk → GoesOn seat k place' count' w' walk
  relocked n t place at at' is anchor fewer walk on =
      let stage : walk.stage ≡ IsAt n = same_stage (IsAt n) walk.stage (sym at ∙ on.stage) in
      record {
        next = walk;
        walking = record {
          stage = at' ∙ sym at ∙ on.stage;
          counted = omega (arith, fewer, on.counted);
          way = subst (IsOnItsWay seat k walk) (sym is) (rules.locks w walk n t stage
              (subst (λ (x : World). HasAnchor (row_of x.locks seat) (LeadsTo n k)) is anchor) on.way);
        };
        added = refl;
        calm = refl;
      }

  -- nothing changed
  same : (place : SearchPlace) → stage_at place' ≡ stage_at place → w' ≡ w → count' ≤ count →
      (walk : SearchWalk) → IsWalkAt seat k place count w walk → GoesOn seat k place' count' w' walk
  same place at is fewer walk on = record {
    next = walk;
    walking = record {
      stage = at ∙ on.stage;
      counted = omega (arith, fewer, on.counted);
      way = subst (IsOnItsWay seat k walk) (sym is) on.way;
    };
    added = refl;
    calm = refl;
  }

  -- it read on
  read_on : (place : SearchPlace) (stage : WalkStage) → stage_at place' ≡ Some stage → w' ≡ w → count' ≤ count →
      ((walk : SearchWalk) → stage_at place ≡ Some walk.stage → IsOnItsWay seat k walk w →
      IsOnItsWay seat k (record walk { stage = stage }) w) →
      (walk : SearchWalk) → IsWalkAt seat k place count w walk → GoesOn seat k place' count' w' walk
  read_on place stage at is fewer rule walk on = record {
    next = record walk { stage = stage };
    walking = record {
      stage = at;
      counted = omega (arith, fewer, on.counted);
      way = subst (IsOnItsWay seat k (record walk { stage = stage })) (sym is) (rule walk on.stage on.way);
    };
    added = refl;
    calm = refl;
  }

  hopped : (n m : ℕ) (kind : LockKind) → m ≡ next_at w.store n → stage_at place' ≡ Some (IsAt m) →
      held w.locks seat (Page n) ≡ Some kind → (Answers w.store n k → ⊥) → MovesOn n kind seat w w' →
      count' ≤ suc count → (walk : SearchWalk) → IsWalkAt seat k (Hop n) count w walk →
      GoesOn seat k place' count' w' walk
  hopped n m kind next at had other g more walk on =
      let stage : walk.stage ≡ IsAt n = same_stage (IsAt n) walk.stage on.stage in
      record {
        next = record walk { stage = IsAt (next_at w.store n); hops = suc walk.hops };
        walking = record {
          stage = at ∙ ap (λ (x : ℕ). Some (IsAt x)) next;
          counted = omega (arith, more, on.counted);
          way = rules.hops w w' walk n kind sound stage had other g on.way;
        };
        added = refl;
        calm = refl;
      }

  hop_goes : (n : ℕ) → HopsJust n k seat w w' → LeadsFrom kinds.Hop k w.store (Hop n) place' →
      count' ≡ hops_after count (Hop n) place' → (walk : SearchWalk) → IsWalkAt seat k (Hop n) count w walk →
      GoesOn seat k place' count' w' walk
  hop_goes n does led is walk on =
      let answered : Answers w.store does.hops.page does.hops.pseudokey → Answers w.store n k =
      λ a. subst (λ (x : ℕ). Answers w.store n x) does.pseudokey_is
      (subst (λ (x : ℕ). Answers w.store x does.hops.pseudokey) does.page_is a) in
      let unanswered : Answers w.store n k → Answers w.store does.hops.page does.hops.pseudokey =
      λ a. subst (λ (x : ℕ). Answers w.store does.hops.page x) (sym does.pseudokey_is)
      (subst (λ (x : ℕ). Answers w.store x k) (sym does.page_is) a) in
      elim led.1 [
        | inl back ↦ elim does.hops.hops [
          | inl stays ↦ same (Hop n) (ap stage_at back.1) stays.1
              (let still : hops_after count (Hop n) (Look n) ≡ count = rw (eq-eqb n n refl) refl in
              let now : count' ≡ count = is ∙ ap (hops_after count (Hop n)) back.1 ∙ still in
              omega (arith, now)) walk on
          | inr moves ↦ absurd (moves.0 (unanswered back.0))
        ]
        | inr onward ↦ elim does.hops.hops [
          | inl stays ↦ absurd (onward.0 (answered stays.0))
          | inr moves ↦ hopped n (next_at w.store n) does.hops.kind refl (ap stage_at onward.1)
              (subst (λ (x : ℕ). held w.locks seat (Page x) ≡ Some does.hops.kind) does.page_is does.hops.had)
              onward.0
              (subst (λ (x : ℕ). MovesOn x does.hops.kind seat w w') does.page_is moves.1)
              (let now : count' ≡ hops_after count (Hop n) (Look (next_at w.store n)) =
              is ∙ ap (hops_after count (Hop n)) onward.1 in
              let more = one_more count n (next_at w.store n) in rw (← now) at more)
              walk on
        ]
      ]

  -- a step that moved, from each place
  moves : (kind : Kind) (place : SearchPlace) → HasNotHopped place count → LeadsFrom kind k w.store place place' →
      count' ≡ hops_after count place place' → DoesTied hash (turn_at place) kind seat w w' →
      WalksOn seat k place place' count count' w w'
  moves kind GrantDirectory begun led is does =
      let g : GrantsJust Directory Read seat w w' =
      subst (λ (x : Kind). DoesTied hash (turn_at GrantDirectory) x seat w w') led.0 does in
      record {
        begins = λ none entered. record {
          stage = entered;
          counted = omega (arith, is, begun);
          way = rules.begins w w' g.grants g.name_is;
        };
        goes_on = λ walk on. absurd (let e = on.stage in cc);
      }
  moves kind ReadDepth begun led is does =
      let r : Reads Directory seat w w' =
      subst (λ (x : Kind). DoesTied hash (turn_at ReadDepth) x seat w w') led.0 does in
      record {
        begins = λ none entered. absurd cc;
        goes_on = read_on ReadDepth (HasRead w.store.header.depth) (ap stage_at led.1) r.is (omega (arith, is))
            (λ walk stage way. rules.reads_depth w walk sound (same_stage Entered walk.stage stage) way);
      }
  moves kind (ReadEntry depth) begun led is does =
      let r : Reads Directory seat w w' =
      subst (λ (x : Kind). DoesTied hash (turn_at (ReadEntry depth)) x seat w w') led.0 does in
      record {
        begins = λ none entered. absurd cc;
        goes_on = read_on (ReadEntry depth) (IsAt (entry_at w.store (k % 2 ^ depth))) (ap stage_at led.1) r.is
            (omega (arith, is))
            (λ walk stage way. rules.reads_entry w walk depth sound (same_stage (HasRead depth) walk.stage stage) way);
      }
  moves kind (GrantPage n) begun led is does =
      let g : GrantsJust (Page n) lock seat w w' =
      subst (λ (x : Kind). DoesTied hash (turn_at (GrantPage n)) x seat w w') led.0 does in
      let here = subst (λ (x : SearchPlace). AllKnown seat w' (facts_at x k)) led.1 known in
      record {
        begins = λ none entered. absurd cc;
        goes_on = relocked n _ (GrantPage n) refl (ap stage_at led.1) g.grants.is here.0.0 (omega (arith, is));
      }
  moves kind (ReleaseDirectory n) begun led is does =
      let r : Releases seat w w' =
      subst (λ (x : Kind). DoesTied hash (turn_at (ReleaseDirectory n)) x seat w w') led.0 does in
      let here = subst (λ (x : SearchPlace). AllKnown seat w' (facts_at x k)) led.1 known in
      record {
        begins = λ none entered. absurd cc;
        goes_on = relocked n _ (ReleaseDirectory n) refl (ap stage_at led.1) r.is here.0.0 (omega (arith, is));
      }
  moves kind (Look n) begun led is does =
      let r : LooksAt seat w w' =
      subst (λ (x : Kind). DoesTied hash (turn_at (Look n)) x seat w w') led.0 does in
      record {
        begins = λ none entered. absurd cc;
        goes_on = same (Look n) (elim led.1 [
          | inl left ↦ ap stage_at left
          | inr found ↦ ap stage_at found.1
        ]) r.reads.is (omega (arith, is));
      }
  moves kind (Hop n) begun led is does =
      let h : HopsJust n k seat w w' =
      subst (λ (x : Kind). DoesTied hash (turn_at (Hop n)) x seat w w') led.0 does in
      let leads : LeadsFrom kinds.Hop k w.store (Hop n) place' = (refl, led.1) in
      record {
        begins = λ none entered. absurd cc;
        goes_on = hop_goes n h leads is;
      }
  moves kind (Found n found) begun led is does = absurd led

  -- a step that did not move
  stays : (place : SearchPlace) → place' ≡ place → count' ≡ hops_after count place place' → w' ≡ w →
      WalksOn seat k place place' count count' w w'
  stays place led counted is =
      let still : count' ≡ count = counted ∙ ap (hops_after count place) led ∙ unmoved count place in
      record {
        begins = λ none entered. absurd (let both : None ≡ Some Entered = sym none ∙ sym (ap stage_at led) ∙ entered in
            cc);
        goes_on = same place (ap stage_at led) is (omega (arith, still));
      }

  pub walks : (did : Progress FileFault) (place : SearchPlace) → is_fault did ≡ false → HasNotHopped place count →
      IsLed did k w.store place place' → count' ≡ hops_after count place place' →
      TurnsAt hash (turn_at place) did seat w w' → WalksOn seat k place place' count count' w w'
  walks (Moved kind) place fine begun led is does = moves kind place begun led is does
  walks (Blocked other) place fine begun led is does = stays place led is does.1
  walks (Fault fault) place fine begun led is does = absurd cc
  walks Ended place fine begun led is does = stays place led is does

pub search_walks_on : SearchWalksOn
search_walks_on hash seat write did v v' pool pool' locks locks' change fine sees aim s =
    walks hash seat v.pseudokey v.kind write (world pool.images locks change) (world pool'.images locks' s.after)
    sees.sound v'.place v.hops v'.hops
    (subst (λ (k : ℕ). AllKnown seat (world pool'.images locks' s.after) (facts_at v'.place k)) aim.pseudokey s.known)
    did v.place fine aim.begun (aim.led sees.honest) aim.hops s.does

pub search_counts_few : SearchCountsFew
search_counts_few seat v w walk on =
    let little = search_hops_little seat v.pseudokey walk w on.way in
    record {
      few = omega (arith, on.counted, little.few);
      calm = λ calm. omega (arith, on.counted, little.calm calm);
    }
