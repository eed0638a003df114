-- Each kind of step lengthens another seat's way by a hop at most, and most not at all.
use Rattle.std.proofs.Common.{◌≡◌, ◌≢◌, ◌≤◌, ◌+◌, ℕ, [], ◌∷◌, List, sym, subst, inl, inr, arith}
use Rattle.directory.specs.Ranges.{upper_half_of}
use Rattle.bucket_page.specs.declared.record_key.RecordKey.{RecordKey}
use Rattle.hash_file.specs.Store.{Store, range_at}
use Rattle.hash_file.specs.Change.{Change, Quiet, Taken, Filled, Linked, Absorbed, Buried, Drained, Freed}
use Rattle.hash_file.specs.Changes.{take_page, copy_directory, raise_depth, write_new, write_old, retarget, set_counts, split_counts, merge_counts, write_left, write_tombstone, write_free, link_free, lower_depth}
use Rattle.hash_file.specs.Search.{PageLeads, distance}
use Rattle.hash_file.proofs.Hops.{one_hop_at_most, no_hop_more}
use Rattle.step_rules.specs.declared.kind.Kind.{Kind}
use Rattle.step_rules.specs.declared.kind.Kind.TheVariants.{Grant, Release, ReadDepth, ReadEntry, Look, Hop, WriteRecord, Decide, TakePage, CopyDirectory, RaiseDepth, WriteNew, WriteOld, Retarget, SetCounts, WriteLeft, Tombstone, Convert, WriteFree, LinkFree, LowerDepth}
use Rattle.step_rules.specs.World.{World, MayAim}
use Rattle.step_rules.specs.Sound.{IsSoundWorld}
use Rattle.step_rules.specs.Known.{LeadsTo, IsKnown}
use Rattle.step_rules.specs.LockSteps.{Hops}
use Rattle.step_rules.specs.PageSteps.{Restructures, Retargets, SetsCounts}
use Rattle.step_rules.specs.Laws.{Move, LeadAlong, StandsStill}
use Rattle.step_rules.specs.Ways.{KindLengthens, all_hops_added}
use Rattle.step_rules.proofs.ChangeLemmas.{file}
use Rattle.step_rules.proofs.KnownLemmas.{IsKnown-kept}
use Rattle.step_rules.proofs.KindLemmas.{kind_keeps}
use Rattle.step_rules.proofs.TurnLemmas.{is_of_its_kind}
use Rattle.step_rules.proofs.OwnLemmas.{frees_nobodys}
use Rattle.step_rules.proofs.RecordStepLemmas.{idle}

module _ (hash : RecordKey → ℕ) (seat i : ℕ) (old new : World) (page k : ℕ) (sound : IsSoundWorld hash old)
    (apart : i ≢ seat) (aim : MayAim old.locks i page) (leads : PageLeads old.store old.change page k) where
  before : ℕ
  before = distance old.store page k

  -- the file is the same, or another
  by_world : (next : World) (h : ℕ) → new ≡ next → distance next.store page k ≤ distance old.store page k + h →
      distance new.store page k ≤ distance old.store page k + h
  by_world next h is short =
      subst (λ (w : World). distance w.store page k ≤ distance old.store page k + h) (sym is) short

  hop : Hops seat old new → distance new.store page k ≤ distance old.store page k + 0
  hop does = elim does.hops [
    | inl back ↦ by_world old 0 back.1 (omega arith)
    | inr on ↦ subst (λ (w : World). distance w.store page k ≤ distance old.store page k + 0) (sym on.1.is)
        (omega arith)
  ]

  by_change : (c : Change) (t : Store) (d : Change) (h : ℕ) → Restructures seat c t d old new →
      distance t page k ≤ distance old.store page k + h → distance new.store page k ≤ distance old.store page k + h
  by_change c t d h changes short =
      subst (λ (w : World). distance w.store page k ≤ distance old.store page k + h) (sym changes.is) short

  led : (c : Change) (t : Store) (d : Change) → Restructures seat c t d old new → PageLeads old.store c page k
  led c t d changes = subst (λ (e : Change). PageLeads old.store e page k) changes.phase leads

  retargets : Retargets seat old new → distance new.store page k ≤ distance old.store page k + 0
  retargets does = elim does.changes [
    | inl split ↦
        let c : Change = Linked does.lower does.upper does.whole in
        let t : Store = retarget does.page (upper_half_of does.whole) does.upper old.store in
        by_change c t c 0 split (omega (arith, no_hop_more.headed old.store t.header t.entries page k))
    | inr merge ↦
        let c : Change = Buried does.lower does.upper does.whole in
        let t : Store = retarget does.page (upper_half_of does.whole) does.lower old.store in
        by_change c t c 0 merge (omega (arith, no_hop_more.headed old.store t.header t.entries page k))
  ]

  counts : SetsCounts seat old new → distance new.store page k ≤ distance old.store page k + 0
  counts does = elim does.sets [
    | inl split ↦
        let t : Store = set_counts (split_counts does.whole.depth old.store.header.counts) old.store in
        by_change (Linked does.lower does.upper does.whole) t Quiet 0 split.changes
        (omega (arith, no_hop_more.headed old.store t.header t.entries page k))
    | inr merge ↦
        let t : Store = set_counts (merge_counts does.whole.depth old.store.header.counts) old.store in
        by_change (Buried does.lower does.upper does.whole) t (Drained does.lower does.upper) 0 merge.changes
        (omega (arith, no_hop_more.headed old.store t.header t.entries page k))
  ]

pub kind_lengthens : (kind : Kind) → KindLengthens kind
kind_lengthens Grant hash seat i old new page k sound does apart aim leads =
    subst (λ (w : World). distance w.store page k ≤ distance old.store page k + 0) (sym does.is) (omega arith)
kind_lengthens Release hash seat i old new page k sound does apart aim leads =
    subst (λ (w : World). distance w.store page k ≤ distance old.store page k + 0) (sym does.is) (omega arith)
kind_lengthens Convert hash seat i old new page k sound does apart aim leads =
    subst (λ (w : World). distance w.store page k ≤ distance old.store page k + 0) (sym does.is) (omega arith)
kind_lengthens ReadDepth hash seat i old new page k sound does apart aim leads =
    by_world hash seat i old new page k sound apart aim leads old 0 does.is (omega arith)
kind_lengthens ReadEntry hash seat i old new page k sound does apart aim leads =
    by_world hash seat i old new page k sound apart aim leads old 0 does.is (omega arith)
kind_lengthens Look hash seat i old new page k sound does apart aim leads =
    by_world hash seat i old new page k sound apart aim leads old 0 does.reads.is (omega arith)
kind_lengthens Decide hash seat i old new page k sound does apart aim leads =
    by_world hash seat i old new page k sound apart aim leads old 0 does (omega arith)
kind_lengthens Hop hash seat i old new page k sound does apart aim leads =
    hop hash seat i old new page k sound apart aim leads does
kind_lengthens WriteRecord hash seat i old new page k sound does apart aim leads =
    subst (λ (w : World). distance w.store page k ≤ distance old.store page k + 0) (sym does.is)
    (no_hop_more.write_record hash old.store old.change does.page does.write sound.file does.home
    (idle hash seat old sound new does) does.may page k leads)
kind_lengthens TakePage hash seat i old new page k sound does apart aim leads =
    let t : Store = take_page old.store in
    by_change hash seat i old new page k sound apart aim leads Quiet t (Taken old.store.header.first_free) 0
    does.changes (omega (arith, no_hop_more.headed old.store t.header t.entries page k))
kind_lengthens CopyDirectory hash seat i old new page k sound does apart aim leads =
    let t : Store = copy_directory does.page old.store in
    by_change hash seat i old new page k sound apart aim leads (Taken does.taken) t (Taken does.taken) 0
    does.changes (omega (arith, no_hop_more.headed old.store t.header t.entries page k))
kind_lengthens RaiseDepth hash seat i old new page k sound does apart aim leads =
    let t : Store = raise_depth old.store in
    by_change hash seat i old new page k sound apart aim leads (Taken does.taken) t (Taken does.taken) 0
    does.changes (omega (arith, no_hop_more.headed old.store t.header t.entries page k))
kind_lengthens WriteNew hash seat i old new page k sound does apart aim leads =
    let t : Store = write_new hash does.split does.taken old.store in
    let c : Change = Taken does.taken in
    let d : Change = Filled does.split does.taken in
    by_change hash seat i old new page k sound apart aim leads c t d 0 does.changes
    (no_hop_more.write_new hash old.store does.split does.taken (file hash seat old new sound c t d does.changes)
    does.on_chain does.shallow page k (led hash seat i old new page k sound apart aim leads c t d does.changes))
kind_lengthens WriteOld hash seat i old new page k sound does apart aim leads =
    let t : Store = write_old hash does.split does.filled old.store in
    let c : Change = Filled does.split does.filled in
    let d : Change = Linked does.split does.filled (range_at old.store does.split) in
    by_change hash seat i old new page k sound apart aim leads c t d 1 does.changes
    (one_hop_at_most.write_old hash old.store does.split does.filled (file hash seat old new sound c t d does.changes)
    page k (led hash seat i old new page k sound apart aim leads c t d does.changes))
kind_lengthens Retarget hash seat i old new page k sound does apart aim leads =
    retargets hash seat i old new page k sound apart aim leads does
kind_lengthens SetCounts hash seat i old new page k sound does apart aim leads =
    counts hash seat i old new page k sound apart aim leads does
kind_lengthens WriteLeft hash seat i old new page k sound does apart aim leads =
    let t : Store = write_left does.left does.right old.store in
    let d : Change = Absorbed does.left does.right does.whole in
    by_change hash seat i old new page k sound apart aim leads Quiet t d 0 does.changes
    (no_hop_more.write_left hash old.store does.left does.right does.whole
    (file hash seat old new sound Quiet t d does.changes) does.left_on does.right_on does.halves
    page k (led hash seat i old new page k sound apart aim leads Quiet t d does.changes))
kind_lengthens Tombstone hash seat i old new page k sound does apart aim leads =
    let t : Store = write_tombstone does.left does.right old.store in
    let c : Change = Absorbed does.left does.right does.whole in
    let d : Change = Buried does.left does.right does.whole in
    by_change hash seat i old new page k sound apart aim leads c t d 1 does.changes
    (one_hop_at_most.write_tombstone hash old.store does.left does.right does.whole
    (file hash seat old new sound c t d does.changes)
    page k (led hash seat i old new page k sound apart aim leads c t d does.changes))
kind_lengthens WriteFree hash seat i old new page k sound does apart aim leads =
    let t : Store = write_free does.right old.store in
    let c : Change = Drained does.left does.right in
    let d : Change = Freed does.right in
    let another : page ≢ does.right = λ same.
    frees_nobodys hash seat i old new sound apart does (subst (MayAim old.locks i) same aim) in
    by_change hash seat i old new page k sound apart aim leads c t d 0 does.changes
    (omega (
      arith,
      no_hop_more.write_free hash old.store does.left does.right
          (file hash seat old new sound c t d does.changes)
          page k another (led hash seat i old new page k sound apart aim leads c t d does.changes),
    ))
kind_lengthens LinkFree hash seat i old new page k sound does apart aim leads =
    let t : Store = link_free does.right old.store in
    by_change hash seat i old new page k sound apart aim leads (Freed does.right) t Quiet 0
    does.changes (omega (arith, no_hop_more.headed old.store t.header t.entries page k))
kind_lengthens LowerDepth hash seat i old new page k sound does apart aim leads =
    let t : Store = lower_depth old.store in
    by_change hash seat i old new page k sound apart aim leads Quiet t Quiet 0
    does.changes (omega (arith, no_hop_more.headed old.store t.header t.entries page k))

pub schedules_lengthen : (hash : RecordKey → ℕ) (moves : List Move) (old new : World) (i page k : ℕ) →
    IsSoundWorld hash old → LeadAlong hash moves old new → StandsStill i moves → IsKnown i old (LeadsTo page k) →
    distance new.store page k ≤ distance old.store page k + all_hops_added moves
schedules_lengthen hash [] old new i page k sound is still h =
    subst (λ (w : World). distance w.store page k ≤ distance old.store page k + 0) (sym is) (omega arith)
schedules_lengthen hash (move ∷ moves) old new i page k sound (next, does, rest) still h =
    let kind_does = is_of_its_kind hash move.seat old next move.turn move.kind does in
    let keeps = kind_keeps move.kind hash move.seat old next sound kind_does in
    let now = IsKnown-kept hash i move.seat old next still.0 sound keeps.leaves (LeadsTo page k) h in
    let first = kind_lengthens move.kind hash move.seat i old next page k sound kind_does still.0 h.0 h.1 in
    let then = schedules_lengthen hash moves next new i page k keeps.sound rest still.1 now in
    omega (arith, first, then)
