use Rattle.std.proofs.Common.{◌≡◌, ◌++◌, [], ◌∷◌, ◌∙◌, ap, sym, subst, List}
use Rattle.safe_device.specs.Crash.{Follows, LongerBy}
use Rattle.safe_device.specs.Memory.{MayLeave}
use Rattle.safe_device.specs.declared.snapshot.FileChange.{FileChange}
use Rattle.safe_device.specs.declared.snapshot.FileChange.TheVariants.{Added}
use Rattle.safe_device.specs.declared.snapshot.Snapshot.{Snapshot}
use Rattle.safe_device.proofs.Kept.{changed, elapses, push_follows}
use Rattle.safe_device.proofs.Restoring.{Pages}
use Rattle.safe_device.proofs.memory.MemPairPagePair.extend.Goals as goal

pub returns-clause-time : goal.returns-clause-time
returns-clause-time c = elapses c.args.self.now _ c.in_ok-change.ensures.past

pub returns-clause-crash : goal.returns-clause-crash
returns-clause-crash c =
    let old = c.args.self.now.newest in
    let next = c.in_ok-next.next in
    let bytes = c.args.bytes.now in
    let same : c.change.new.now ≡ changed old Added (old.seen_file ++ bytes ∷ []) =
    c.in_ok-change.ensures.ok
    ∙ ap (λ (file : Pages). record next { seen_file = file; changes = c.push.new.self }) c.in_ok-push-2.ensures.ok
    ∙ ap (λ (l : List FileChange). record next { seen_file = next.seen_file ++ bytes ∷ []; changes = l })
    c.in_ok-push.ensures
    ∙ ap (λ (s : Snapshot). changed s Added (s.seen_file ++ bytes ∷ [])) c.in_ok-next.ensures in
    subst (λ (s : Snapshot). Follows LongerBy (MayLeave old) (MayLeave s)) (sym same)
    (push_follows old bytes)
