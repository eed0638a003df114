use Rattle.std.proofs.Common.{◌≡◌, ◌∙◌, ap, sym, subst, List, set}
use Rattle.safe_device.specs.Crash.{Follows, TornAt}
use Rattle.safe_device.specs.Memory.{MayLeave}
use Rattle.safe_device.specs.declared.snapshot.FileChange.{FileChange}
use Rattle.safe_device.specs.declared.snapshot.FileChange.TheVariants.{Stored}
use Rattle.safe_device.specs.declared.snapshot.Snapshot.{Snapshot}
use Rattle.safe_device.proofs.Kept.{changed, elapses, set_follows}
use Rattle.safe_device.proofs.Restoring.{Pages}
use Rattle.safe_device.proofs.memory.MemPairPagePair.store.Goals as goal

pub returns-clause-time : goal.returns-clause-time
returns-clause-time c = elapses c.args.self.now _ c.in_ok-change.ensures.past

pub returns-clause-crash : goal.returns-clause-crash
returns-clause-crash c =
    let old = c.args.self.now.newest in
    let next = c.in_ok-next.next in
    let bytes = c.args.bytes.now in
    let same : c.change.new.now ≡ changed old (Stored c.args.page) (set old.seen_file c.args.page bytes) =
    c.in_ok-change.ensures.ok
    ∙ ap (λ (file : Pages). record next { seen_file = file; changes = c.push.new.self }) c.set.ensures
    ∙ ap (λ (l : List FileChange). record next { seen_file = set next.seen_file c.args.page bytes; changes = l })
    c.in_ok-push.ensures
    ∙ ap (λ (s : Snapshot). changed s (Stored c.args.page) (set s.seen_file c.args.page bytes)) c.in_ok-next.ensures in
    subst (λ (s : Snapshot). Follows (TornAt c.args.page) (MayLeave old) (MayLeave s)) (sym same)
    (set_follows old c.args.page bytes)
