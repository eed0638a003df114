-- One change more is met last.
use Rattle.std.proofs.Common.{rules, ◌≡◌, ◌+◌, ◌<◌, ◌∙◌, ap, sym, subst, List, length, take, get_or}
use Rattle.std.proofs.lemmas.List.{take_more}
use Rattle.safe_device.specs.Memory.{FileMay}
use Rattle.safe_device.specs.declared.snapshot.FileChange.{FileChange}
use Rattle.safe_device.specs.declared.snapshot.FileChange.TheVariants.{Stored}
use Rattle.safe_device.specs.declared.snapshot.Snapshot.{Snapshot}
use Rattle.safe_device.proofs.Kept.{may_meet}
use Rattle.safe_device.proofs.snapshot.Snapshot.lose.Goals as goal

pub loop-place-preserved : goal.loop-place-preserved
loop-place-preserved c =
    let s = c.args.self.now in
    let loop = c.loop-place in
    let items = c.deref-change-items.result.now in
    let same : items ≡ s.changes =
    c.deref-change-items.ensures.value ∙ ap (λ (x : Snapshot). x.changes) c.self.view_is in
    let lt : loop.place < length items = search rules in
    let change = get_or items loop.place (Stored 0) in
    let so_far = subst (λ (l : List FileChange). FileMay (take loop.place l) s.synced_file loop.file) (sym same)
    loop.invariant in
    let met = may_meet (take loop.place items) change s.synced_file loop.file c.meet.new.file
    so_far c.in_ok-meet.ensures in
    subst (λ (l : List FileChange). FileMay (take (loop.place + 1) l) s.synced_file c.meet.new.file) same
    (subst (λ (l : List FileChange). FileMay l s.synced_file c.meet.new.file)
    (sym (take_more items loop.place (Stored 0) lt)) met)
