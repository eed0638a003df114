-- Message by message.
use Rattle.std.proofs.Common.{◌<◌, ◌≤◌, pos, length, [], refl, arith}
use Rattle.record_walk.specs.Words.{Message}
use Rattle.record_walk.proofs.MessageLemmas.{compared, link_at, so_far_all, so_far_more}
use Rattle.record_walk.proofs.queue.has_links.Goals as goal

pub loop-place-init : goal.loop-place-init
loop-place-init c = record { each = λ i d l below. absurd (omega (arith, below)) }

pub returns-then-ne : goal.returns-then-ne
returns-then-ne c =
    let q = c.args.queue.now in
    let place = c.loop-place.place in
    let d : Message = record { serial = 0; sender = 0; mtype = pos 0; bytes = [] } in
    let within : place < length q.messages =
    (let w = c.loop-place-test.true in let n = c.len-place-end.ensures in omega (arith, w, n)) in (
      λ t. absurd cc,
      λ e.
          let told = compared q c.args.links.now c.args.all.now c.args.next.now place c.requires.ascend c.requires.all
          c.requires.next within d _ _ _ _ _ c.before-in-loop-place.ensures c.behind.ensures c.ne.ensures in
          let same = told.1 (link_at q c.args.links.now c.requires.number place d _ within e) in
          let other = c.if-ne.true in
          absurd cc,
    )

pub loop-place-preserved : goal.loop-place-preserved
loop-place-preserved c =
    let q = c.args.queue.now in
    let place = c.loop-place.place in
    let d : Message = record { serial = 0; sender = 0; mtype = pos 0; bytes = [] } in
    let within : place < length q.messages =
    (let w = c.loop-place-test.true in let n = c.len-place-end.ensures in omega (arith, w, n)) in
    let told = compared q c.args.links.now c.args.all.now c.args.next.now place c.requires.ascend c.requires.all
    c.requires.next within d _ _ _ _ _ c.before-in-loop-place.ensures c.behind.ensures c.ne.ensures in
    so_far_more q c.args.links.now c.requires.number place c.loop-place.invariant within d _ (told.0 c.if-ne.false)

pub returns : goal.returns
returns c =
    let ended : length c.args.queue.now.messages ≤ c.loop-place.place =
    (let e = c.loop-place-test.false in let n = c.len-place-end.ensures in omega (arith, e, n)) in (
      λ t. so_far_all c.args.queue.now c.args.links.now c.requires.number c.loop-place.place c.loop-place.invariant
          ended,
      λ e. refl,
    )
