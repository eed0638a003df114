-- Type by type.
use Rattle.std.proofs.Common.{ℤ, pos, ◌<◌, length, List, map, IsTrue, refl, sym, ap, subst, arith}
use Rattle.std.specs.List.{All}
use Rattle.std.proofs.lemmas.List.Elements.{All-map}
use Rattle.queue_records.specs.declared.record.Record.TheVariants as records
use Rattle.record_walk.specs.Held.{Holds}
use Rattle.record_walk.specs.Words.{type_entry}
use Rattle.record_walk.proofs.ListLemmas.{each_next, each_end, each_made}
use Rattle.record_walk.proofs.QueueLemmas.{holds_before, holds_now}
use Rattle.record_walk.proofs.StillLemmas.{still_more}
use Rattle.record_walk.proofs.queue.has_types.Goals as goal

pub returns-then-not-branch-clause-ok : goal.returns-then-not-branch-clause-ok
returns-then-not-branch-clause-ok g c = λ is.
    let still = c.loop-place.invariant.still in
    let q = c.args.queue.now in
    let within : c.loop-place.place < length c.args.kinds.now =
    let w = c.loop-place-test.true in omega (arith, w) in
    let told = c.in_ok-holds.ensures.ok (subst IsTrue (sym still.honesty) is) in
    let r = ap (λ e. records.Type e) c.type_entry-entry.ensures in (
      λ t. absurd cc,
      λ all. (
          let of_kinds = subst (λ (ts : List ℤ). All (Holds (g.F.Records.held c.args.file.now))
          (map (λ (t : ℤ). records.Type (type_entry q t)) ts)) (sym c.requires.kinds) all in
          let here = each_made (Holds (g.F.Records.held c.args.file.now)) (λ (t : ℤ). records.Type (type_entry q t))
          c.args.kinds.now of_kinds c.loop-place.place (pos 0) within in
          let t = told.1 (holds_now _ _ _ _ still.same r here) in
          let f = c.if-not-branch.true in
          absurd cc),
    )

pub loop-place-preserved : goal.loop-place-preserved
loop-place-preserved g c =
    let still = c.loop-place.invariant.still in
    let q = c.args.queue.now in
    let within : c.loop-place.place < length c.args.kinds.now =
    let w = c.loop-place-test.true in omega (arith, w) in
    record {
      still = still_more g.F.Records.held g.F.Records.pages g.F.Records.is_honest g.F.Records.fault_count _ _ _ still
          c.in_ok-holds.ensures.still;
      stand = λ is.
          let told = c.in_ok-holds.ensures.ok (subst IsTrue (sym still.honesty) is) in
          let r = ap (λ e. records.Type e)
          c.type_entry-entry.ensures in
          each_next (λ (t : ℤ). Holds (g.F.Records.held c.args.file.now) (records.Type (type_entry q t)))
          c.args.kinds.now c.loop-place.place (pos 0) within
          (c.loop-place.invariant.stand is)
          (holds_before _ _ _ _ still.same r (told.0 c.if-not-branch.false));
    }

pub returns-clause-ok : goal.returns-clause-ok
returns-clause-ok g c = λ is.
    let q = c.args.queue.now in (
      λ t. subst (λ (ts : List ℤ). All (Holds (g.F.Records.held c.args.file.now))
          (map (λ (t : ℤ). records.Type (type_entry q t)) ts)) c.requires.kinds
          (All-map (Holds (g.F.Records.held c.args.file.now)) (λ (t : ℤ). records.Type (type_entry q t))
          c.args.kinds.now
          (each_end (λ (t : ℤ). Holds (g.F.Records.held c.args.file.now) (records.Type (type_entry q t)))
          c.args.kinds.now c.loop-place.place
          (let e = c.loop-place-test.false in omega (arith, e)) (c.loop-place.invariant.stand is))),
      λ all. refl,
    )
