-- One queue more, or the first that there is not.
use Rattle.std.proofs.Common.{ℕ, ◌+◌, List, Option, IsTrue, length, length-append, sym, ap, subst, ◌∙◌}
use Rattle.std.specs.Prelude.{slice_index, slice_index_or}
use Rattle.std.proofs.lemmas.Result.{err_from_is_err_and}
use Rattle.record_walk.specs.Systems.{IsQueueOf}
use Rattle.record_walk.specs.Told.{IsToldOfQueue}
use Rattle.record_walk.specs.Words.{RecordKey, Queue}
use Rattle.record_walk.proofs.StillLemmas.{still_more}
use Rattle.record_walk.proofs.SystemLemmas.{lacks_one, read_more}
use Rattle.record_walk.proofs.system.read_queues.Goals as goal

pub loop-id-preserved : goal.loop-id-preserved
loop-id-preserved g c =
    let before = c.loop-id.invariant in
    let id = slice_index c.args.ids.now c.loop-id.id-index in
    record {
      still = still_more g.F.Records.held g.F.Records.pages g.F.Records.is_honest g.F.Records.fault_count _ _ _
          before.still c.in_ok-read_queue.ensures.still;
      number =
          ap length c.in_ok-push.ensures.items ∙ length-append c.loop-id.queues.items _
          ∙ ap (λ n. n + 1) before.number;
      each = λ is i d less.
          subst (λ (qs : List Queue). IsQueueOf (g.F.Records.held c.args.file.now) (slice_index c.args.ids.now i)
          (slice_index_or qs i d)) (sym c.in_ok-push.ensures.items)
          (read_more (g.F.Records.held c.args.file.now) c.args.ids.now c.loop-id.queues.items
          c.in_ok-read_queue.field-0 c.loop-id.id-index before.number (before.each is)
          (subst (λ (h : RecordKey → Option (List ℕ)). IsQueueOf h id c.in_ok-read_queue.field-0) before.still.same
          (c.in_ok-read_queue.ensures.ok (subst IsTrue (sym before.still.honesty) is))) i d less);
    }

pub returns-in_err-read_queue-clause-err : goal.returns-in_err-read_queue-clause-err
returns-in_err-read_queue-clause-err g c = λ is.
    let before = c.loop-id.invariant in
    let p = err_from_is_err_and c.from_residual.result c.from_residual.ensures.1 in
    rw (p.1, p.2) (lacks_one (g.F.Records.held c.args.file.now) c.args.ids.now c.loop-id.queues.items c.loop-id.id-index
    c.in_err-read_queue.field-0.0 c.loop-id-test.true (before.each is)
    (subst (λ (h : RecordKey → Option (List ℕ)). IsToldOfQueue h (slice_index c.args.ids.now c.loop-id.id-index)
    c.in_err-read_queue.field-0.0) before.still.same
    (c.in_err-read_queue.ensures.err (subst IsTrue (sym before.still.honesty) is))))
