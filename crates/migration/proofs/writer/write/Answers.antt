-- The records of all queues are put, and then the Counter is replaced.
use Rattle.std.proofs.Common.{IfErr, length, refl, subst, arith, rules}
use Rattle.buffer_pool.proofs.TransferLemmas.{handed_on}
use Rattle.lone_access.proofs.KeepingLemmas.{keeps_on}
use Rattle.migration.specs.Filling.{MayNotFill}
use Rattle.migration.proofs.MakeLemmas.{told_wrong}
use Rattle.migration.proofs.QueueLemmas.{first_queue, if_err, next_queue, queue_open, queue_stands}
use Rattle.migration.proofs.writer.write.Goals as goal

pub loop-place-init : goal.loop-place-init
loop-place-init g c = record {
  alone = c.requires;
  keeps = record { honest = refl; as_many = refl; later = omega arith };
  goes = λ new. first_queue (g.K.PseudoKey.of_key c.args.keys.now) c.args.system.now c.keeps_limits.ensures
      c.args.pool.now new;
}

pub returns-in_err-write_queue-clause-told : goal.returns-in_err-write_queue-clause-told
returns-in_err-write_queue-clause-told g c = λ new.
    let hash = g.K.PseudoKey.of_key c.args.keys.now in
    let s = c.args.system.now in
    let lawful = c.keeps_limits.ensures in
    let u = c.loop-place.invariant.goes new in
    let test = c.loop-place-test.true in
    let end = c.queues-place-end.ensures in
    handed_on c.from_residual.result c.in_err-write_queue.field-0.0 c.from_residual.ensures.1
    (λ x. IfErr x (MayNotFill hash (length c.args.pool.now.images) s))
    (subst (λ n. MayNotFill hash n s c.in_err-write_queue.field-0.0) c.loop-place.invariant.keeps.as_many
    (c.in_err-write_queue.ensures.told s lawful
    (queue_stands hash s lawful c.loop-place.place c.queue.result.now c.loop-place.pool c.queue.ensures
    (omega (arith, test, end)) u)
    (queue_open hash s lawful c.loop-place.place c.queue.result.now c.loop-place.pool c.queue.ensures
    (omega (arith, test, end)) u)))

pub loop-place-preserved : goal.loop-place-preserved
loop-place-preserved g c = record {
  alone = c.in_ok-write_queue.ensures.alone;
  keeps = keeps_on _ _ _ c.loop-place.invariant.keeps c.in_ok-write_queue.ensures.kept.keeps;
  goes = λ new.
      let hash = g.K.PseudoKey.of_key c.args.keys.now in
      let s = c.args.system.now in
      let lawful = c.keeps_limits.ensures in
      let u = c.loop-place.invariant.goes new in
      let test = c.loop-place-test.true in
      let end = c.queues-place-end.ensures in
      next_queue hash s lawful c.loop-place.place c.queue.result.now c.loop-place.pool c.queue.ensures
      (omega (arith, test, end)) u c.write_queue.new.pool
      (c.in_ok-write_queue.ensures.put s lawful
      (queue_stands hash s lawful c.loop-place.place c.queue.result.now c.loop-place.pool c.queue.ensures
      (omega (arith, test, end)) u)
      (queue_open hash s lawful c.loop-place.place c.queue.result.now c.loop-place.pool c.queue.ensures
      (omega (arith, test, end)) u));
}

pub returns-clause-told : goal.returns-clause-told
returns-clause-told g c = λ new.
    let part = (c.loop-place.invariant.goes new).part in
    if_err c.replace.result
    (told_wrong (g.K.PseudoKey.of_key c.args.keys.now) (length c.args.pool.now.images) c.args.system.now)
    (c.replace.ensures.told (record { next_id = search rules; few_queues = search rules }) part.rest part.counter)
