use Rattle.xsi_control.proofs.stage.Stage.take.Goals as goal
use Rattle.std.proofs.Common.{refl}
use Rattle.xsi_control.specs.RemoveWords.{key_of_queue, clash, found_told, none_found, queue_is_taken}
use Rattle.xsi_control.proofs.DecidingLemmas.{counter_stands, same_counter}

-- the queue has gone meanwhile
pub returns-in_default-clause-told : goal.returns-in_default-clause-told
returns-in_default-clause-told c s filed knows told =
    let it = rw c.in_default.is at (rw c.in-Keyed.is at told) in
    record {
      keyed = rw c.in-Keyed.is at knows;
      again = none_found c.args.id s (it (key_of_queue c.args.id) refl);
    }

-- a Queue was expected
pub returns-in_err-queue_in-in-Keyed-clause-told : goal.returns-in_err-queue_in-in-Keyed-clause-told
returns-in_err-queue_in-in-Keyed-clause-told c s filed knows told =
    absurd (queue_is_taken c.args.id s _ (rw c.in-Some.is at (rw c.in-Keyed.is at told)) _ c.queue_in.ensures.only _
    c.in_err-queue_in-in-Keyed.was)

pub returns-in_ok-queue_in-in-Keyed-clause-told : goal.returns-in_ok-queue_in-in-Keyed-clause-told
returns-in_ok-queue_in-in-Keyed-clause-told c s filed knows told =
    let given = c.in_ok-queue_in-in-Keyed.ensures.ok in
    record {
      keyed = rw c.in-Keyed.is at knows;
      again = found_told c.args.id s _ filed (rw given at (rw c.in-Some.is at (rw c.in-Keyed.is at told)));
    }

-- the Counter stands
pub returns-in_err-counter-in-Counting-clause-told : goal.returns-in_err-counter-in-Counting-clause-told
returns-in_err-counter-in-Counting-clause-told c s filed knows told =
    let it = rw c.in-Counting.is at told in
    absurd (clash c.counter_found.result _ (c.counter_found.ensures.only _ (counter_stands s c.args.found it)) _
    c.in_err-counter-in-Counting.was)

pub returns-in_ok-counter-in-Counting-clause-told : goal.returns-in_ok-counter-in-Counting-clause-told
returns-in_ok-counter-in-Counting-clause-told c s filed knows told =
    let it = rw c.in-Counting.is at told in
    c.of_counter.ensures.knows s filed (rw c.in-Counting.is at knows)
    (same_counter s c.args.found c.in_ok-counter-in-Counting.counter it c.in_ok-counter-in-Counting.ensures.ok)
