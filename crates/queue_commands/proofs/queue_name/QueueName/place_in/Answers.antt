use Rattle.std.proofs.Common.{rules, arith, ◌≡◌, ◌<◌, ◌≤◌, ◌∙◌, length, slice_index_or, subst, sym, true}
use Rattle.queue_model.specs.declared.queue.Queue.{Queue}
use Rattle.queue_model.proofs.ListLemmas.{position_None, position_at}
use Rattle.queue_commands.specs.Naming.{is_named}
use Rattle.queue_commands.proofs.queue_name.QueueName.place_in.Goals as goal

-- the queue at the place has the name, and none before it
pub returns-then-names : goal.returns-then-names
returns-then-names c =
    let queues = c.args.system.now.queues in
    let place = c.loop-place.place in
    let within : place < length queues = search rules in
    let passes : is_named c.args.self (slice_index_or queues place c.queue.result.now) ≡ true =
    subst (λ (q : Queue). is_named c.args.self q ≡ true) c.queue.ensures (sym c.names.ensures ∙ c.if-names.true) in
    sym (position_at (is_named c.args.self) queues place c.queue.result.now within c.loop-place.invariant passes)

-- none has it
pub returns : goal.returns
returns c =
    let queues = c.args.system.now.queues in
    let past : length queues ≤ c.loop-place.place = search rules in
    sym (position_None (is_named c.args.self) queues (λ k d h. c.loop-place.invariant k d (omega (arith, past, h))))
