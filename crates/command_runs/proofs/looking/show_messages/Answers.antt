-- They are those of the queue at the place.
use Rattle.std.proofs.Common.{rules, ◌∙◌, ◌<◌, length, sym}
use Rattle.command_runs.proofs.LookLemmas.{few_bytes, json_at}
use Rattle.command_runs.proofs.looking.show_messages.Goals as goal

pub returns-in_ok-put_messages_json-in-Json : goal.returns-in_ok-put_messages_json-in-Json
returns-in_ok-put_messages_json-in-Json c = λ caller. rw c.in-Json.is (json_at c.args.system.now _ c.in-Some.place
    c.in-Some-info.info c.queue.result.now c.new-text.result c.put_messages_json.new.text
    (sym c.place_in.ensures ∙ c.in-Some.is) (sym c.info.ensures ∙ c.in-Some-info.is) c.queue.ensures c.new-text.ensures
    c.in_ok-put_messages_json-in-Json.ensures)

-- those of a lawful system are few
pub put_messages-requires : goal.put_messages-requires
put_messages-requires c =
    let system = c.args.system.now in
    let place = c.in-Some.place in
    let below : place < length system.queues = search rules in
    few_bytes system c.keeps_limits.ensures place c.queue.result.now below c.queue.ensures
