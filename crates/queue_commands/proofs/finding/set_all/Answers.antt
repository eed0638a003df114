use Rattle.queue_commands.specs.Finding.{IsDone, LimitsAs, set_call}
use Rattle.queue_commands.proofs.AskLemmas.{asks_both, sets}
use Rattle.queue_commands.proofs.finding.set_all.Goals as goal

-- the limit is known, and a Set is done or refused
pub returns : goal.returns
returns g c = λ o.
    let stands = g.A.Answering.stands in
    let lacks = g.A.Answering.lacks in
    let moment = c.args.moment in
    let set = c.args.settings in
    let id = c.args.id in
    asks_both (λ d. LimitsAs d id set.qbytes) (λ d qbytes. IsDone d (set_call moment set id qbytes))
    (stands c.args.answers.now o) (stands c.limit.new.answers o) (stands c.answer.new.self o)
    (lacks c.limit.new.answers o) (lacks c.answer.new.self o) c.in_ok-qbytes.qbytes c.done_in.result
    (c.in_ok-qbytes.ensures o)
    (λ a v limited. rw c.done_in.ensures (sets a moment v (stands c.answer.new.self o a)
    (lacks c.answer.new.self o a) c.answer.result set id c.in_ok-qbytes.qbytes (c.answer.ensures o a v limited)))
