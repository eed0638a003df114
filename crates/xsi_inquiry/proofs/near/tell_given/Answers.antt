use Rattle.xsi_inquiry.proofs.AgreeLemmas.{agrees_itself, gives_at, gives_each}
use Rattle.xsi_inquiry.proofs.near.tell_given.Goals as goal

-- it is told so of each system that it can't tell from s
pub returns-clause-told : goal.returns-clause-told
returns-clause-told g c names room s filed near asks told =
    let a = c.args.arguments.now in
    let old = c.args.inquiry.now in
    let new = c.take_given.new.self in
    gives_each c.take_given.result (λ _. g.I.Inquiry.Knows a new room s) _
    (c.take_given.ensures.told room s filed (near s filed (agrees_itself (g.I.Inquiry.call a) names s)) asks told)
    (λ x is t fits agrees. gives_at c.take_given.result x (λ _. g.I.Inquiry.Knows a new room t) is
    (c.take_given.ensures.told room t fits (near t fits agrees) asks
    (g.met.I.Inquiry.asks_given a old names s t c.args.given agrees told)))
