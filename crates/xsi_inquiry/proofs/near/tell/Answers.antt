use Rattle.xsi_inquiry.proofs.AgreeLemmas.{agrees_itself, gives_at, gives_each}
use Rattle.xsi_inquiry.proofs.near.tell.Goals as goal

-- it is told the record of each system that it can't tell from s
pub returns-clause-told : goal.returns-clause-told
returns-clause-told g c names s filed covered near told =
    let a = c.args.arguments.now in
    let old = c.args.inquiry.now in
    let new = c.take.new.self in
    let after = c.take.new.room in
    gives_each c.take.result (λ _. g.I.Inquiry.Knows a new after s) _
    (c.take.ensures.told s filed (near s filed (agrees_itself (g.I.Inquiry.call a) names s)) told)
    (λ x is t fits agrees. gives_at c.take.result x (λ _. g.I.Inquiry.Knows a new after t) is
    (c.take.ensures.told t fits (near t fits agrees)
    (g.met.I.Inquiry.asks a old names s t c.args.found covered agrees told)))
