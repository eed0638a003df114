use Rattle.durable_desk.proofs.OpeningLemmas.{makes_ready}
use Rattle.durable_desk.proofs.laws.a_recovered_file_is_ready.Goals as goal

pub returns : goal.returns
returns g c =
    makes_ready g.P.PagePair.is_honest g.P.PagePair.file g.P.PagePair.journal g.P.PagePair.may_leave
