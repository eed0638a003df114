use Rattle.frames.proofs.RecordLaws.{given_again, given_err, given_ok}
use Rattle.frames.proofs.reading.read.Goals as goal

-- what is read is spelled, at this moment
pub returns-clause-ok : goal.returns-clause-ok
returns-clause-ok c =
    given_ok c.args.moment c.args.bytes.now (λ i. (c.type_inv.bytes i).fits) c.incoming.result c.incoming.ensures

-- what is spelled is read
pub returns-clause-only : goal.returns-clause-only
returns-clause-only c incoming fits is =
    given_again c.args.moment c.args.bytes.now c.incoming.result c.incoming.ensures incoming fits is

-- what is refused is so
pub returns-clause-err : goal.returns-clause-err
returns-clause-err c =
    given_err c.args.moment c.args.bytes.now (λ i. (c.type_inv.bytes i).fits) c.incoming.result c.incoming.ensures
