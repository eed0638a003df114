use Rattle.queue_commands.proofs.ReadLemmas.{refused_on}
use Rattle.queue_commands.proofs.messages.messages_of.Goals as goal

pub returns-in_err-text-in-Whole-clause-err : goal.returns-in_err-text-in-Whole-clause-err
returns-in_err-text-in-Whole-clause-err g c =
    let known = g.R.Read.remaining c.args.reader.now in
    refused_on c.from_residual.result c.in_err-text-in-Whole.field-0.0 c.from_residual.ensures.1 c.args.framing known
    (c.in_err-text-in-Whole.ensures.err c.args.framing known)

pub returns-in_err-text-in-Lines-clause-err : goal.returns-in_err-text-in-Lines-clause-err
returns-in_err-text-in-Lines-clause-err g c =
    let known = g.R.Read.remaining c.args.reader.now in
    refused_on c.from_residual-in_err-text-in-Lines.result c.in_err-text-in-Lines.field-0.0
    c.from_residual-in_err-text-in-Lines.ensures.1 c.args.framing known
    (c.in_err-text-in-Lines.ensures.err c.args.framing known)

pub returns-in-Some-clause-err : goal.returns-in-Some-clause-err
returns-in-Some-clause-err g c = c.one_of.ensures.err c.args.framing (g.R.Read.remaining c.args.reader.now)

pub returns-in-Some-2-clause-err : goal.returns-in-Some-2-clause-err
returns-in-Some-2-clause-err g c = rw c.in-Lines.is (c.lines_of.ensures.err (g.R.Read.remaining c.args.reader.now))
