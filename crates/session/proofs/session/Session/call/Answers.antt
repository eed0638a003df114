use Rattle.session.proofs.BeforeLemmas.{shortened_calls}
use Rattle.session.proofs.session.Session.call.Goals as goal

pub returns : goal.returns
returns g c =
    shortened_calls c.args.call _ c.make.result _ c.shorten.new.self c.make.new.self c.shorten.ensures c.make.ensures
