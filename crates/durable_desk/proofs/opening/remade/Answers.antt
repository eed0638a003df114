use Rattle.durable_desk.proofs.OpeningLemmas.{is_remade, refused_read}
use Rattle.durable_desk.proofs.opening.remade.Goals as goal

-- the calls were made
pub returns-in_default-clause-made : goal.returns-in_default-clause-made
returns-in_default-clause-made g c =
    is_remade g.P.PagePair.is_honest c.args.device.now c.read_all.new.device c.in-Ok.file c.args.most c.in_ok-desk.desk
    c.make_again.new.desk c.in_ok-desk.ensures.ok c.read_all.ensures.same c.in_default.ensures.made c.in-Ok.ensures.ok
    c.in-Ok.ensures.as_many

-- or not
pub returns-clause-refused : goal.returns-clause-refused
returns-clause-refused g c =
    refused_read g.P.PagePair.is_honest c.args.device.now c.read_all.new.device c.in-Err-make_again.why
    c.read_all.ensures.same
    c.in-Err-make_again.ensures.refused
