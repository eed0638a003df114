use Rattle.msgq_c.proofs.PageLemmas.{told_so}
use Rattle.msgq_c.proofs.saving.KeptUnsaved.next_changed.Goals as goal

pub returns : goal.returns
returns c = λ content wants.
    told_so c.args.from c.args.self.now.session content wants.its c.next_changed.result wants.system wants.holds
    c.next_changed.ensures.told
