use Rattle.std.proofs.Common.{refl}
use Rattle.session.proofs.PageLemmas.{made, new_opened}
use Rattle.session.proofs.RefusalLemmas.{new_refused}
use Rattle.session.proofs.memory.Session+MemDevice.create.Goals as goal

pub returns-clause-ok : goal.returns-clause-ok
returns-clause-ok c =
    new_opened c.args.caller c.args.pages c.format.new.device c.a_new_file_has_no_queues.ensures
    (made c.format.result _ c.if-is_err.ensures.value (c.format.ensures.ok refl)) c.in_memory.result
    c.in_memory.ensures.ok

pub returns-clause-refused : goal.returns-clause-refused
returns-clause-refused c =
    new_refused c.args.pages c.format.new.device c.a_new_file_has_no_queues.ensures
    (made c.format.result _ c.if-is_err.ensures.value (c.format.ensures.ok refl)) c.in_memory.result
    c.in_memory.ensures.refused
