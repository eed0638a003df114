-- A Type and a Message are records of their queue.
use Rattle.file_check.proofs.GatheredLemmas.{sent, typed}
use Rattle.file_check.proofs.compared.record_of_queue.Goals as goal

pub returns-in_ok-type_entry-in-4 : goal.returns-in_ok-type_entry-in-4
returns-in_ok-type_entry-in-4 c = typed c.args.queue.now _ c.in_ok-type_entry-in-4.ensures.stands

pub returns-in_ok-place-in-5 : goal.returns-in_ok-place-in-5
returns-in_ok-place-in-5 c = sent c.args.queue.now _ c.message_entry.ensures.stands
